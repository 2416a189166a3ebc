-- Lines of an output, worked by hand: room for eight bytes and two texts.
use Rattle.std.proofs.Common.{◌≡◌, true, false, [], ◌∷◌, Some, None, refl}
use Rattle.std.specs.Fmt.{digits}
use Rattle.std.specs.Prelude.{codes}
use Rattle.station_rim.specs.Queue.Outlets.{QueueOutlet, lines_of, new_outlet, notice_text, offered_text, outlet_after, takes_events, takes_state, taken_text, with_lost, with_owed, with_state, with_text}
use Rattle.station_rim.specs.Queue.Queues.{has_room}
use Rattle.station_rim.specs.Queue.StateLaw.{Event, State, last_line}
use Rattle.station_rim.specs.declared.queue.outlet.NoticeForm.TheVariants.{Comment, Report}

abbrev fresh : QueueOutlet
fresh = new_outlet Comment 8 2

abbrev one : QueueOutlet
one = with_text fresh (codes "1 done\n")

room_for_one : has_room fresh.queue (codes "1 done\n") ≡ true
room_for_one = refl

no_room_for_two : has_room one.queue (codes "2 done\n") ≡ false
no_room_for_two = refl

two_lines : lines_of (codes "2 done\n2 value -\n") ≡ 2
two_lines = refl

lost : (with_lost one (codes "2 done\n2 value -\n")).lost ≡ 2
lost = refl

comment_of_three : notice_text Comment 3 ≡ codes "# 3 lines are lost here: nobody read them\n"
unfolding digits
comment_of_three = refl

reported_of_three : notice_text Report 3 ≡ codes "eip_station: 3 lines are lost here: nobody read them\n"
unfolding digits
reported_of_three = refl

oldest_first : taken_text (with_lost one (codes "2 done\n")) ≡ Some (codes "1 done\n")
oldest_first = refl

then_the_notice : taken_text (outlet_after (with_lost one (codes "2 done\n"))) ≡ Some (codes "# 1 lines are lost here: nobody read them\n")
unfolding digits
then_the_notice = refl

then_nothing : taken_text (outlet_after (outlet_after (with_lost one (codes "2 done\n")))) ≡ None
then_nothing = refl

notice_in_front : offered_text (with_lost fresh (codes "1 done\n")) (codes "2 done\n") ≡ codes "# 1 lines are lost here: nobody read them\n2 done\n"
unfolding digits
notice_in_front = refl

-- state waits for room: no event is taken until some state is
abbrev wide : QueueOutlet
wide = new_outlet Comment 5000 9

state_fits : takes_state wide (codes "1 at 2 output 150 00\n") ≡ true
state_fits = refl

no_state_in_little_room : takes_state fresh (codes "1\n") ≡ false
no_state_in_little_room = refl

no_event_before_state : takes_events (with_owed wide) (codes "1 done\n") ≡ false
no_event_before_state = refl

events_behind_state : takes_events (with_state (with_owed wide) (codes "1 at 2 output 150 00\n")) (codes "2 done\n") ≡ true
events_behind_state = refl

waiting_state_is_not_lost : (with_owed (with_lost wide (codes "1 done\n"))).lost ≡ 1
waiting_state_is_not_lost = refl

last_of_two_lines : last_line 0 (State 0 (7 ∷ []) (codes "a") ∷ State 1 (8 ∷ []) (codes "b") ∷ Event (codes "c") ∷ State 0 (9 ∷ []) (codes "d") ∷ []) ≡ Some (9 ∷ [])
last_of_two_lines = refl
