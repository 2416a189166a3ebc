-- The ways of lines, entries and calls, worked by hand: room for eight bytes and two texts.
use Rattle.std.proofs.Common.{◌≡◌, true, false, [], ◌∷◌, Some, Ok, Err, refl}
use Rattle.std.specs.Prelude.{codes}
use Rattle.station_rim.specs.declared.queue.outlet.NoticeForm.TheVariants.{Comment}
use Rattle.station_rim.specs.Queue.Outlets.{with_text}
use Rattle.station_lines.specs.Lines.{Whole, NotYet}
use Rattle.station_rim.specs.LineWays.{LineWay, taken_line, way_after, with_written, is_drained as all_written}
use Rattle.station_rim.specs.LineWays.{new_way as new_line_way}
use Rattle.station_rim.specs.RecordLaw.{Account, Put, Take, Note, account_through, fresh_account}
use Rattle.station_rim.specs.RecordWays.{RecordWay, is_drained, is_waiting, new_way, taken_entry, way_after_take, with_end, with_entry, with_note}
use Rattle.station_rim.specs.UnreadCalls.{UnreadCalls, calls_after, next_call}
use Rattle.station_rim.specs.Written.{gathers, joins}
use Rattle.station_rim.specs.declared.record_way.PutFault.TheVariants as put

-- AN OUTPUT

abbrev one_line : LineWay
one_line = record (new_line_way Comment 8 2) { outlet = with_text (new_line_way Comment 8 2).outlet (codes "1 done\n") }

its_line_is_the_last : taken_line one_line ≡ Some (codes "1 done\n", true)
its_line_is_the_last = refl

in_hand_is_not_written : all_written (way_after one_line) ≡ false
in_hand_is_not_written = refl

then_it_is : all_written (with_written (way_after one_line)) ≡ true
then_it_is = refl

-- A RECORD

abbrev one_entry : RecordWay
one_entry = with_entry (new_way 8 2) (codes "tick 1\n")

its_entry_is_the_last : taken_entry one_entry ≡ Some (codes "tick 1\n", true)
its_entry_is_the_last = refl

of_two_the_older_first : taken_entry (with_entry one_entry (codes "\n")) ≡ Some (codes "tick 1\n", false)
of_two_the_older_first = refl

in_hand_it_is_not_drained : is_drained (way_after_take one_entry) ≡ false
in_hand_it_is_not_drained = refl

written_it_is : is_drained (with_note (way_after_take one_entry) false) ≡ true
written_it_is = refl

a_failure_stays : (with_note (with_note one_entry true) false).failed ≡ true
a_failure_stays = refl

the_writer_waits_for_more : is_waiting (new_way 8 2) ≡ true
the_writer_waits_for_more = refl

and_not_behind_the_end : is_waiting (with_end (new_way 8 2)) ≡ false
and_not_behind_the_end = refl

-- two entries are taken and one is refused, and the writer took the first
abbrev two_of_three : Account
two_of_three = account_through (Put (codes "a") (Ok tt) ∷ Put (codes "b") (Err put.Full) ∷ Take ∷ Put (codes "c") (Ok tt) ∷ Note false ∷ []) (fresh_account 8 2)

accepted_of_two : two_of_three.accepted ≡ codes "a" ∷ codes "c" ∷ []
accepted_of_two = refl

took_the_first : two_of_three.taken ≡ codes "a" ∷ []
took_the_first = refl

-- CALLS

-- half a line of the input, and a line of a page
abbrev both : UnreadCalls
both = record { bytes = codes "mode r"; ended = false; page = codes "stop 0\n" }

the_page_comes_first : next_call both ≡ Whole (codes "stop 0")
the_page_comes_first = refl

half_a_line_stays : next_call (calls_after both) ≡ NotYet
half_a_line_stays = refl

and_no_byte_of_it_is_lost : (calls_after (calls_after both)).bytes ≡ codes "mode r"
and_no_byte_of_it_is_lost = refl

-- BATCHES

as_many_as_fit : joins 4096 4090 6 ≡ true
as_many_as_fit = refl

one_byte_too_many : joins 4096 4090 7 ≡ false
one_byte_too_many = refl

a_long_one_by_itself : joins 4096 0 4097 ≡ false
a_long_one_by_itself = refl

more_is_gathered : gathers 65536 true false 65535 ≡ true
more_is_gathered = refl

a_full_batch_is_written : gathers 65536 true false 65536 ≡ false
a_full_batch_is_written = refl

the_last_one_does_not_wait : gathers 65536 true true 10 ≡ false
the_last_one_does_not_wait = refl
