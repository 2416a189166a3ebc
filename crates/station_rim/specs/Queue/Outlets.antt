-- The lines of an output: events, of which those that do not fit are counted, and state, which is offered until it is taken.
use Rattle.std.specs.Prelude.{ℕ, ◌≡◌, ◌+◌, ◌==◌, ◌&&◌, nat_le, not, if◌then◌else◌, Bool, true, false, List, [], ◌∷◌, ◌++◌, codes, decimal, Option, Some, None}
use Rattle.station_rim.specs.Queue.Queues.{Queue, empty_queue, has_room, is_empty, up_to_end, with_pushed, without_first}
use Rattle.station_rim.specs.declared.queue.outlet.NoticeForm.{NoticeForm}
use Rattle.station_rim.specs.declared.queue.outlet.NoticeForm.TheVariants.{Comment, Report}
use Rattle.station_rim.specs.declared.queue.outlet.Offer.{Offer}
use Rattle.station_rim.specs.declared.queue.outlet.Offer.TheVariants as offer
use Rattle.station_rim.specs.declared.queue.lines_in_turn.PushFault.{PushFault}
use Rattle.station_rim.specs.declared.queue.lines_in_turn.PushFault.TheVariants as push

-- the texts on their way, the number of lines that were lost behind them, and whether state was offered last and found no room
pub record QueueOutlet : Type 0 where
  pub form : NoticeForm
  pub queue : Queue
  pub lost : ℕ
  pub owed : Bool

abbrev pub new_outlet : NoticeForm → ℕ → ℕ → QueueOutlet
new_outlet form most_bytes most_pieces = record { form = form; queue = empty_queue most_bytes most_pieces; lost = 0; owed = false }

-- nothing is on its way, and no line is lost that was not told
abbrev pub is_idle : QueueOutlet → Bool
is_idle outlet = is_empty outlet.queue && (outlet.lost == 0)

-- the number of lines of a text, from a number on
abbrev pub lines_on : ℕ → List ℕ → ℕ
lines_on count [] = count
lines_on count (byte ∷ bytes) = lines_on (if byte == 10 then up_to_end (count + 1) else count) bytes

abbrev pub lines_of : List ℕ → ℕ
lines_of text = lines_on 0 text

-- THE NOTICE

abbrev pub notice_front : NoticeForm → List ℕ
notice_front Comment = codes "# "
notice_front Report = codes "eip_station: "

-- how many lines are lost
abbrev pub notice_text : NoticeForm → ℕ → List ℕ
notice_text form lost = notice_front form ++ (decimal lost ++ codes " lines are lost here: nobody read them\n")

-- no lines are lost, so there is no notice
abbrev pub notice_of : NoticeForm → ℕ → List ℕ
notice_of form lost = if lost == 0 then [] else notice_text form lost

-- OFFERING

-- a text that is offered, behind the notice of the lines that were lost before it
abbrev pub offered_text : QueueOutlet → List ℕ → List ℕ
offered_text outlet text = notice_of outlet.form outlet.lost ++ text

-- it is taken whole
abbrev pub with_text : QueueOutlet → List ℕ → QueueOutlet
with_text outlet text = record outlet { queue = with_pushed outlet.queue (offered_text outlet text); lost = 0 }

-- its lines are lost
abbrev pub with_lost : QueueOutlet → List ℕ → QueueOutlet
with_lost outlet text = record outlet { lost = up_to_end (outlet.lost + lines_of text) }

-- what a fault of the queue means for lines that were offered
abbrev pub offer_of : PushFault → Offer
offer_of push.Full = offer.Full
offer_of push.OutOfMemory = offer.OutOfMemory

-- a text of events is taken: it fits, and no state waits for room
abbrev pub takes_events : QueueOutlet → List ℕ → Bool
takes_events outlet text = not outlet.owed && has_room outlet.queue text

-- What became of a text of events that was offered: it is taken only if it fits with its notice and no state waits for room,
-- and for want of room it is lost only if not.
abbrev pub Dealt : QueueOutlet → List ℕ → Offer → QueueOutlet → Type 0
Dealt old text offer.Taken new = (takes_events old (offered_text old text) ≡ true) × (new ≡ with_text old text)
Dealt old text offer.Full new = (takes_events old (offered_text old text) ≡ false) × (new ≡ with_lost old text)
Dealt old text offer.OutOfMemory new = new ≡ with_lost old text

-- a text of state is taken: it fits, and so does one of 4,096 bytes
abbrev pub takes_state : QueueOutlet → List ℕ → Bool
takes_state outlet text = nat_le 4096 outlet.queue.free_bytes && has_room outlet.queue text

-- it is taken whole, and none waits
abbrev pub with_state : QueueOutlet → List ℕ → QueueOutlet
with_state outlet text = record (with_text outlet text) { owed = false }

-- it waits for room
abbrev pub with_owed : QueueOutlet → QueueOutlet
with_owed outlet = record outlet { owed = true }

-- none waits for room any more
abbrev pub without_owed : QueueOutlet → QueueOutlet
without_owed outlet = record outlet { owed = false }

-- What became of a text of state that was offered.
abbrev pub DealtState : QueueOutlet → List ℕ → Offer → QueueOutlet → Type 0
DealtState old text offer.Taken new = (takes_state old (offered_text old text) ≡ true) × (new ≡ with_state old text)
DealtState old text offer.Full new = (takes_state old (offered_text old text) ≡ false) × (new ≡ with_owed old)
DealtState old text offer.OutOfMemory new = new ≡ with_owed old

-- TAKING

-- the oldest text, or else the notice
abbrev pub notice_only : NoticeForm → ℕ → Option (List ℕ)
notice_only form lost = if lost == 0 then None else Some (notice_text form lost)

abbrev pub taken_of : NoticeForm → ℕ → List (List ℕ) → Option (List ℕ)
taken_of form lost [] = notice_only form lost
taken_of form lost (piece ∷ pieces) = Some piece

abbrev pub taken_text : QueueOutlet → Option (List ℕ)
taken_text outlet = taken_of outlet.form outlet.lost outlet.queue.pieces

abbrev pub after_of : QueueOutlet → List (List ℕ) → QueueOutlet
after_of outlet [] = record outlet { lost = 0 }
after_of outlet (piece ∷ pieces) = record outlet { queue = without_first outlet.queue }

abbrev pub outlet_after : QueueOutlet → QueueOutlet
outlet_after outlet = after_of outlet outlet.queue.pieces
