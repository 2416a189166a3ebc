-- The lines of an output between a station and the thread that writes them.
use Rattle.std.specs.Prelude.{ℕ, ◌≡◌, ◌&&◌, not, Bool, true, false, List, Option, Some, None}
use Rattle.station_rim.specs.Queue.Outlets.{QueueOutlet, Dealt, DealtState, is_idle, new_outlet, outlet_after, taken_text, without_owed}
use Rattle.station_rim.specs.declared.queue.outlet.NoticeForm.{NoticeForm}
use Rattle.station_rim.specs.declared.queue.outlet.Offer.{Offer}

-- the lines on their way, and whether the writer has some in its hands
pub record LineWay : Type 0 where
  pub outlet : QueueOutlet
  pub busy : Bool

abbrev pub new_way : NoticeForm → ℕ → ℕ → LineWay
new_way form most_bytes most_texts = record { outlet = new_outlet form most_bytes most_texts; busy = false }

-- a text of events was offered, or one of state: nothing else changes
abbrev pub WasOffered : LineWay → List ℕ → Offer → LineWay → Type 0
WasOffered old text said new = Dealt old.outlet text said new.outlet × (new.busy ≡ old.busy)

abbrev pub StateWasOffered : LineWay → List ℕ → Offer → LineWay → Type 0
StateWasOffered old text said new = DealtState old.outlet text said new.outlet × (new.busy ≡ old.busy)

-- the text that the writer takes, and whether it is the last one for now
abbrev pub taken_with : Option (List ℕ) → Bool → Option (List ℕ × Bool)
taken_with None last = None
taken_with (Some text) last = Some (text, last)

abbrev pub taken_line : LineWay → Option (List ℕ × Bool)
taken_line way = taken_with (taken_text way.outlet) (is_idle (outlet_after way.outlet))

abbrev pub way_after : LineWay → LineWay
way_after way = record { outlet = outlet_after way.outlet; busy = true }

-- what the writer took is written or discarded
abbrev pub with_written : LineWay → LineWay
with_written way = record way { busy = false }

-- who offered state has ended
abbrev pub with_release : LineWay → LineWay
with_release way = record way { outlet = without_owed way.outlet }

-- each line was written or discarded, and none is lost that was not reported
abbrev pub is_drained : LineWay → Bool
is_drained way = is_idle way.outlet && not way.busy
