-- Receipts against histories.
use Rattle.std.specs.Prelude.{◌≡◌, ◌<◌, ◌==◌, ◌&&◌, ℕ, true, false, Bool, List, [], ◌∷◌, ◌++◌, length, replicate, map, position, set, slice_get, slice_index, slice_index_or, Option, Some, None, Ok}
use Rattle.std.specs.List.{list_any}
use Rattle.cip_events.specs.declared.event.Event.{Event}
use Rattle.cip_events.specs.Outcomes.{Outcome}
use Rattle.cip_tables.specs.Step.{opening_table}
use Rattle.cip_tables.specs.Run.{outcomes_of}
use Rattle.device_lock.specs.declared.receipt.Receipt.{Receipt}
use Rattle.device_lock.specs.Histories.{HistoryValue, place_in}
use Rattle.settling.specs.Search.Histories.{byte_in, bytes_of, events_of_all}
use Rattle.settling.specs.Search.Replays.{replay}
use Rattle.settling.specs.Search.Schedules.{history}

-- THE PLACE OF A RECEIPT: the device, and the event in its history

abbrev pub has_byte : ℕ → HistoryValue → Bool
has_byte byte h = byte_in h == byte

-- the device with this byte
abbrev pub device_at : List HistoryValue → ℕ → Option ℕ
device_at hs byte = position (has_byte byte) hs

abbrev pub at_device : ℕ → Option ℕ → Option (ℕ × ℕ)
at_device i None = None
at_device i (Some k) = Some (i, k)

abbrev pub counts_in : Option HistoryValue → List ℕ
counts_in None = []
counts_in (Some h) = h.counts

abbrev pub place_at : List HistoryValue → Receipt → Option ℕ → Option (ℕ × ℕ)
place_at hs r None = None
place_at hs r (Some i) = at_device i (place_in (counts_in (slice_get hs i)) r.segment r.index)

abbrev pub place_of : List HistoryValue → Receipt → Option (ℕ × ℕ)
place_of hs r = place_at hs r (device_at hs r.device)

-- the place is this one
abbrev pub is_place : ℕ → ℕ → Option (ℕ × ℕ) → Bool
is_place i k None = false
is_place i k (Some p) = p.0 == i && p.1 == k

-- the receipt is for this event of this device
abbrev pub is_for : List HistoryValue → ℕ → ℕ → Receipt → Bool
is_for hs i k r = is_place i k (place_of hs r)

abbrev pub has_receipt : List HistoryValue → List Receipt → ℕ → ℕ → Bool
has_receipt hs rs i k = list_any (is_for hs i k) rs

-- WHAT A RECEIPT IS TO BE

abbrev pub replay_at : Option HistoryValue → List (Event × Outcome)
replay_at None = []
replay_at (Some h) = replay (opening_table h.config) h.events

-- the events of a device, each with what a fresh device answers to it
abbrev pub replay_of : List HistoryValue → ℕ → List (Event × Outcome)
replay_of hs i = replay_at (slice_get hs i)

-- the replay of this device gives this event there, and this answer
abbrev pub FitsAt : List HistoryValue → ℕ × ℕ → Receipt → Type 0
FitsAt hs p r = slice_get (replay_of hs p.0) p.1 ≡ Some (r.event, Ok r.answer)

-- the receipt fits, and no receipt before it is for the same event
pub record IsGood (hs : List HistoryValue) (before : List Receipt) (r : Receipt) : Type 0 where
  pub place : ℕ × ℕ
  pub place_is : place_of hs r ≡ Some place
  pub fits : FitsAt hs place r
  pub first : has_receipt hs before place.0 place.1 ≡ false

abbrev pub AllGood : List HistoryValue → List Receipt → List Receipt → Type 0
AllGood hs before [] = Unit {0}
AllGood hs before (r ∷ rs) = IsGood hs before r × AllGood hs (before ++ r ∷ []) rs

-- the first receipt that is not good, with what it names: a byte, and an index
pub record IsForeign (hs : List HistoryValue) (rs : List Receipt) (byte index : ℕ) : Type 0 where
  pub before : List Receipt
  pub receipt : Receipt
  pub after : List Receipt
  pub is : rs ≡ before ++ receipt ∷ after
  pub good : AllGood hs [] before
  pub bad : IsGood hs before receipt → ⊥
  pub byte_is : receipt.device ≡ byte
  pub index_is : receipt.index ≡ index

-- each event has a receipt
abbrev pub Covered : List HistoryValue → List Receipt → Type 0
Covered hs rs = (i k : ℕ) → k < length (history (events_of_all hs) i) → has_receipt hs rs i k ≡ true

-- All receipts are good. This event has none, all earlier ones of the device have one, and so have all events of devices
-- with a lower byte.
pub record IsMissing (hs : List HistoryValue) (rs : List Receipt) (byte index : ℕ) : Type 0 where
  pub good : AllGood hs [] rs
  pub device : ℕ
  pub byte_is : slice_index (bytes_of hs) device ≡ byte
  pub within : index < length (history (events_of_all hs) device)
  pub none : has_receipt hs rs device index ≡ false
  pub earlier : (k : ℕ) → k < index → has_receipt hs rs device k ≡ true
  pub lower : (i k : ℕ) → i < length hs → slice_index (bytes_of hs) i < byte → k < length (history (events_of_all hs) i) → has_receipt hs rs i k ≡ true

-- A MARK FOR EACH EVENT OF EACH DEVICE

abbrev pub unmarked_of : HistoryValue → List Bool
unmarked_of h = replicate (length h.events) false

abbrev pub unmarked : List HistoryValue → List (List Bool)
unmarked hs = map unmarked_of hs

abbrev pub mark_at : List (List Bool) → ℕ → ℕ → Bool
mark_at marks i k = slice_index_or (slice_index_or marks i []) k false

abbrev pub with_mark : List (List Bool) → ℕ → ℕ → List (List Bool)
with_mark marks i k = set marks i (set (slice_index_or marks i []) k true)

-- there is a mark for each event
pub record HasRoomForMarks (hs : List HistoryValue) (marks : List (List Bool)) : Type 0 where
  pub rows : length marks ≡ length hs
  pub events : (i : ℕ) → length (slice_index_or marks i []) ≡ length (history (events_of_all hs) i)

-- .. and it is set where one of these receipts is for the event
pub record AreMarks (hs : List HistoryValue) (rs : List Receipt) (marks : List (List Bool)) : Type 0 where
  pub all : HasRoomForMarks hs marks
  pub are : (i k : ℕ) → mark_at marks i k ≡ has_receipt hs rs i k

-- the first events of this device, so many of them, have marks; or the k-th is the first that has none
abbrev pub HasAllMarks : List (List Bool) → ℕ → ℕ → Type 0
HasAllMarks marks count i = (k : ℕ) → k < count → mark_at marks i k ≡ true

abbrev pub LacksMark : List (List Bool) → ℕ → ℕ → ℕ → Type 0
LacksMark marks count i k = (k < count) × (mark_at marks i k ≡ false) × HasAllMarks marks k i

-- the same of all events of the device
abbrev pub HasItsMarks : List (List Event) → List (List Bool) → ℕ → Type 0
HasItsMarks hs marks i = HasAllMarks marks (length (history hs i)) i

abbrev pub LacksItsMark : List (List Event) → List (List Bool) → ℕ → ℕ → Type 0
LacksItsMark hs marks i k = LacksMark marks (length (history hs i)) i k

-- the receipt fits, and its event has no mark
pub record IsUnmarked (hs : List HistoryValue) (marks : List (List Bool)) (r : Receipt) : Type 0 where
  pub place : ℕ × ℕ
  pub place_is : place_of hs r ≡ Some place
  pub fits : FitsAt hs place r
  pub first : mark_at marks place.0 place.1 ≡ false

-- .. and gets one
abbrev pub IsMarked : List HistoryValue → List (List Bool) → Receipt → List (List Bool) → Type 0
IsMarked hs old r new = (u : IsUnmarked hs old r) × (new ≡ with_mark old u.place.0 u.place.1)

-- what fresh devices answer to the events of the histories
abbrev pub outcomes_in : HistoryValue → List Outcome
outcomes_in h = outcomes_of (opening_table h.config) h.events

abbrev pub outcomes_of_all : List HistoryValue → List (List Outcome)
outcomes_of_all hs = map outcomes_in hs
