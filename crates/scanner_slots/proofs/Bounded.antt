-- Bounds that hold of each slot of a list.
use Rattle.std.proofs.Common.{Bool, ◌≡◌, ◌<◌, ◌≤◌, ℕ, zero, suc, min, List, [], ◌∷◌, length, drop, drop-cons, get_or, refl, sym, subst, arith}
use Rattle.scanner_table.specs.declared.profile.SlotConfig.{SlotConfig}
use Rattle.scanner_table.specs.declared.slot.Slot.{Slot}
use Rattle.scanner_table.specs.declared.slot.SlotState.{SlotState}
use Rattle.scanner_table.specs.declared.slot.SlotState.TheVariants.{Idle, Opening, Established, TimedOut, Closing}
use Rattle.scanner_table.specs.declared.table.ScannerTable.{ScannerTable}
use Rattle.scanner_table.specs.Slots.{IndexedSlot, indexed_from, indexed_slots}
use Rattle.scanner_slots.specs.declared.bounds.Bounds.{Bounds}
use Rattle.scanner_slots.specs.Bounding.{EndsFrom, IsDueFrom, has_target, IsBounded, AreBounded, IsHinted, IsNoLater}

-- ---- earlier bounds

earlier_end : (bound later : ℕ) (state : SlotState) → bound ≤ later → EndsFrom later state → EndsFrom bound state
earlier_end bound later Idle le ends = tt
earlier_end bound later (Opening o) le ends = omega (arith, le, ends)
earlier_end bound later (Established c) le ends = omega (arith, le, ends)
earlier_end bound later (TimedOut link) le ends = tt
earlier_end bound later (Closing c) le ends = omega (arith, le, ends)

earlier_due : (bound later : ℕ) (state : SlotState) → bound ≤ later → IsDueFrom later state → IsDueFrom bound state
earlier_due bound later Idle le due = tt
earlier_due bound later (Opening o) le due = tt
earlier_due bound later (Established c) le due = omega (arith, le, due)
earlier_due bound later (TimedOut link) le due = tt
earlier_due bound later (Closing c) le due = tt

pub earlier_one : (bounds later : Bounds) (asks : Bool) (indexed : IndexedSlot) → IsNoLater bounds later → IsBounded later asks indexed → IsBounded bounds asks indexed
earlier_one bounds later asks indexed le one = record {
  deadlines = earlier_end bounds.deadlines.0 later.deadlines.0 indexed.slot.state le.deadlines one.deadlines;
  retries = λ can. let at = one.retries can in omega (arith, at, le.retries);
  dues = earlier_due bounds.dues.0 later.dues.0 indexed.slot.state le.dues one.dues;
}

pub earlier_all : (bounds later : Bounds) (asks : IndexedSlot → Bool) (all : List IndexedSlot) → IsNoLater bounds later → AreBounded later asks all → AreBounded bounds asks all
earlier_all bounds later asks [] le hold = tt
earlier_all bounds later asks (indexed ∷ rest) le hold = (earlier_one bounds later (asks indexed) indexed le hold.0, earlier_all bounds later asks rest le hold.1)

pub earlier_hints : (bounds later : Bounds) (t : ScannerTable) → IsNoLater bounds later → IsHinted later t → IsHinted bounds t
earlier_hints bounds later t le hinted = record { slots = earlier_all bounds later (has_target t.streams) (indexed_slots t) le hinted.slots }

pub no_later_than : (a b c : Bounds) → IsNoLater a b → IsNoLater b c → IsNoLater a c
no_later_than a b c first second = record { deadlines = omega (arith, first.deadlines, second.deadlines); retries = omega (arith, first.retries, second.retries); dues = omega (arith, first.dues, second.dues) }

-- ---- the bounds at the beginning of time

from_zero : (state : SlotState) → EndsFrom 0 state
from_zero Idle = tt
from_zero (Opening o) = omega arith
from_zero (Established c) = omega arith
from_zero (TimedOut link) = tt
from_zero (Closing c) = omega arith

due_from_zero : (state : SlotState) → IsDueFrom 0 state
due_from_zero Idle = tt
due_from_zero (Opening o) = tt
due_from_zero (Established c) = omega arith
due_from_zero (TimedOut link) = tt
due_from_zero (Closing c) = tt

-- the earliest bounds
abbrev pub zeros : Bounds
zeros = record { deadlines = record { 0 = 0 }; retries = record { 0 = 0 }; dues = record { 0 = 0 } }

all_from_zero : (asks : IndexedSlot → Bool) (all : List IndexedSlot) → AreBounded zeros asks all
all_from_zero asks [] = tt
all_from_zero asks (indexed ∷ rest) = (record { deadlines = from_zero indexed.slot.state; retries = λ can. omega arith; dues = due_from_zero indexed.slot.state }, all_from_zero asks rest)

pub zeros_hold : (t : ScannerTable) → IsHinted zeros t
zeros_hold t = record { slots = all_from_zero (has_target t.streams) (indexed_slots t) }

-- ---- a walk over the slots

-- what bounds the slots from a place on, and is no later than the bounds so far, bounds all slots
abbrev pub Covers : Bounds → (IndexedSlot → Bool) → List SlotConfig → List Slot → ℕ → Type 0
Covers so_far asks configs slots index = (bounds : Bounds) → IsNoLater bounds so_far → AreBounded bounds asks (indexed_from index (drop index configs) (drop index slots)) → AreBounded bounds asks (indexed_from 0 configs slots)

pub covers_more : (so_far next one : Bounds) (asks : IndexedSlot → Bool) (configs : List SlotConfig) (slots : List Slot) (index : ℕ) (indexed : IndexedSlot) → indexed_from index (drop index configs) (drop index slots) ≡ indexed ∷ indexed_from (suc index) (drop (suc index) configs) (drop (suc index) slots) → IsNoLater next so_far → IsNoLater next one → IsBounded one (asks indexed) indexed → Covers so_far asks configs slots index → (more : ℕ) → more ≡ suc index → Covers next asks configs slots more
covers_more so_far next one asks configs slots index indexed begins first second at covers more is bounds le rest =
    let behind : AreBounded bounds asks (indexed_from (suc index) (drop (suc index) configs) (drop (suc index) slots)) = subst (λ n. AreBounded bounds asks (indexed_from n (drop n configs) (drop n slots))) is rest in
    let here : IsBounded bounds (asks indexed) indexed = earlier_one bounds one (asks indexed) indexed (no_later_than bounds next one le second) at in
    covers bounds (no_later_than bounds next so_far le first) (subst (AreBounded bounds asks) (sym begins) (here, behind))

-- the slots from a place on begin with the slot of that place
pub begins_with : (index : ℕ) (configs : List SlotConfig) (slots : List Slot) (config d : SlotConfig) (slot e : Slot) → index < length configs → index < length slots → config ≡ get_or configs index d → slot ≡ get_or slots index e → indexed_from index (drop index configs) (drop index slots) ≡ record { number = index; config = config; slot = slot } ∷ indexed_from (suc index) (drop (suc index) configs) (drop (suc index) slots)
begins_with index configs slots config d slot e lt lt' is stood = rw (drop-cons configs index d lt, drop-cons slots index e lt', is, stood) refl

no_slots : (number : ℕ) (configs : List SlotConfig) → indexed_from number configs [] ≡ []
no_slots number [] = refl
no_slots number (config ∷ configs) = refl

pub ends_from : (number index : ℕ) (configs : List SlotConfig) (slots : List Slot) → min (length configs) (length slots) ≤ index → indexed_from number (drop index configs) (drop index slots) ≡ []
ends_from number zero [] slots le = refl
ends_from number (suc index) [] slots le = refl
ends_from number zero (config ∷ configs) [] le = refl
ends_from number (suc index) (config ∷ configs) [] le = no_slots number (drop index configs)
ends_from number zero (config ∷ configs) (slot ∷ slots) le = absurd (omega (arith, le))
ends_from number (suc index) (config ∷ configs) (slot ∷ slots) le = ends_from number index configs slots (omega (arith, le))

pub covers_all : (so_far : Bounds) (asks : IndexedSlot → Bool) (configs : List SlotConfig) (slots : List Slot) (index : ℕ) → min (length configs) (length slots) ≤ index → Covers so_far asks configs slots index → AreBounded so_far asks (indexed_from 0 configs slots)
covers_all so_far asks configs slots index le covers =
    covers so_far (record { deadlines = omega arith; retries = omega arith; dues = omega arith }) (subst (AreBounded so_far asks) (sym (ends_from index index configs slots le)) tt)
