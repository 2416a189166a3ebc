-- When the first of the slots is due.
use Rattle.std.proofs.Common.{◌≡◌, ◌≤◌, ℕ, suc, ◌&&◌, min, Bool, true, false, cond, List, [], ◌∷◌, length, drop, ap, ◌∙◌, arith}
use Rattle.cip_types.specs.declared.names.Ms.{Ms}
use Rattle.scanner_table.specs.declared.profile.SlotConfig.{SlotConfig}
use Rattle.scanner_table.specs.declared.slot.Slot.{Slot}
use Rattle.scanner_table.specs.declared.slot.SlotState.{SlotState}
use Rattle.scanner_table.specs.declared.slot.SlotState.TheVariants.{Idle, Opening, Established, TimedOut, Closing}
use Rattle.scanner_table.specs.declared.table.ScannerTable.{ScannerTable}
use Rattle.scanner_table.specs.Slots.{IndexedSlot, indexed_from, indexed_slots, is_closed, needs_request}
use Rattle.cip_tables.specs.Wakes.{never, can_ask, retry_due, state_due, slot_due, slots_due}
use Rattle.scanner_slots.specs.Bounding.{EndsFrom, IsDueFrom, IsBounded, AreBounded, IsTimed, all_bounds}
use Rattle.scanner_slots.proofs.Bounded.{ends_from}

-- ---- a walk over the slots

-- the first due time so far, and those of the slots from a place on, give the first of all
abbrev pub IsFirst : ℕ → (IndexedSlot → Bool) → List SlotConfig → List Slot → ℕ → Type 0
IsFirst first asks configs slots index = min first (slots_due asks (indexed_from index (drop index configs) (drop index slots))) ≡ slots_due asks (indexed_from 0 configs slots)

all_within : (asks : IndexedSlot → Bool) (all : List IndexedSlot) → slots_due asks all ≤ never
all_within asks [] = omega arith
all_within asks (indexed ∷ rest) = let le = all_within asks rest in omega (arith, le)

pub first_of_none : (asks : IndexedSlot → Bool) (all : List IndexedSlot) → min never (slots_due asks all) ≡ slots_due asks all
first_of_none asks all = let le = all_within asks all in omega (arith, le)

moved : (first next one here rest all : ℕ) → next ≡ min first one → here ≡ min one rest → min first here ≡ all → min next rest ≡ all
moved first next one here rest all is begins so_far = omega (arith, is, begins, so_far)

pub first_more : (first next one : ℕ) (asks : IndexedSlot → Bool) (configs : List SlotConfig) (slots : List Slot) (index : ℕ) (indexed : IndexedSlot) → indexed_from index (drop index configs) (drop index slots) ≡ indexed ∷ indexed_from (suc index) (drop (suc index) configs) (drop (suc index) slots) → next ≡ min first one → one ≡ slot_due asks indexed → IsFirst first asks configs slots index → (more : ℕ) → more ≡ suc index → IsFirst next asks configs slots more
first_more first next one asks configs slots index indexed begins is here so_far more same =
    let rest = indexed_from (suc index) (drop (suc index) configs) (drop (suc index) slots) in
    rw same (moved first next (slot_due asks indexed) (slots_due asks (indexed_from index (drop index configs) (drop index slots))) (slots_due asks rest) (slots_due asks (indexed_from 0 configs slots)) (is ∙ ap (min first) here) (ap (slots_due asks) begins) so_far)

whole : (first all none : ℕ) → none ≡ never → first ≤ never → min first none ≡ all → first ≡ all
whole first all none is within so_far = omega (arith, is, within, so_far)

pub first_of_all : (first : ℕ) (asks : IndexedSlot → Bool) (configs : List SlotConfig) (slots : List Slot) (index : ℕ) → min (length configs) (length slots) ≤ index → IsFirst first asks configs slots index → first ≤ never → first ≡ slots_due asks (indexed_from 0 configs slots)
first_of_all first asks configs slots index le so_far within =
    whole first (slots_due asks (indexed_from 0 configs slots)) (slots_due asks (indexed_from index (drop index configs) (drop index slots))) (ap (slots_due asks) (ends_from index index configs slots le)) within so_far

-- ---- no time of a slot comes before

ends_due : (bound retry : ℕ) (state : SlotState) → bound ≤ state_due retry state → EndsFrom bound state
ends_due bound retry Idle le = tt
ends_due bound retry (Opening o) le = le
ends_due bound retry (Established c) le = omega (arith, le)
ends_due bound retry (TimedOut link) le = tt
ends_due bound retry (Closing c) le = le

produces_due : (bound retry : ℕ) (state : SlotState) → bound ≤ state_due retry state → IsDueFrom bound state
produces_due bound retry Idle le = tt
produces_due bound retry (Opening o) le = tt
produces_due bound retry (Established c) le = omega (arith, le)
produces_due bound retry (TimedOut link) le = tt
produces_due bound retry (Closing c) le = tt

-- a closed slot that can retry does so at its retry time
retry_of : (bound at : ℕ) (up session : Bool) → bound ≤ cond (up && session) at never → (up && (true && session)) ≡ true → bound ≤ at
retry_of bound at true true le can = le
retry_of bound at true false le can = absurd (let e : false ≡ true = can in cc)
retry_of bound at false session le can = absurd (let e : false ≡ true = can in cc)

never_closed : (up session : Bool) (A : Type 0) → (up && (false && session)) ≡ true → A
never_closed true session A can = absurd (let e : false ≡ true = can in cc)
never_closed false session A can = absurd (let e : false ≡ true = can in cc)

retries_due : (bound at : ℕ) (up session : Bool) (state : SlotState) → bound ≤ state_due (cond (up && session) at never) state → (up && (is_closed state && session)) ≡ true → bound ≤ at
retries_due bound at up session Idle le can = retry_of bound at up session le can
retries_due bound at up session (Opening o) le can = never_closed up session _ can
retries_due bound at up session (Established c) le can = never_closed up session _ can
retries_due bound at up session (TimedOut link) le can = retry_of bound at up session le can
retries_due bound at up session (Closing c) le can = never_closed up session _ can

one_due : (bound : Ms) (asks : IndexedSlot → Bool) (indexed : IndexedSlot) → bound.0 ≤ slot_due asks indexed → IsBounded (all_bounds bound) (asks indexed) indexed
one_due bound asks indexed le = record {
  deadlines = ends_due bound.0 (retry_due asks indexed) indexed.slot.state le;
  retries = retries_due bound.0 indexed.slot.retry_at.0 (needs_request indexed.slot) (asks indexed) indexed.slot.state le;
  dues = produces_due bound.0 (retry_due asks indexed) indexed.slot.state le;
}

each_due : (bound : Ms) (asks : IndexedSlot → Bool) (all : List IndexedSlot) → bound.0 ≤ slots_due asks all → AreBounded (all_bounds bound) asks all
each_due bound asks [] le = tt
each_due bound asks (indexed ∷ rest) le = (one_due bound asks indexed (omega (arith, le)), each_due bound asks rest (omega (arith, le)))

pub due_bounds : (t : ScannerTable) (due : Ms) → due.0 ≡ slots_due (can_ask t) (indexed_slots t) → IsTimed (all_bounds due) t
due_bounds t due is = record { slots = each_due due (can_ask t) (indexed_slots t) (omega (arith, is)) }
