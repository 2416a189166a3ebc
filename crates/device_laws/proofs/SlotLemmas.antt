-- Properties of each slot of a whole scanner.
use Rattle.std.proofs.Common.{◌≡◌, ℕ, suc, Bool, true, false, List, [], ◌∷◌, length, refl, ap}
use Rattle.std.specs.List.{AllByRecursion}
use Rattle.scanner_table.specs.declared.profile.SlotConfig.{SlotConfig}
use Rattle.scanner_table.specs.declared.slot.Slot.{Slot}
use Rattle.scanner_table.specs.declared.slot.SlotState.{SlotState}
use Rattle.scanner_table.specs.declared.slot.SlotState.TheVariants.{Idle, Opening, Established, TimedOut, Closing}
use Rattle.scanner_table.specs.declared.table.ScannerTable.{ScannerTable}
use Rattle.scanner_table.specs.Slots.{IndexedSlot, indexed_from, indexed_slots}
use Rattle.scanner_table.specs.WellFormed.{FitsState, FitsSlot, SlotsFit, StateIsDesired, IsDesired, IsWellFormed}
use Rattle.device_laws.specs.Scanners.{EachSlot, HasLengths, is_kept_up, IsOpenAsDesired, is_closing, ClosesAsDesired, IsNumberedBelow}

pub fitting_slots : (next_request clock : ℕ) (configs : List SlotConfig) (slots : List Slot) → SlotsFit next_request clock configs slots → length slots ≡ length configs
fitting_slots next_request clock [] [] fit = refl
fitting_slots next_request clock [] (slot ∷ slots) fit = absurd fit
fitting_slots next_request clock (config ∷ configs) [] fit = absurd fit
fitting_slots next_request clock (config ∷ configs) (slot ∷ slots) fit = ap suc (fitting_slots next_request clock configs slots fit.1)

-- the properties of a slot that fits
abbrev Fitting : ℕ → ℕ → (IndexedSlot → Type 0) → Type 0
Fitting next_request clock P = (indexed : IndexedSlot) → FitsSlot next_request clock indexed.config indexed.slot → P indexed

each_fitting : (next_request clock : ℕ) (P : IndexedSlot → Type 0) → Fitting next_request clock P → (number : ℕ) (configs : List SlotConfig) (slots : List Slot) → SlotsFit next_request clock configs slots → EachSlot P (indexed_from number configs slots)
each_fitting next_request clock P has number [] slots fit = tt
each_fitting next_request clock P has number (config ∷ configs) [] fit = tt
each_fitting next_request clock P has number (config ∷ configs) (slot ∷ slots) fit =
    (has (record { number = number; config = config; slot = slot }) fit.0, each_fitting next_request clock P has (suc number) configs slots fit.1)

each_of : (P : IndexedSlot → Type 0) (t : ScannerTable) → Fitting t.next_request t.clock.0 P → IsWellFormed t → EachSlot P (indexed_slots t)
each_of P t has whole = each_fitting t.next_request t.clock.0 P has 0 t.profile.slots t.slots whole.slots

pub each_has_lengths : (t : ScannerTable) → IsWellFormed t → EachSlot HasLengths (indexed_slots t)
each_has_lengths t whole = each_of HasLengths t (λ indexed fit. (fit.output, fit.image)) whole

-- each slot has a property of its fit and of its desire
each_desired : (next_request clock : ℕ) (P : IndexedSlot → Type 0) → ((indexed : IndexedSlot) → FitsSlot next_request clock indexed.config indexed.slot → IsDesired indexed.slot → P indexed) → (number : ℕ) (configs : List SlotConfig) (slots : List Slot) → SlotsFit next_request clock configs slots → AllByRecursion IsDesired slots → EachSlot P (indexed_from number configs slots)
each_desired next_request clock P has number [] slots fit desires = tt
each_desired next_request clock P has number (config ∷ configs) [] fit desires = tt
each_desired next_request clock P has number (config ∷ configs) (slot ∷ slots) fit desires =
    (has (record { number = number; config = config; slot = slot }) fit.0 desires.0, each_desired next_request clock P has (suc number) configs slots fit.1 desires.1)

opens_as_desired : (next_request clock : ℕ) (desired_up : Bool) (state : SlotState) → FitsState next_request clock desired_up state → StateIsDesired desired_up state → is_kept_up false state ≡ true → desired_up ≡ true
opens_as_desired next_request clock desired_up Idle fit desires kept_up = absurd cc
opens_as_desired next_request clock desired_up (Opening o) fit desires kept_up = fit.0
opens_as_desired next_request clock desired_up (Established c) fit desires kept_up = fit.0
opens_as_desired next_request clock desired_up (TimedOut link) fit desires kept_up = desires
opens_as_desired next_request clock desired_up (Closing c) fit desires kept_up = absurd cc

tidy_opens_as_desired : (next_request clock : ℕ) (desired_up : Bool) (state : SlotState) → FitsState next_request clock desired_up state → is_kept_up true state ≡ true → desired_up ≡ true
tidy_opens_as_desired next_request clock desired_up Idle fit kept_up = absurd cc
tidy_opens_as_desired next_request clock desired_up (Opening o) fit kept_up = fit.0
tidy_opens_as_desired next_request clock desired_up (Established c) fit kept_up = fit.0
tidy_opens_as_desired next_request clock desired_up (TimedOut link) fit kept_up = absurd cc
tidy_opens_as_desired next_request clock desired_up (Closing c) fit kept_up = absurd cc

opens_step : (tidy : Bool) (t : ScannerTable) → t.profile.tidy ≡ tidy → IsWellFormed t → EachSlot (IsOpenAsDesired tidy) (indexed_slots t)
opens_step true t is whole = each_of (IsOpenAsDesired true) t (λ indexed fit. tidy_opens_as_desired t.next_request t.clock.0 indexed.slot.desired_up indexed.slot.state fit.state) whole
opens_step false t is whole =
    each_desired t.next_request t.clock.0 (IsOpenAsDesired false) (λ indexed fit desires. opens_as_desired t.next_request t.clock.0 indexed.slot.desired_up indexed.slot.state fit.state desires) 0 t.profile.slots t.slots whole.slots (whole.desires is)

pub each_opens_as_desired : (t : ScannerTable) → IsWellFormed t → EachSlot (IsOpenAsDesired t.profile.tidy) (indexed_slots t)
each_opens_as_desired t whole = opens_step t.profile.tidy t refl whole

closes_as_desired : (desired_up : Bool) (state : SlotState) → StateIsDesired desired_up state → is_closing state ≡ true → desired_up ≡ false
closes_as_desired desired_up Idle desires closes = absurd cc
closes_as_desired desired_up (Opening o) desires closes = absurd cc
closes_as_desired desired_up (Established c) desires closes = absurd cc
closes_as_desired desired_up (TimedOut link) desires closes = absurd cc
closes_as_desired desired_up (Closing c) desires closes = desires

closes_step : (tidy : Bool) (t : ScannerTable) → t.profile.tidy ≡ tidy → IsWellFormed t → EachSlot (ClosesAsDesired tidy) (indexed_slots t)
closes_step true t is whole = each_of (ClosesAsDesired true) t (λ indexed fit untidy closes. absurd (let e : true ≡ false = untidy in cc)) whole
closes_step false t is whole =
    each_desired t.next_request t.clock.0 (ClosesAsDesired false) (λ indexed fit desires untidy. closes_as_desired indexed.slot.desired_up indexed.slot.state desires) 0 t.profile.slots t.slots whole.slots (whole.desires is)

pub each_closes_as_desired : (t : ScannerTable) → IsWellFormed t → EachSlot (ClosesAsDesired t.profile.tidy) (indexed_slots t)
each_closes_as_desired t whole = closes_step t.profile.tidy t refl whole

is_numbered_below : (next_request clock : ℕ) (desired_up : Bool) (state : SlotState) → FitsState next_request clock desired_up state → IsNumberedBelow next_request state
is_numbered_below next_request clock desired_up Idle fit = tt
is_numbered_below next_request clock desired_up (Opening o) fit = fit.1
is_numbered_below next_request clock desired_up (Established c) fit = fit.1.opening
is_numbered_below next_request clock desired_up (TimedOut link) fit = tt
is_numbered_below next_request clock desired_up (Closing c) fit = fit

pub each_is_numbered : (t : ScannerTable) → IsWellFormed t → EachSlot (λ indexed. IsNumberedBelow t.next_request indexed.slot.state) (indexed_slots t)
each_is_numbered t whole =
    each_of (λ indexed. IsNumberedBelow t.next_request indexed.slot.state) t (λ indexed fit. is_numbered_below t.next_request t.clock.0 indexed.slot.desired_up indexed.slot.state fit.state) whole
