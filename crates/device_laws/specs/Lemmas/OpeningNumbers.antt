-- The opening number of a slot stays where the slot produces or is written.
use Rattle.std.proofs.Common.{◌≡◌, ◌<◌, ℕ, Bool, true, false, cond, Some, refl, subst}
use Rattle.std.proofs.lemmas.Option.{same_Some}
use Rattle.cip_types.specs.declared.names.Ms.{Ms}
use Rattle.scanner_table.specs.declared.slot.Slot.{Slot}
use Rattle.scanner_table.specs.declared.slot.SlotState.{SlotState}
use Rattle.scanner_table.specs.declared.slot.SlotState.TheVariants.{Idle, Opening, Established, TimedOut, Closing}
use Rattle.scanner_table.specs.Productions.{written_state, produced_state}
use Rattle.device_laws.specs.Newest.{StateIsNumbered}
use Rattle.device_laws.specs.ProductionRuns.{opening_number}

pub written_number : (state : SlotState) → opening_number (written_state state) ≡ opening_number state
written_number Idle = refl
written_number (Opening o) = refl
written_number (Established c) = refl
written_number (TimedOut link) = refl
written_number (Closing c) = refl

pub produced_number : (clock : Ms) (state : SlotState) → opening_number (produced_state clock state) ≡ opening_number state
produced_number clock Idle = refl
produced_number clock (Opening o) = refl
produced_number clock (Established c) = refl
produced_number clock (TimedOut link) = refl
produced_number clock (Closing c) = refl

pub due_number : (due : Bool) (clock : Ms) (slot : Slot) → opening_number (cond due (record slot { state = produced_state clock slot.state }) slot).state ≡ opening_number slot.state
due_number true clock slot = produced_number clock slot.state
due_number false clock slot = refl

pub moded_number : (owner : Bool) (slot : Slot) → opening_number (cond owner (record slot { state = written_state slot.state }) slot).state ≡ opening_number slot.state
moded_number true slot = written_number slot.state
moded_number false slot = refl

pub below : (next number : ℕ) (state : SlotState) → StateIsNumbered next state → opening_number state ≡ Some number → number < next
below next number Idle numbered has = absurd (let e = has in cc)
below next number (Opening o) numbered has = subst (λ (n : ℕ). n < next) (same_Some o.request number has) numbered
below next number (Established c) numbered has = subst (λ (n : ℕ). n < next) (same_Some c.opening number has) numbered
below next number (TimedOut link) numbered has = absurd (let e = has in cc)
below next number (Closing c) numbered has = absurd (let e = has in cc)
