-- The slots of a fresh scanner are idle.
use Rattle.std.proofs.Common.{◌≡◌, ℕ, zero, suc, List, [], ◌∷◌, map, slice_get, Some, sym, ap}
use Rattle.std.proofs.lemmas.Option.{same_Some}
use Rattle.scanner_table.specs.declared.profile.ScannerProfile.{ScannerProfile}
use Rattle.scanner_table.specs.declared.profile.SlotConfig.{SlotConfig}
use Rattle.scanner_table.specs.declared.slot.Slot.{Slot}
use Rattle.scanner_table.specs.declared.slot.SlotState.TheVariants.{Idle}
use Rattle.scanner_table.specs.Slots.{IndexedSlot, slot_at}
use Rattle.scanner_table.specs.Step.{fresh_slot, scanner_table}
use Rattle.scanner_table.specs.Lemmas.SlotLookups.{slot_is}

pub fresh_idle : (configs : List SlotConfig) (k : ℕ) (slot : Slot) → slice_get (map fresh_slot configs) k ≡ Some slot → slot.state ≡ Idle
fresh_idle [] k slot is = absurd cc
fresh_idle (config ∷ configs) zero slot is = ap (λ (s : Slot). s.state) (sym (same_Some (fresh_slot config) slot is))
fresh_idle (config ∷ configs) (suc k) slot is = fresh_idle configs k slot is

-- a fresh scanner's slots are idle
pub fresh_rests : (profile : ScannerProfile) (number : ℕ) (indexed : IndexedSlot) → slot_at (scanner_table profile) number ≡ Some indexed → indexed.slot.state ≡ Idle
fresh_rests profile number indexed is = fresh_idle profile.slots indexed.number indexed.slot (slot_is (scanner_table profile) number indexed is).stands.slot
