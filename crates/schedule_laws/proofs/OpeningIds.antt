-- A world that begins from configurations of lives has no ids anywhere.
use Rattle.std.proofs.Common.{◌≡◌, ℕ, zero, suc, Bool, List, [], ◌∷◌, map, slice_get, Some, subst}
use Rattle.std.specs.List.{AllByRecursion}
use Rattle.std.proofs.lemmas.Option.{same_Some}
use Rattle.scanner_table.specs.declared.profile.SlotConfig.{SlotConfig}
use Rattle.scanner_table.specs.Slots.{indexed_from}
use Rattle.scanner_table.specs.Step.{fresh_slot}
use Rattle.cip_tables.specs.declared.table.Config.{Config}
use Rattle.cip_tables.specs.declared.table.Config.TheVariants as config
use Rattle.cip_tables.specs.declared.table.DeviceTable.{DeviceTable}
use Rattle.cip_tables.specs.Step.{opening_table}
use Rattle.cip_tables.specs.Whole.{FreshDevicesAreWhole}
use Rattle.device_laws.specs.Carrying.{Passes, SlotIds, TableIds, HasClass3Ids}
use Rattle.device_laws.specs.Plain.{IsPlainDevice}
use Rattle.schedule_laws.specs.Ids.{is_drawn, any_opening, any_stream, OpeningWorldsHaveIdsDrawn}
use Rattle.schedule_laws.proofs.Openings.{opens_whole}

-- ---- fresh tables

fresh_slots : (P : ℕ → Type 0) (n : ℕ) (configs : List SlotConfig) → AllByRecursion (SlotIds P) (indexed_from n configs (map fresh_slot configs))
fresh_slots P n [] = tt
fresh_slots P n (slot ∷ configs) = (tt, fresh_slots P (suc n) configs)

fresh_ids : (test : ℕ → Bool) (made : Config) → TableIds test any_opening (opening_table made)
fresh_ids test (config.Adapter profile) = tt
fresh_ids test (config.Scanner profile) = fresh_slots (Passes test) 0 profile.slots

fresh_class3 : (test : ℕ → Bool) (made : Config) → HasClass3Ids test (opening_table made)
fresh_class3 test (config.Adapter profile) = tt
fresh_class3 test (config.Scanner profile) = tt

none_opened : (test : ℕ → Bool) (configs : List Config) (device : ℕ) (t : DeviceTable) → slice_get (map opening_table configs) device ≡ Some t → HasClass3Ids test t
none_opened test [] device t at = absurd (let e = at in cc)
none_opened test (made ∷ configs) zero t at = subst (HasClass3Ids test) (same_Some (opening_table made) t at) (fresh_class3 test made)
none_opened test (made ∷ configs) (suc device) t at = none_opened test configs device t at

fresh_all : (test : ℕ → Bool) (configs : List Config) (device : ℕ) (t : DeviceTable) → slice_get (map opening_table configs) device ≡ Some t → TableIds test any_opening t
fresh_all test [] device t at = absurd (let e = at in cc)
fresh_all test (made ∷ configs) zero t at = subst (TableIds test any_opening) (same_Some (opening_table made) t at) (fresh_ids test made)
fresh_all test (made ∷ configs) (suc device) t at = fresh_all test configs device t at

fresh_device : (made : Config) → IsPlainDevice any_stream (opening_table made)
fresh_device (config.Adapter profile) = record { services = tt; over = tt }
fresh_device (config.Scanner profile) = tt

fresh_plain : (configs : List Config) (device : ℕ) (t : DeviceTable) → slice_get (map opening_table configs) device ≡ Some t → IsPlainDevice any_stream t
fresh_plain [] device t at = absurd (let e = at in cc)
fresh_plain (made ∷ configs) zero t at = subst (IsPlainDevice any_stream) (same_Some (opening_table made) t at) (fresh_device made)
fresh_plain (made ∷ configs) (suc device) t at = fresh_plain configs device t at

pub opening_worlds : FreshDevicesAreWhole → OpeningWorldsHaveIdsDrawn
opening_worlds fresh configs lives =
    record {
      whole = λ device t at. opens_whole fresh configs device t lives.profiles at;
      tables = λ device t at. fresh_all (is_drawn (map opening_table configs)) configs device t at;
      class3 = λ device t at. none_opened (is_drawn (map opening_table configs)) configs device t at;
      sent = tt;
      streams = tt;
      plain = λ device t at. fresh_plain configs device t at;
    }
