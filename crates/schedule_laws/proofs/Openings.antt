-- A world that begins from configurations of lives has whole tables.
use Rattle.std.proofs.Common.{◌≡◌, ℕ, zero, suc, List, [], ◌∷◌, map, slice_get, Option, Some, None, refl, subst}
use Rattle.std.proofs.lemmas.Option.{same_Some}
use Rattle.cip_events.specs.declared.profile_fault.ProfileFault.{ProfileFault}
use Rattle.cip_tables.specs.declared.table.Config.{Config}
use Rattle.cip_tables.specs.declared.table.DeviceTable.{DeviceTable}
use Rattle.cip_tables.specs.Step.{opening_table, config_fault}
use Rattle.cip_tables.specs.Whole.{IsWholeDevice, FreshDevicesAreWhole}
use Rattle.segment_world.specs.Configs.{fault_or, first_fault}

pub both_none : (a b : Option ProfileFault) → fault_or a b ≡ None → (a ≡ None) × (b ≡ None)
both_none None b is = (refl, is)
both_none (Some fault) b is = absurd (let e = is in cc)

pub opens_whole : FreshDevicesAreWhole → (configs : List Config) (device : ℕ) (t : DeviceTable) → first_fault configs ≡ None → slice_get (map opening_table configs) device ≡ Some t → IsWholeDevice t
unfolding first_fault
opens_whole fresh [] device t none at = absurd (let e = at in cc)
opens_whole fresh (config ∷ configs) zero t none at =
    let parts = both_none (config_fault config) (first_fault configs) none in
    subst IsWholeDevice (same_Some (opening_table config) t at) (fresh config parts.0)
opens_whole fresh (config ∷ configs) (suc device) t none at =
    let parts = both_none (config_fault config) (first_fault configs) none in
    opens_whole fresh configs device t parts.1 at
