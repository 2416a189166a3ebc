-- Configurations of which a world can be made are configurations of lives, each the only one of its device.
use Rattle.std.proofs.Common.{◌≡◌, Bool, true, false, cond, List, Option, Some, None, refl}
use Rattle.cip_events.specs.declared.profile_fault.ProfileFault.{ProfileFault}
use Rattle.cip_tables.specs.declared.table.Config.{Config}
use Rattle.segment_world.specs.declared.configs.DeviceKey.TheVariants.{Incarnation, Address}
use Rattle.segment_world.specs.declared.fault.WorldFault.{WorldFault}
use Rattle.segment_world.specs.declared.fault.WorldFault.TheVariants.{SameIncarnation, SameNode}
use Rattle.segment_world.specs.Configs.{any_twice, first_fault, profile_fault_of, world_fault}
use Rattle.schedule_laws.specs.Lives.{AreLives, DifferInAddress}

no_fault : (wrong : Option ProfileFault) → profile_fault_of wrong ≡ None → wrong ≡ None
no_fault None is = refl
no_fault (Some fault) is = absurd (let e = is in cc)

lives_step : (a b : Bool) (configs : List Config) (wrong : Option WorldFault) → any_twice Incarnation configs ≡ a → (wrong ≡ None → first_fault configs ≡ None) → cond a (Some SameIncarnation) (cond b (Some SameNode) wrong) ≡ None → AreLives configs
lives_step true b configs wrong is more none = absurd (let e = none in cc)
lives_step false true configs wrong is more none = absurd (let e = none in cc)
lives_step false false configs wrong is more none = record { profiles = more none }

pub worlds_are_lives : (configs : List Config) → world_fault configs ≡ None → AreLives configs
worlds_are_lives configs none =
    lives_step (any_twice Incarnation configs) (any_twice Address configs) configs (profile_fault_of (first_fault configs)) refl (no_fault (first_fault configs)) none

address_step : (a b : Bool) (configs : List Config) (wrong : Option WorldFault) → any_twice Address configs ≡ b → cond a (Some SameIncarnation) (cond b (Some SameNode) wrong) ≡ None → DifferInAddress configs
address_step true b configs wrong is none = absurd (let e = none in cc)
address_step false true configs wrong is none = absurd (let e = none in cc)
address_step false false configs wrong is none = is

pub worlds_differ_in_address : (configs : List Config) → world_fault configs ≡ None → DifferInAddress configs
worlds_differ_in_address configs none = address_step (any_twice Incarnation configs) (any_twice Address configs) configs (profile_fault_of (first_fault configs)) refl none

incarnation_step : (a : Bool) (configs : List Config) (wrong : Option WorldFault) → any_twice Incarnation configs ≡ a → cond a (Some SameIncarnation) wrong ≡ None → any_twice Incarnation configs ≡ false
incarnation_step true configs wrong is none = absurd (let e = none in cc)
incarnation_step false configs wrong is none = is

pub worlds_differ_in_incarnation : (configs : List Config) → world_fault configs ≡ None → any_twice Incarnation configs ≡ false
worlds_differ_in_incarnation configs none =
    incarnation_step (any_twice Incarnation configs) configs (cond (any_twice Address configs) (Some SameNode) (profile_fault_of (first_fault configs))) refl none
