-- Configurations that a world can be made of.
use Rattle.std.proofs.Common.{◌≡◌, ◌≢◌, ◌||◌, ℕ, Bool, true, false, cond, List, [], ◌∷◌, map, Option, Some, None, refl, arith}
use Rattle.std.specs.Prelude.{All, ◌==◌}
use Rattle.std.specs.List.{list_any}
use Rattle.std.proofs.lemmas.Bool.Decides.{nat_tests}
use Rattle.std.proofs.lemmas.List.Elements.{All-nil, All-cons}
use Rattle.cip_events.specs.declared.profile_fault.ProfileFault.{ProfileFault}
use Rattle.cip_tables.specs.declared.table.Config.{Config}
use Rattle.cip_tables.specs.Step.{config_fault}
use Rattle.segment_world.specs.declared.configs.DeviceKey.TheVariants.{Incarnation, Address}
use Rattle.segment_world.specs.declared.fault.WorldFault.{WorldFault}
use Rattle.segment_world.specs.declared.fault.WorldFault.TheVariants.{SameIncarnation, SameNode}
use Rattle.segment_world.specs.Configs.{any_twice, fault_or, first_fault, key_in, profile_fault_of, world_fault}
use Rattle.line_threads.specs.Lines.{Apart, byte_of}

-- INCARNATION BYTES

or_parts : (a b : Bool) → (a || b) ≡ false → (a ≡ false) × (b ≡ false)
or_parts true b is = absurd (let e = is in cc)
or_parts false b is = (refl, is)

differs : (n m : ℕ) → (n == m) ≡ false → n ≢ m
differs n m is = grind (arith, nat_tests)

others : (made : Config) (configs : List Config) → list_any (λ other. key_in Incarnation other == key_in Incarnation made) configs ≡ false → All (λ n. n ≢ byte_of made) (map byte_of configs)
others made [] none = All-nil (λ n. n ≢ byte_of made)
others made (other ∷ configs) none =
    let parts = or_parts (key_in Incarnation other == key_in Incarnation made) (list_any (λ x. key_in Incarnation x == key_in Incarnation made) configs) none in
    All-cons (λ n. n ≢ byte_of made) (byte_of other) (map byte_of configs) (differs _ _ parts.0) (others made configs parts.1)

apart_of : (configs : List Config) → any_twice Incarnation configs ≡ false → Apart (map byte_of configs)
unfolding any_twice
apart_of [] once = tt
apart_of (made ∷ configs) once =
    let parts = or_parts (list_any (λ other. key_in Incarnation other == key_in Incarnation made) configs) (any_twice Incarnation configs) once in
    (others made configs parts.0, apart_of configs parts.1)

-- PROFILES

none_of : (wrong : Option ProfileFault) → profile_fault_of wrong ≡ None → wrong ≡ None
none_of None is = refl
none_of (Some fault) is = absurd (let e = is in cc)

none_or : (o later : Option ProfileFault) → fault_or o later ≡ None → (o ≡ None) × (later ≡ None)
none_or None later is = (refl, is)
none_or (Some fault) later is = absurd (let e = is in cc)

valid_of : (configs : List Config) → first_fault configs ≡ None → All (λ c. config_fault c ≡ None) configs
unfolding first_fault
valid_of [] none = All-nil (λ c. config_fault c ≡ None)
valid_of (config ∷ configs) none =
    let parts = none_or (config_fault config) (first_fault configs) none in
    All-cons (λ c. config_fault c ≡ None) config configs parts.0 (valid_of configs parts.1)

-- BOTH

parts_of : (a b : Bool) (wrong : Option WorldFault) → cond a (Some SameIncarnation) (cond b (Some SameNode) wrong) ≡ None → (a ≡ false) × (wrong ≡ None)
parts_of true b wrong none = absurd (let e = none in cc)
parts_of false true wrong none = absurd (let e = none in cc)
parts_of false false wrong none = (refl, none)

pub bytes_are_apart : (configs : List Config) → world_fault configs ≡ None → Apart (map byte_of configs)
bytes_are_apart configs none =
    apart_of configs (parts_of (any_twice Incarnation configs) (any_twice Address configs) (profile_fault_of (first_fault configs)) none).0

pub all_valid : (configs : List Config) → world_fault configs ≡ None → All (λ c. config_fault c ≡ None) configs
all_valid configs none =
    valid_of configs (none_of (first_fault configs) (parts_of (any_twice Incarnation configs) (any_twice Address configs) (profile_fault_of (first_fault configs)) none).1)
