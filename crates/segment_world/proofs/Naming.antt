-- No two lives have one incarnation byte, and no configuration of a life has a fault.
use Rattle.std.proofs.Common.{arith, ◌≡◌, ℕ, zero, suc, ◌==◌, ◌&&◌, ◌||◌, ◌≤◌, not, Bool, true, false, cond, List, [], ◌∷◌, ◌++◌, slice_get, Option, Some, None, Result, Ok, Err, refl, sym, ◌∙◌, ap, subst}
use Rattle.std.specs.List.{AllByRecursion, list_any}
use Rattle.std.specs.Option.{IfSome}
use Rattle.std.specs.Prelude.{is_none}
use Rattle.std.proofs.lemmas.Bool.{or_parts}
use Rattle.std.proofs.lemmas.Bool.Decides.{nat_tests}
use Rattle.std.proofs.lemmas.Option.{same_Some}
use Rattle.base_lemmas.specs.Numbers.{other_number}
use Rattle.cip_types.specs.Cases.{Case, first_case}
use Rattle.cip_types.specs.declared.ids.IdBlock.{IdBlock}
use Rattle.cip_types.specs.Ids.{are_ids}
use Rattle.cip_events.specs.declared.profile_fault.ProfileFault.{ProfileFault}
use Rattle.cip_events.specs.declared.profile_fault.ProfileFault.TheVariants as profile_fault
use Rattle.adapter_table.specs.Profiles as adapters
use Rattle.scanner_table.specs.Profiles as scanners
use Rattle.cip_tables.specs.declared.table.Config.{Config}
use Rattle.cip_tables.specs.declared.table.Config.TheVariants.{Adapter, Scanner}
use Rattle.cip_tables.specs.Ids.{stated_ids, with_ids}
use Rattle.cip_tables.specs.Step.{config_fault}
use Rattle.segment_world.specs.declared.act.Act.{Act}
use Rattle.segment_world.specs.declared.act.ActFault.{ActFault}
use Rattle.segment_world.specs.declared.configs.DeviceKey.TheVariants.{Incarnation, Address}
use Rattle.segment_world.specs.declared.fault.WorldFault.TheVariants.{SameIncarnation, SameNode}
use Rattle.segment_world.specs.Configs.{key_in, any_twice, fault_or, first_fault, profile_fault_of}
use Rattle.segment_world.specs.World.{Happened, happens}
use Rattle.segment_world.specs.Lives.Plants.{Plant, life_of, act_of_lives}
use Rattle.segment_world.specs.Lives.Restarts.{with_incarnation, ids_of_next, next_config, is_used, restarts_unless, restarts_as, restarts_at}
use Rattle.segment_world.specs.Lives.Stories.{Move, Performed, Restart, IsByteMove, StateNoIds, PlantStory, fresh_story, with_act, with_act_of_lives, cuts_at, with_restart, then_move, plays, IncarnationsNameLives}

-- PROFILES

-- whether another first test fails
other_first : (b c : Bool) (fault : ProfileFault) (rest : List (Case ProfileFault)) → first_case ((b, fault) ∷ rest) ≡ None → c ≡ false → first_case ((c, fault) ∷ rest) ≡ None
other_first true c fault rest none other = absurd (let e = none in cc)
other_first false c fault rest none other = subst (λ (x : Bool). first_case ((x, fault) ∷ rest) ≡ None) (sym other) none

tests_behind : List (Case ProfileFault) → List (Case ProfileFault)
tests_behind [] = []
tests_behind (first ∷ rest) = rest

-- the ids of a byte that is not 0 are a block
pub byte_ids : (byte : ℕ) → (byte == 0) ≡ false → byte ≤ 255 → not (are_ids byte None) ≡ false
byte_ids byte other le = grind (arith, nat_tests)

-- another incarnation and other ids make no fault, if they are ids that a device can begin with
pub none_next : (byte : ℕ) (ids : Option IdBlock) (config : Config) → config_fault config ≡ None → not (are_ids byte ids) ≡ false → config_fault (with_ids ids (with_incarnation byte config)) ≡ None
unfolding adapters.profile_fault scanners.profile_fault tests_behind
none_next byte ids (Adapter profile) none good = other_first (not (are_ids profile.incarnation profile.ids)) (not (are_ids byte ids)) profile_fault.Incarnation (tests_behind (adapters.profile_tests profile)) none good
none_next byte ids (Scanner profile) none good = other_first (not (are_ids profile.incarnation profile.ids)) (not (are_ids byte ids)) profile_fault.Incarnation (tests_behind (scanners.profile_tests profile)) none good

-- a byte that is not 0, and no stated ids, make no fault
none_again : (byte : ℕ) (config : Config) → config_fault config ≡ None → (byte == 0) ≡ false → byte ≤ 255 → config_fault (with_ids None (with_incarnation byte config)) ≡ None
none_again byte config none other le = none_next byte None config none (byte_ids byte other le)

-- the next configuration of one that states no ids
pub next_unstated : (p : Plant) (byte life : ℕ) (config : Config) → stated_ids config ≡ None → next_config p byte life config ≡ with_ids None (with_incarnation byte config)
next_unstated p byte life config none = ap (λ (ids : Option IdBlock). with_ids (ids_of_next p life ids) (with_incarnation byte config)) none

states_none : (config : Config) → stated_ids (with_ids None config) ≡ None
states_none (Adapter profile) = refl
states_none (Scanner profile) = refl

stated_at : (configs : List Config) (i : ℕ) (config : Config) → StateNoIds configs → slice_get configs i ≡ Some config → stated_ids config ≡ None
stated_at [] i config none at = absurd (let e = at in cc)
stated_at (first ∷ configs) zero config none at = subst (λ (c : Config). stated_ids c ≡ None) (same_Some first config at) none.0
stated_at (first ∷ configs) (suc i) config none at = stated_at configs i config none.1 at

stated_more : (configs : List Config) (config : Config) → StateNoIds configs → stated_ids config ≡ None → StateNoIds (configs ++ config ∷ [])
stated_more [] config none last = (last, tt)
stated_more (first ∷ configs) config none last = (none.0, stated_more configs config none.1 last)

none_or : (o later : Option ProfileFault) → fault_or o later ≡ None → (o ≡ None) × (later ≡ None)
none_or None later is = (refl, is)
none_or (Some fault) later is = absurd (let e = is in cc)

both_none : (o later : Option ProfileFault) → o ≡ None → later ≡ None → fault_or o later ≡ None
both_none None later first rest = rest
both_none (Some fault) later first rest = absurd (let e = first in cc)

pub good_at : (configs : List Config) (i : ℕ) (config : Config) → first_fault configs ≡ None → slice_get configs i ≡ Some config → config_fault config ≡ None
unfolding first_fault
good_at [] i config good at = absurd (let e = at in cc)
good_at (first ∷ configs) zero config good at = subst (λ (c : Config). config_fault c ≡ None) (same_Some first config at) (none_or (config_fault first) (first_fault configs) good).0
good_at (first ∷ configs) (suc i) config good at = good_at configs i config (none_or (config_fault first) (first_fault configs) good).1 at

pub good_more : (configs : List Config) (config : Config) → first_fault configs ≡ None → config_fault config ≡ None → first_fault (configs ++ config ∷ []) ≡ None
unfolding first_fault
good_more [] config good last = both_none (config_fault config) None last refl
good_more (first ∷ configs) config good last =
    let parts = none_or (config_fault first) (first_fault configs) good in
    both_none (config_fault first) (first_fault (configs ++ config ∷ [])) parts.0 (good_more configs config parts.1 last)

-- the list has the configuration at its end
pub first_good_more : (before room after : List Config) (config own : Config) → first_fault before ≡ None → config_fault config ≡ None → room ≡ before → after ≡ room ++ own ∷ [] → own ≡ config → first_fault after ≡ None
first_good_more before room after config own good last room_is after_is own_is =
    ap first_fault after_is
    ∙ ap (λ (l : List Config). first_fault (l ++ own ∷ [])) room_is
    ∙ ap (λ (c : Config). first_fault (before ++ c ∷ [])) own_is
    ∙ good_more before config good last

-- BYTES

any_more : (p : Config → Bool) (configs : List Config) (config : Config) → list_any p configs ≡ false → p config ≡ false → list_any p (configs ++ config ∷ []) ≡ false
any_more p [] config none last = ap (λ b. b || false) last
any_more p (first ∷ configs) config none last =
    let parts = or_parts (p first) (list_any p configs) none in
    ap (λ b. b || list_any p (configs ++ config ∷ [])) parts.0 ∙ any_more p configs config parts.1 last

twice_more : (configs : List Config) (config : Config) → any_twice Incarnation configs ≡ false → list_any (λ other. key_in Incarnation other == key_in Incarnation config) configs ≡ false → any_twice Incarnation (configs ++ config ∷ []) ≡ false
unfolding any_twice
twice_more [] config once new = refl
twice_more (first ∷ configs) config once new =
    let here = or_parts (list_any (λ other. key_in Incarnation other == key_in Incarnation first) configs) (any_twice Incarnation configs) once in
    let there = or_parts (key_in Incarnation first == key_in Incarnation config) (list_any (λ other. key_in Incarnation other == key_in Incarnation config) configs) new in
    ap (λ b. b || any_twice Incarnation (configs ++ config ∷ [])) (any_more (λ other. key_in Incarnation other == key_in Incarnation first) configs config here.0 (other_number (key_in Incarnation first) (key_in Incarnation config) there.0))
    ∙ twice_more configs config here.1 there.1

-- the configuration has the byte
byte_of : (byte : ℕ) (config : Config) → key_in Incarnation (with_ids None (with_incarnation byte config)) ≡ byte
byte_of byte (Adapter profile) = refl
byte_of byte (Scanner profile) = refl

-- MOVES

record Named (h : PlantStory) : Type 0 where
  unstated : StateNoIds h.plant.configs
  once : any_twice Incarnation h.plant.configs ≡ false
  good : first_fault h.plant.configs ≡ None

happened_names : (h : PlantStory) (act : Act) (said : Happened) → Named h → IfSome (with_act h act said) Named
happened_names h act (Err fault) named = tt
happened_names h act (Ok done) named = record { unstated = named.unstated; once = named.once; good = named.good }

act_names : (h : PlantStory) (act : Result Act ActFault) → Named h → IfSome (with_act_of_lives h act) Named
act_names h (Err fault) named = tt
act_names h (Ok act) named = happened_names h act (happens h.plant.world act) named

unless_names : (h : PlantStory) (cutting : List Act) (device byte life : ℕ) (config : Config) (used none : Bool) → byte ≤ 255 → stated_ids config ≡ None → is_used byte h.plant.configs ≡ used → (byte == 0) ≡ none → config_fault config ≡ None → Named h → IfSome (with_restart h cutting (restarts_unless h.plant device byte life config used none)) Named
unless_names h cutting device byte life config true none le unstated is zero_is good named = tt
unless_names h cutting device byte life config false true le unstated is zero_is good named = tt
unless_names h cutting device byte life config false false le unstated is zero_is good named =
    let next = with_ids None (with_incarnation byte config) in
    let same = sym (next_unstated h.plant byte life config unstated) in
    record {
      unstated = subst (λ (c : Config). StateNoIds (h.plant.configs ++ c ∷ [])) same (stated_more h.plant.configs next named.unstated (states_none (with_incarnation byte config)));
      once = subst (λ (c : Config). any_twice Incarnation (h.plant.configs ++ c ∷ []) ≡ false) same
          (twice_more h.plant.configs next named.once (subst (λ (n : ℕ). list_any (λ other. key_in Incarnation other == n) h.plant.configs ≡ false) (sym (byte_of byte config)) is));
      good = subst (λ (c : Config). first_fault (h.plant.configs ++ c ∷ []) ≡ None) same (good_more h.plant.configs next named.good (none_again byte config good zero_is le));
    }

-- where no ids are stated, each incarnation that a life has is refused
tested : (p : Plant) (byte : ℕ) (config : Config) → stated_ids config ≡ None → (is_none (stated_ids config) && is_used byte p.configs) ≡ is_used byte p.configs
tested p byte config none = ap (λ (ids : Option IdBlock). is_none ids && is_used byte p.configs) none

as_names : (h : PlantStory) (cutting : List Act) (device byte life : ℕ) (found : Option Config) → byte ≤ 255 → slice_get h.plant.configs life ≡ found → Named h → IfSome (with_restart h cutting (restarts_as h.plant device byte life found)) Named
as_names h cutting device byte life None le at named = tt
as_names h cutting device byte life (Some config) le at named =
    let unstated = stated_at h.plant.configs life config named.unstated at in
    unless_names h cutting device byte life config (is_none (stated_ids config) && is_used byte h.plant.configs) (byte == 0) le unstated (sym (tested h.plant byte config unstated)) refl
    (good_at h.plant.configs life config named.good at) named

at_names : (h : PlantStory) (device byte : ℕ) (life : Option ℕ) → byte ≤ 255 → Named h → IfSome (with_restart h (cuts_at h.plant life) (restarts_at h.plant device byte life)) Named
at_names h device byte None le named = tt
at_names h device byte (Some life) le named = as_names h (cuts_at h.plant (Some life)) device byte life (slice_get h.plant.configs life) le refl named

move_names : (so_far : Option PlantStory) (move : Move) → IsByteMove move → IfSome so_far Named → IfSome (then_move so_far move) Named
move_names None move le named = tt
move_names (Some h) (Performed act) le named = act_names h (act_of_lives h.plant act) named
move_names (Some h) (Restart device byte) le named = at_names h device byte (life_of h.plant device) le named

moves_name : (moves : List Move) (so_far : Option PlantStory) → AllByRecursion IsByteMove moves → IfSome so_far Named → IfSome (plays so_far moves) Named
unfolding plays
moves_name [] so_far all named = named
moves_name (move ∷ moves) so_far all named = moves_name moves (then_move so_far move) all.1 (move_names so_far move all.0 named)

-- THE LAW

begin_named : (twice same : Bool) (wrong : Option ProfileFault) → cond twice (Some SameIncarnation) (cond same (Some SameNode) (profile_fault_of wrong)) ≡ None → (twice ≡ false) × (wrong ≡ None)
begin_named true same wrong none = absurd (let e = none in cc)
begin_named false true wrong none = absurd (let e = none in cc)
begin_named false false (Some fault) none = absurd (let e = none in cc)
begin_named false false None none = (refl, refl)

pub names : IncarnationsNameLives
names configs moves h none unstated bytes is =
    let begins = begin_named (any_twice Incarnation configs) (any_twice Address configs) (first_fault configs) none in
    let named : Named h = subst (λ (o : Option PlantStory). IfSome o Named) is
    (moves_name moves (Some (fresh_story configs)) bytes (record { unstated = unstated; once = begins.0; good = begins.1 })) in
    (named.once, named.good, named.unstated)
