-- The points of a faultless profile differ, and each is found among them.
use Rattle.std.proofs.Common.{◌≡◌, ℕ, ◌==◌, Bool, true, false, cond, not, ◌||◌, List, [], ◌∷◌, ◌++◌, map, find, Option, Some, None, option_to_list, refl, ap, subst, arith}
use Rattle.std.specs.List.{list_any}
use Rattle.std.proofs.lemmas.Bool.{eqb-true, not-true, not-false, and_parts, or_parts}
use Rattle.std.proofs.lemmas.Bool.Decides.{nat_tests}
use Rattle.std.proofs.lemmas.Grind.{common_steps}
use Rattle.adapter_table.specs.declared.profile.Profile.{Profile}
use Rattle.adapter_table.specs.declared.profile.InputPoint.{InputPoint}
use Rattle.adapter_table.specs.declared.profile.OutputPoint.{OutputPoint}
use Rattle.cip_types.specs.Cases.{Case, first_case}
use Rattle.cip_events.specs.declared.profile_fault.ProfileFault.{ProfileFault}
use Rattle.adapter_table.specs.Profiles.{is_at, is_output_at, heartbeat, as_point, all_points, are_distinct, profile_fault, profile_tests}
use Rattle.adapter_table.specs.Points.{data_points}

-- ---- the points of a faultless profile differ

-- each test passes
abbrev pub AllPass : List (Case ProfileFault) → Type 0
AllPass [] = Unit {0}
AllPass (test ∷ rest) = (test.0 ≡ false) × AllPass rest

test_passes : (b : Bool) (fault : ProfileFault) (rest : Option ProfileFault) → cond b (Some fault) rest ≡ None → (b ≡ false) × (rest ≡ None)
test_passes true fault rest none = cc
test_passes false fault rest none = (refl, none)

pub all_pass : (tests : List (Case ProfileFault)) → first_case tests ≡ None → AllPass tests
all_pass [] none = tt
all_pass (test ∷ rest) none = let first = test_passes test.0 test.1 (first_case rest) none in (first.0, all_pass rest first.1)

all_differ : (profile : Profile) → profile_fault profile ≡ None → are_distinct (all_points profile) ≡ true
unfolding profile_fault
all_differ profile none = not-false (are_distinct (all_points profile)) (all_pass (profile_tests profile) none).1.1.1.0

any_front : (instance : ℕ) (xs ys : List InputPoint) → list_any (is_at instance) (xs ++ ys) ≡ false → list_any (is_at instance) xs ≡ false
any_front instance [] ys none = refl
any_front instance (x ∷ xs) ys none =
    let parts = or_parts (is_at instance x) (list_any (is_at instance) (xs ++ ys)) none in
    rw parts.0 (any_front instance xs ys parts.1)

distinct_front : (xs ys : List InputPoint) → are_distinct (xs ++ ys) ≡ true → are_distinct xs ≡ true
distinct_front [] ys differ = refl
distinct_front (x ∷ xs) ys differ =
    let parts = and_parts (not (list_any (is_at x.instance) (xs ++ ys))) (are_distinct (xs ++ ys)) differ in
    rw (any_front x.instance xs ys (not-true _ parts.0)) (distinct_front xs ys parts.1)

pub distinct_back : (xs ys : List InputPoint) → are_distinct (xs ++ ys) ≡ true → are_distinct ys ≡ true
distinct_back [] ys differ = differ
distinct_back (x ∷ xs) ys differ = distinct_back xs ys (and_parts (not (list_any (is_at x.instance) (xs ++ ys))) (are_distinct (xs ++ ys)) differ).1

beside_apart : (outputs inputs config beside : List InputPoint) → outputs ++ (inputs ++ (config ++ beside)) ≡ (outputs ++ (inputs ++ config)) ++ beside
beside_apart outputs inputs config beside = grind (arith, common_steps)

pub points_differ : (profile : Profile) → profile_fault profile ≡ None → are_distinct (data_points profile) ≡ true
points_differ profile none =
    let whole = subst (λ (ps : List InputPoint). are_distinct ps ≡ true) (beside_apart (map as_point profile.outputs) profile.inputs (option_to_list profile.config) (heartbeat profile.input_only ∷ heartbeat profile.listen_only ∷ [])) (all_differ profile none) in
    distinct_front (data_points profile) _ whole

-- ---- finding a point among them

find_step : (b : Bool) (first point : InputPoint) (rest later : Option InputPoint) → cond b (Some first) rest ≡ Some point → (rest ≡ Some point → later ≡ Some point) → cond b (Some first) later ≡ Some point
find_step true first point rest later is more = is
find_step false first point rest later is more = more is

-- what is found in a list is found first in a longer one
pub find_front : (instance : ℕ) (xs ys : List InputPoint) (point : InputPoint) → find (is_at instance) xs ≡ Some point → find (is_at instance) (xs ++ ys) ≡ Some point
find_front instance [] ys point is = absurd cc
find_front instance (x ∷ xs) ys point is = find_step (is_at instance x) x point (find (is_at instance) xs) (find (is_at instance) (xs ++ ys)) is (find_front instance xs ys point)

any_step : (b : Bool) (first point : InputPoint) (rest : Option InputPoint) (any : Bool) → cond b (Some first) rest ≡ Some point → (rest ≡ Some point → any ≡ true) → (b || any) ≡ true
any_step true first point rest any is more = refl
any_step false first point rest any is more = more is

pub any_found : (instance : ℕ) (ys : List InputPoint) (point : InputPoint) → find (is_at instance) ys ≡ Some point → list_any (is_at instance) ys ≡ true
any_found instance [] point is = absurd cc
any_found instance (y ∷ ys) point is = any_step (is_at instance y) y point (find (is_at instance) ys) (list_any (is_at instance) ys) is (any_found instance ys point)

any_back : (instance : ℕ) (xs ys : List InputPoint) → list_any (is_at instance) (xs ++ ys) ≡ false → list_any (is_at instance) ys ≡ false
any_back instance [] ys none = none
any_back instance (x ∷ xs) ys none = any_back instance xs ys (or_parts (is_at instance x) (list_any (is_at instance) (xs ++ ys)) none).1

-- a point at an instance, after which no other one is
none_behind : (instance : ℕ) (x : InputPoint) (xs ys : List InputPoint) → is_at instance x ≡ true → are_distinct (x ∷ (xs ++ ys)) ≡ true → list_any (is_at instance) ys ≡ false
none_behind instance x xs ys here differ =
    let same : x.instance ≡ instance = grind (arith, nat_tests) in
    let parts = and_parts (not (list_any (is_at x.instance) (xs ++ ys))) (are_distinct (xs ++ ys)) differ in
    subst (λ (n : ℕ). list_any (is_at n) ys ≡ false) same (any_back x.instance xs ys (not-true _ parts.0))

behind_step : (b : Bool) (instance : ℕ) (x point : InputPoint) (ys : List InputPoint) (later : Option InputPoint) → (b ≡ true → list_any (is_at instance) ys ≡ false) → find (is_at instance) ys ≡ Some point → later ≡ Some point → cond b (Some x) later ≡ Some point
behind_step true instance x point ys later none is more =
    let none = none refl in
    let some = any_found instance ys point is in
    absurd cc
behind_step false instance x point ys later none is more = more

-- what is found in the last of points that differ is found among all
pub find_behind : (instance : ℕ) (xs ys : List InputPoint) (point : InputPoint) → are_distinct (xs ++ ys) ≡ true → find (is_at instance) ys ≡ Some point → find (is_at instance) (xs ++ ys) ≡ Some point
find_behind instance [] ys point differ is = is
find_behind instance (x ∷ xs) ys point differ is =
    let parts = and_parts (not (list_any (is_at x.instance) (xs ++ ys))) (are_distinct (xs ++ ys)) differ in
    behind_step (is_at instance x) instance x point ys (find (is_at instance) (xs ++ ys)) (λ here. none_behind instance x xs ys here differ) is (find_behind instance xs ys point parts.1 is)

-- points that differ: none at an instance is both in the front and behind it
pub none_both : (instance : ℕ) (xs ys : List InputPoint) → are_distinct (xs ++ ys) ≡ true → list_any (is_at instance) xs ≡ true → list_any (is_at instance) ys ≡ false
none_both instance [] ys differ here = absurd cc
none_both instance (x ∷ xs) ys differ here =
    let parts = and_parts (not (list_any (is_at x.instance) (xs ++ ys))) (are_distinct (xs ++ ys)) differ in
    both_step (is_at instance x) (list_any (is_at instance) xs) (list_any (is_at instance) ys) (λ is. none_behind instance x xs ys is differ) (λ is. none_both instance xs ys parts.1 is) here where
      both_step : (b c any : Bool) → (b ≡ true → any ≡ false) → (c ≡ true → any ≡ false) → (b || c) ≡ true → any ≡ false
      both_step true c any first later here = first refl
      both_step false c any first later here = later here

-- ---- the points of each kind are found among all

output_step : (b : Bool) (first output : OutputPoint) (rest : Option OutputPoint) (later : Option InputPoint) → cond b (Some first) rest ≡ Some output → (rest ≡ Some output → later ≡ Some (as_point output)) → cond b (Some (as_point first)) later ≡ Some (as_point output)
output_step true first output rest later is more = let same : first ≡ output = cc in ap (λ (o : OutputPoint). Some (as_point o)) same
output_step false first output rest later is more = more is

output_among : (instance : ℕ) (outputs : List OutputPoint) (output : OutputPoint) → find (is_output_at instance) outputs ≡ Some output → find (is_at instance) (map as_point outputs) ≡ Some (as_point output)
output_among instance [] output is = absurd cc
output_among instance (first ∷ outputs) output is = output_step (is_output_at instance first) first output (find (is_output_at instance) outputs) (find (is_at instance) (map as_point outputs)) is (output_among instance outputs output)

pub output_found : (profile : Profile) (instance : ℕ) (output : OutputPoint) → find (is_output_at instance) profile.outputs ≡ Some output → find (is_at instance) (data_points profile) ≡ Some (as_point output)
output_found profile instance output is = find_front instance (map as_point profile.outputs) (profile.inputs ++ option_to_list profile.config) (as_point output) (output_among instance profile.outputs output is)

pub input_found : (profile : Profile) (instance : ℕ) (point : InputPoint) → profile_fault profile ≡ None → find (is_at instance) profile.inputs ≡ Some point → find (is_at instance) (data_points profile) ≡ Some point
input_found profile instance point none is = find_behind instance (map as_point profile.outputs) (profile.inputs ++ option_to_list profile.config) point (points_differ profile none) (find_front instance profile.inputs (option_to_list profile.config) point is)

config_among : (config : Option InputPoint) (point : InputPoint) → config ≡ Some point → find (is_at point.instance) (option_to_list config) ≡ Some point
config_among None point is = absurd cc
config_among (Some config) point is =
    let same : config ≡ point = cc in
    let here : is_at point.instance config ≡ true = grind (arith, nat_tests, ap (λ (p : InputPoint). p.instance) same) in
    rw here is

-- the point that is found at the configuration's instance comes after the outputs
config_behind : (profile : Profile) (point : InputPoint) → profile_fault profile ≡ None → profile.config ≡ Some point → find (is_at point.instance) (profile.inputs ++ option_to_list profile.config) ≡ Some point
config_behind profile point none is =
    let back = distinct_back (map as_point profile.outputs) (profile.inputs ++ option_to_list profile.config) (points_differ profile none) in
    find_behind point.instance profile.inputs (option_to_list profile.config) point back (config_among profile.config point is)

pub configuration_found : (profile : Profile) (point : InputPoint) → profile_fault profile ≡ None → profile.config ≡ Some point → find (is_at point.instance) (data_points profile) ≡ Some point
configuration_found profile point none is =
    find_behind point.instance (map as_point profile.outputs) (profile.inputs ++ option_to_list profile.config) point (points_differ profile none) (config_behind profile point none is)

-- ---- an output is no other point

-- what is found behind the outputs is none of them
pub no_output : (profile : Profile) (instance other : ℕ) (output : OutputPoint) (point : InputPoint) → profile_fault profile ≡ None → find (is_output_at instance) profile.outputs ≡ Some output → find (is_at other) (profile.inputs ++ option_to_list profile.config) ≡ Some point → (other == instance) ≡ false
no_output profile instance other output point none is there = apart (other == instance) refl where
  apart : (b : Bool) → (other == instance) ≡ b → b ≡ false
  apart true same =
      let front = any_found instance (map as_point profile.outputs) (as_point output) (output_among instance profile.outputs output is) in
      let behind = none_both instance (map as_point profile.outputs) (profile.inputs ++ option_to_list profile.config) (points_differ profile none) front in
      let some = any_found instance (profile.inputs ++ option_to_list profile.config) point (subst (λ (n : ℕ). find (is_at n) (profile.inputs ++ option_to_list profile.config) ≡ Some point) (eqb-true other instance same) there) in
      absurd cc
  apart false same = refl

-- an input is none
pub input_no_output : (profile : Profile) (instance other : ℕ) (output : OutputPoint) (point : InputPoint) → profile_fault profile ≡ None → find (is_output_at instance) profile.outputs ≡ Some output → find (is_at other) profile.inputs ≡ Some point → (other == instance) ≡ false
input_no_output profile instance other output point none is there =
    no_output profile instance other output point none is (find_front other profile.inputs (option_to_list profile.config) point there)

-- the configuration is none
pub configuration_no_output : (profile : Profile) (instance : ℕ) (output : OutputPoint) (point : InputPoint) → profile_fault profile ≡ None → find (is_output_at instance) profile.outputs ≡ Some output → profile.config ≡ Some point → (point.instance == instance) ≡ false
configuration_no_output profile instance output point none is there =
    no_output profile instance point.instance output point none is (config_behind profile point none there)
