-- A faultless profile has few points, and short ones.
use Rattle.std.proofs.Common.{◌≡◌, ◌≤◌, ℕ, Bool, true, false, cond, List, [], ◌∷◌, ◌++◌, length, map, find, Option, Some, None, option_to_list, sym, ◌∙◌, ap, subst, arith}
use Rattle.std.specs.List.{list_all}
use Rattle.std.specs.Option.{option_map}
use Rattle.std.proofs.lemmas.Bool.{not-false, and_parts}
use Rattle.std.proofs.lemmas.Bool.Decides.{nat_tests}
use Rattle.adapter_table.specs.declared.profile.Profile.{Profile}
use Rattle.adapter_table.specs.declared.profile.InputPoint.{InputPoint}
use Rattle.adapter_table.specs.declared.profile.OutputPoint.{OutputPoint}
use Rattle.adapter_table.specs.declared.table.PointValue.{PointValue}
use Rattle.adapter_table.specs.Profiles.{is_at, is_output_at, as_point, profile_fault, profile_tests, are_few, are_long_enough, has_output_len, has_input_len, has_config_len}
use Rattle.adapter_table.specs.Points.{data_points, bytes_at}
use Rattle.adapter_table.specs.Shapes.{IsShaped, len_in}
use Rattle.adapter_table.specs.Shaping.{all_pass}
use Rattle.adapter_table.specs.Fitting.{length_is}

few_by : (profile : Profile) → are_few profile ≡ true → length profile.inputs ≤ 8
few_by profile few = grind (arith, nat_tests)

-- there are few inputs
pub few_inputs : (profile : Profile) → profile_fault profile ≡ None → length profile.inputs ≤ 8
unfolding profile_fault
few_inputs profile none = few_by profile (not-false (are_few profile) (all_pass (profile_tests profile) none).1.1.0)

long_enough : (profile : Profile) → profile_fault profile ≡ None → are_long_enough profile ≡ true
unfolding profile_fault
long_enough profile none = not-false (are_long_enough profile) (all_pass (profile_tests profile) none).1.1.1.1.0

output_is_short : (output : OutputPoint) → has_output_len output ≡ true → output.len ≤ 1400
output_is_short output fits = grind (arith, nat_tests)

found_step : (b : Bool) (first output : OutputPoint) (rest : Option OutputPoint) → cond b (Some first) rest ≡ Some output → first.len ≤ 1400 → (rest ≡ Some output → output.len ≤ 1400) → output.len ≤ 1400
found_step true first output rest is short more = let same : first ≡ output = cc in subst (λ (o : OutputPoint). o.len ≤ 1400) same short
found_step false first output rest is short more = more is

short_output : (instance : ℕ) (outputs : List OutputPoint) (output : OutputPoint) → list_all has_output_len outputs ≡ true → find (is_output_at instance) outputs ≡ Some output → output.len ≤ 1400
short_output instance [] output all is = absurd cc
short_output instance (first ∷ outputs) output all is =
    let parts = and_parts (has_output_len first) (list_all has_output_len outputs) all in
    found_step (is_output_at instance first) first output (find (is_output_at instance) outputs) is (output_is_short first parts.0) (λ later. short_output instance outputs output parts.1 later)

-- an output is short
pub output_len_short : (profile : Profile) (instance : ℕ) (output : OutputPoint) → profile_fault profile ≡ None → find (is_output_at instance) profile.outputs ≡ Some output → output.len ≤ 1400
output_len_short profile instance output none is =
    short_output instance profile.outputs output (and_parts (list_all has_output_len profile.outputs) _ (long_enough profile none)).0 is

input_is_short : (input : InputPoint) → has_input_len input ≡ true → input.len ≤ 1400
input_is_short input fits = grind (arith, nat_tests)

input_step : (b : Bool) (first input : InputPoint) (rest : Option InputPoint) → cond b (Some first) rest ≡ Some input → first.len ≤ 1400 → (rest ≡ Some input → input.len ≤ 1400) → input.len ≤ 1400
input_step true first input rest is short more = let same : first ≡ input = cc in subst (λ (o : InputPoint). o.len ≤ 1400) same short
input_step false first input rest is short more = more is

short_input : (instance : ℕ) (inputs : List InputPoint) (input : InputPoint) → list_all has_input_len inputs ≡ true → find (is_at instance) inputs ≡ Some input → input.len ≤ 1400
short_input instance [] input all is = absurd cc
short_input instance (first ∷ inputs) input all is =
    let parts = and_parts (has_input_len first) (list_all has_input_len inputs) all in
    input_step (is_at instance first) first input (find (is_at instance) inputs) is (input_is_short first parts.0) (λ later. short_input instance inputs input parts.1 later)

-- an input is short
pub input_len_short : (profile : Profile) (instance : ℕ) (input : InputPoint) → profile_fault profile ≡ None → find (is_at instance) profile.inputs ≡ Some input → input.len ≤ 1400
input_len_short profile instance input none is =
    short_input instance profile.inputs input (and_parts (list_all has_input_len profile.inputs) _ (and_parts (list_all has_output_len profile.outputs) _ (long_enough profile none)).1).0 is

-- ---- what a point holds

-- each point has at most 1,400 bytes
AllShort : List InputPoint → Type 0
AllShort [] = Unit {0}
AllShort (point ∷ points) = (point.len ≤ 1400) × AllShort points

short_append : (xs ys : List InputPoint) → AllShort xs → AllShort ys → AllShort (xs ++ ys)
unfolding AllShort
short_append [] ys left right = right
short_append (x ∷ xs) ys left right = (left.0, short_append xs ys left.1 right)

short_outputs : (outputs : List OutputPoint) → list_all has_output_len outputs ≡ true → AllShort (map as_point outputs)
unfolding AllShort
short_outputs [] all = tt
short_outputs (output ∷ outputs) all =
    let parts = and_parts (has_output_len output) (list_all has_output_len outputs) all in
    (output_is_short output parts.0, short_outputs outputs parts.1)

short_inputs : (inputs : List InputPoint) → list_all has_input_len inputs ≡ true → AllShort inputs
unfolding AllShort
short_inputs [] all = tt
short_inputs (input ∷ inputs) all =
    let parts = and_parts (has_input_len input) (list_all has_input_len inputs) all in
    (input_is_short input parts.0, short_inputs inputs parts.1)

config_is_short : (config : InputPoint) → has_config_len (Some config) ≡ true → config.len ≤ 1400
config_is_short config fits = grind (arith, nat_tests)

short_config : (config : Option InputPoint) → has_config_len config ≡ true → AllShort (option_to_list config)
unfolding AllShort
short_config None fits = tt
short_config (Some config) fits = (config_is_short config fits, tt)

all_short : (profile : Profile) → profile_fault profile ≡ None → AllShort (data_points profile)
all_short profile none =
    let a = and_parts (list_all has_output_len profile.outputs) _ (long_enough profile none) in
    let b = and_parts (list_all has_input_len profile.inputs) _ a.1 in
    short_append (map as_point profile.outputs) _ (short_outputs profile.outputs a.0) (short_append profile.inputs _ (short_inputs profile.inputs b.0) (short_config profile.config b.1))

len_step : (b : Bool) (point : InputPoint) (rest : Option InputPoint) (len : ℕ) → option_map len_in (cond b (Some point) rest) ≡ Some len → point.len ≤ 1400 → (option_map len_in rest ≡ Some len → len ≤ 1400) → len ≤ 1400
len_step true point rest len is short more = let same : point.len ≡ len = cc in subst (λ (n : ℕ). n ≤ 1400) same short
len_step false point rest len is short more = more is

len_short : (instance : ℕ) (points : List InputPoint) (len : ℕ) → AllShort points → option_map len_in (find (is_at instance) points) ≡ Some len → len ≤ 1400
unfolding AllShort
len_short instance [] len short is = absurd cc
len_short instance (point ∷ points) len short is =
    len_step (is_at instance point) point (find (is_at instance) points) len is short.0 (λ later. len_short instance points len short.1 later)

-- what a point holds is short
pub bytes_short : (profile : Profile) (values : List PointValue) (point : ℕ) (point_bytes : List ℕ) → IsShaped profile values → bytes_at values point ≡ Some point_bytes → length point_bytes ≤ 1400
bytes_short profile values point point_bytes shaped is =
    len_short point (data_points profile) (length point_bytes) (all_short profile shaped.faultless) (sym (length_is profile values point shaped) ∙ ap (option_map (λ (bytes : List ℕ). length bytes)) is)
