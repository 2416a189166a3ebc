-- What a point holds after a change of the values.
use Rattle.std.proofs.Common.{◌≡◌, ℕ, ◌==◌, Bool, true, false, cond, List, [], ◌∷◌, length, map, find, replicate, Option, Some, None, refl, ◌∙◌, ap, subst, arith}
use Rattle.std.specs.Option.{option_map, unwrap_or}
use Rattle.std.proofs.lemmas.Bool.{eqb-true}
use Rattle.std.proofs.lemmas.Bool.Decides.{nat_tests}
use Rattle.adapter_table.specs.declared.profile.Action.{Action}
use Rattle.adapter_table.specs.declared.profile.Action.TheVariants.{Hold, Zero}
use Rattle.adapter_table.specs.declared.profile.InputPoint.{InputPoint}
use Rattle.adapter_table.specs.declared.profile.OutputPoint.{OutputPoint}
use Rattle.adapter_table.specs.declared.profile.Profile.{Profile}
use Rattle.adapter_table.specs.declared.table.PointValue.{PointValue}
use Rattle.adapter_table.specs.Profiles.{is_at, is_output_at}
use Rattle.adapter_table.specs.Points.{zeros, is_value_of, changed_value, put_value, bytes_of, bytes_at, zeroed_value, acted_values, fault_values, lost_values, idle_action_values, idle_values}
use Rattle.adapter_table.specs.Scratch.{left_by, left_idle, left_lost}

-- ---- values are changed in place

-- a change leaves each value at its point
Stays : (PointValue → PointValue) → Type 0
Stays f = (value : PointValue) → (f value).point ≡ value.point

same_test : (f : PointValue → PointValue) (point : ℕ) (value : PointValue) → Stays f → is_value_of point (f value) ≡ is_value_of point value
unfolding Stays
same_test f point value stays = ap (λ (n : ℕ). n == point) (stays value)

mapped_step : (b c : Bool) (f : PointValue → PointValue) (value : PointValue) (rest found : Option PointValue) → b ≡ c → rest ≡ option_map f found → cond b (Some (f value)) rest ≡ option_map f (cond c (Some value) found)
mapped_step true true f value rest found same is = refl
mapped_step true false f value rest found same is = absurd cc
mapped_step false true f value rest found same is = absurd cc
mapped_step false false f value rest found same is = is

-- the value of a point among the changed ones is the changed value of the point
find_mapped : (f : PointValue → PointValue) (point : ℕ) (values : List PointValue) → Stays f → find (is_value_of point) (map f values) ≡ option_map f (find (is_value_of point) values)
find_mapped f point [] stays = refl
find_mapped f point (value ∷ values) stays =
    mapped_step (is_value_of point (f value)) (is_value_of point value) f value (find (is_value_of point) (map f values)) (find (is_value_of point) values) (same_test f point value stays) (find_mapped f point values stays)

is_step : (b : Bool) (point : ℕ) (first value : PointValue) (rest : Option PointValue) → is_value_of point first ≡ b → cond b (Some first) rest ≡ Some value → (rest ≡ Some value → is_value_of point value ≡ true) → is_value_of point value ≡ true
is_step true point first value rest here is more = let same : first ≡ value = cc in subst (λ (v : PointValue). is_value_of point v ≡ true) same here
is_step false point first value rest here is more = more is

found_is : (point : ℕ) (values : List PointValue) (value : PointValue) → find (is_value_of point) values ≡ Some value → is_value_of point value ≡ true
found_is point [] value is = absurd cc
found_is point (first ∷ values) value is = is_step (is_value_of point first) point first value (find (is_value_of point) values) refl is (found_is point values value)

-- where the changed value of the point is known from the value
at_found : (f : PointValue → PointValue) (point : ℕ) (found : Option PointValue) (point_bytes left : List ℕ) → option_map bytes_of found ≡ Some point_bytes → ((value : PointValue) → found ≡ Some value → value.bytes ≡ point_bytes → (f value).bytes ≡ left) → option_map bytes_of (option_map f found) ≡ Some left
at_found f point None point_bytes left holds leaves = absurd cc
at_found f point (Some value) point_bytes left holds leaves = let same : value.bytes ≡ point_bytes = cc in ap Some (leaves value refl same)

bytes_mapped : (f : PointValue → PointValue) (point : ℕ) (values : List PointValue) (point_bytes left : List ℕ) → Stays f → bytes_at values point ≡ Some point_bytes → ((value : PointValue) → is_value_of point value ≡ true → value.bytes ≡ point_bytes → (f value).bytes ≡ left) → bytes_at (map f values) point ≡ Some left
bytes_mapped f point values point_bytes left stays holds leaves =
    ap (option_map bytes_of) (find_mapped f point values stays)
    ∙ at_found f point (find (is_value_of point) values) point_bytes left holds (λ value found same. leaves value (found_is point values value found) same)

-- ---- other bytes

put_stays : (point : ℕ) (bytes : List ℕ) → Stays (changed_value point bytes)
unfolding Stays
put_stays point bytes value = stay_step (is_value_of point value) where
  stay_step : (b : Bool) → (cond b (record value { bytes = bytes }) value).point ≡ value.point
  stay_step true = refl
  stay_step false = refl

-- a point holds the bytes that are put there
pub put_at : (point : ℕ) (bytes : List ℕ) (values : List PointValue) (point_bytes : List ℕ) → bytes_at values point ≡ Some point_bytes → bytes_at (put_value point bytes values) point ≡ Some bytes
put_at point bytes values point_bytes holds =
    bytes_mapped (changed_value point bytes) point values point_bytes bytes (put_stays point bytes) holds (λ value here same. put_step (is_value_of point value) value here) where
      put_step : (b : Bool) (value : PointValue) → b ≡ true → (cond b (record value { bytes = bytes }) value).bytes ≡ bytes
      put_step true value here = refl
      put_step false value here = absurd cc

apart : (point other n : ℕ) → (n == point) ≡ true → (other == point) ≡ false → (n == other) ≡ false
apart point other n here differ = grind (arith, nat_tests)

-- and another one what it held
pub put_beside : (point other : ℕ) (bytes : List ℕ) (values : List PointValue) (point_bytes : List ℕ) → (other == point) ≡ false → bytes_at values point ≡ Some point_bytes → bytes_at (put_value other bytes values) point ≡ Some point_bytes
put_beside point other bytes values point_bytes differ holds =
    bytes_mapped (changed_value other bytes) point values point_bytes point_bytes (put_stays other bytes) holds (λ value here same. beside_step (is_value_of other value) value (apart point other value.point here differ) same) where
      beside_step : (b : Bool) (value : PointValue) → b ≡ false → value.bytes ≡ point_bytes → (cond b (record value { bytes = bytes }) value).bytes ≡ point_bytes
      beside_step true value there same = absurd cc
      beside_step false value there same = same

-- ---- zeros

zeroed_stays : (point : ℕ) → Stays (zeroed_value point)
unfolding Stays
zeroed_stays point value = stay_step (is_value_of point value) where
  stay_step : (b : Bool) → (cond b (record value { bytes = replicate (length value.bytes) 0 }) value).point ≡ value.point
  stay_step true = refl
  stay_step false = refl

zeroed_at : (point : ℕ) (values : List PointValue) (point_bytes : List ℕ) → bytes_at values point ≡ Some point_bytes → bytes_at (map (zeroed_value point) values) point ≡ Some (replicate (length point_bytes) 0)
zeroed_at point values point_bytes holds =
    bytes_mapped (zeroed_value point) point values point_bytes (replicate (length point_bytes) 0) (zeroed_stays point) holds (λ value here same. zero_step (is_value_of point value) value here same) where
      zero_step : (b : Bool) (value : PointValue) → b ≡ true → value.bytes ≡ point_bytes → (cond b (record value { bytes = replicate (length value.bytes) 0 }) value).bytes ≡ replicate (length point_bytes) 0
      zero_step true value here same = ap (λ (bytes : List ℕ). replicate (length bytes) 0) same
      zero_step false value here same = absurd cc

zeroed_beside : (point other : ℕ) (values : List PointValue) (point_bytes : List ℕ) → (other == point) ≡ false → bytes_at values point ≡ Some point_bytes → bytes_at (map (zeroed_value other) values) point ≡ Some point_bytes
zeroed_beside point other values point_bytes differ holds =
    bytes_mapped (zeroed_value other) point values point_bytes point_bytes (zeroed_stays other) holds (λ value here same. beside_step (is_value_of other value) value (apart point other value.point here differ) same) where
      beside_step : (b : Bool) (value : PointValue) → b ≡ false → value.bytes ≡ point_bytes → (cond b (record value { bytes = replicate (length value.bytes) 0 }) value).bytes ≡ point_bytes
      beside_step true value there same = absurd cc
      beside_step false value there same = same

-- ---- an action

-- what an action leaves at its output
acted_at : (action : Action) (point len : ℕ) (values : List PointValue) (point_bytes : List ℕ) → bytes_at values point ≡ Some point_bytes → length point_bytes ≡ len → bytes_at (acted_values action point values) point ≡ Some (unwrap_or (left_by action len) point_bytes)
acted_at Hold point len values point_bytes holds long = holds
acted_at Zero point len values point_bytes holds long = zeroed_at point values point_bytes holds ∙ ap (λ (n : ℕ). Some (replicate n 0)) long

acted_beside : (action : Action) (point other : ℕ) (values : List PointValue) (point_bytes : List ℕ) → (other == point) ≡ false → bytes_at values point ≡ Some point_bytes → bytes_at (acted_values action other values) point ≡ Some point_bytes
acted_beside Hold point other values point_bytes differ holds = holds
acted_beside Zero point other values point_bytes differ holds = zeroed_beside point other values point_bytes differ holds

at_step : (b : Bool) (point : ℕ) (first output : OutputPoint) (rest : Option OutputPoint) → is_output_at point first ≡ b → cond b (Some first) rest ≡ Some output → (rest ≡ Some output → output.instance ≡ point) → output.instance ≡ point
at_step true point first output rest here is more = let same : first ≡ output = cc in ap (λ (o : OutputPoint). o.instance) (let back : output ≡ first = cc in back) ∙ eqb-true first.instance point here
at_step false point first output rest here is more = more is

-- the output that is found at an instance has it
pub output_is : (point : ℕ) (outputs : List OutputPoint) (output : OutputPoint) → find (is_output_at point) outputs ≡ Some output → output.instance ≡ point
output_is point [] output is = absurd cc
output_is point (first ∷ outputs) output is = at_step (is_output_at point first) point first output (find (is_output_at point) outputs) refl is (output_is point outputs output)

-- what the fault action leaves at its output
pub lost_at : (profile : Profile) (point : ℕ) (output : OutputPoint) (values : List PointValue) (point_bytes : List ℕ) → find (is_output_at point) profile.outputs ≡ Some output → bytes_at values point ≡ Some point_bytes → length point_bytes ≡ output.len → bytes_at (lost_values profile point values) point ≡ Some (unwrap_or (left_lost (find (is_output_at point) profile.outputs)) point_bytes)
lost_at profile point output values point_bytes is holds long =
    rw is (subst (λ (n : ℕ). bytes_at (acted_values output.fault n values) point ≡ Some (unwrap_or (left_by output.fault output.len) point_bytes)) (let back : point ≡ output.instance = let e = output_is point profile.outputs output is in cc in back) (acted_at output.fault point output.len values point_bytes holds long))

lost_by : (found : Option OutputPoint) (point other : ℕ) (values : List PointValue) (point_bytes : List ℕ) → ((output : OutputPoint) → found ≡ Some output → (output.instance == point) ≡ false) → bytes_at values point ≡ Some point_bytes → bytes_at (fault_values found values) point ≡ Some point_bytes
lost_by None point other values point_bytes differ holds = holds
lost_by (Some output) point other values point_bytes differ holds = acted_beside output.fault point output.instance values point_bytes (differ output refl) holds

-- and at another one
pub lost_beside : (profile : Profile) (point other : ℕ) (values : List PointValue) (point_bytes : List ℕ) → (other == point) ≡ false → bytes_at values point ≡ Some point_bytes → bytes_at (lost_values profile other values) point ≡ Some point_bytes
lost_beside profile point other values point_bytes differ holds =
    lost_by (find (is_output_at other) profile.outputs) point other values point_bytes (λ output is. ap (λ (n : ℕ). n == point) (output_is other profile.outputs output is) ∙ differ) holds

-- what the idle action leaves at its output
pub idle_at : (profile : Profile) (point : ℕ) (output : OutputPoint) (values : List PointValue) (point_bytes : List ℕ) → find (is_output_at point) profile.outputs ≡ Some output → bytes_at values point ≡ Some point_bytes → length point_bytes ≡ output.len → bytes_at (idle_values profile point values) point ≡ Some (unwrap_or (left_idle (find (is_output_at point) profile.outputs)) point_bytes)
idle_at profile point output values point_bytes is holds long =
    rw is (subst (λ (n : ℕ). bytes_at (acted_values output.idle n values) point ≡ Some (unwrap_or (left_by output.idle output.len) point_bytes)) (let back : point ≡ output.instance = let e = output_is point profile.outputs output is in cc in back) (acted_at output.idle point output.len values point_bytes holds long))

idle_by : (found : Option OutputPoint) (point other : ℕ) (values : List PointValue) (point_bytes : List ℕ) → ((output : OutputPoint) → found ≡ Some output → (output.instance == point) ≡ false) → bytes_at values point ≡ Some point_bytes → bytes_at (idle_action_values found values) point ≡ Some point_bytes
idle_by None point other values point_bytes differ holds = holds
idle_by (Some output) point other values point_bytes differ holds = acted_beside output.idle point output.instance values point_bytes (differ output refl) holds

-- and at another one
pub idle_beside : (profile : Profile) (point other : ℕ) (values : List PointValue) (point_bytes : List ℕ) → (other == point) ≡ false → bytes_at values point ≡ Some point_bytes → bytes_at (idle_values profile other values) point ≡ Some point_bytes
idle_beside profile point other values point_bytes differ holds =
    idle_by (find (is_output_at other) profile.outputs) point other values point_bytes (λ output is. ap (λ (n : ℕ). n == point) (output_is other profile.outputs output is) ∙ differ) holds

-- ---- the beginning

zeros_step : (b : Bool) (point first : InputPoint) (found : Option PointValue) (rest : Option InputPoint) → cond b (Some first) rest ≡ Some point → (rest ≡ Some point → option_map bytes_of found ≡ Some (replicate point.len 0)) → option_map bytes_of (cond b (Some (zeros first)) found) ≡ Some (replicate point.len 0)
zeros_step true point first found rest is more = let same : first ≡ point = cc in ap (λ (p : InputPoint). Some (replicate p.len 0)) same
zeros_step false point first found rest is more = more is

-- each point begins with zeros
pub zeros_at : (instance : ℕ) (points : List InputPoint) (point : InputPoint) → find (is_at instance) points ≡ Some point → bytes_at (map zeros points) instance ≡ Some (replicate point.len 0)
zeros_at instance [] point is = absurd cc
zeros_at instance (first ∷ points) point is = zeros_step (is_at instance first) point first (find (is_value_of instance) (map zeros points)) (find (is_at instance) points) is (zeros_at instance points point)
