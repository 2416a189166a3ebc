-- What the points of a faultless profile hold is as long as they say, and stays so.
use Rattle.std.proofs.Common.{◌≡◌, ℕ, ◌==◌, Bool, true, false, cond, not, List, [], ◌∷◌, length, map, find, replicate, Option, Some, None, refl, sym, ◌∙◌, ap, subst, arith}
use Rattle.std.specs.List.{list_any}
use Rattle.std.specs.Option.{option_map}
use Rattle.std.proofs.lemmas.Bool.{not-true, and_parts, or_parts}
use Rattle.std.proofs.lemmas.Bool.Decides.{nat_tests}
use Rattle.std.proofs.lemmas.List.{length-replicate}
use Rattle.adapter_table.specs.declared.profile.Action.{Action}
use Rattle.adapter_table.specs.declared.profile.Action.TheVariants.{Hold, Zero}
use Rattle.adapter_table.specs.declared.profile.Profile.{Profile}
use Rattle.adapter_table.specs.declared.profile.InputPoint.{InputPoint}
use Rattle.adapter_table.specs.declared.profile.OutputPoint.{OutputPoint}
use Rattle.adapter_table.specs.Connections.{Row}
use Rattle.adapter_table.specs.declared.table.PointValue.{PointValue}
use Rattle.adapter_table.specs.Profiles.{is_at, is_output_at, as_point, are_distinct, profile_fault}
use Rattle.adapter_table.specs.Points.{data_points, zeros, opening_values, is_value_of, put_value, bytes_of, bytes_at, zeroed_value, acted_values, fault_values, lost_values, idle_action_values, idle_values}
use Rattle.adapter_table.specs.Rows.{drives}
use Rattle.adapter_table.specs.Checks.{stored, named_len, has_other_length}
use Rattle.adapter_table.specs.Opening.{configured}
use Rattle.adapter_table.specs.Closing.{closed_values}
use Rattle.adapter_table.specs.Ticks.{expired_values}
use Rattle.adapter_table.specs.Shapes.{shape_of, IsShaped, FitPoint, len_in, len_of}
use Rattle.adapter_table.specs.Shaping.{points_differ, output_found, input_found, configuration_found}

-- ---- a point's length by its profile

len_found : (profile : Profile) (instance : ℕ) (point : InputPoint) → find (is_at instance) (data_points profile) ≡ Some point → len_of profile instance ≡ Some point.len
len_found profile instance point e = ap (option_map len_in) e

-- bytes as many as an input has
pub input_fits : (profile : Profile) (instance : ℕ) (point : InputPoint) (len : ℕ) → profile_fault profile ≡ None → find (is_at instance) profile.inputs ≡ Some point → len ≡ point.len → len_of profile instance ≡ Some len
input_fits profile instance point len none is same = len_found profile instance point (input_found profile instance point none is) ∙ ap Some (sym same)

-- bytes as many as an output has
pub output_fits : (profile : Profile) (instance : ℕ) (output : OutputPoint) (len : ℕ) → find (is_output_at instance) profile.outputs ≡ Some output → len ≡ output.len → len_of profile instance ≡ Some len
output_fits profile instance output len is same = len_found profile instance (as_point output) (output_found profile instance output is) ∙ ap Some (sym same)

-- bytes as many as the configuration has
pub configuration_fits : (profile : Profile) (point : InputPoint) (len : ℕ) → profile_fault profile ≡ None → profile.config ≡ Some point → len ≡ point.len → len_of profile point.instance ≡ Some len
configuration_fits profile point len none is same = len_found profile point.instance point (configuration_found profile point none is) ∙ ap Some (sym same)

-- ---- a point's bytes are as many as it says

found_shape : (b : Bool) (value : PointValue) (found : Option PointValue) (point : Option InputPoint) → option_map shape_of found ≡ point → option_map shape_of (cond b (Some value) found) ≡ cond b (Some (shape_of value)) point
found_shape true value found point is = refl
found_shape false value found point is = is

find_shape : (point : ℕ) (values : List PointValue) → option_map shape_of (find (is_value_of point) values) ≡ find (is_at point) (map shape_of values)
find_shape point [] = refl
find_shape point (value ∷ values) = found_shape (is_value_of point value) value (find (is_value_of point) values) (find (is_at point) (map shape_of values)) (find_shape point values)

map_map : (found : Option PointValue) → option_map (λ (bytes : List ℕ). length bytes) (option_map bytes_of found) ≡ option_map len_in (option_map shape_of found)
map_map None = refl
map_map (Some value) = refl

-- what a point holds is as long as its profile says
pub length_is : (profile : Profile) (values : List PointValue) (point : ℕ) → IsShaped profile values → option_map (λ (bytes : List ℕ). length bytes) (bytes_at values point) ≡ len_of profile point
length_is profile values point shaped =
    map_map (find (is_value_of point) values)
    ∙ ap (option_map len_in) (find_shape point values)
    ∙ ap (λ (points : List InputPoint). option_map len_in (find (is_at point) points)) shaped.shapes

length_by : (bytes : Option (List ℕ)) (point_bytes : List ℕ) (len : ℕ) → option_map (λ (b : List ℕ). length b) bytes ≡ Some len → bytes ≡ Some point_bytes → length point_bytes ≡ len
length_by None point_bytes len long is = absurd cc
length_by (Some bytes) point_bytes len long is = cc

-- what an output holds is as long as it
pub output_length : (profile : Profile) (values : List PointValue) (point : ℕ) (output : OutputPoint) (point_bytes : List ℕ) → IsShaped profile values → find (is_output_at point) profile.outputs ≡ Some output → bytes_at values point ≡ Some point_bytes → length point_bytes ≡ output.len
output_length profile values point output point_bytes shaped is holds =
    length_by (bytes_at values point) point_bytes output.len (length_is profile values point shaped ∙ output_fits profile point output output.len is refl) holds

-- where no other value is the point's, none has to fit
no_other : (point len : ℕ) (values : List PointValue) → list_any (is_at point) (map shape_of values) ≡ false → FitPoint point len values
no_other point len [] none = tt
no_other point len (value ∷ values) none =
    let parts = or_parts (is_at point (shape_of value)) (list_any (is_at point) (map shape_of values)) none in
    (λ same. absurd (grind (arith, nat_tests, parts.0)), no_other point len values parts.1)

fit_step : (b : Bool) (point len : ℕ) (value : PointValue) (values : List PointValue) → is_at point (shape_of value) ≡ b → list_any (is_at value.point) (map shape_of values) ≡ false → option_map len_in (cond b (Some (shape_of value)) (find (is_at point) (map shape_of values))) ≡ Some len → (option_map len_in (find (is_at point) (map shape_of values)) ≡ Some len → FitPoint point len values) → FitPoint point len (value ∷ values)
fit_step true point len value values here none is more =
    let same : value.point ≡ point = grind (arith, nat_tests) in
    let long : length value.bytes ≡ len = cc in
    (λ _. long, no_other point len values (subst (λ (n : ℕ). list_any (is_at n) (map shape_of values) ≡ false) same none))
fit_step false point len value values here none is more =
    (λ same. absurd (grind (arith, nat_tests)), more is)

fits : (point len : ℕ) (values : List PointValue) → are_distinct (map shape_of values) ≡ true → option_map len_in (find (is_at point) (map shape_of values)) ≡ Some len → FitPoint point len values
fits point len [] differ is = tt
fits point len (value ∷ values) differ is =
    let parts = and_parts (not (list_any (is_at value.point) (map shape_of values))) (are_distinct (map shape_of values)) differ in
    fit_step (is_at point (shape_of value)) point len value values refl (not-true _ parts.0) is (fits point len values parts.1)

-- bytes as many as a point has fit it
pub fit_of : (profile : Profile) (values : List PointValue) (point len : ℕ) → IsShaped profile values → len_of profile point ≡ Some len → FitPoint point len values
fit_of profile values point len shaped is =
    fits point len values
    (ap are_distinct shaped.shapes ∙ points_differ profile shaped.faultless)
    (ap (λ (points : List InputPoint). option_map len_in (find (is_at point) points)) shaped.shapes ∙ is)

-- ---- the lengths stay

opening_shape : (point : InputPoint) → shape_of (zeros point) ≡ point
opening_shape point = ap (λ (n : ℕ). let p : InputPoint = record { instance = point.instance; len = n } in p) (length-replicate point.len 0)

opening_shapes : (points : List InputPoint) → map shape_of (map zeros points) ≡ points
opening_shapes [] = refl
opening_shapes (point ∷ points) = rw (opening_shape point, opening_shapes points) refl

pub shaped_opening : (profile : Profile) → profile_fault profile ≡ None → IsShaped profile (opening_values profile)
shaped_opening profile none = record { faultless = none; shapes = opening_shapes (data_points profile) }

changed_shape : (b : Bool) (value : PointValue) (bytes : List ℕ) → (b ≡ true → length value.bytes ≡ length bytes) → shape_of (cond b (record value { bytes = bytes }) value) ≡ shape_of value
changed_shape true value bytes fit = ap (λ (n : ℕ). let p : InputPoint = record { instance = value.point; len = n } in p) (sym (fit refl))
changed_shape false value bytes fit = refl

value_is : (point : ℕ) (value : PointValue) → is_value_of point value ≡ true → value.point ≡ point
value_is point value is = grind (arith, nat_tests)

pub put_shapes : (point : ℕ) (bytes : List ℕ) (values : List PointValue) → FitPoint point (length bytes) values → map shape_of (put_value point bytes values) ≡ map shape_of values
put_shapes point bytes [] fit = refl
put_shapes point bytes (value ∷ values) fit =
    let first = changed_shape (is_value_of point value) value bytes (λ is. fit.0 (value_is point value is)) in
    let rest = put_shapes point bytes values fit.1 in
    cc

pub zeroed_shapes : (point : ℕ) (values : List PointValue) → map shape_of (map (zeroed_value point) values) ≡ map shape_of values
zeroed_shapes point [] = refl
zeroed_shapes point (value ∷ values) =
    let first = changed_shape (is_value_of point value) value (replicate (length value.bytes) 0) (λ _. sym (length-replicate (length value.bytes) 0)) in
    let rest = zeroed_shapes point values in
    cc

-- bytes as many as a point has may stand at it
pub shaped_put : (profile : Profile) (values : List PointValue) (point : ℕ) (bytes : List ℕ) → IsShaped profile values → len_of profile point ≡ Some (length bytes) → IsShaped profile (put_value point bytes values)
shaped_put profile values point bytes shaped is =
    record { faultless = shaped.faultless; shapes = put_shapes point bytes values (fit_of profile values point (length bytes) shaped is) ∙ shaped.shapes }

shaped_acted : (profile : Profile) (values : List PointValue) (action : Action) (point : ℕ) → IsShaped profile values → IsShaped profile (acted_values action point values)
shaped_acted profile values Hold point shaped = shaped
shaped_acted profile values Zero point shaped = record { faultless = shaped.faultless; shapes = zeroed_shapes point values ∙ shaped.shapes }

lost_by : (profile : Profile) (values : List PointValue) (found : Option OutputPoint) → IsShaped profile values → IsShaped profile (fault_values found values)
lost_by profile values None shaped = shaped
lost_by profile values (Some output) shaped = shaped_acted profile values output.fault output.instance shaped

pub shaped_lost : (profile : Profile) (values : List PointValue) (point : ℕ) → IsShaped profile values → IsShaped profile (lost_values profile point values)
shaped_lost profile values point shaped = lost_by profile values (find (is_output_at point) profile.outputs) shaped

idle_by : (profile : Profile) (values : List PointValue) (found : Option OutputPoint) → IsShaped profile values → IsShaped profile (idle_action_values found values)
idle_by profile values None shaped = shaped
idle_by profile values (Some output) shaped = shaped_acted profile values output.idle output.instance shaped

pub shaped_idle : (profile : Profile) (values : List PointValue) (point : ℕ) → IsShaped profile values → IsShaped profile (idle_values profile point values)
shaped_idle profile values point shaped = idle_by profile values (find (is_output_at point) profile.outputs) shaped

-- ---- what makes a connection drive no more

pub shaped_closed : (profile : Profile) (row : Row) (values : List PointValue) → IsShaped profile values → IsShaped profile (closed_values profile row values)
shaped_closed profile row values shaped =
    elim (drives row.consumed row) as (λ b. IsShaped profile (cond b (lost_values profile row.consumed values) values)) [
      | true ↦ shaped_lost profile values row.consumed shaped
      | false ↦ shaped
    ]

pub shaped_expired : (profile : Profile) (rows : List Row) (values : List PointValue) → IsShaped profile values → IsShaped profile (expired_values profile rows values)
shaped_expired profile [] values shaped = shaped
shaped_expired profile (row ∷ rows) values shaped = shaped_expired profile rows (closed_values profile row values) (shaped_closed profile row values shaped)

-- ---- a data segment is stored

len_is : (len : ℕ) (segment : List ℕ) → not (length segment == len) ≡ false → length segment ≡ len
len_is len segment h = grind (arith, nat_tests)

-- a segment that is stored is as long as the configuration
pub stored_len : (config : Option InputPoint) (named : Option ℕ) (segment : Option (List ℕ)) (point : InputPoint) (bytes : List ℕ) → config ≡ Some point → stored named segment ≡ Some bytes → has_other_length (named_len config named) segment ≡ false → length bytes ≡ point.len
stored_len None named segment point bytes is found fits = absurd cc
stored_len (Some config) None segment point bytes is found fits = absurd cc
stored_len (Some config) (Some named) None point bytes is found fits = absurd cc
stored_len (Some config) (Some named) (Some segment) point bytes is found fits =
    let same : config ≡ point = cc in
    let there : segment ≡ bytes = cc in
    ap (length {A = ℕ}) (sym there) ∙ len_is config.len segment fits ∙ ap (λ (p : InputPoint). p.len) same

pub shaped_configured : (profile : Profile) (config : Option InputPoint) (segment : Option (List ℕ)) (values : List PointValue) → profile.config ≡ config → ((point : InputPoint) (bytes : List ℕ) → config ≡ Some point → segment ≡ Some bytes → length bytes ≡ point.len) → IsShaped profile values → IsShaped profile (configured config segment values)
shaped_configured profile None segment values is len shaped = shaped
shaped_configured profile (Some point) None values is len shaped = shaped
shaped_configured profile (Some point) (Some bytes) values is len shaped =
    shaped_put profile values point.instance bytes shaped (configuration_fits profile point (length bytes) shaped.faultless is (len point bytes refl refl))
