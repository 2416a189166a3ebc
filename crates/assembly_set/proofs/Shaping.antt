-- Slices of what the points hold fit them, and stay so.
use Rattle.std.proofs.Common.{◌≡◌, ◌<◌, ◌≤◌, ℕ, zero, suc, true, List, [], ◌∷◌, ◌++◌, length, map, find, take, drop, get_or, Option, Some, None, Bor, refl, sym, ◌∙◌, ap, arith}
use Rattle.std.specs.Prelude.{Result, IfOk, IfSome}
use Rattle.std.specs.Option.{option_map, ok_or}
use Rattle.cip_types.specs.Indices.{written_back}
use Rattle.adapter_table.specs.Profiles.{profile_fault}
use Rattle.assembly_set.specs.declared.fault.PointFault.{PointFault}
use Rattle.adapter_table.specs.declared.profile.Profile.{Profile}
use Rattle.adapter_table.specs.declared.profile.InputPoint.{InputPoint}
use Rattle.adapter_table.specs.declared.profile.OutputPoint.{OutputPoint}
use Rattle.adapter_table.specs.declared.table.PointValue.{PointValue}
use Rattle.adapter_table.specs.Profiles.{is_at, is_output_at, are_distinct}
use Rattle.adapter_table.specs.Points.{bytes_at}
use Rattle.adapter_table.specs.Shapes.{shape_of, IsShaped, FitPoint, len_in, len_of}
use Rattle.adapter_table.specs.Shaping.{points_differ}
use Rattle.adapter_table.specs.Fitting.{input_fits, configuration_fits, fit_of}
use Rattle.adapter_table.specs.Limits.{output_len_short, input_len_short, bytes_short}
use Rattle.assembly_set.specs.Assemblies.{Assemblies, config_len}

config_is : (config : Option InputPoint) (point : InputPoint) (len : ℕ) → config ≡ Some point → option_map len_in config ≡ Some len → point.len ≡ len
config_is None point len is long = absurd cc
config_is (Some config) point len is long = cc

pub lent_length : (lent : Option (Bor (List ℕ))) → option_map (λ (bytes : Bor (List ℕ)). length bytes.now) lent ≡ option_map (λ (bytes : List ℕ). length bytes) (option_map (λ (bytes : Bor (List ℕ)). bytes.now) lent)
lent_length None = refl
lent_length (Some lent) = refl

-- bytes as many as a point has fit a slice of the values, at any point, at the configuration and at an input
pub fits_lent : (set : Assemblies) (values lent : List PointValue) (point len : ℕ) → IsShaped set.profile values → lent ≡ values → len_of set.profile point ≡ Some len → FitPoint point len lent
fits_lent set values lent point len sound is long = rw is (fit_of set.profile values point len sound long)

pub config_fits_lent : (set : Assemblies) (values lent : List PointValue) (config : InputPoint) (len : ℕ) → IsShaped set.profile values → lent ≡ values → set.profile.config ≡ Some config → config_len set.profile ≡ Some len → FitPoint config.instance len lent
config_fits_lent set values lent config len sound is has long = rw is (fit_of set.profile values config.instance len sound (configuration_fits set.profile config len sound.faultless has (sym (config_is set.profile.config config len has long))))

pub input_fits_lent : (profile : Profile) (values lent : List PointValue) (inputs : List InputPoint) (point : ℕ) (input : InputPoint) (len : ℕ) → IsShaped profile values → lent ≡ values → inputs ≡ profile.inputs → Some input ≡ find (is_at point) inputs → len ≡ input.len → FitPoint point len lent
input_fits_lent profile values lent inputs point input len sound is same found long = rw is (fit_of profile values point len sound (input_fits profile point input len sound.faultless (ap (find (is_at point)) (sym same) ∙ sym found) long))

pub fit_at : (point len : ℕ) (values : List PointValue) (i : ℕ) (d : PointValue) → FitPoint point len values → i < length values → (get_or values i d).point ≡ point → length (get_or values i d).bytes ≡ len
fit_at point len [] i d fit lt is = absurd (omega arith)
fit_at point len (value ∷ values) zero d fit lt is = fit.0 is
fit_at point len (value ∷ values) (suc i) d fit lt is = fit_at point len values i d fit.1 (omega arith) is

-- a slice of the values that is changed in place, its shapes staying, leaves them sound
pub sound_written : (profile : Profile) (n : ℕ) (values lent new : List PointValue) → IsShaped profile values → lent ≡ values → length lent ≡ n → length new ≡ length lent → map shape_of new ≡ map shape_of lent → IsShaped profile (take n (new ++ drop (length new) values))
sound_written profile n values lent new sound is len same shapes =
    rw (written_back n values new (same ∙ len)) (record { faultless = sound.faultless; shapes = shapes ∙ ap (map shape_of) is ∙ sound.shapes })

-- no two points of a slice of the values are one
pub differ_lent : (profile : Profile) (values lent : List PointValue) → IsShaped profile values → lent ≡ values → are_distinct (map shape_of lent) ≡ true
differ_lent profile values lent sound is = ap (λ (l : List PointValue). are_distinct (map shape_of l)) is ∙ ap are_distinct sound.shapes ∙ points_differ profile sound.faultless

-- ---- limits

if_short : (found : Option OutputPoint) → ((output : OutputPoint) → found ≡ Some output → output.len ≤ 1400) → IfSome found (λ output. output.len ≤ 1400)
if_short None short = tt
if_short (Some output) short = short output refl

-- an output that is found is short
pub output_short : (profile : Profile) (point : ℕ) (found : Option OutputPoint) → profile_fault profile ≡ None → found ≡ find (is_output_at point) profile.outputs → IfSome found (λ output. output.len ≤ 1400)
output_short profile point found none is = if_short found (λ output there. output_len_short profile point output none (sym is ∙ there))

if_input_short : (found : Option InputPoint) → ((input : InputPoint) → found ≡ Some input → input.len ≤ 1400) → IfSome found (λ input. input.len ≤ 1400)
if_input_short None short = tt
if_input_short (Some input) short = short input refl

-- an input that is found is short
pub input_short : (profile : Profile) (point : ℕ) (found : Option InputPoint) → profile_fault profile ≡ None → found ≡ find (is_at point) profile.inputs → IfSome found (λ input. input.len ≤ 1400)
input_short profile point found none is = if_input_short found (λ input there. input_len_short profile point input none (sym is ∙ there))

lent_by : (profile : Profile) (values : List PointValue) (point : ℕ) (lent : Option (Bor (List ℕ))) (fault : PointFault) → IsShaped profile values → option_map (λ (b : Bor (List ℕ)). b.now) lent ≡ bytes_at values point → IfOk (ok_or lent fault) (λ bytes. length bytes.now ≤ 1400)
lent_by profile values point None fault shaped is = tt
lent_by profile values point (Some bytes) fault shaped is = bytes_short profile values point bytes.now shaped (sym is)

-- what is lent of a point is short
pub lent_short : (profile : Profile) (values lent_of : List PointValue) (point : ℕ) (lent : Option (Bor (List ℕ))) (fault : PointFault) (result : Result (Bor (List ℕ)) PointFault) → IsShaped profile values → lent_of ≡ values → option_map (λ (b : Bor (List ℕ)). b.now) lent ≡ bytes_at lent_of point → result ≡ ok_or lent fault → IfOk result (λ bytes. length bytes.now ≤ 1400)
lent_short profile values lent_of point lent fault result shaped same is given =
    rw given (lent_by profile values point lent fault shaped (is ∙ ap (λ (vs : List PointValue). bytes_at vs point) same))
