-- What the points of every adapter keep: each has its bytes, as many as its profile says.
use Rattle.std.specs.Prelude.{ℕ, ◌≡◌, List, [], ◌∷◌, length, map, find, Option, None}
use Rattle.std.specs.Option.{option_map}
use Rattle.adapter_table.specs.declared.profile.InputPoint.{InputPoint}
use Rattle.adapter_table.specs.declared.profile.Profile.{Profile}
use Rattle.adapter_table.specs.declared.table.PointValue.{PointValue}
use Rattle.adapter_table.specs.Profiles.{is_at, profile_fault}
use Rattle.adapter_table.specs.Points.{data_points}

-- the point that holds so many bytes
abbrev pub shape_of : PointValue → InputPoint
shape_of value = record { instance = value.point; len = length value.bytes }

-- nothing is wrong with the profile, and its outputs, inputs and configuration hold bytes in this order
pub record IsShaped (profile : Profile) (values : List PointValue) : Type 0 where
  pub faultless : profile_fault profile ≡ None
  pub shapes : map shape_of values ≡ data_points profile

-- the value of the point, at any index of the list, has this length
abbrev pub FitPoint : ℕ → ℕ → List PointValue → Type 0
FitPoint point len [] = Unit {0}
FitPoint point len (value ∷ values) = (value.point ≡ point → length value.bytes ≡ len) × FitPoint point len values

abbrev pub len_in : InputPoint → ℕ
len_in point = point.len

-- how many bytes an output, an input or the configuration has
abbrev pub len_of : Profile → ℕ → Option ℕ
len_of profile point = option_map len_in (find (is_at point) (data_points profile))
