-- The bytes that the points of an adapter hold (Volume 1, chapter 5, Assembly object).
use Rattle.std.specs.Prelude.{ℕ, ◌==◌, length, Bool, if◌then◌else◌, List, ◌++◌, map, find, replicate, Option, Some, None, option_to_list}
use Rattle.std.specs.Option.{option_map}
use Rattle.adapter_table.specs.declared.profile.InputPoint.{InputPoint}
use Rattle.adapter_table.specs.declared.profile.Profile.{Profile}
use Rattle.adapter_table.specs.declared.table.PointValue.{PointValue}
use Rattle.adapter_table.specs.declared.profile.OutputPoint.{OutputPoint}
use Rattle.adapter_table.specs.declared.profile.Action.{Action}
use Rattle.adapter_table.specs.declared.profile.Action.TheVariants.{Hold, Zero}
use Rattle.adapter_table.specs.Profiles.{as_point, is_output_at}

-- the points with data: outputs, inputs, the configuration
abbrev pub data_points : Profile → List InputPoint
data_points profile = map as_point profile.outputs ++ (profile.inputs ++ option_to_list profile.config)

-- a point that holds zeros
abbrev pub zeros : InputPoint → PointValue
zeros point = record { point = point.instance; bytes = replicate point.len 0 }

-- the values of all points at the start
abbrev pub opening_values : Profile → List PointValue
opening_values profile = map zeros (data_points profile)

abbrev pub is_value_of : ℕ → PointValue → Bool
is_value_of point value = value.point == point

-- other bytes, if the value is the point's
abbrev pub changed_value : ℕ → List ℕ → PointValue → PointValue
changed_value point bytes value = if is_value_of point value then record value { bytes = bytes } else value

-- the values with other bytes at a point
abbrev pub put_value : ℕ → List ℕ → List PointValue → List PointValue
put_value point bytes values = map (changed_value point bytes) values

abbrev pub bytes_of : PointValue → List ℕ
bytes_of value = value.bytes

-- the bytes of a point
abbrev pub bytes_at : List PointValue → ℕ → Option (List ℕ)
bytes_at values point = option_map bytes_of (find (is_value_of point) values)

-- ---- an output whose owner is lost

-- zeros, if the value is the point's
abbrev pub zeroed_value : ℕ → PointValue → PointValue
zeroed_value point value = if is_value_of point value then record value { bytes = replicate (length value.bytes) 0 } else value

-- an action on the bytes of a point
abbrev pub acted_values : Action → ℕ → List PointValue → List PointValue
acted_values Hold point values = values
acted_values Zero point values = map (zeroed_value point) values

abbrev pub fault_values : Option OutputPoint → List PointValue → List PointValue
fault_values None values = values
fault_values (Some output) values = acted_values output.fault output.instance values

-- the values after the fault action of an output
abbrev pub lost_values : Profile → ℕ → List PointValue → List PointValue
lost_values profile point values = fault_values (find (is_output_at point) profile.outputs) values

-- ---- an output whose owner is idle

abbrev pub idle_action_values : Option OutputPoint → List PointValue → List PointValue
idle_action_values None values = values
idle_action_values (Some output) values = acted_values output.idle output.instance values

-- the values after the idle action of an output
abbrev pub idle_values : Profile → ℕ → List PointValue → List PointValue
idle_values profile point values = idle_action_values (find (is_output_at point) profile.outputs) values
