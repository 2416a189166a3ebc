-- The connection points of an adapter together with their bytes (Volume 1, chapter 5, Assembly object;
-- Volume 1, chapter 3, run and idle, connection timeouts).
use Rattle.std.specs.Prelude.{ℕ, ◌==◌, is_some, Bool, if◌then◌else◌, List, find, Option, Some, None}
use Rattle.std.specs.Option.{option_map}
use Rattle.adapter_table.specs.declared.profile.InputPoint.{InputPoint}
use Rattle.adapter_table.specs.declared.profile.Profile.{Profile}
use Rattle.adapter_table.specs.declared.table.PointValue.{PointValue}
use Rattle.cip_events.specs.declared.event.StepFault.{StepFault}
use Rattle.cip_events.specs.declared.event.StepFault.TheVariants as step_faults
use Rattle.adapter_table.specs.Profiles.{is_at, is_output_at}
use Rattle.adapter_table.specs.Points.{opening_values}
use Rattle.adapter_table.specs.Shapes.{len_in}
use Rattle.assembly_set.specs.declared.fault.PointFault.{PointFault}
use Rattle.assembly_set.specs.declared.fault.PointFault.TheVariants.{NoSuchPoint, WrongLength}

-- an adapter's profile, and the bytes of its points
pub record Assemblies : Type 0 where
  pub profile : Profile
  pub values : List PointValue

-- the values of all points at the start
abbrev pub opened : Profile → Assemblies
opened profile = record { profile = profile; values = opening_values profile }

-- ---- which points there are

-- the point is one that consumes
abbrev pub is_output : Profile → ℕ → Bool
is_output profile point = is_some (find (is_output_at point) profile.outputs)

-- how many bytes the configuration has
abbrev pub config_len : Profile → Option ℕ
config_len profile = option_map len_in profile.config

-- ---- a write of the application

abbrev pub input_fault : Option InputPoint → ℕ → Option PointFault
input_fault None len = Some NoSuchPoint
input_fault (Some input) len = if len == input.len then None else Some WrongLength

-- why an input does not take so many bytes
abbrev pub write_fault : Profile → ℕ → ℕ → Option PointFault
write_fault profile point len = input_fault (find (is_at point) profile.inputs) len

-- the fault of a step that meets it
abbrev pub step_fault : PointFault → StepFault
step_fault NoSuchPoint = step_faults.NoSuchPoint
step_fault WrongLength = step_faults.WrongLength
