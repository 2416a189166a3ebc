-- The instances of an adapter's points, each with the word that has it, in the order of the lines.
use Rattle.std.specs.Prelude.{ℕ, ◌≡◌, ◌+◌, ◌==◌, ◌&&◌, not, Bool, true, List, [], ◌∷◌, ◌++◌, Option, Some, None, option_map}
use Rattle.std.specs.List.{list_any, find, Contains}
use Rattle.adapter_table.specs.declared.profile.OutputPoint.{OutputPoint}
use Rattle.adapter_table.specs.declared.profile.InputPoint.{InputPoint}
use Rattle.adapter_table.specs.declared.profile.Profile.{Profile}
use Rattle.trace_faults.specs.declared.profile_faults.defects.WordPlace.{WordPlace}
use Rattle.trace_faults.specs.declared.profile_faults.defects.LineName.{LineName}
use Rattle.trace_faults.specs.declared.profile_faults.defects.LineName.TheVariants.{Output, Input, Config, Heartbeat}
use Rattle.trace_faults.specs.declared.profile_faults.defects.Defect.TheVariants.{SameInstance}
use Rattle.trace_faults.specs.declared.profile_faults.defects.ProfileReason.{ProfileReason}
use Rattle.trace_faults.specs.declared.profile_faults.instances.PlacedInstance.{PlacedInstance}

abbrev pub has_instance : ℕ → PlacedInstance → Bool
has_instance instance point = point.instance == instance

-- the instance at this word of the line of this name and index
abbrev pub placed : ℕ → LineName → ℕ → ℕ → PlacedInstance
placed instance line index word = record { instance = instance; place = record { line = line; index = index; word = word } }

-- the outputs, the first of which is in the output line of this index
abbrev pub placed_outputs : ℕ → List OutputPoint → List PlacedInstance
placed_outputs index [] = []
placed_outputs index (output ∷ outputs) = placed output.instance Output index 2 ∷ placed_outputs (index + 1) outputs

abbrev pub placed_inputs : ℕ → List InputPoint → List PlacedInstance
placed_inputs index [] = []
placed_inputs index (input ∷ inputs) = placed input.instance Input index 2 ∷ placed_inputs (index + 1) inputs

abbrev pub placed_config : Option InputPoint → List PlacedInstance
placed_config None = []
placed_config (Some point) = placed point.instance Config 0 2 ∷ []

abbrev pub placed_heartbeats : Profile → List PlacedInstance
placed_heartbeats profile = placed profile.input_only Heartbeat 0 2 ∷ placed profile.listen_only Heartbeat 0 3 ∷ []

abbrev pub placed_points : Profile → List PlacedInstance
placed_points profile =
    placed_outputs 0 profile.outputs ++ (placed_inputs 0 profile.inputs ++ (placed_config profile.config ++ placed_heartbeats profile))

-- the place of the first of these that has this instance
abbrev pub place_of : ℕ → List PlacedInstance → Option WordPlace
place_of instance points = option_map (λ point. point.place) (find (has_instance instance) points)

-- no two of these have one instance
abbrev pub differ : List PlacedInstance → Bool
differ [] = true
differ (point ∷ points) = not (list_any (has_instance point.instance) points) && differ points

-- the reason is of one of these instances, at its place
abbrev pub IsOf : List PlacedInstance → ProfileReason → Type 0
IsOf points reason = (other : WordPlace) × ((instance : ℕ) × ((reason.defect ≡ SameInstance instance other) × Contains points (record { instance = instance; place = reason.place })))
