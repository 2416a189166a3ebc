-- How a profile is written: a line for the device, a line for each of its points, its description if it has one, a line
-- for each limit that its maker states, one for each class of the maker's own objects, and one for the block of its connection
-- ids, if that is stated. One space separates the words of a line, and LF ends it.
use Rattle.std.specs.Prelude.{ℕ, List, [], ◌∷◌, ◌++◌, codes, flat_map, Option, Some, None}
use Rattle.cip_types.specs.declared.ids.IdBlock.{IdBlock}
use Rattle.adapter_table.specs.declared.profile.OutputPoint.{OutputPoint}
use Rattle.adapter_table.specs.declared.profile.InputPoint.{InputPoint}
use Rattle.adapter_table.specs.declared.profile.Description.{Description}
use Rattle.adapter_table.specs.declared.profile.Profile.{Profile}
use Rattle.trace_lines.specs.declared.shapes.TheConstants.{ADAPTER, OUTPUT, POINT, DESCRIBE, NUMBER, IDS, HEARTBEAT}
use Rattle.trace_words.specs.Words.{line_text}
use Rattle.trace_lines.specs.Limits.{limits_text}
use Rattle.trace_lines.specs.Shapes.{spelled}

abbrev pub adapter_words : Profile → List (List ℕ)
adapter_words profile = spelled (codes "adapter" ∷ []) ADAPTER profile.incarnation profile.node (record { 0 = profile.mask }) profile.identity.vendor profile.identity.device_type profile.identity.product profile.identity.major profile.identity.minor

abbrev pub output_words : OutputPoint → List (List ℕ)
output_words point = spelled (codes "output" ∷ []) OUTPUT point.instance point.len point.idle point.fault

-- the words of an input or of the configuration
abbrev pub point_words : List ℕ → InputPoint → List (List ℕ)
point_words keyword point = spelled (keyword ∷ []) POINT point.instance point.len

abbrev pub description_words : Description → List (List ℕ)
description_words described = spelled (codes "describe" ∷ []) DESCRIBE described.serial described.name described.port described.speed described.flags described.mac described.inactivity

-- the words of a class of the maker's own objects
abbrev pub object_words : ℕ → List (List ℕ)
object_words class = spelled (codes "object" ∷ []) NUMBER class

-- the words of a block of connection ids
abbrev pub ids_words : IdBlock → List (List ℕ)
ids_words block = spelled (codes "ids" ∷ []) IDS block.first block.count

abbrev pub heartbeat_words : Profile → List (List ℕ)
heartbeat_words profile = spelled (codes "heartbeat" ∷ []) HEARTBEAT profile.input_only profile.listen_only

abbrev pub config_text : Option InputPoint → List ℕ
config_text None = []
config_text (Some point) = line_text (point_words (codes "config") point)

abbrev pub description_text : Option Description → List ℕ
description_text None = []
description_text (Some described) = line_text (description_words described)

abbrev pub objects_text : List ℕ → List ℕ
objects_text classes = flat_map (λ class. line_text (object_words class)) classes

abbrev pub ids_text : Option IdBlock → List ℕ
ids_text None = []
ids_text (Some block) = line_text (ids_words block)

abbrev pub profile_text : Profile → List ℕ
profile_text profile =
    line_text (adapter_words profile)
    ++ (flat_map (λ point. line_text (output_words point)) profile.outputs
    ++ (flat_map (λ point. line_text (point_words (codes "input") point)) profile.inputs
    ++ (config_text profile.config
    ++ (description_text profile.description
    ++ (limits_text profile.limits
    ++ (objects_text profile.objects
    ++ (ids_text profile.ids ++ line_text (heartbeat_words profile))))))))
