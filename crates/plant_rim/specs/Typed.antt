-- What the lines of a plant's standard input are.
use Rattle.std.specs.Prelude.{ℕ, ◌+◌, ◌==◌, if◌then◌else◌, Bool, List, drop, position, Option, Some, None}
use Rattle.plant_rim.specs.File.Calls.{typed_call_of}
use Rattle.station.specs.declared.step.StationStep.{StationStep}
use Rattle.station_lines.specs.Calls.{is_numbers, is_skipped, is_status}
use Rattle.plant_rim.specs.declared.typed.TypedLine.{TypedLine}
use Rattle.plant_rim.specs.declared.typed.TypedLine.TheVariants.{Skipped, Status, Numbers, For, NoCall}

abbrev pub is_space : ℕ → Bool
is_space byte = byte == 32

-- a step of the device whose name has so many bytes
abbrev pub for_step : ℕ → Option StationStep → TypedLine
for_step end (Some step) = For end step
for_step end None = NoCall

-- a line whose first space is there
abbrev pub for_device : List ℕ → Option ℕ → TypedLine
for_device line None = NoCall
for_device line (Some end) = for_step end (typed_call_of (drop (end + 1) line))

-- a line without its LF
abbrev pub typed_of : List ℕ → TypedLine
typed_of line = if is_skipped line then Skipped else (if is_status line then Status else (if is_numbers line then Numbers else for_device line (position is_space line)))
