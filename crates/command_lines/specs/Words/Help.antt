-- Help behind a command.
use Rattle.std.specs.Prelude.{ℕ, ◌||◌, ◌&&◌, bytes_eq, if◌then◌else◌, is_some, Bool, false, List, [], ◌∷◌, codes, Result, Ok}
use Rattle.std.specs.List.{list_any}
use Rattle.command_lines.specs.StationTasks.{command_of, task_of}
use Rattle.command_lines.specs.declared.station_options.StationMisuse.{StationMisuse}
use Rattle.command_lines.specs.declared.station_task.ProgramTask.{ProgramTask}
use Rattle.command_lines.specs.declared.station_task.ProgramTask.TheVariants as task

-- a word that requests help
abbrev pub is_help : List ℕ → Bool
is_help word = bytes_eq word (codes "--help") || bytes_eq word (codes "-h")

-- one of these words does
abbrev pub some_help : List (List ℕ) → Bool
some_help words = list_any is_help words

-- one behind a command does. The first word is the program's own name
abbrev pub requests_help : List (List ℕ) → Bool
requests_help [] = false
requests_help (program ∷ []) = false
requests_help (program ∷ command ∷ rest) = is_some (command_of command) && some_help rest

-- the task that the words request
abbrev pub read_task : List (List ℕ) → Result ProgramTask StationMisuse
read_task words = if requests_help words then Ok task.Help else task_of words
