-- The task that a command line requests.
use Rattle.std.specs.Prelude.{ℕ, ◌||◌, if◌then◌else◌, is_some, List, [], ◌∷◌, codes, length, Bool, false, true, Option, Some, None, Result, Ok, Err}
use Rattle.trace_words.specs.Reader.{Meanings, meaning}
use Rattle.command_lines.specs.Questions.{search_of, sheet_of, world_of}
use Rattle.command_lines.specs.StationOptions.{usual, options_after}
use Rattle.command_lines.specs.declared.question_task.SearchTask.{SearchTask}
use Rattle.command_lines.specs.declared.question_task.SheetTask.{SheetTask}
use Rattle.command_lines.specs.declared.question_task.WorldTask.{WorldTask}
use Rattle.command_lines.specs.declared.station_options.Options.{Options}
use Rattle.command_lines.specs.declared.station_options.StationMisuse.{StationMisuse}
use Rattle.command_lines.specs.declared.station_options.StationMisuse.TheVariants as misuse
use Rattle.command_lines.specs.declared.station_task.StationCommand.{StationCommand}
use Rattle.command_lines.specs.declared.station_task.StationCommand.TheVariants as command
use Rattle.command_lines.specs.declared.station_task.ProgramTask.{ProgramTask}
use Rattle.command_lines.specs.declared.station_task.ProgramTask.TheVariants as task

-- the commands by their names
abbrev pub command_meanings : Meanings (Option StationCommand)
command_meanings =
    (codes "adapter", Some command.Adapter)
    ∷ (codes "scanner", Some command.Scanner)
    ∷ (codes "plant", Some command.Plant)
    ∷ (codes "replay", Some command.Replay)
    ∷ (codes "pcap", Some command.Pcap)
    ∷ (codes "explain", Some command.Explain)
    ∷ (codes "settle", Some command.Settle)
    ∷ (codes "world", Some command.World)
    ∷ (codes "eds", Some command.Eds)
    ∷ (codes "identity", Some command.Identity)
    ∷ (codes "--help", Some command.Help)
    ∷ (codes "-h", Some command.Help)
    ∷ (codes "--version", Some command.Version)
    ∷ []

unfoldable pub command_of : List ℕ → Option StationCommand
command_of word = meaning command_meanings None word

-- an adapter or a scanner, with its options
abbrev pub station_with : Bool → Result Options StationMisuse → Result ProgramTask StationMisuse
station_with scanner (Ok options) = Ok (task.Station (record { scanner = scanner; options = options }))
station_with scanner (Err fault) = Err fault

-- a station, whose words are the name of its profile and its options
abbrev pub station_of : Bool → List (List ℕ) → Result ProgramTask StationMisuse
station_of scanner [] = Err misuse.NoFile
station_of scanner (file ∷ rest) = station_with scanner (options_after usual rest)

-- what one device has, and no plant
abbrev pub is_for_one : Options → Bool
is_for_one options = is_some options.address || is_some options.state_from_end || is_some options.script_from_end || is_some options.incarnation || is_some options.serial || is_some options.name_from_end

-- a plant, with the options of all its devices
abbrev pub plant_with : Result Options StationMisuse → Result ProgramTask StationMisuse
plant_with (Ok options) = if is_for_one options then Err misuse.OneDevice else Ok (task.Plant options)
plant_with (Err fault) = Err fault

abbrev pub plant_of : List (List ℕ) → Result ProgramTask StationMisuse
plant_of [] = Err misuse.NoFile
plant_of (file ∷ rest) = plant_with (options_after usual rest)

-- a task whose words are the names of its files
abbrev pub of_files : ProgramTask → List (List ℕ) → Result ProgramTask StationMisuse
of_files given [] = Err misuse.NoFile
of_files given (file ∷ files) = Ok given

-- a data sheet, a search, and a story
abbrev pub sheet_task : Result SheetTask StationMisuse → Result ProgramTask StationMisuse
sheet_task (Ok given) = Ok (task.Sheet given)
sheet_task (Err fault) = Err fault

abbrev pub sheet_with : List (List ℕ) → Result ProgramTask StationMisuse
sheet_with words = sheet_task (sheet_of words)

abbrev pub search_task : Result SearchTask StationMisuse → Result ProgramTask StationMisuse
search_task (Ok given) = Ok (task.Search given)
search_task (Err fault) = Err fault

abbrev pub search_with : List (List ℕ) → Result ProgramTask StationMisuse
search_with words = search_task (search_of words)

abbrev pub world_task : Result WorldTask StationMisuse → Result ProgramTask StationMisuse
world_task (Ok given) = Ok (task.World given)
world_task (Err fault) = Err fault

abbrev pub world_with : List (List ℕ) → Result ProgramTask StationMisuse
world_with words = world_task (world_of words)

-- the task of a command with the words behind it
abbrev pub task_with : StationCommand → List (List ℕ) → Result ProgramTask StationMisuse
task_with command.Help words = Ok task.Help
task_with command.Version words = Ok task.Version
task_with command.Adapter words = station_of false words
task_with command.Scanner words = station_of true words
task_with command.Plant words = plant_of words
task_with command.Replay words = of_files task.Replay words
task_with command.Pcap words = of_files task.Pcap words
task_with command.Explain words = of_files task.Explain words
task_with command.Settle words = of_files task.Settle words
task_with command.World words = world_with words
task_with command.Eds words = sheet_with words
task_with command.Identity words = search_with words

-- the task of a command, if the word names one
abbrev pub task_named : Option StationCommand → ℕ → List (List ℕ) → Result ProgramTask StationMisuse
task_named None left rest = Err (misuse.NoSuchCommand left)
task_named (Some named) left rest = task_with named rest

-- the task that the words request, the first of which is the program's own name
abbrev pub task_of : List (List ℕ) → Result ProgramTask StationMisuse
task_of [] = Err misuse.NoCommand
task_of (program ∷ []) = Err misuse.NoCommand
task_of (program ∷ word ∷ rest) = task_named (command_of word) (length (word ∷ rest)) rest
