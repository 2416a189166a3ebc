-- The task that a command line requests.
use Rattle.std.specs.Prelude.{ℕ, ◌≡◌, ◌==◌, ◌&&◌, Bool, false, if◌then◌else◌, List, length, codes, slice_get, option_and_then, Option, Some, None}
use Rattle.std.specs.Option.{option_map_or}
use Rattle.std.specs.Str.{bytes_eq}
use Rattle.command_lines.specs.LineCommands.{parsed_task}
use Rattle.command_lines.specs.declared.line_task.Task.{Task}
use Rattle.command_lines.specs.declared.line_task.Task.TheVariants as task

-- the words are the program's name and this word, and nothing else
abbrev pub IsAlone : List (List ℕ) → List ℕ → Type 0
IsAlone words word = (length words ≡ 2) × (slice_get words 1 ≡ Some word)

-- the word behind the program's name is the command's; no word follows the one for a step or for the
-- version
abbrev pub Requests : List (List ℕ) → Task → Type 0
Requests words task.Step = IsAlone words (codes "step")
Requests words (task.Loop given) = slice_get words 1 ≡ Some (codes "loop")
Requests words (task.Line given) = slice_get words 1 ≡ Some (codes "line")
Requests words task.Version = IsAlone words (codes "--version")

-- the same, as tests
abbrev pub is_second : List (List ℕ) → List ℕ → Bool
is_second words word = option_map_or (λ given. bytes_eq given word) (slice_get words 1) false

abbrev pub is_alone : List (List ℕ) → List ℕ → Bool
is_alone words word = (length words == 2) && is_second words word

abbrev pub is_named : List (List ℕ) → Task → Bool
is_named words task.Step = is_alone words (codes "step")
is_named words (task.Loop given) = is_second words (codes "loop")
is_named words (task.Line given) = is_second words (codes "line")
is_named words task.Version = is_alone words (codes "--version")

-- the task that the words request, the first of which is the program's own name
unfoldable pub task_of : List (List ℕ) → Option Task
task_of words =
    if is_alone words (codes "step") then Some task.Step
    else (if is_alone words (codes "--version") then Some task.Version
    else option_and_then (λ read. if is_named words read then Some read else None) (parsed_task words))
