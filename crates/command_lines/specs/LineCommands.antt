-- The program's commands and their options, and the numbers of their words. What clap reads of a command line is a
-- function of the declared commands and the words.
use Rattle.std.specs.Prelude.{ℕ, ◌==◌, true, if◌then◌else◌, List, [], codes, length, pos, unwrap_or, option_and_then, Option, Some, None}
use Rattle.std.specs.Str.{bytes_eq}
use Rattle.std.specs.Str.Parse.{digits_value, without_leading_plus}
use Rattle.clap.specs.Faults.{fault_of}
use Rattle.clap.specs.Simple.{App, new_app, new_rule, subcommand_of, with_rule, with_subcommand}
use Rattle.clap.specs.ValueTests.{accepts}
use Rattle.clap.specs.Walk.{Row, Rule, Text, one_of}
use Rattle.clap.specs.declared.builder.action.ArgAction.TheVariants.{Set}
use Rattle.clap.specs.declared.builder.value_parser.ValueParser.TheVariants as vp
use Rattle.clap.specs.declared.error.kind.ErrorKind.{ErrorKind}
use Rattle.clap.specs.declared.error.kind.ErrorKind.TheVariants as kind
use Rattle.command_lines.specs.declared.line_task.LineTask.{LineTask}
use Rattle.command_lines.specs.declared.line_task.LoopTask.{LoopTask}
use Rattle.command_lines.specs.declared.line_task.Misuse.{Misuse}
use Rattle.command_lines.specs.declared.line_task.Misuse.TheVariants as misuse
use Rattle.command_lines.specs.declared.line_task.Task.{Task}
use Rattle.command_lines.specs.declared.line_task.Task.TheVariants as task

-- COMMANDS

-- an option whose value is a number from 1 to this one
abbrev pub number_rule : Text → ℕ → Rule
number_rule name most = record (new_rule name) { long = Some name; action = Some Set; parser = Some (vp.Signed (pos 1) (pos most)) }

abbrev pub loop_app : App
loop_app = with_rule (with_rule (with_rule (new_app (codes "loop")) (number_rule (codes "tcp") 65534)) (number_rule (codes "udp") 65534)) (number_rule (codes "turns") 1000000)

abbrev pub line_app : App
line_app = with_rule (with_rule (new_app (codes "line")) (number_rule (codes "scanners") 8)) (number_rule (codes "ticks") 10000)

-- the program, which requires a command
abbrev pub program_app : App
program_app = record { top = record (new_app (codes "eip_line")).top { subcommand_required = true }; subs = [] }

abbrev pub eip_line_app : App
eip_line_app = with_subcommand (with_subcommand (with_subcommand program_app (new_app (codes "step")).top) loop_app.top) line_app.top

-- NUMBERS

-- the number that a word writes in decimal digits, up to this one
abbrev pub number_of : ℕ → Text → Option ℕ
number_of most word = if accepts true (vp.Unsigned 0 most) word then Some (digits_value 10 (without_leading_plus word)) else None

-- the number of an option; the usual one if it is left out
abbrev pub number_or : ℕ → ℕ → Text → List Row → ℕ
number_or most usual name rows = unwrap_or (option_and_then (number_of most) (one_of name rows)) usual

abbrev pub loop_of : List Row → LoopTask
loop_of rows = record {
  tcp = number_or 65535 44818 (codes "tcp") rows;
  udp = number_or 65535 2222 (codes "udp") rows;
  turns = number_or 4294967295 1000 (codes "turns") rows;
}

abbrev pub line_of : List Row → LineTask
line_of rows = record {
  scanners = number_or 255 2 (codes "scanners") rows;
  ticks = number_or 4294967295 100 (codes "ticks") rows;
}

-- TASKS

-- the task of the command of this name, with its options
unfoldable pub named_task : Text → List Row → Option Task
named_task name rows =
    if bytes_eq name (codes "step") then Some task.Step
    else (if bytes_eq name (codes "loop") then Some (task.Loop (loop_of rows))
    else (if bytes_eq name (codes "line") then Some (task.Line (line_of rows)) else None))

-- the task of the command that was met
abbrev pub met_task : Option (Text × List Row) → Option Task
met_task met = option_and_then (λ m. named_task m.0 m.1) met

-- the task that clap reads: none where a word is refused, a number is out of its range, or a command is missing
unfoldable pub parsed_task : List Text → Option Task
parsed_task words = if length (fault_of eip_line_app words) == 0 then met_task (subcommand_of eip_line_app words) else None

-- why the words are refused
abbrev pub misuse_of : ErrorKind → Misuse
misuse_of kind.OutOfMemory = misuse.OutOfMemory
misuse_of other = misuse.Usage
