-- Command lines and their tasks.
use Rattle.std.proofs.Common.{◌≡◌, ℕ, List, [], ◌∷◌, codes, Option, Some, None, refl, true}
use Rattle.clap.proofs.OnLiterals.{clap_on_literals}
use Rattle.clap.specs.Faults.{is_simple_and_free}
use Rattle.clap.specs.Simple.{is_simple}
use Rattle.command_lines.specs.LineCommands.{eip_line_app, named_task, parsed_task}
use Rattle.command_lines.specs.LineTasks.{task_of}
use Rattle.command_lines.specs.declared.line_task.Task.{Task}
use Rattle.command_lines.specs.declared.line_task.Task.TheVariants as task

pub simple : is_simple eip_line_app ≡ true
simple = refl

pub simple_and_free : is_simple_and_free eip_line_app ≡ true
simple_and_free = refl

abbrev of_words : List (List ℕ) → Option Task
of_words words = task_of (codes "eip_line" ∷ words)

abbrev loop_of : ℕ → ℕ → ℕ → Option Task
loop_of tcp udp turns = Some (task.Loop (record { tcp = tcp; udp = udp; turns = turns }))

abbrev line_of : ℕ → ℕ → Option Task
line_of scanners ticks = Some (task.Line (record { scanners = scanners; ticks = ticks }))

usual_loop : of_words (codes "loop" ∷ []) ≡ loop_of 44818 2222 1000
unfolding clap_on_literals task_of parsed_task named_task
usual_loop = refl

least_loop : of_words (codes "loop" ∷ codes "--tcp" ∷ codes "1" ∷ codes "--udp" ∷ codes "1" ∷ codes "--turns" ∷ codes "1" ∷ []) ≡ loop_of 1 1 1
unfolding clap_on_literals task_of parsed_task named_task
least_loop = refl

most_loop : of_words (codes "loop" ∷ codes "--turns=1000000" ∷ codes "--udp=65534" ∷ codes "--tcp=65534" ∷ []) ≡ loop_of 65534 65534 1000000
unfolding clap_on_literals task_of parsed_task named_task
most_loop = refl

port_above : of_words (codes "loop" ∷ codes "--udp" ∷ codes "65535" ∷ []) ≡ None
unfolding clap_on_literals task_of parsed_task named_task
port_above = refl

no_port : of_words (codes "loop" ∷ codes "--tcp" ∷ codes "0" ∷ []) ≡ None
unfolding clap_on_literals task_of parsed_task named_task
no_port = refl

turns_above : of_words (codes "loop" ∷ codes "--turns" ∷ codes "1000001" ∷ []) ≡ None
unfolding clap_on_literals task_of parsed_task named_task
turns_above = refl

usual_line : of_words (codes "line" ∷ []) ≡ line_of 2 100
unfolding clap_on_literals task_of parsed_task named_task
usual_line = refl

most_line : of_words (codes "line" ∷ codes "--scanners" ∷ codes "8" ∷ codes "--ticks" ∷ codes "10000" ∷ []) ≡ line_of 8 10000
unfolding clap_on_literals task_of parsed_task named_task
most_line = refl

ticks_alone : of_words (codes "line" ∷ codes "--ticks" ∷ codes "7" ∷ []) ≡ line_of 2 7
unfolding clap_on_literals task_of parsed_task named_task
ticks_alone = refl

scanners_above : of_words (codes "line" ∷ codes "--scanners" ∷ codes "9" ∷ []) ≡ None
unfolding clap_on_literals task_of parsed_task named_task
scanners_above = refl

ticks_above : of_words (codes "line" ∷ codes "--ticks" ∷ codes "10001" ∷ []) ≡ None
unfolding clap_on_literals task_of parsed_task named_task
ticks_above = refl

foreign_option : of_words (codes "line" ∷ codes "--turns" ∷ codes "5" ∷ []) ≡ None
unfolding clap_on_literals task_of parsed_task named_task
foreign_option = refl

no_value : of_words (codes "loop" ∷ codes "--turns" ∷ []) ≡ None
unfolding clap_on_literals task_of parsed_task named_task
no_value = refl

twice : of_words (codes "loop" ∷ codes "--turns" ∷ codes "5" ∷ codes "--turns" ∷ codes "6" ∷ []) ≡ None
unfolding clap_on_literals task_of parsed_task named_task
twice = refl

one_step : of_words (codes "step" ∷ []) ≡ Some task.Step
unfolding clap_on_literals task_of parsed_task named_task
one_step = refl

version : of_words (codes "--version" ∷ []) ≡ Some task.Version
unfolding clap_on_literals task_of parsed_task named_task
version = refl

version_with_more : of_words (codes "--version" ∷ codes "x" ∷ []) ≡ None
unfolding clap_on_literals task_of parsed_task named_task
version_with_more = refl

step_with_more : of_words (codes "step" ∷ codes "x" ∷ []) ≡ None
unfolding clap_on_literals task_of parsed_task named_task
step_with_more = refl

no_command : of_words [] ≡ None
unfolding clap_on_literals task_of parsed_task named_task
no_command = refl

wrong_command : of_words (codes "walk" ∷ []) ≡ None
unfolding clap_on_literals task_of parsed_task named_task
wrong_command = refl

help : of_words (codes "help" ∷ []) ≡ None
unfolding clap_on_literals task_of parsed_task named_task
help = refl
