-- Which words have values.
use Rattle.std.specs.Prelude.{ℕ, Bool, true, false, List, Option, Some, None}
use Rattle.command_lines.specs.StationOptions.{option_of}
use Rattle.command_lines.specs.StationTasks.{command_of}
use Rattle.command_lines.specs.declared.station_options.OptionName.{OptionName}
use Rattle.command_lines.specs.declared.station_options.OptionName.TheVariants as name
use Rattle.command_lines.specs.declared.station_task.StationCommand.{StationCommand}
use Rattle.command_lines.specs.declared.station_task.StationCommand.TheVariants as command

abbrev pub is_valued : Option OptionName → Bool
is_valued None = false
is_valued (Some (name.Alone given)) = false
is_valued (Some (name.Valued _)) = true

-- a word is an option with a value, which is the next word
abbrev pub takes_value : List ℕ → Bool
takes_value word = is_valued (option_of word)

-- the commands with options
abbrev pub command_has_options : StationCommand → Bool
command_has_options command.Adapter = true
command_has_options command.Scanner = true
command_has_options command.Plant = true
command_has_options command.Identity = true
command_has_options other = false

abbrev pub named_has_options : Option StationCommand → Bool
named_has_options None = false
named_has_options (Some named) = command_has_options named

-- a word is a command with options
abbrev pub has_options : List ℕ → Bool
has_options word = named_has_options (command_of word)
