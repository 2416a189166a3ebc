-- Command lines with values and help, worked by hand.
use Rattle.std.proofs.Common.{◌≡◌, [], ◌∷◌, codes, refl, true, false}
use Rattle.command_lines.specs.StationOptions.{option_of}
use Rattle.command_lines.specs.StationTasks.{command_of}
use Rattle.command_lines.specs.Words.Help.{requests_help}
use Rattle.command_lines.specs.Words.Values.{has_options, takes_value}

seconds_has_a_value : takes_value (codes "--seconds") ≡ true
unfolding option_of
seconds_has_a_value = refl

quiet_has_none : takes_value (codes "--quiet") ≡ false
unfolding option_of
quiet_has_none = refl

no_option_has_none : takes_value (codes "--fast") ≡ false
unfolding option_of
no_option_has_none = refl

a_plant_has_options : has_options (codes "plant") ≡ true
unfolding command_of
a_plant_has_options = refl

a_replay_has_none : has_options (codes "replay") ≡ false
unfolding command_of
a_replay_has_none = refl

behind_a_command : requests_help (codes "eip_station" ∷ codes "adapter" ∷ codes "--help" ∷ []) ≡ true
unfolding command_of
behind_a_command = refl

behind_a_file : requests_help (codes "eip_station" ∷ codes "replay" ∷ codes "a.trace" ∷ codes "-h" ∷ []) ≡ true
unfolding command_of
behind_a_file = refl

behind_no_command : requests_help (codes "eip_station" ∷ codes "serve" ∷ codes "--help" ∷ []) ≡ false
unfolding command_of
behind_no_command = refl
