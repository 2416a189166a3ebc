use Rattle.std.proofs.Common.{◌≡◌, map, take}
use Rattle.trace_words.specs.PointNames.Things.{devices_in}
use Rattle.plant_command.specs.Setups.{device_entry}
use Rattle.plant_command.proofs.setups.device_names.Given as goal

-- the devices so far
abbrev pub invariant-loop-set_up : goal.invariant-loop-set_up
invariant-loop-set_up l = devices_in l.names ≡ map device_entry (take l.set_up-index l.setups)
