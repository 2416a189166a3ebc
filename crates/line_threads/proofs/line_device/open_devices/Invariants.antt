use Rattle.std.proofs.Common.{◌≡◌, take}
use Rattle.line_threads.proofs.line_device.open_devices.Given as goal

abbrev pub invariant-loop-config : goal.invariant-loop-config
invariant-loop-config g l = l.devices.items ≡ take l.config-index l.configs
