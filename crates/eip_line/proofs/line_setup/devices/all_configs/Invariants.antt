use Rattle.std.proofs.Common.{◌≡◌, ◌+◌, length}
use Rattle.eip_line.specs.LineSetup.Devices.{line_configs}
use Rattle.eip_line.proofs.line_setup.devices.all_configs.Given as goal

abbrev pub invariant-loop-number : goal.invariant-loop-number
invariant-loop-number l = record {
  configs : l.configs.items ≡ line_configs l.number;
  count : length l.configs.items ≡ l.number + 1;
}
