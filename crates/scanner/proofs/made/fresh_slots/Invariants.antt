use Rattle.std.proofs.Common.{◌≡◌, map, take}
use Rattle.scanner_table.specs.Step.{fresh_slot}
use Rattle.scanner.proofs.made.fresh_slots.Given as goal

abbrev pub invariant-loop-config : goal.invariant-loop-config
invariant-loop-config l = l.slots.items ≡ map fresh_slot (take l.config-index l.configs)
