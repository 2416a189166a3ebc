use Rattle.std.proofs.Common.{◌≡◌, drop}
use Rattle.segment_world.specs.Configs.{first_fault}
use Rattle.segment_world.proofs.configs.first_fault.Given as goal

abbrev pub invariant-loop-config : goal.invariant-loop-config
invariant-loop-config l = first_fault (drop l.config-index l.configs) ≡ first_fault l.configs
