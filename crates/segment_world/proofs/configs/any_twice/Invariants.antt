use Rattle.std.proofs.Common.{◌≡◌, drop}
use Rattle.segment_world.specs.Configs.{any_twice}
use Rattle.segment_world.proofs.configs.any_twice.Given as goal

abbrev pub invariant-loop-index : goal.invariant-loop-index
invariant-loop-index l = any_twice l.key (drop l.index l.configs) ≡ any_twice l.key l.configs
