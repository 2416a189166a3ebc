use Rattle.std.proofs.Common.{◌≡◌, ◌++◌, drop}
use Rattle.segment_world.specs.Lives.Plants.{first_lives}
use Rattle.segment_world.proofs.lives.configs.first_lives.Given as goal

abbrev pub invariant-loop-life : goal.invariant-loop-life
invariant-loop-life l = l.lives.items ++ first_lives l.life (drop l.life l.configs) ≡ first_lives 0 l.configs
