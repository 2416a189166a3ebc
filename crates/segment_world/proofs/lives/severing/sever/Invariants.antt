use Rattle.std.proofs.Common.{◌≡◌}
use Rattle.segment_world.specs.Lives.Restarts.{severed}
use Rattle.segment_world.proofs.Cutting.{changed_below}
use Rattle.segment_world.proofs.lives.severing.sever.Given as goal

abbrev pub invariant-loop-number : goal.invariant-loop-number
invariant-loop-number g l = l.world ≡ record l.fn.world { streams = changed_below (severed l.life) l.number l.fn.world.streams }
