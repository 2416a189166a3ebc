use Rattle.std.proofs.Common.{◌≤◌, ◌-◌, length}
use Rattle.segment_world.specs.Transit.Spares.{AreSpare}
use Rattle.segment_world.proofs.transit.buffers.Buffers.refill.Given as goal

abbrev pub invariant-loop-self : goal.invariant-loop-self
invariant-loop-self l = (l.fn.self ≤ length l.self-inside.spares.items) × AreSpare l.self-inside.spares.items

abbrev pub decreases-loop-self : goal.decreases-loop-self
decreases-loop-self l = 64 - length l.self-inside.spares.items
