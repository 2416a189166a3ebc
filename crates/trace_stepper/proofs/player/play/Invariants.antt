use Rattle.std.proofs.Common.{drop, length}
use Rattle.trace_stepper.proofs.Plays.{IsPlaying}
use Rattle.trace_stepper.proofs.player.play.Given as goal

abbrev pub invariant-loop-text : goal.invariant-loop-text
invariant-loop-text g l = IsPlaying l.fn.trace (g.O.Write.contents l.fn.out) (g.O.Write.contents l.out) (g.D.Device.table l.stepper.device) (drop l.stepper.place l.stepper.trace.now.events) l.place l.differs

abbrev pub decreases-loop-text : goal.decreases-loop-text
decreases-loop-text g l = length (drop l.stepper.place l.stepper.trace.now.events)
