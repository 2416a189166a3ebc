use Rattle.std.proofs.Common.{[], arith}
use Rattle.std.specs.Io.KnownBytes.{Appends}
use Rattle.trace_stepper.proofs.Writes.{writing_begun, writing_more, writing_left, writing_kept, writing_done, writing_stopped}
use Rattle.trace_stepper.proofs.writing.write_text.Goals as goal
use Rattle.trace_stepper.proofs.writing.write_text.Goals.{in-Ok, in-Err}

pub loop-init : goal.loop-init
loop-init g c = writing_begun _ _

pub returns-then-is_empty : goal.returns-then-is_empty
returns-then-is_empty g c = writing_done _ _ _ _ c.loop.invariant (grind (arith, c.is_empty.ensures, c.if-is_empty.true))

pub returns-in-Ok-eq0 : goal.returns-in-Ok-eq0
returns-in-Ok-eq0 g c =
    let none : Appends (g.W.Write.contents c.loop.out) (g.W.Write.contents c.write.new.self) [] = rw (c.in-Ok-eq0.is, c.in-Ok-eq0.field-0-test) at c.write.ensures.bytes in
    writing_stopped _ _ _ _ (writing_more _ _ _ _ _ 0 c.loop.invariant none)

pub returns-in-Err-2 : goal.returns-in-Err-2
returns-in-Err-2 g c = writing_stopped _ _ _ _ (writing_kept _ _ _ _ _ c.loop.invariant c.in-Err-2.ensures.bytes)

pub loop-preserved : goal.loop-preserved
loop-preserved g c = elim c.match-write.branch [ in-Ok w ↦ rw w.rest-is (writing_left _ _ _ _ _ w.in-Ok.count c.loop.invariant w.in-Ok.ensures.bytes) | in-Err w ↦ rw w.rest-is (writing_kept _ _ _ _ _ c.loop.invariant w.in-Err.ensures.bytes) ]

pub returns : goal.returns
returns g c = writing_stopped _ _ _ _ c.loop.invariant
