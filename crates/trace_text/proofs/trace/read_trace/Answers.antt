use Rattle.std.proofs.Common.{rules, ◌≡◌, ◌∷◌, sym, arith}
use Rattle.trace_text.specs.Reading.{parts_of}
use Rattle.trace_text.proofs.TextLines.{good_line, bad_line}
use Rattle.trace_text.proofs.trace.read_trace.Goals as goal

pub returns-in-Err-Bad : goal.returns-in-Err-Bad
returns-in-Err-Bad c =
    let parted : parts_of c.loop-line.rest.now ≡ c.in-Some.line.now ∷ parts_of c.in-Some.after.now = search rules in
    sym (bad_line _ c.loop-line.number c.loop-line.builder c.loop-line.rest.now c.in-Some.after.now c.in-Some.line.now c.loop-line.invariant.0 parted (rw c.in-Err-Bad.field-0-is at c.in-Err-Bad.ensures))

pub loop-line-preserved : goal.loop-line-preserved
loop-line-preserved c =
    let parted : parts_of c.loop-line.rest.now ≡ c.in-Some.line.now ∷ parts_of c.in-Some.after.now = search rules in
    (good_line _ c.loop-line.number c.loop-line.builder _ c.loop-line.rest.now c.in-Some.after.now c.in-Some.line.now c.loop-line.invariant.0 parted c.in-Ok.ensures, omega (arith, c.loop-line.invariant.1, c.in-Some.ensures.shorter))
