use Rattle.std.proofs.Common.{rules, ◌≡◌, ◌∷◌, arith}
use Rattle.trace_words.specs.PointNames.Labels.{lines_in}
use Rattle.trace_words.specs.PointNames.Things.{names_in}
use Rattle.trace_words.proofs.Taking.{bad_more, names_more}
use Rattle.trace_words.proofs.point_names.names.read_names.Goals as goal

pub loop-line-preserved : goal.loop-line-preserved
loop-line-preserved c =
    let parted : lines_in c.loop-line.rest.now ≡ c.in-Some.line.now ∷ lines_in c.in-Some.after.now = search rules in
    (names_more (names_in c.loop-line.names) _ _ c.in-Some.line.now c.loop-line.rest.now c.in-Some.after.now c.loop-line.invariant.0 parted c.in_ok-take_line.ensures.names, (bad_more c.loop-line.number (names_in c.loop-line.names) _ c.loop-line.bad.items _ _ c.in-Some.line.now c.loop-line.rest.now c.in-Some.after.now c.loop-line.invariant.1.0 parted c.in_ok-take_line.ensures.names c.in_ok-take_line.ensures.bad, omega (arith, c.loop-line.invariant.1.1, c.in-Some.ensures.shorter)))
