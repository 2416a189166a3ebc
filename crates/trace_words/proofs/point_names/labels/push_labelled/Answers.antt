use Rattle.std.proofs.Common.{rules, ◌≡◌, ◌∷◌}
use Rattle.trace_words.specs.PointNames.Labels.{lines_in}
use Rattle.trace_words.specs.PointNames.Things.{devices_in, names_in}
use Rattle.trace_words.proofs.Walks.{line_more}
use Rattle.trace_words.proofs.point_names.labels.push_labelled.Goals as goal

pub loop-line-preserved : goal.loop-line-preserved
loop-line-preserved c =
    let parted : lines_in c.loop-line.rest.now ≡ c.in-Some.line.now ∷ lines_in c.in-Some.after.now = search rules in
    line_more (names_in c.args.names.now) (devices_in c.args.devices.now) c.in-Some.line.now c.loop-line.rest.now c.in-Some.after.now _ _ _ _ c.loop-line.invariant parted c.in_ok-push_line.ensures c.in_ok-extend_from_slice.ensures.items
