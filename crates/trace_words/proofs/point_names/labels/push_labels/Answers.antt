use Rattle.std.proofs.Common.{rules, ◌≡◌, ◌∷◌}
use Rattle.trace_words.specs.PointNames.Labels.{words_in}
use Rattle.trace_words.specs.PointNames.Things.{devices_in, names_in}
use Rattle.trace_words.proofs.Walks.{label_more}
use Rattle.trace_words.proofs.point_names.labels.push_labels.Goals as goal

pub loop-word-preserved : goal.loop-word-preserved
loop-word-preserved c =
    let parted : words_in c.loop-word.rest.now ≡ c.in-Some.word.now ∷ words_in c.in-Some.after.now = search rules in
    label_more (names_in c.args.names.now) (devices_in c.args.devices.now) c.loop-word.is_first _ c.loop-word.expected _ c.loop-word.before.now c.in-Some.word.now c.loop-word.rest.now c.in-Some.after.now _ _ _ _ c.loop-word.invariant parted c.name_behind-name.ensures c.in_ok-push_label.ensures c.is_still_first-is_first.ensures c.expected_after-expected.ensures
