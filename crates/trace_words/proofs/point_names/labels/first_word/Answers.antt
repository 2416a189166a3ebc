use Rattle.std.proofs.Common.{rules, ◌≡◌, Some, None}
use Rattle.std.specs.Prelude.{position}
use Rattle.trace_words.specs.PointNames.Labels.{is_gap}
use Rattle.trace_words.proofs.Parts.{first_part, last_part}
use Rattle.trace_words.proofs.point_names.labels.first_word.Goals as goal

pub returns-in-Some-clause-word : goal.returns-in-Some-clause-word
returns-in-Some-clause-word c =
    let found : position is_gap c.args.line.now ≡ Some c.in-Some.end = search rules in
    rw (c.parts_at.ensures.front, c.parts_at.ensures.back) (first_part is_gap c.args.line.now c.in-Some.end found)

pub returns-in-None-clause-last : goal.returns-in-None-clause-last
returns-in-None-clause-last c =
    let none : position is_gap c.args.line.now ≡ None = search rules in
    last_part is_gap c.args.line.now none
