use Rattle.std.proofs.Common.{rules, ◌≡◌, Some, None}
use Rattle.std.specs.Prelude.{position}
use Rattle.trace_words.specs.PointNames.Labels.{is_line_feed}
use Rattle.trace_words.proofs.Parts.{first_part, last_part}
use Rattle.trace_words.proofs.point_names.labels.first_line.Goals as goal

pub returns-in-Some-clause-line : goal.returns-in-Some-clause-line
returns-in-Some-clause-line c =
    let found : position is_line_feed c.args.text.now ≡ Some c.in-Some.end = search rules in
    rw (c.parts_at.ensures.front, c.parts_at.ensures.back) (first_part is_line_feed c.args.text.now c.in-Some.end found)

pub returns-in-None-clause-last : goal.returns-in-None-clause-last
returns-in-None-clause-last c =
    let none : position is_line_feed c.args.text.now ≡ None = search rules in
    last_part is_line_feed c.args.text.now none
