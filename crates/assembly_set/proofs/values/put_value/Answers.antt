use Rattle.std.proofs.Common.{◌≡◌, ℕ, List, length, map, get_or, set, sym, ap, ◌∙◌}
use Rattle.std.proofs.lemmas.List.Quantifiers.{position-Some}
use Rattle.adapter_table.specs.Points.{is_value_of, put_value}
use Rattle.adapter_table.specs.Shapes.{shape_of}
use Rattle.adapter_table.specs.Fitting.{put_shapes}
use Rattle.assembly_set.proofs.Shaping.{fit_at}
use Rattle.assembly_set.proofs.Putting.{same_of, put_there, none_placed}
use Rattle.assembly_set.proofs.values.put_value.Goals as goal

pub returns-in_default-clause-values : goal.returns-in_default-clause-values
returns-in_default-clause-values c = sym (none_placed c.args.point c.args.bytes.now c.args.values.now (sym c.index_of.ensures ∙ c.in_default.is))

pub overwrite-requires : goal.overwrite-requires
overwrite-requires c =
    let d = c.index-values-at.result in
    let there = position-Some (is_value_of c.args.point) c.args.values.now c.in-Some.at d (sym c.index_of.ensures ∙ c.in-Some.is) in
    fit_at c.args.point (length c.args.bytes.now) c.args.values.now c.in-Some.at d c.requires.fit there.0 (same_of _ c.args.point there.1)

put : (c : goal.After-overwrite) → set c.args.values.now c.in-Some.at (record (get_or c.args.values.now c.in-Some.at c.index-values-at.result) { bytes = c.overwrite.new.self }) ≡ put_value c.args.point c.args.bytes.now c.args.values.now
put c =
    let d = c.index-values-at.result in
    let there = position-Some (is_value_of c.args.point) c.args.values.now c.in-Some.at d (sym c.index_of.ensures ∙ c.in-Some.is) in
    ap (λ (b : List ℕ). set c.args.values.now c.in-Some.at (record (get_or c.args.values.now c.in-Some.at d) { bytes = b })) c.overwrite.ensures
    ∙ put_there c.args.point c.args.bytes.now c.args.values.now c.in-Some.at d there.0 there.1 c.requires.distinct

pub returns-clause-values : goal.returns-clause-values
returns-clause-values c = put c

pub returns-clause-shapes : goal.returns-clause-shapes
returns-clause-shapes c = ap (map shape_of) (put c) ∙ put_shapes c.args.point c.args.bytes.now c.args.values.now c.requires.fit
