use Rattle.std.proofs.Common.{rules, ◌≡◌, ◌∷◌, true, sym, ◌∙◌}
use Rattle.trace_text.specs.Reading.{parts_of}
use Rattle.trace_faults.specs.ProfileLines.{is_named}
use Rattle.trace_faults.proofs.NumberedLines.{found_first}
use Rattle.trace_faults.proofs.profile_draft.line_number.Goals as goal

pub returns-then-before-eq0 : goal.returns-then-before-eq0
returns-then-before-eq0 c =
    let parted : parts_of c.loop-line.rest.now ≡ c.in-Some.line.now ∷ parts_of c.in-Some.after.now = search rules in
    let named : is_named c.args.name c.in-Some.line.now ≡ true = search rules in
    sym (c.loop-line.invariant.0 ∙ found_first c.loop-line.number c.args.name c.loop-line.before c.loop-line.rest.now c.in-Some.after.now c.in-Some.line.now parted named (search rules))
