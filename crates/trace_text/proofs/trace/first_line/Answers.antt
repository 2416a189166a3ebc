use Rattle.std.proofs.Common.{rules, ◌∙◌, ◌∷◌, ◌+◌, sym, ap, drop}
use Rattle.trace_text.specs.Reading.{parts_of}
use Rattle.trace_text.proofs.TextLines.{first_line, after_byte, last_line, if_none}
use Rattle.trace_text.proofs.trace.first_line.Goals as goal

pub returns-in_err-end-clause-last : goal.returns-in_err-end-clause-last
returns-in_err-end-clause-last c = if_none _ _ (last_line c.args.text.now (sym c.in_err-end.ensures))

pub returns-clause-line : goal.returns-clause-line
returns-clause-line c =
    let parted = first_line c.args.text.now c.in_ok-end.end (search rules) in
    let rest = after_byte c.args.text.now c.split_at.result.1.now c.in_ok-end.end c.split_at.ensures.back in
    parted ∙ ap (λ line. line ∷ parts_of (drop (c.in_ok-end.end + 1) c.args.text.now)) (sym c.split_at.ensures.front) ∙ ap (λ text. c.split_at.result.0.now ∷ parts_of text) (sym rest)
