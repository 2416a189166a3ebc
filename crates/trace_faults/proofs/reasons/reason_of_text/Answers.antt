use Rattle.std.proofs.Common.{sym}
use Rattle.trace_faults.proofs.Lines.{as_line, no_text}
use Rattle.trace_faults.proofs.reasons.reason_of_text.Goals as goal

pub returns-in-Some : goal.returns-in-Some
returns-in-Some c = as_line c.reason_of_words.result c.args.line.now c.in-Some.text.now c.in-Some.ensures c.reason_of_words.ensures

pub returns-in-None : goal.returns-in-None
returns-in-None c = sym (no_text c.args.line.now c.in-None.ensures)
