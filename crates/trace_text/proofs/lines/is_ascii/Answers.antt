use Rattle.trace_text.proofs.AsciiLines.{ascii_is}
use Rattle.trace_text.proofs.lines.is_ascii.Goals as goal

pub returns : goal.returns
returns c = ascii_is c.args.line.now c.is_ascii.result c.is_ascii.ensures.cases
