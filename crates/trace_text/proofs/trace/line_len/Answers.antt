use Rattle.trace_text.proofs.TextLines.{found_byte}
use Rattle.trace_text.proofs.trace.line_len.Goals as goal

pub returns : goal.returns
returns c = found_byte c.args.text.now c.memchr.result c.memchr.ensures
