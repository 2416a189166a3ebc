use Rattle.std.proofs.Common.{sym}
use Rattle.trace_text.proofs.AsciiLines.{ascii_text}
use Rattle.trace_text.proofs.lines.ascii_text.Goals as goal

pub from_utf8_unchecked-requires : goal.from_utf8_unchecked-requires
from_utf8_unchecked-requires c = ascii_text c.args.line.now (sym c.if-not-is_ascii.ensures)
