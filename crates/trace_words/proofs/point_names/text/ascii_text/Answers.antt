use Rattle.std.proofs.Common.{sym}
use Rattle.trace_words.proofs.Ascii.{ascii_is_text}
use Rattle.trace_words.proofs.point_names.text.ascii_text.Goals as goal

pub returns-in-Err : goal.returns-in-Err
returns-in-Err c = absurd (c.in-Err.ensures.cases.0 (ascii_is_text c.args.bytes.now (sym c.if-not-is_ascii.ensures)))
