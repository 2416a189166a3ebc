use Rattle.std.proofs.Common.{sym}
use Rattle.eds_text.proofs.NameBytes.{name_text}
use Rattle.eds_text.proofs.names.described_name.Goals as goal

pub from_utf8_unchecked-requires : goal.from_utf8_unchecked-requires
from_utf8_unchecked-requires c = name_text _ (sym c.if-not-are_name.ensures)
