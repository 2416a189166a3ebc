use Rattle.std.proofs.Common.{rules, ◌≡◌}
use Rattle.std.proofs.lemmas.Str.{IsUtf8-from_ascii}
use Rattle.hex.specs.Hex.{encode_lower, lower_digits}
use Rattle.hex.proofs.HexLemmas.{IsAscii-encode_with}
use Rattle.trace_words.proofs.HexWords.{lower_ascii}
use Rattle.trace_words.proofs.written.push_piece.Goals as goal

pub from_utf8_unchecked-requires : goal.from_utf8_unchecked-requires
from_utf8_unchecked-requires c =
    let is : c.encode_to_slice.new.output ≡ encode_lower c.args.piece.now = search rules in
    IsUtf8-from_ascii _ (rw is (IsAscii-encode_with lower_digits c.args.piece.now lower_ascii))
