use Rattle.std.proofs.Common.{[], ◌∷◌, codes}
use Rattle.hex.specs.Hex.{encode_lower}
use Rattle.trace_words.specs.Words.{bytes_word}
use Rattle.trace_words.specs.StatusWords.Statuses.{status_name}
use Rattle.station_lines.specs.Attributes.Lemmas.Appended.{named, six}
use Rattle.station_lines.proofs.attributes.replies.push_status.Goals as goal

pub returns : goal.returns
returns c = six _ _ _ _ _ _ _ (codes "status ") (encode_lower (c.args.status ∷ [])) (codes " (") (status_name c.args.status) (codes ") additional ") (bytes_word c.args.additional.now) c.in_ok-push_text.ensures c.in_ok-push_digits.ensures c.in_ok-push_text-2.ensures (named _ _ _ _ c.in_ok-push_text-3.ensures c.status_name.ensures) c.in_ok-push_text-4.ensures c.in_ok-push_bytes.ensures
