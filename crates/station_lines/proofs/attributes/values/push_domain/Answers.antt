use Rattle.std.proofs.Common.{codes}
use Rattle.station_lines.specs.Attributes.Values.{addresses_text, quoted_text}
use Rattle.station_lines.specs.Attributes.Lemmas.Appended.{three}
use Rattle.station_lines.proofs.attributes.values.push_domain.Goals as goal

pub returns : goal.returns
returns c = three _ _ _ _ (addresses_text c.args.bytes.now) (codes " domain ") (quoted_text c.args.domain.now) c.in_ok-push_addresses.ensures c.in_ok-push_text.ensures c.in_ok-push_quoted.ensures
