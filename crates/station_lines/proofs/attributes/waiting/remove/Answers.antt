use Rattle.std.proofs.Common.{rules, not}
use Rattle.std.proofs.lemmas.Fn.{filter_same}
use Rattle.station_lines.specs.Attributes.Requested.{has_number}
use Rattle.station_lines.proofs.attributes.waiting.remove.Goals as goal

pub returns : goal.returns
returns c = filter_same _ (λ requested. not (has_number c.args.number requested)) _ (λ x b f' called. (search rules, search rules)) _ _ c.retain.ensures.filtered
