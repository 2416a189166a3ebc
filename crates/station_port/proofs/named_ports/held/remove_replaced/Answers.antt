use Rattle.std.proofs.Common.{rules, not}
use Rattle.std.proofs.lemmas.Fn.{filter_same}
use Rattle.station_port.specs.NamedPorts.Held.{is_replaced}
use Rattle.station_port.proofs.named_ports.held.remove_replaced.Goals as goal

pub returns : goal.returns
returns c = filter_same _ (λ entry. not (is_replaced c.args.peer c.args.triad c.args.id entry)) _ (λ x b f' called. (search rules, search rules)) _ _ c.retain.ensures.filtered
