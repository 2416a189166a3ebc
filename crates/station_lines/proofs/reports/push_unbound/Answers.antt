use Rattle.std.specs.Prelude.{codes}
use Rattle.trace_words.specs.Words.{node_word}
use Rattle.station_lines.specs.Reports.{unbound_port_text}
use Rattle.station_lines.specs.Attributes.Lemmas.Appended.{three}
use Rattle.station_lines.proofs.reports.push_unbound.Goals as goal

pub returns : goal.returns
returns c = three _ _ _ _ (codes "eip_station: no datagram of the group ") (node_word c.args.group.address) (unbound_port_text c.args.group.port) c.in_ok-push_text.ensures c.in_ok-push_node.ensures c.in_ok-push_unbound_port.ensures
