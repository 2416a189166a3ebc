use Rattle.std.specs.Prelude.{codes}
use Rattle.trace_words.specs.Words.{node_word}
use Rattle.station_lines.specs.Attributes.Lemmas.Appended.{three}
use Rattle.station_lines.proofs.reports.push_full.Goals as goal

pub returns : goal.returns
returns c = three _ _ _ _ (codes "eip_station: a connection of ") (node_word c.args.peer) (codes " is refused: 16 streams are open\n") c.in_ok-push_text.ensures c.in_ok-push_node.ensures c.in_ok-push_text-2.ensures
