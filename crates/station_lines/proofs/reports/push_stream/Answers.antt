use Rattle.std.specs.Prelude.{codes, decimal}
use Rattle.trace_words.specs.Words.{node_word}
use Rattle.station_lines.specs.Attributes.Lemmas.Appended.{behind}
use Rattle.station_lines.proofs.reports.push_stream.Goals as goal

pub returns : goal.returns
returns c = behind _ _ _ (codes "eip_station: stream ") (decimal c.args.stream) (codes " of ") (node_word c.args.peer) c.in_ok-write.ensures.bytes c.in_ok-push_node.ensures
