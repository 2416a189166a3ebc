use Rattle.station_lines.specs.Status.{age_text, connection_head, counts_text, purpose_text}
use Rattle.trace_words.specs.Words.{node_word}
use Rattle.station_lines.specs.Attributes.Lemmas.Appended.{five}
use Rattle.station_lines.proofs.status.push_connection.Goals as goal

pub returns : goal.returns
returns c = five _ _ _ _ _ _ (connection_head c.args.at c.args.counted.id) (node_word c.args.report.peer) (purpose_text c.args.report) (age_text c.args.report.age) (counts_text c.args.counted.counts) c.in_ok-push_connection_head.ensures c.in_ok-push_node.ensures c.in_ok-push_purpose.ensures c.in_ok-push_age.ensures c.in_ok-push_counts.ensures
