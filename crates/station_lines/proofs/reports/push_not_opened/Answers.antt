use Rattle.std.specs.Prelude.{codes}
use Rattle.trace_words.specs.Words.{node_word}
use Rattle.station_lines.specs.Reasons.{stream_words}
use Rattle.station_lines.specs.Reports.{retry_text}
use Rattle.station_lines.specs.Attributes.Lemmas.Appended.{four}
use Rattle.station_lines.proofs.reports.push_not_opened.Goals as goal

pub returns : goal.returns
returns c = four _ _ _ _ _ (codes "eip_station: ") (node_word c.args.peer) (stream_words c.args.refused) (retry_text c.args.retry_ms) c.in_ok-push_text.ensures c.in_ok-push_node.ensures c.in_ok-push_stream_words.ensures c.in_ok-push_retry.ensures
