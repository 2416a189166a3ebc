use Rattle.std.specs.Prelude.{◌-◌, codes}
use Rattle.trace_words.specs.Words.{node_word}
use Rattle.station_lines.specs.Reasons.{next_text, stream_words}
use Rattle.station_lines.specs.Attributes.Lemmas.Appended.{five}
use Rattle.station_lines.proofs.reasons.push_stream_refusal.Goals as goal

pub returns : goal.returns
returns c = five _ _ _ _ _ _ (codes "no stream: ") (node_word c.args.target) (stream_words c.args.refusal.refused) (codes "; ") (next_text (c.args.refusal.next_ms - c.args.now_ms)) c.in_ok-push_text.ensures c.in_ok-push_node.ensures c.in_ok-push_stream_words.ensures c.in_ok-push_text-2.ensures c.in_ok-push_next_at.ensures
