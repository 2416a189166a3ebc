use Rattle.trace_words.specs.Words.{node_word}
use Rattle.station_lines.specs.Attributes.Replies.{moment_text, numbers_text, service_word}
use Rattle.station_lines.specs.Attributes.Lemmas.Appended.{four, named}
use Rattle.station_lines.proofs.attributes.replies.push_requested.Goals as goal

pub returns : goal.returns
returns c = four _ _ _ _ _ (moment_text c.args.moment) (service_word c.args.requested.service) (node_word c.args.requested.at.target) (numbers_text c.args.requested.at) c.in_ok-push_moment.ensures (named _ _ _ _ c.in_ok-push_text.ensures c.service_word.ensures) c.in_ok-push_node.ensures c.in_ok-push_numbers.ensures
