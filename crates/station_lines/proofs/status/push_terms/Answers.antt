use Rattle.std.specs.Prelude.{codes}
use Rattle.trace_words.specs.Words.{node_word}
use Rattle.station_lines.specs.Status.{config_text, slot_kind_text}
use Rattle.station_lines.specs.Attributes.Lemmas.Appended.{four}
use Rattle.station_lines.proofs.status.push_terms.Goals as goal

pub returns : goal.returns
returns c = four _ _ _ _ _ (node_word c.args.terms.target) (slot_kind_text c.args.terms) (config_text c.args.terms.config) (codes " ") c.in_ok-push_node.ensures c.in_ok-push_slot_kind.ensures c.in_ok-push_config.ensures c.in_ok-push_text.ensures
