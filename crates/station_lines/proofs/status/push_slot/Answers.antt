use Rattle.std.specs.Prelude.{codes}
use Rattle.station_lines.specs.Status.{counts_text, point_head, slot_state, terms_text}
use Rattle.station_lines.specs.Attributes.Lemmas.Appended.{four}
use Rattle.station_lines.proofs.status.push_slot.Goals as goal

pub returns : goal.returns
returns c = four _ _ _ _ _ (point_head c.args.at (codes "slot ") c.args.slot) (terms_text c.args.terms) (slot_state c.args.report) (counts_text c.args.counts) c.in_ok-push_point_head.ensures c.in_ok-push_terms.ensures c.in_ok-push_slot_state.ensures c.in_ok-push_counts.ensures
