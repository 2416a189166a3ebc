use Rattle.std.proofs.Common.{refl}
use Rattle.trace_lines.specs.Slots.{terms_of, terms_text}
use Rattle.trace_lines.proofs.Pieces.{four}
use Rattle.trace_lines.proofs.written_slots.push_terms.Goals as goal

pub returns : goal.returns
returns c = four _ _ _ _ _ _ _ _ _ (terms_text (terms_of c.args.profile.now)) c.in_ok-push_tidy.ensures c.in_ok-push_openings.ensures c.in_ok-push_serials.ensures c.in_ok-push_stated_ids.ensures refl
