use Rattle.std.proofs.Common.{append_assoc, refl}
use Rattle.cip_events.specs.declared.event.Event.TheVariants.{Explicit}
use Rattle.trace_text.specs.Written.{event_words}
use Rattle.trace_words.specs.Words.{line_text}
use Rattle.trace_text.proofs.Pieces.{three}
use Rattle.trace_text.proofs.written.push_explicit.Goals as goal

pub returns : goal.returns
returns c = three _ _ _ _ _ _ _ (line_text (event_words (Explicit c.args.target c.args.number c.args.bytes.now))) c.in_ok-push_str.ensures.bytes c.in_ok-push_node.ensures c.in_ok-push_of_number.ensures (simp append_assoc refl)
