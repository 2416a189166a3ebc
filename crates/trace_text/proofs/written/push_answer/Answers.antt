use Rattle.std.proofs.Common.{append_assoc, refl}
use Rattle.cip_events.specs.declared.event.Event.TheVariants.{Respond}
use Rattle.trace_text.specs.Written.{event_words}
use Rattle.trace_words.specs.Words.{line_text}
use Rattle.trace_text.proofs.Pieces.{three}
use Rattle.trace_text.proofs.written.push_answer.Goals as goal

pub returns : goal.returns
returns c = three _ _ _ _ _ _ _ (line_text (event_words (Respond c.args.number c.args.status c.args.bytes.now))) c.in_ok-write.ensures.bytes c.in_ok-push_digits.ensures c.in_ok-push_last_bytes.ensures (simp append_assoc refl)
