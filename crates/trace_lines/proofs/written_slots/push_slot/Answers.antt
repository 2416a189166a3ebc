use Rattle.std.proofs.Common.{append_assoc, refl}
use Rattle.trace_words.specs.Words.{line_text}
use Rattle.trace_lines.specs.Slots.{slot_words}
use Rattle.trace_lines.proofs.Pieces.{four}
use Rattle.trace_lines.proofs.written_slots.push_slot.Goals as goal

pub returns : goal.returns
returns c = four _ _ _ _ _ _ _ _ _ (line_text (slot_words c.args.slot.now)) c.in_ok-push_purpose.ensures c.in_ok-push_sizes.ensures c.in_ok-push_key.ensures c.in_ok-push_slot_end.ensures (simp append_assoc refl)
