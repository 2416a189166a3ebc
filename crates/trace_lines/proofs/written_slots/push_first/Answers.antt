use Rattle.std.proofs.Common.{append_assoc, refl}
use Rattle.trace_words.specs.Words.{line_text}
use Rattle.trace_lines.specs.Slots.{scanner_words}
use Rattle.trace_lines.proofs.Pieces.{three}
use Rattle.trace_lines.proofs.written_slots.push_first.Goals as goal

pub returns : goal.returns
returns c = three _ _ _ _ _ _ _ (line_text (scanner_words c.args.profile.now)) c.in_ok-write.ensures.bytes c.in_ok-push_node.ensures c.in_ok-write-2.ensures.bytes (simp append_assoc refl)
