use Rattle.std.proofs.Common.{append_assoc, refl}
use Rattle.trace_lines.specs.WrittenProfiles.{description_words}
use Rattle.trace_words.specs.Words.{line_text}
use Rattle.trace_lines.proofs.Pieces.{five}
use Rattle.trace_lines.proofs.written_profiles.push_described.Goals as goal

pub returns : goal.returns
returns c = five _ _ _ _ _ _ _ _ _ _ _ (line_text (description_words c.args.description.now)) c.in_ok-write.ensures.bytes (rw c.as_slice.ensures at c.in_ok-push_bytes.ensures) c.in_ok-write-2.ensures.bytes (rw c.as_slice-2.ensures at c.in_ok-push_bytes-2.ensures) c.in_ok-write-3.ensures.bytes (simp append_assoc refl)
