use Rattle.std.proofs.Common.{append_assoc, refl}
use Rattle.trace_lines.specs.WrittenProfiles.{adapter_words}
use Rattle.trace_words.specs.Words.{line_text}
use Rattle.trace_lines.proofs.Pieces.{five}
use Rattle.trace_lines.proofs.written_profiles.push_adapter.Goals as goal

pub returns : goal.returns
returns c = five _ _ _ _ _ _ _ _ _ _ _ (line_text (adapter_words c.args.profile.now)) c.in_ok-write.ensures.bytes c.in_ok-push_node.ensures c.in_ok-push_str.ensures.bytes c.in_ok-push_node-2.ensures c.in_ok-push_identity.ensures (simp append_assoc refl)
