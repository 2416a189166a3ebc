use Rattle.std.proofs.Common.{append_assoc, refl}
use Rattle.std.proofs.Common.{[], ◌∷◌}
use Rattle.trace_words.specs.Words.{node_word, bytes_word}
use Rattle.trace_words.specs.Words.{line_text}
use Rattle.trace_text.proofs.Pieces.{three}
use Rattle.trace_text.proofs.written.push_of_node.Goals as goal

pub returns : goal.returns
returns c = three _ _ _ _ _ _ _ (line_text (c.args.keyword.now ∷ node_word c.args.node ∷ bytes_word c.args.bytes.now ∷ [])) c.in_ok-write.ensures.bytes c.in_ok-push_node.ensures c.in_ok-push_last_bytes.ensures (simp append_assoc refl)
