use Rattle.std.proofs.Common.{◌++◌, ◌∙◌, ap, string_bytes}
use Rattle.std.proofs.lemmas.List.{append_assoc}
use Rattle.trace_words.specs.StatusWords.Reasons.{reason_text, slot_front}
use Rattle.trace_words.proofs.status_words.push_unopened.Goals as goal

pub returns : goal.returns
returns c = c.in_ok-push_reason.ensures ∙ ap (λ text. text ++ reason_text c.args.reason) c.in_ok-push_slot_front.ensures ∙ append_assoc (string_bytes c.args.out.now) (slot_front c.args.slot) (reason_text c.args.reason)
