use Rattle.std.proofs.Common.{List, ℕ, ◌++◌, ◌∙◌, rules, sym, subst, inl, inr}
use Rattle.std.proofs.lemmas.Bool.{false≢true}
use Rattle.cip_encap.specs.Stream.{AreMessages, EndsTooLong}
use Rattle.cip_encap.proofs.StreamLaws.{one_messages, messages_go_on}
use Rattle.cip_encap.proofs.splitter.Splitter.feed.Goals as goal

pub returns-clause-messages : goal.returns-clause-messages
returns-clause-messages c =
    subst (λ (x : List ℕ). AreMessages (x ++ c.args.piece.now) c.in_ok-messages.messages.items c.split.new.kept.items) c.self.view_is c.in_ok-messages.ensures.messages

pub returns-clause-only : goal.returns-clause-only
returns-clause-only c = λ others rest other. one_messages (c.args.self.now ++ c.args.piece.now) c.in_ok-messages.messages.items others c.split.new.kept.items rest (returns-clause-messages c) other

pub returns-clause-goes_on : goal.returns-clause-goes_on
returns-clause-goes_on c = λ stream before first. messages_go_on stream c.args.self.now c.args.piece.now c.split.new.kept.items before c.in_ok-messages.messages.items first (returns-clause-messages c)

-- the stream does not end too long
not_long : (c : goal.In_ok-messages) → EndsTooLong (c.args.self.now ++ c.args.piece.now) → ⊥
not_long c ends =
    let kept = c.as_slice.ensures.value ∙ c.self.view_is in
    false≢true (sym c.if-is_too_long.false ∙ c.is_too_long.ensures.1 (subst (λ (x : List ℕ). EndsTooLong (x ++ c.args.piece.now)) (sym kept) ends))

pub returns-clause-too_long : goal.returns-clause-too_long
returns-clause-too_long c = (λ e. absurd cc, λ ends. absurd (not_long c ends))

pub returns-clause-small : goal.returns-clause-small
returns-clause-small c =
    elim c.in_ok-messages.ensures.small [
      | inl long ↦ absurd (not_long c (c.in_ok-messages.messages.items, (c.split.new.kept.items, returns-clause-messages c, long)))
      | inr small ↦ small
    ]

pub returns-then-is_too_long-clause-err : goal.returns-then-is_too_long-clause-err
returns-then-is_too_long-clause-err c = search rules
