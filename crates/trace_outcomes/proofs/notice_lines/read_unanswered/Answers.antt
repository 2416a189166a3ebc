use Rattle.std.proofs.Common.{◌≡◌, ◌∷◌, ◌∙◌, ap, codes}
use Rattle.trace_words.specs.Reader.{unread_words}
use Rattle.trace_outcomes.proofs.notice_lines.read_unanswered.Goals as goal

pub returns-in-text : goal.returns-in-text
returns-in-text c =
    let first : unread_words c.args.words.now ≡ codes "timed-out" ∷ unread_words c.word.new.self = c.in_ok-word.ensures ∙ ap (λ word. word ∷ unread_words c.word.new.self) c.in-text.is in
    rw first c.last.ensures

pub returns-in-lost : goal.returns-in-lost
returns-in-lost c =
    let first : unread_words c.args.words.now ≡ codes "lost" ∷ unread_words c.word.new.self = c.in_ok-word.ensures ∙ ap (λ word. word ∷ unread_words c.word.new.self) c.in-lost.is in
    rw first c.last-in-lost.ensures

pub returns-in-unreadable : goal.returns-in-unreadable
returns-in-unreadable c =
    let first : unread_words c.args.words.now ≡ codes "unreadable" ∷ unread_words c.word.new.self = c.in_ok-word.ensures ∙ ap (λ word. word ∷ unread_words c.word.new.self) c.in-unreadable.is in
    rw first c.last-in-unreadable.ensures
