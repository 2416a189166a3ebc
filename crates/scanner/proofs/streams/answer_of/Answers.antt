use Rattle.std.proofs.Common.{◌≡◌, [], sym, ap, subst, ◌∙◌}
use Rattle.scanner_table.specs.Effects.{Next}
use Rattle.scanner_slots.specs.Bounding.{IsHinted}
use Rattle.scanner_slots.specs.Views.{table_of}
use Rattle.scanner_transactions.specs.declared.messages.MessageOutcome.{MessageOutcome}
use Rattle.scanner_transactions.specs.declared.messages.MessageOutcome.TheVariants.{Ignored, Answered}
use Rattle.scanner_transactions.specs.MessageOutcomes.{message_next}
use Rattle.scanner_transactions.specs.Transactions.{view_transaction, progress_answer}
use Rattle.scanner_transactions.specs.Undoing.{state_before, table_with}
use Rattle.scanner.proofs.Undone.{both_same}
use Rattle.scanner.proofs.streams.answer_of.Goals as goal

pub returns-in-Answered-clause-next : goal.returns-in-Answered-clause-next
returns-in-Answered-clause-next g c =
    let profile = c.args.transaction.profile.now in
    let t = table_with profile (state_before c.args.transaction) in
    let last = view_transaction c.args.transaction in
    let same : ◌≡◌ {A = Next} (c.commit_bounded.result, table_of profile c.commit_bounded.new.scanner) (message_next t Answered last) = both_same c.commit_bounded.result (progress_answer last []) (table_of profile c.commit_bounded.new.scanner) last.table (c.commit_bounded.ensures.answer ∙ ap (progress_answer last) c.new.ensures.items) c.commit_bounded.ensures.table in
    same ∙ ap (λ (o : MessageOutcome). message_next t o last) (sym c.in-Answered.is)

pub returns-in-Ignored-clause-next : goal.returns-in-Ignored-clause-next
returns-in-Ignored-clause-next g c =
    let profile = c.args.transaction.profile.now in
    let t = table_with profile (state_before c.args.transaction) in
    let last = view_transaction c.args.transaction in
    let same : ◌≡◌ {A = Next} (c.end_unchanged.result, table_of profile c.end_unchanged.new.scanner) (message_next t Ignored last) = both_same c.end_unchanged.result _ (table_of profile c.end_unchanged.new.scanner) t c.end_unchanged.ensures.answer (ap (table_with profile) c.end_unchanged.ensures.state) in
    same ∙ ap (λ (o : MessageOutcome). message_next t o last) (sym c.in-Ignored.is)

pub returns-in-Answered-clause-hints : goal.returns-in-Answered-clause-hints
returns-in-Answered-clause-hints g c hinted =
    subst (IsHinted (g.H.Hints.bounds c.commit_bounded.new.hints)) (sym c.commit_bounded.ensures.table) (c.commit_bounded.ensures.hints hinted)

pub returns-in-Ignored-clause-hints : goal.returns-in-Ignored-clause-hints
returns-in-Ignored-clause-hints g c hinted =
    subst (IsHinted (g.H.Hints.bounds c.args.hints.now)) (sym (ap (table_with c.args.transaction.profile.now) c.end_unchanged.ensures.state)) hinted
