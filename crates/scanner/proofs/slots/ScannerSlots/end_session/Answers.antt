use Rattle.std.proofs.Common.{refl, sym, ap, ◌∙◌, subst}
use Rattle.scanner_table.specs.Effects.{done}
use Rattle.scanner_table.specs.Encapsulation.{session_renewed}
use Rattle.scanner_slots.specs.Bounding.{IsHinted}
use Rattle.scanner_slots.specs.Views.{table_of}
use Rattle.scanner_transactions.specs.Transactions.{Progress, view_transaction, followed, progress_answer}
use Rattle.scanner.proofs.Doing.{as_ok, transaction_done}
use Rattle.scanner.proofs.Undone.{bounded_on, same_table, same_profile, undone_follows}
use Rattle.scanner.proofs.slots.ScannerSlots.end_session.Goals as goal

pub begin-transaction-requires : goal.begin-transaction-requires
begin-transaction-requires g c = record { faultless = c.requires.faultless; time = c.requires.clock; blocks = c.requires.blocks; begins = c.requires.ids_begin }

pub returns-in-Ok-clause-step : goal.returns-in-Ok-clause-step
returns-in-Ok-clause-step g c =
    let profile = c.args.self.now.profile in
    let t = table_of profile c.args.self.now.state in
    let effect = session_renewed c.args.stream in
    let last = view_transaction c.renew_session.new.transaction in
    let is = c.in-Ok.ensures.effect ∙ ap (λ (d : Progress). followed d (effect d.table)) c.begin-transaction.ensures.effect in
    ap as_ok (transaction_done t (effect t) last c.commit_bounded.result _ is (c.commit_bounded.ensures.answer ∙ ap (progress_answer last) c.new-none.ensures.items) (same_profile c.begin-transaction.result c.renew_session.new.transaction profile c.commit_bounded.new.scanner c.begin-transaction.ensures.profile c.renew_session.ensures.kept.0 c.commit_bounded.ensures.table))

pub returns-in-Err-clause-step : goal.returns-in-Err-clause-step
returns-in-Err-clause-step g c =
    let profile = c.args.self.now.profile in
    let t = table_of profile c.args.self.now.state in
    let same = same_table profile c.begin-transaction.result c.renew_session.new.transaction c.args.self.now.state c.roll_back.new.scanner c.begin-transaction.ensures.kept c.renew_session.ensures.kept.2 c.roll_back.ensures.state in
    undone_follows (as_ok (done (session_renewed c.args.stream t))) t (table_of profile c.roll_back.new.scanner) c.roll_back.result c.roll_back.ensures.fault same refl

pub returns-in-Ok-clause-hints : goal.returns-in-Ok-clause-hints
returns-in-Ok-clause-hints g c hinted =
    let profile = c.args.self.now.profile in
    bounded_on (g.H.Hints.bounds c.args.hints.now) (g.H.Hints.bounds c.commit_bounded.new.hints) c.begin-transaction.result c.renew_session.new.transaction profile c.args.self.now.state c.commit_bounded.new.scanner c.begin-transaction.ensures.profile c.renew_session.ensures.kept.0 c.begin-transaction.ensures.kept c.renew_session.ensures.kept.2 c.commit_bounded.ensures.table c.commit_bounded.ensures.hints hinted

pub returns-in-Err-clause-hints : goal.returns-in-Err-clause-hints
returns-in-Err-clause-hints g c hinted =
    let profile = c.args.self.now.profile in
    let same = same_table profile c.begin-transaction.result c.renew_session.new.transaction c.args.self.now.state c.roll_back.new.scanner c.begin-transaction.ensures.kept c.renew_session.ensures.kept.2 c.roll_back.ensures.state in
    subst (IsHinted (g.H.Hints.bounds c.args.hints.now)) (sym same) hinted
