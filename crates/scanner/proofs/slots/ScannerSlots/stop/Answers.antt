use Rattle.std.proofs.Common.{◌∙◌, ap, sym, subst}
use Rattle.scanner_slots.specs.Bounding.{IsHinted}
use Rattle.scanner_slots.specs.Views.{table_of}
use Rattle.scanner_transactions.specs.Transactions.{view_transaction, progress_answer}
use Rattle.scanner.proofs.Doing.{stop_taken, stop_refused}
use Rattle.scanner.proofs.Undone.{bounded_on, same_table, same_profile}
use Rattle.scanner.proofs.slots.ScannerSlots.stop.Goals as goal

pub begin-transaction-requires : goal.begin-transaction-requires
begin-transaction-requires g c = record { faultless = c.requires.faultless; time = c.requires.clock; blocks = c.requires.blocks; begins = c.requires.ids_begin }

pub returns-in-Ok-clause-step : goal.returns-in-Ok-clause-step
returns-in-Ok-clause-step g c =
    let profile = c.args.self.now.profile in
    let last = view_transaction c.stop.new.self in
    stop_taken (table_of profile c.args.self.now.state) c.args.number (view_transaction c.begin-transaction.result) last tt c.commit_bounded.result _ c.begin-transaction.ensures.effect c.in-Ok.ensures.effect (c.commit_bounded.ensures.answer ∙ ap (progress_answer last) c.new-none.ensures.items) (same_profile c.begin-transaction.result c.stop.new.self profile c.commit_bounded.new.scanner c.begin-transaction.ensures.profile c.stop.ensures.kept.0 c.commit_bounded.ensures.table)

pub returns-in-Err-clause-step : goal.returns-in-Err-clause-step
returns-in-Err-clause-step g c =
    let profile = c.args.self.now.profile in
    let same = same_table profile c.begin-transaction.result c.stop.new.self c.args.self.now.state c.roll_back.new.scanner c.begin-transaction.ensures.kept c.stop.ensures.kept.2 c.roll_back.ensures.state in
    stop_refused (table_of profile c.args.self.now.state) c.args.number (view_transaction c.begin-transaction.result) (view_transaction c.stop.new.self) c.in-Err.why c.roll_back.result (table_of profile c.roll_back.new.scanner) c.begin-transaction.ensures.effect c.in-Err.ensures.effect c.roll_back.ensures.fault same

pub returns-in-Ok-clause-hints : goal.returns-in-Ok-clause-hints
returns-in-Ok-clause-hints g c hinted =
    let profile = c.args.self.now.profile in
    bounded_on (g.H.Hints.bounds c.args.hints.now) (g.H.Hints.bounds c.commit_bounded.new.hints) c.begin-transaction.result c.stop.new.self profile c.args.self.now.state c.commit_bounded.new.scanner c.begin-transaction.ensures.profile c.stop.ensures.kept.0 c.begin-transaction.ensures.kept c.stop.ensures.kept.2 c.commit_bounded.ensures.table c.commit_bounded.ensures.hints hinted

pub returns-in-Err-clause-hints : goal.returns-in-Err-clause-hints
returns-in-Err-clause-hints g c hinted =
    let profile = c.args.self.now.profile in
    let same = same_table profile c.begin-transaction.result c.stop.new.self c.args.self.now.state c.roll_back.new.scanner c.begin-transaction.ensures.kept c.stop.ensures.kept.2 c.roll_back.ensures.state in
    subst (IsHinted (g.H.Hints.bounds c.args.hints.now)) (sym same) hinted
