use Rattle.std.proofs.Common.{◌≡◌, find, Some, sym, ◌∙◌, ap, subst}
use Rattle.scanner_table.specs.Points.{start}
use Rattle.scanner_table.specs.Slots.{is_numbered, indexed_from}
use Rattle.scanner_slots.specs.Bounding.{IsHinted}
use Rattle.scanner_slots.specs.Views.{table_of, view_slot}
use Rattle.scanner_transactions.specs.Transactions.{view_transaction, progress_answer}
use Rattle.scanner.proofs.Doing.{start_ok, start_taken}
use Rattle.scanner.proofs.Undone.{bounded_on, same_table, same_profile, undone_follows}
use Rattle.scanner.proofs.slots.ScannerSlots.start.Goals as goal

pub begin-transaction-requires : goal.begin-transaction-requires
begin-transaction-requires g c = record { faultless = c.requires.faultless; time = c.requires.clock; blocks = c.requires.blocks; begins = c.requires.ids_begin }

pub returns-in-Ok-clause-step : goal.returns-in-Ok-clause-step
returns-in-Ok-clause-step g c =
    let profile = c.args.self.now.profile in
    let is : Some (view_slot c.in-Some.indexed) ≡ find (is_numbered c.args.number) (indexed_from 0 profile.slots c.args.self.now.state.slots.items) = rw (← c.as_slice.ensures, ← c.deref.ensures.value) c.in-Some.ensures.found in
    start_taken (table_of profile c.args.self.now.state) c.args.number (view_slot c.in-Some.indexed) (view_transaction c.begin-transaction.result) (view_transaction c.start.new.self) c.commit_bounded.result _ (sym is) (sym c.can_start.ensures ∙ c.if-not-can_start.false) c.begin-transaction.ensures.effect c.in-Ok.ensures.effect (c.commit_bounded.ensures.answer ∙ ap (progress_answer (view_transaction c.start.new.self)) c.new-none.ensures.items) (same_profile c.begin-transaction.result c.start.new.self profile c.commit_bounded.new.scanner c.begin-transaction.ensures.profile c.start.ensures.kept.0 c.commit_bounded.ensures.table)

pub returns-in-Err-clause-step : goal.returns-in-Err-clause-step
returns-in-Err-clause-step g c =
    let profile = c.args.self.now.profile in
    let t = table_of profile c.args.self.now.state in
    let is : Some (view_slot c.in-Some.indexed) ≡ find (is_numbered c.args.number) (indexed_from 0 profile.slots c.args.self.now.state.slots.items) = rw (← c.as_slice.ensures, ← c.deref.ensures.value) c.in-Some.ensures.found in
    let same = same_table profile c.begin-transaction.result c.start.new.self c.args.self.now.state c.roll_back.new.scanner c.begin-transaction.ensures.kept c.start.ensures.kept.2 c.roll_back.ensures.state in
    undone_follows (start t c.args.number) t (table_of profile c.roll_back.new.scanner) c.roll_back.result c.roll_back.ensures.fault same (start_ok t c.args.number (view_slot c.in-Some.indexed) (sym is) (sym c.can_start.ensures ∙ c.if-not-can_start.false))

pub returns-in-Ok-clause-hints : goal.returns-in-Ok-clause-hints
returns-in-Ok-clause-hints g c hinted =
    let profile = c.args.self.now.profile in
    bounded_on (g.H.Hints.bounds c.args.hints.now) (g.H.Hints.bounds c.commit_bounded.new.hints) c.begin-transaction.result c.start.new.self profile c.args.self.now.state c.commit_bounded.new.scanner c.begin-transaction.ensures.profile c.start.ensures.kept.0 c.begin-transaction.ensures.kept c.start.ensures.kept.2 c.commit_bounded.ensures.table c.commit_bounded.ensures.hints hinted

pub returns-in-Err-clause-hints : goal.returns-in-Err-clause-hints
returns-in-Err-clause-hints g c hinted =
    let profile = c.args.self.now.profile in
    let same = same_table profile c.begin-transaction.result c.start.new.self c.args.self.now.state c.roll_back.new.scanner c.begin-transaction.ensures.kept c.start.ensures.kept.2 c.roll_back.ensures.state in
    subst (IsHinted (g.H.Hints.bounds c.args.hints.now)) (sym same) hinted
