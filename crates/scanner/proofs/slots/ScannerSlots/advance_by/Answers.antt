use Rattle.std.proofs.Common.{◌≡◌, Result, Ok, refl, sym, ap, subst, ◌∙◌}
use Rattle.cip_events.specs.declared.event.StepFault.{StepFault}
use Rattle.scanner_table.specs.declared.table.ScannerTable.{ScannerTable}
use Rattle.scanner_table.specs.Effects.{Next}
use Rattle.scanner_table.specs.Productions.{produced_table}
use Rattle.scanner_table.specs.Ticks.{clocked_table, moved_on, ticked}
use Rattle.scanner_table.specs.WellFormed.{IsWellFormed}
use Rattle.scanner_slots.specs.Views.{table_of}
use Rattle.scanner.specs.Tables.{table_in}
use Rattle.scanner_transactions.specs.Transactions.{Progress, begun, followed, view_transaction}
use Rattle.scanner.proofs.Ticking.{tick_taken}
use Rattle.scanner.proofs.Undone.{same_table, undone_follows, is_fresh}
use Rattle.scanner.proofs.slots.ScannerSlots.advance_by.Goals as goal

pub begin-transaction-requires : goal.begin-transaction-requires
begin-transaction-requires c = record { faultless = c.requires.whole.faultless; time = c.requires.whole.clock; blocks = c.requires.whole.blocks; begins = c.requires.whole.ids_begin }

pub moved_on-requires-clause-whole : goal.moved_on-requires-clause-whole
moved_on-requires-clause-whole c = subst IsWellFormed (sym (ap (λ (d : Progress). d.table) c.begin-transaction.ensures.effect)) c.requires.whole

pub moved_on-requires-clause-fresh : goal.moved_on-requires-clause-fresh
moved_on-requires-clause-fresh c = is_fresh c.begin-transaction.result (table_in c.args.self.now) c.begin-transaction.ensures.effect

pub returns-in-Ok-clause-step : goal.returns-in-Ok-clause-step
returns-in-Ok-clause-step c =
    let profile = c.args.self.now.profile in
    let t = clocked_table (table_of profile c.args.self.now.state) c.args.ms in
    let last = view_transaction c.moved_on.new.transaction in
    let made = subst (λ (u : ScannerTable). let v = clocked_table u c.args.ms in last ≡ followed (begun v) (moved_on v)) (ap (λ (d : Progress). d.table) c.begin-transaction.ensures.effect) c.in-Ok.ensures.effect in
    let same = c.moved_on.ensures.profile ∙ c.begin-transaction.ensures.profile in
    let left : table_of profile c.commit-answer.new.scanner ≡ last.table = ap (λ (p : _). table_of p c.commit-answer.new.scanner) (sym same) ∙ c.commit-answer.ensures.table in
    tick_taken t (moved_on t) last c.in-Ok.datagrams.items c.commit-answer.result (table_of profile c.produce.new.scanner) made c.in-Ok.ensures.datagrams c.commit-answer.ensures.answer (c.produce.ensures profile ∙ ap produced_table left)

pub returns-in-Err-clause-step : goal.returns-in-Err-clause-step
returns-in-Err-clause-step c =
    let profile = c.args.self.now.profile in
    let same = same_table profile c.begin-transaction.result c.moved_on.new.transaction c.args.self.now.state c.roll_back.new.scanner c.begin-transaction.ensures.kept c.moved_on.ensures.kept c.roll_back.ensures.state in
    let said : Result Next StepFault = Ok (ticked (moved_on (clocked_table (table_of profile c.args.self.now.state) c.args.ms))) in
    undone_follows said (table_of profile c.args.self.now.state) (table_of profile c.roll_back.new.scanner) c.roll_back.result c.roll_back.ensures.fault same refl
