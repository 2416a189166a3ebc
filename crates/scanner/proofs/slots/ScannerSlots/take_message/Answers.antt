use Rattle.std.proofs.Common.{◌≡◌, refl, sym, ap, subst, ◌∙◌}
use Rattle.cip_encap.specs.Message.{view_message}
use Rattle.scanner_table.specs.declared.table.ScannerTable.{ScannerTable}
use Rattle.scanner_table.specs.Encapsulation.{reported}
use Rattle.scanner_table.specs.declared.profile.ScannerProfile.{ScannerProfile}
use Rattle.scanner_slots.specs.Bounding.{IsHinted}
use Rattle.scanner_slots.specs.Views.{table_of}
use Rattle.scanner.specs.Tables.{table_in}
use Rattle.scanner_transactions.specs.MessageOutcomes.{message_next}
use Rattle.scanner_transactions.specs.Transactions.{Progress, view_transaction}
use Rattle.scanner_transactions.specs.Undoing.{state_before, table_with}
use Rattle.scanner.proofs.Doing.{as_ok}
use Rattle.scanner.proofs.Undone.{answered_on, same_table, undone_follows, is_fresh}
use Rattle.scanner.proofs.slots.ScannerSlots.take_message.Goals as goal

pub begin-transaction-requires : goal.begin-transaction-requires
begin-transaction-requires g c = record { faultless = c.requires.faultless; time = c.requires.clock; blocks = c.requires.blocks; begins = c.requires.ids_begin }

pub receive_message-requires : goal.receive_message-requires
receive_message-requires g c = is_fresh c.begin-transaction.result (table_in c.args.self.now) c.begin-transaction.ensures.effect

pub returns-in-Ok-clause-step : goal.returns-in-Ok-clause-step
returns-in-Ok-clause-step g c =
    let profile = c.args.self.now.profile in
    let t = table_of profile c.args.self.now.state in
    let m = view_message c.args.message.now in
    let stream = c.args.stream in
    let last = view_transaction c.receive_message.new.transaction in
    let same : c.receive_message.new.transaction.profile.now ≡ profile = c.receive_message.ensures.kept.0 ∙ c.begin-transaction.ensures.profile in
    let said = subst (λ (u : ScannerTable). message_next u c.in-Ok.outcome last ≡ reported u stream m stream.stage) (ap (λ (d : Progress). d.table) c.begin-transaction.ensures.effect) c.in-Ok.ensures.effect in
    let ends = subst (λ (p : ScannerProfile). (c.answer_of.result, table_of p c.answer_of.new.scanner) ≡ message_next (table_with p (state_before c.receive_message.new.transaction)) c.in-Ok.outcome last) same c.answer_of.ensures.next in
    let back = ap (λ (u : ScannerTable). message_next u c.in-Ok.outcome last) (ap (table_with profile) (c.receive_message.ensures.kept.2 ∙ c.begin-transaction.ensures.kept)) in
    ap as_ok (sym (ends ∙ back ∙ said))

pub returns-in-Err-clause-step : goal.returns-in-Err-clause-step
returns-in-Err-clause-step g c =
    let profile = c.args.self.now.profile in
    let t = table_of profile c.args.self.now.state in
    let stream = c.args.stream in
    let same = same_table profile c.begin-transaction.result c.receive_message.new.transaction c.args.self.now.state c.roll_back.new.scanner c.begin-transaction.ensures.kept c.receive_message.ensures.kept.2 c.roll_back.ensures.state in
    undone_follows (as_ok (reported t stream (view_message c.args.message.now) stream.stage)) t (table_of profile c.roll_back.new.scanner) c.roll_back.result c.roll_back.ensures.fault same refl

pub returns-in-Ok-clause-hints : goal.returns-in-Ok-clause-hints
returns-in-Ok-clause-hints g c hinted =
    let profile = c.args.self.now.profile in
    answered_on (g.H.Hints.bounds c.args.hints.now) (g.H.Hints.bounds c.answer_of.new.hints) c.begin-transaction.result c.receive_message.new.transaction profile c.args.self.now.state c.answer_of.new.scanner c.begin-transaction.ensures.profile c.receive_message.ensures.kept.0 c.begin-transaction.ensures.kept c.receive_message.ensures.kept.2 c.answer_of.ensures.hints hinted

pub returns-in-Err-clause-hints : goal.returns-in-Err-clause-hints
returns-in-Err-clause-hints g c hinted =
    let profile = c.args.self.now.profile in
    let same = same_table profile c.begin-transaction.result c.receive_message.new.transaction c.args.self.now.state c.roll_back.new.scanner c.begin-transaction.ensures.kept c.receive_message.ensures.kept.2 c.roll_back.ensures.state in
    subst (IsHinted (g.H.Hints.bounds c.args.hints.now)) (sym same) hinted
