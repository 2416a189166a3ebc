use Rattle.cip_encap.specs.Message.{view_message}
use Rattle.scanner_table.specs.Encapsulation.{is_awaiting}
use Rattle.scanner_slots.specs.Views.{view_slot}
use Rattle.scanner_transactions.specs.Transactions.{view_transaction}
use Rattle.scanner_transactions.proofs.Answering.{searched_stands, searched_is}
use Rattle.scanner_transactions.proofs.Remaining.{goes_on}
use Rattle.scanner_transactions.proofs.SessionSteps.{unserved_done}
use Rattle.scanner_transactions.proofs.messages.unserved.Goals as goal

pub returns : goal.returns
returns c =
    let t = (view_transaction c.args.transaction.now).table in
    let m = view_message c.args.message.now in
    let indexed = view_slot c.in-Some.indexed in
    let test = is_awaiting c.args.stream.peer m.context in
    let stands = searched_stands t test c.as_slice-configs.result.now c.deref.result.now indexed c.as_slice-configs.ensures c.deref.ensures.value c.in-Some.ensures.found in
    let is = searched_is t test c.as_slice-configs.result.now c.deref.result.now indexed c.as_slice-configs.ensures c.deref.ensures.value c.in-Some.ensures.found in
    record {
      effect = unserved_done t c.args.stream m indexed (view_transaction c.args.transaction.now) (view_transaction c.leave_unserved.new.self) (view_transaction c.renew_session.new.transaction) _ stands is c.requires c.in_ok-leave_unserved.ensures.effect c.in_ok-renew_session.ensures.effect;
      kept = goes_on c.args.transaction.now c.leave_unserved.new.self c.renew_session.new.transaction c.in_ok-leave_unserved.ensures.kept c.in_ok-renew_session.ensures.kept;
    }
