use Rattle.std.proofs.Common.{ap, Result, ◌∙◌}
use Rattle.cip_fwdopen.specs.declared.reply.OpenAnswer.{OpenAnswer}
use Rattle.cip_events.specs.declared.event.Reason.{Reason}
use Rattle.cip_encap.specs.Message.{view_message}
use Rattle.scanner_table.specs.Closing.{closed}
use Rattle.scanner_table.specs.Encapsulation.{is_awaiting}
use Rattle.scanner_table.specs.Replies.{open_answer}
use Rattle.scanner_table.specs.Requests.{is_large}
use Rattle.scanner_slots.specs.Views.{view_slot}
use Rattle.scanner_transactions.specs.Transactions.{view_transaction, after_at, answered_by}
use Rattle.scanner_transactions.proofs.Answering.{searched_stands, searched_is, slot_done, awaited}
use Rattle.scanner_transactions.proofs.messages.replied_to.Goals as goal

pub returns-in_ok-answer-in-Opening : goal.returns-in_ok-answer-in-Opening
returns-in_ok-answer-in-Opening c =
    let t = (view_transaction c.args.transaction.now).table in
    let m = view_message c.args.message.now in
    let indexed = view_slot c.in-Some.indexed in
    let start = view_transaction c.args.transaction.now in
    let test = is_awaiting c.args.target m.context in
    let stands = searched_stands t test c.as_slice-configs.result.now c.deref.result.now indexed c.as_slice-configs.ensures c.deref.ensures.value c.in-Some.ensures.found in
    let is = searched_is t test c.as_slice-configs.result.now c.deref.result.now indexed c.as_slice-configs.ensures c.deref.ensures.value c.in-Some.ensures.found in
    let reported = open_answer (is_large indexed.config) m in
    let made = c.in_ok-answer-in-Opening.ensures.effect ∙ ap (λ (r : Result OpenAnswer Reason). after_at (answered_by c.in-Opening.opening r) indexed.number start) (c.open_answer-reported.ensures ∙ ap (λ (large : _). open_answer large m) c.service_for.ensures) in
    record {
      effect = slot_done (answered_by c.in-Opening.opening reported) t indexed indexed.number start _ stands c.requires made
          ∙ awaited t m indexed _ _ is c.in-Opening.is;
      kept = c.in_ok-answer-in-Opening.ensures.kept;
    }

pub returns-in_ok-end_close-in-Closing : goal.returns-in_ok-end_close-in-Closing
returns-in_ok-end_close-in-Closing c =
    let t = (view_transaction c.args.transaction.now).table in
    let m = view_message c.args.message.now in
    let indexed = view_slot c.in-Some.indexed in
    let start = view_transaction c.args.transaction.now in
    let test = is_awaiting c.args.target m.context in
    let stands = searched_stands t test c.as_slice-configs.result.now c.deref.result.now indexed c.as_slice-configs.ensures c.deref.ensures.value c.in-Some.ensures.found in
    let is = searched_is t test c.as_slice-configs.result.now c.deref.result.now indexed c.as_slice-configs.ensures c.deref.ensures.value c.in-Some.ensures.found in
    record {
      effect = slot_done closed t indexed indexed.number start _ stands c.requires c.in_ok-end_close-in-Closing.ensures.effect
          ∙ awaited t m indexed _ _ is c.in-Closing.is;
      kept = c.in_ok-end_close-in-Closing.ensures.kept;
    }
