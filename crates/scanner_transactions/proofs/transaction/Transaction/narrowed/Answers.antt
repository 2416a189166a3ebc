use Rattle.std.proofs.Common.{◌+◌, ◌<◌, ◌∙◌, List, length, get_or, refl, ap, subst, arith}
use Rattle.scanner_transactions.specs.declared.undo.SlotBefore.{SlotBefore}
use Rattle.scanner_transactions.specs.Transactions.{view_transaction}
use Rattle.scanner_transactions.specs.Undoing.{state_before, table_with}
use Rattle.scanner_transactions.proofs.Narrowed.{no_later, no_later_than, narrows_more, narrows_all, narrowed_hinted, no_streams}
use Rattle.scanner_transactions.proofs.transaction.Transaction.narrowed.Goals as goal

pub loop-before-init : goal.loop-before-init
loop-before-init c = record { earlier = no_later c.args.bounds; narrows = λ bounds le rest. rest }

pub loop-before-preserved : goal.loop-before-preserved
loop-before-preserved c =
    let t = (view_transaction c.args.self.now).table in
    let index = c.loop-before.before-index in
    let before = c.before-item.result in
    let are = c.deref-before-items.ensures.value in
    record {
      earlier = no_later_than c.narrowed_at-narrowed.result c.loop-before.narrowed c.args.bounds c.narrowed_at-narrowed.ensures.earlier c.loop-before.invariant.earlier;
      narrows = narrows_more c.bounds_hold_slot_by_slot.ensures.earlier c.loop-before.narrowed c.narrowed_at-narrowed.result t c.args.self.now.undo.slots.items index before before (subst (λ (l : List SlotBefore). index < length l) are c.loop-before-test.true) (c.before-item.is ∙ ap (λ (l : List SlotBefore). get_or l index before) are) c.narrowed_at-narrowed.ensures.earlier c.narrowed_at-narrowed.ensures.slot c.loop-before.invariant.narrows (index + 1) (omega arith);
    }

pub returns : goal.returns
returns c hinted =
    let now = c.args.self.now in
    let t = (view_transaction now).table in
    let kept = now.undo.slots.items in
    narrowed_hinted c.bounds_hold_slot_by_slot.ensures.earlier c.bounds_hold_slot_by_slot.ensures.each c.bounds_hold_slot_by_slot.ensures.all c.args.bounds c.loop-before.narrowed (table_with now.profile.now (state_before now)) t kept c.loop-before.invariant.earlier (narrows_all c.loop-before.narrowed t kept c.loop-before.before-index (omega arith) c.loop-before.invariant.narrows) refl (no_streams _ now.undo.streams now.scanner.streams.items c.is_some.ensures c.if-is_some.false) refl hinted
