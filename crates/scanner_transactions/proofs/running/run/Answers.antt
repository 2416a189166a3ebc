use Rattle.std.proofs.Common.{◌≡◌, ◌+◌, sym, subst, ◌∙◌}
use Rattle.scanner_slots.specs.Views.{passes}
use Rattle.scanner_transactions.specs.declared.transaction.Transaction.{Transaction}
use Rattle.scanner_transactions.specs.Transactions.{view_transaction, followed}
use Rattle.scanner_transactions.specs.Undoing.{GoesOn}
use Rattle.scanner_transactions.specs.Runs.{effect_of, run}
use Rattle.scanner_transactions.proofs.Remaining.{left, take_next, skip_next, goes_on}
use Rattle.scanner_transactions.proofs.running.run.Goals as goal
use Rattle.scanner_transactions.proofs.running.run.Goals.{then-slot_passes+in_ok-act_on_slot, else-slot_passes}

pub loop-number-preserved : goal.loop-number-preserved
loop-number-preserved c =
    let start = view_transaction c.args.transaction.now in
    let all = followed start (run c.args.action c.args.test start.table) in
    let now = view_transaction c.loop-number.transaction in
    let number = c.loop-number.number in
    let answers = sym c.slot_passes.ensures in
    let family = λ (d : Transaction). all ≡ followed (view_transaction d) (left (effect_of c.args.action) (passes c.args.test) (number + 1) (view_transaction d).table) in
    elim c.if-slot_passes.branch [
      | then-slot_passes+in_ok-act_on_slot w ↦ record {
        adds = subst family (sym w.transaction-is) (take_next c.args.action c.args.test all now (view_transaction w.act_on_slot.new.transaction) number c.loop-number.invariant.adds (answers ∙ w.if-slot_passes.true) w.in_ok-act_on_slot.ensures.effect);
        kept = subst (GoesOn c.args.transaction.now) (sym w.transaction-is) (goes_on c.args.transaction.now c.loop-number.transaction w.act_on_slot.new.transaction c.loop-number.invariant.kept w.in_ok-act_on_slot.ensures.kept);
      }
      | else-slot_passes w ↦ record {
        adds = subst family (sym w.transaction-is) (skip_next c.args.action c.args.test all now number c.loop-number.invariant.adds (answers ∙ w.if-slot_passes.false));
        kept = subst (GoesOn c.args.transaction.now) (sym w.transaction-is) c.loop-number.invariant.kept;
      }
    ]
