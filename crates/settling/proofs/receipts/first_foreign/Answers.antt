use Rattle.settling.proofs.Receiving.{foreign_at, good_more, good_none}
use Rattle.settling.proofs.receipts.first_foreign.Goals as goal

pub loop-receipt-init : goal.loop-receipt-init
loop-receipt-init c = good_none c.args.histories.now c.args.marks.now c.requires.marks

pub returns-then-not-mark_event-clause-some : goal.returns-then-not-mark_event-clause-some
returns-then-not-mark_event-clause-some c =
    foreign_at c.args.histories.now c.args.receipts.now c.loop-receipt.receipt-index c.receipt-item.result c.loop-receipt.marks c.loop-receipt-test.true c.receipt-item.is c.loop-receipt.invariant
    (rw c.if-not-mark_event.true at c.mark_event.ensures)

pub loop-receipt-preserved : goal.loop-receipt-preserved
loop-receipt-preserved c =
    good_more c.args.histories.now c.args.receipts.now c.loop-receipt.receipt-index c.receipt-item.result c.loop-receipt.marks c.mark_event.new.marks c.loop-receipt-test.true c.receipt-item.is c.loop-receipt.invariant
    (rw c.if-not-mark_event.false at c.mark_event.ensures)
