use Rattle.settling.proofs.Receiving.{all_answered, covered_all, settles_receipts}
use Rattle.settling.proofs.settled.settle.Goals as goal

pub find_schedule-requires-clause-answered : goal.find_schedule-requires-clause-answered
find_schedule-requires-clause-answered g c =
    let hs = c.args.histories.now in
    let rs = c.args.receipts.now in
    all_answered hs rs c.in_ok-marks.ensures.good (covered_all hs rs c.in_ok-marks.marks c.in_ok-marks.ensures.marks c.in_default.ensures)

pub returns-in-Ok-clause-settled : goal.returns-in-Ok-clause-settled
returns-in-Ok-clause-settled g c =
    let hs = c.args.histories.now in
    let rs = c.args.receipts.now in
    rw c.from_vec.ensures
    (settles_receipts hs rs c.in-Ok.acts.items c.in-Ok.ensures.settled c.in-Ok.ensures.opens c.in_ok-marks.ensures.good
    (covered_all hs rs c.in_ok-marks.marks c.in_ok-marks.ensures.marks c.in_default.ensures))
