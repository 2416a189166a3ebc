use Rattle.adapter.proofs.Counting.{refused_is}
use Rattle.adapter.proofs.state.AdapterState.refuse_counted.Goals as goal

pub returns : goal.returns
returns g c =
    let said = rw (c.fault.ensures.value, c.new.ensures.items) at c.in_ok-answer.ensures.answer in
    let text = rw c.fault.ensures.value at c.in_ok-answer.ensures.text in
    let counts = rw c.refused_tally.ensures at c.count.ensures in
    refused_is c.args.self.now c.args.route c.args.service c.args.why c.in_ok-answer.text.items c.in_ok-answer.answer c.in_ok-answer-2.answer c.keep.new.self c.count.new.self said text c.in_ok-answer-2.ensures counts
