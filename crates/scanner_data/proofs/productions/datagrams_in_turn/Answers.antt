use Rattle.std.proofs.Common.{◌+◌, arith}
use Rattle.scanner_table.specs.Slots.{indexed_from}
use Rattle.scanner_data.specs.Turns.{datagrams_in_turn}
use Rattle.scanner_data.proofs.Turns.{turn_more, turn_ends}
use Rattle.scanner_data.proofs.productions.datagrams_in_turn.Goals as goal

pub loop-index-preserved : goal.loop-index-preserved
loop-index-preserved c =
    let index = c.loop-index.index in
    let config = c.index-configs-index.result in
    let slot = c.index-slots-index.result in
    turn_more c.args.run c.args.clock c.loop-index.due_datagrams.items c.push_due.new.due_datagrams.items _ index (index + 1) c.args.configs.now c.args.slots.now config slot (omega arith) c.loop-index.invariant (c.slots_go_on.ensures index c.args.configs.now c.args.slots.now config slot (omega (arith, c.min-index-end.ensures)) (omega (arith, c.min-index-end.ensures))) c.index-configs-index.is c.index-slots-index.is c.in_ok-push_due.ensures

pub returns : goal.returns
returns c = turn_ends c.args.run c.args.clock c.loop-index.due_datagrams.items (datagrams_in_turn c.args.run c.args.clock (indexed_from 0 c.args.configs.now c.args.slots.now)) c.loop-index.index c.args.configs.now c.args.slots.now (omega (arith, c.min-index-end.ensures)) c.loop-index.invariant
