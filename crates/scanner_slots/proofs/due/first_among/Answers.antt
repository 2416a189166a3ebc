use Rattle.std.proofs.Common.{◌+◌, arith}
use Rattle.cip_tables.specs.Wakes.{can_ask}
use Rattle.scanner_slots.specs.Views.{table_of}
use Rattle.scanner_slots.proofs.Bounded.{begins_with}
use Rattle.scanner_table.specs.Slots.{indexed_from}
use Rattle.scanner_slots.proofs.FirstDue.{first_of_none, first_more, first_of_all}
use Rattle.scanner_slots.proofs.due.first_among.Goals as goal

pub loop-index-init : goal.loop-index-init
loop-index-init c = record { so_far = first_of_none (can_ask (table_of c.args.profile.now c.args.scanner.now)) (indexed_from 0 c.args.configs.now c.args.slots.now); within = omega arith }

pub loop-index-preserved : goal.loop-index-preserved
loop-index-preserved c =
    let index = c.loop-index.index in
    let invariant = c.loop-index.invariant in record {
      so_far = first_more c.loop-index.first c.min-first.result c.slot_due.result (can_ask (table_of c.args.profile.now c.args.scanner.now)) c.args.configs.now c.args.slots.now index (record { number = index; config = c.index-configs-index.result; slot = c.index-slots-index.result })
          (begins_with index c.args.configs.now c.args.slots.now c.index-configs-index.result _ c.index-slots-index.result _ (omega (arith, c.min-index-end.ensures, c.loop-index-test.true)) (omega (arith, c.min-index-end.ensures, c.loop-index-test.true)) c.index-configs-index.is c.index-slots-index.is)
          c.min-first.ensures c.slot_due.ensures invariant.so_far (index + 1) (omega arith);
      within = omega (arith, c.min-first.ensures, invariant.within);
    }

pub returns : goal.returns
returns c = first_of_all c.loop-index.first (can_ask (table_of c.args.profile.now c.args.scanner.now)) c.args.configs.now c.args.slots.now c.loop-index.index (omega (arith, c.min-index-end.ensures)) c.loop-index.invariant.so_far c.loop-index.invariant.within
