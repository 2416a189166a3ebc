use Rattle.std.proofs.Common.{arith, map}
use Rattle.scanner_table.specs.Slots.{indexed_from}
use Rattle.std.proofs.Common.{filter}
use Rattle.scanner_slots.specs.Views.{view_slot, passes}
use Rattle.scanner_slots.proofs.SlotLemmas.{all_gathered}
use Rattle.scanner_slots.proofs.search.slots_that.Goals as goal

pub returns : goal.returns
returns c = all_gathered (passes c.args.test) (map view_slot c.loop-index.found.items) (filter (passes c.args.test) (indexed_from 0 c.args.configs.now c.args.slots.now)) c.loop-index.index c.args.configs.now c.args.slots.now (omega (arith, c.min-index-end.ensures)) c.loop-index.invariant
