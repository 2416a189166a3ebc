use Rattle.std.proofs.Common.{arith}
use Rattle.scanner_table.specs.Replies.{uses_id}
use Rattle.scanner_table.specs.Slots.{indexed_from}
use Rattle.scanner_slots.proofs.SlotLemmas.{none_passes}
use Rattle.scanner_slots.proofs.search.is_id_used.Goals as goal

pub returns : goal.returns
returns c = none_passes (uses_id c.args.number c.args.target c.args.id) (indexed_from 0 c.args.configs.now c.args.slots.now) c.loop-index.index c.args.configs.now c.args.slots.now (omega (arith, c.min-index-end.ensures)) c.loop-index.invariant
