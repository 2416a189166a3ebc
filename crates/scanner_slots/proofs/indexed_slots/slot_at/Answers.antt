use Rattle.std.proofs.Common.{arith}
use Rattle.scanner_slots.proofs.SlotLemmas.{at_index}
use Rattle.scanner_slots.proofs.indexed_slots.slot_at.Goals as goal

pub returns-clause-found : goal.returns-clause-found
returns-clause-found c = at_index c.args.number c.args.configs.now c.args.slots.now _ _ _ _ (omega arith) (omega arith) c.index-configs-index.is c.index-slots-index.is
