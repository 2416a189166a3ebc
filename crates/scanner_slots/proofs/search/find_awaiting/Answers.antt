use Rattle.std.proofs.Common.{arith}
use Rattle.scanner_table.specs.Encapsulation.{is_awaiting}
use Rattle.scanner_table.specs.Slots.{indexed_from}
use Rattle.scanner_slots.proofs.SlotLemmas.{none_found}
use Rattle.scanner_slots.proofs.search.find_awaiting.Goals as goal

pub returns-clause-found : goal.returns-clause-found
returns-clause-found c = none_found (is_awaiting c.args.target c.args.request) (indexed_from 0 c.args.configs.now c.args.slots.now) c.loop-index.index c.args.configs.now c.args.slots.now (omega (arith, c.min-index-end.ensures)) c.loop-index.invariant
