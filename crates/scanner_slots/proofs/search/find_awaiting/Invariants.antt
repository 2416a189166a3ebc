use Rattle.std.proofs.Common.{◌≡◌, find, drop}
use Rattle.scanner_table.specs.Encapsulation.{is_awaiting}
use Rattle.scanner_table.specs.Slots.{indexed_from}
use Rattle.scanner_slots.proofs.search.find_awaiting.Given as goal

abbrev pub invariant-loop-index : goal.invariant-loop-index
invariant-loop-index l = find (is_awaiting l.target l.request) (indexed_from 0 l.configs l.slots) ≡ find (is_awaiting l.target l.request) (indexed_from l.index (drop l.index l.configs) (drop l.index l.slots))
