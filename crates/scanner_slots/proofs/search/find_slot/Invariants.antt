use Rattle.std.proofs.Common.{◌≡◌, find, drop}
use Rattle.scanner_table.specs.Slots.{indexed_from}
use Rattle.scanner_slots.specs.Views.{passes}
use Rattle.scanner_slots.proofs.search.find_slot.Given as goal

abbrev pub invariant-loop-index : goal.invariant-loop-index
invariant-loop-index l = find (passes l.test) (indexed_from 0 l.configs l.slots) ≡ find (passes l.test) (indexed_from l.index (drop l.index l.configs) (drop l.index l.slots))
