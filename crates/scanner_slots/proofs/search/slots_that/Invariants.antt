use Rattle.std.proofs.Common.{◌≡◌, ◌++◌, map, filter, drop}
use Rattle.scanner_table.specs.Slots.{indexed_from}
use Rattle.scanner_slots.specs.Views.{view_slot, passes}
use Rattle.scanner_slots.proofs.search.slots_that.Given as goal

abbrev pub invariant-loop-index : goal.invariant-loop-index
invariant-loop-index l = map view_slot l.found.items ++ filter (passes l.test) (indexed_from l.index (drop l.index l.configs) (drop l.index l.slots)) ≡ filter (passes l.test) (indexed_from 0 l.configs l.slots)
