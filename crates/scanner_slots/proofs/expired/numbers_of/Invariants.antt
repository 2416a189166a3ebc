use Rattle.std.proofs.Common.{◌≡◌, map, take}
use Rattle.scanner_slots.specs.Views.{slot_number, view_slot}
use Rattle.scanner_slots.proofs.expired.numbers_of.Given as goal

abbrev pub invariant-loop-indexed : goal.invariant-loop-indexed
invariant-loop-indexed l = l.numbers.items ≡ map slot_number (map view_slot (take l.indexed-index l.indexed_slots))
