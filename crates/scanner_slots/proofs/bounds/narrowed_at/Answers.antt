use Rattle.std.proofs.Common.{◌≡◌, Some, find}
use Rattle.scanner_table.specs.Slots.{indexed_slots, is_numbered}
use Rattle.scanner_slots.specs.Views.{view_slot, table_of}
use Rattle.scanner_slots.proofs.Singly.{narrowed_here}
use Rattle.scanner_slots.proofs.bounds.narrowed_at.Goals as goal

pub returns-in-Some-clause-slot : goal.returns-in-Some-clause-slot
returns-in-Some-clause-slot c =
    let t = table_of c.args.profile.now c.args.scanner.now in
    let found : Some (view_slot c.in-Some.indexed) ≡ find (is_numbered c.args.number) (indexed_slots t) = rw (← c.as_slice.ensures, ← c.deref.ensures.value) c.in-Some.ensures.found in
    narrowed_here c.with.result c.times_of.result t c.args.number _ (view_slot c.in-Some.indexed) c.deref-in-Some.ensures.value found c.with.ensures.second c.times_of.ensures
