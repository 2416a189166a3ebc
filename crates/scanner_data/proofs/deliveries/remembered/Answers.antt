use Rattle.std.proofs.Common.{◌≡◌, Some, find, sym, ◌∙◌}
use Rattle.scanner_table.specs.Slots.{indexed_slots, is_numbered}
use Rattle.scanner_slots.specs.Views.{view_slot, table_of}
use Rattle.scanner_data.proofs.deliveries.remembered.Goals as goal

pub returns-then-is_for : goal.returns-then-is_for
returns-then-is_for c =
    let t = table_of c.args.profile.now c.args.scanner.now in
    let is : Some (view_slot c.in-Some.indexed) ≡ find (is_numbered c.args.number) (indexed_slots t) = rw (← c.as_slice.ensures, ← c.deref.ensures.value) c.in-Some.ensures.found in
    c.found_consumers_are_first.ensures t c.args.peer c.args.id.0 c.args.number (view_slot c.in-Some.indexed) c.requires.whole (sym is) (sym c.is_for.ensures ∙ c.if-is_for.true)
