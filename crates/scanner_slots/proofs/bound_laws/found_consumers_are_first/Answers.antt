use Rattle.scanner_table.specs.Slots.{indexed_slots, is_numbered}
use Rattle.scanner_slots.proofs.Changes.{first_consumer}
use Rattle.scanner_slots.proofs.bound_laws.found_consumers_are_first.Goals as goal

pub returns : goal.returns
returns c t peer id number indexed whole is for = first_consumer (is_numbered number) peer id (indexed_slots t) indexed whole.ids_differ is for
