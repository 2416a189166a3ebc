use Rattle.std.proofs.Common.{◌≡◌, take, map}
use Rattle.std.specs.List.{filter_map}
use Rattle.cip_productions.specs.Productions.{sent}
use Rattle.scanner_table.specs.Productions.{slot_production}
use Rattle.scanner_slots.specs.Views.{view_slot}
use Rattle.scanner_data.proofs.productions.datagrams_of.Given as goal

abbrev pub invariant-loop-indexed : goal.invariant-loop-indexed
invariant-loop-indexed l = l.due_datagrams.items ≡ map sent (filter_map (slot_production l.run) (map view_slot (take l.indexed-index l.indexed_slots)))
