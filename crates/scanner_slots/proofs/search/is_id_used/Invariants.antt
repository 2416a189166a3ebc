use Rattle.std.proofs.Common.{◌≡◌, drop}
use Rattle.std.specs.List.{list_any}
use Rattle.scanner_table.specs.Replies.{uses_id}
use Rattle.scanner_table.specs.Slots.{indexed_from}
use Rattle.scanner_slots.proofs.search.is_id_used.Given as goal

abbrev pub invariant-loop-index : goal.invariant-loop-index
invariant-loop-index l = list_any (uses_id l.number l.target l.id) (indexed_from 0 l.configs l.slots) ≡ list_any (uses_id l.number l.target l.id) (indexed_from l.index (drop l.index l.configs) (drop l.index l.slots))
