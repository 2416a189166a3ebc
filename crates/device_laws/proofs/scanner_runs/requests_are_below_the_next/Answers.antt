use Rattle.scanner_table.specs.Slots.{indexed_slots}
use Rattle.device_laws.specs.Scanners.{EachSlot, IsNumberedBelow}
use Rattle.device_laws.proofs.SlotLemmas.{each_is_numbered}
use Rattle.device_laws.proofs.RunLemmas.{over_scanners}
use Rattle.device_laws.proofs.scanner_runs.requests_are_below_the_next.Goals as goal

pub returns : goal.returns
returns c = over_scanners (λ t. EachSlot (λ indexed. IsNumberedBelow t.next_request indexed.slot.state) (indexed_slots t)) (λ t whole. each_is_numbered t whole.table) c.tables_are_whole.ensures
