use Rattle.scanner_table.specs.Slots.{indexed_slots}
use Rattle.device_laws.specs.Scanners.{EachSlot, HasLengths}
use Rattle.device_laws.proofs.SlotLemmas.{each_has_lengths}
use Rattle.device_laws.proofs.RunLemmas.{over_scanners}
use Rattle.device_laws.proofs.scanner_runs.slots_have_their_lengths.Goals as goal

pub returns : goal.returns
returns c = over_scanners (λ t. EachSlot HasLengths (indexed_slots t)) (λ t whole. each_has_lengths t whole.table) c.tables_are_whole.ensures
