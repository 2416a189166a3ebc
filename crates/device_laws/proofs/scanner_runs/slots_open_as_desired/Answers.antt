use Rattle.scanner_table.specs.Slots.{indexed_slots}
use Rattle.device_laws.specs.Scanners.{EachSlot, IsOpenAsDesired}
use Rattle.device_laws.proofs.SlotLemmas.{each_opens_as_desired}
use Rattle.device_laws.proofs.RunLemmas.{over_scanners}
use Rattle.device_laws.proofs.scanner_runs.slots_open_as_desired.Goals as goal

pub returns : goal.returns
returns c = over_scanners (λ t. EachSlot (IsOpenAsDesired t.profile.tidy) (indexed_slots t)) (λ t whole. each_opens_as_desired t whole.table) c.tables_are_whole.ensures
