use Rattle.std.proofs.Common.{◌≡◌, length}
use Rattle.device_laws.proofs.SlotLemmas.{fitting_slots}
use Rattle.device_laws.proofs.RunLemmas.{over_scanners}
use Rattle.device_laws.proofs.scanner_runs.slots_match_the_profile.Goals as goal

pub returns : goal.returns
returns c = over_scanners (λ t. length t.slots ≡ length t.profile.slots) (λ t whole. fitting_slots t.next_request t.clock.0 t.profile.slots t.slots whole.table.slots) c.tables_are_whole.ensures
