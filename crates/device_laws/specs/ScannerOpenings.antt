-- Openings that begin: each request number and each T->O id of a point to point connection is allocated once
-- (Volume 1, chapter 3, Forward_Open service, network connection ids).
use Rattle.std.specs.Prelude.{ℕ, ◌≡◌, ◌≢◌, ◌≤◌, ◌<◌, ◌⊎◌, true, List, Some}
use Rattle.cip_types.specs.Ids.{are_blocks}
use Rattle.cip_types.specs.declared.names.ConnId.{ConnId}
use Rattle.cip_events.specs.declared.event.Event.{Event}
use Rattle.scanner_table.specs.declared.profile.SlotConfig.{SlotConfig}
use Rattle.scanner_table.specs.declared.slot.PendingOpen as pending
use Rattle.scanner_table.specs.declared.slot.SlotState.TheVariants.{Opening}
use Rattle.scanner_table.specs.declared.table.ScannerTable.{ScannerTable}
use Rattle.scanner_table.specs.Slots.{IndexedSlot, slot_at}
use Rattle.scanner_table.specs.Runs.{table_after, OfEachChange}
use Rattle.scanner_table.specs.Drawn.{IsDrawn, WantsDrawn}

-- OPENINGS THAT BEGIN

-- an opening that began between two tables: its request number and its id were allocated between them; ids are numbered from 1
pub record Began (old new : ScannerTable) (config : SlotConfig) (opening : pending.PendingOpen) : Type 0 where
  pub begins : old.next_request ≤ opening.request
  pub ends : opening.request < new.next_request
  pub id : 1 ≤ old.next_id → WantsDrawn new.ids old.next_id new.next_id config.multicast opening.requested.t_o_id

-- a slot that is opening now waited for the same reply before, or the opening began since
abbrev pub OpensAnew : ScannerTable → ScannerTable → IndexedSlot → IndexedSlot → Type 0
OpensAnew old new was now =
    (opening : pending.PendingOpen) → now.slot.state ≡ Opening opening → (was.slot.state ≡ Opening opening) ⊎ Began old new now.config opening

abbrev pub OpeningsBegin : ScannerTable → ScannerTable → Type 0
OpeningsBegin old new = OfEachChange (OpensAnew old new) old new

-- NUMBERS THAT RISE

-- a slot that is opening after events waited for the same reply before them, or its request number is above every number
-- that was allocated by then
abbrev pub RequestsRise : Type 0
RequestsRise =
    (t : ScannerTable) (events : List Event) (request : ℕ) → request < t.next_request →
    (was now : IndexedSlot) (opening : pending.PendingOpen) →
    slot_at t was.number ≡ Some was → slot_at (table_after t events) was.number ≡ Some now →
    now.slot.state ≡ Opening opening → (was.slot.state ≡ Opening opening) ⊎ (request < opening.request)

-- a slot that is opening after events waited for the same reply before them, or requests no id that was allocated by then, where no
-- two blocks of the scanner have an id in common
abbrev pub IdsAreGivenOnce : Type 0
IdsAreGivenOnce =
    (t : ScannerTable) (events : List Event) (id : ConnId) → are_blocks t.ids ≡ true → IsDrawn t.ids 1 t.next_id id →
    (was now : IndexedSlot) (opening : pending.PendingOpen) →
    slot_at t was.number ≡ Some was → slot_at (table_after t events) was.number ≡ Some now →
    now.slot.state ≡ Opening opening → (was.slot.state ≡ Opening opening) ⊎ (opening.requested.t_o_id ≢ Some id)
