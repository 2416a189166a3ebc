-- Which ids an established slot of a scanner has: those of the success that established it, until its opening ends (Volume 1,
-- chapter 3, Forward_Open service, successful response).
use Rattle.std.specs.Prelude.{ℕ, ◌≡◌, ◌⊎◌, Ok}
use Rattle.std.specs.List.{AllByRecursion, Contains}
use Rattle.cip_events.specs.declared.event.Answer.{Answer}
use Rattle.cip_events.specs.declared.event.Event.{Event}
use Rattle.cip_fwdopen.specs.declared.reply.Opened.{Opened}
use Rattle.scanner_table.specs.declared.profile.SlotConfig.{SlotConfig}
use Rattle.scanner_table.specs.declared.slot.SlotConnection.{SlotConnection}
use Rattle.scanner_table.specs.declared.slot.PendingOpen as pending
use Rattle.scanner_table.specs.declared.slot.SlotState.{SlotState}
use Rattle.scanner_table.specs.declared.slot.SlotState.TheVariants.{Idle, Opening, Established, TimedOut, Closing}
use Rattle.scanner_table.specs.declared.table.ScannerTable.{ScannerTable}
use Rattle.scanner_table.specs.Slots.{IndexedSlot, indexed_slots}
use Rattle.scanner_table.specs.Step.{scanner_step}
use Rattle.cip_tables.specs.declared.table.DeviceTable.TheVariants.{Scanner}
use Rattle.cip_tables.specs.Whole.{IsWholeDevice}
use Rattle.device_laws.specs.Ids.{Replied}
use Rattle.device_laws.specs.Carrying.{Waits}

-- one connection of one opening, with the same ids
pub record IsSameConnection (c d : SlotConnection) : Type 0 where
  pub opening : d.opening ≡ c.opening
  pub link : d.link ≡ c.link

-- the slot of this number and configuration had the connection already
pub record WasEstablished (t : ScannerTable) (number : ℕ) (config : SlotConfig) (c : SlotConnection) : Type 0 where
  pub place : IndexedSlot
  pub there : Contains (indexed_slots t) place
  pub number_is : place.number ≡ number
  pub config_is : place.config ≡ config
  pub before : SlotConnection
  pub state : place.slot.state ≡ Established before
  pub same : IsSameConnection before c

-- it waited for the connection's opening, and the event is the success that answers the opening's request, with these ids
pub record IsEstablishedBy (t : ScannerTable) (event : Event) (number : ℕ) (config : SlotConfig) (c : SlotConnection) : Type 0 where
  pub opening : pending.PendingOpen
  pub waits : Waits t number config opening
  pub request_is : c.opening ≡ opening.request
  pub success : Opened
  pub replied : Replied t event config.target opening.request success
  pub o_t : c.link.o_t_id ≡ success.o_t_id
  pub t_o : c.link.t_o_id ≡ success.t_o_id

abbrev pub StateHasItsIds : ScannerTable → Event → ℕ → SlotConfig → SlotState → Type 0
StateHasItsIds t event number config Idle = Unit {0}
StateHasItsIds t event number config (Opening o) = Unit {0}
StateHasItsIds t event number config (Established c) = WasEstablished t number config c ⊎ IsEstablishedBy t event number config c
StateHasItsIds t event number config (TimedOut link) = Unit {0}
StateHasItsIds t event number config (Closing c) = Unit {0}

abbrev pub SlotHasItsIds : ScannerTable → Event → IndexedSlot → Type 0
SlotHasItsIds t event place = StateHasItsIds t event place.number place.config place.slot.state

-- A slot that is established after a step was so before it, by the same opening and with the same ids; or the event is the
-- success of its request, and its ids are those of the success.
abbrev pub SlotsHaveTheIdsOfTheirSuccess : Type 0
SlotsHaveTheIdsOfTheirSuccess =
    (t : ScannerTable) (event : Event) (answer : Answer) (next : ScannerTable) →
    scanner_step t event ≡ Ok (answer, next) → IsWholeDevice (Scanner t) → AllByRecursion (SlotHasItsIds t event) (indexed_slots next)
