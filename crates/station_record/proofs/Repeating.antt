-- A device takes a datagram that no connection can take as it takes the one that is recorded.
use Rattle.std.proofs.Common.{◌≡◌, ℕ, Bool, true, false, List, length, Option, Some, None, Result, Ok, Err, refl, ap, ◌∙◌, arith}
use Rattle.std.specs.Prelude.{find, ◌==◌, if◌then◌else◌}
use Rattle.cip_types.specs.declared.names.Node.{Node}
use Rattle.cip_types.specs.declared.names.Ms.{Ms}
use Rattle.cip_datagram.specs.declared.datagram.DatagramFault.{DatagramFault}
use Rattle.cip_datagram.specs.Datagram.{DatagramFields, DatagramFits, IsDatagramReading}
use Rattle.cip_datagram.specs.ReadsBack.{DatagramReadsBack}
use Rattle.cip_datagram.specs.Reading.{datagram_reading}
use Rattle.cip_events.specs.Answers.{is_accepted}
use Rattle.cip_events.specs.declared.event.Delivery.{Delivery}
use Rattle.cip_events.specs.declared.event.Event.TheVariants.{Datagram}
use Rattle.cip_events.specs.Outcomes.{Outcome}
use Rattle.cip_tables.specs.declared.table.DeviceTable.{DeviceTable}
use Rattle.cip_tables.specs.declared.table.DeviceTable.TheVariants.{Adapter, Scanner}
use Rattle.cip_tables.specs.Step.{step}
use Rattle.cip_tables.specs.Run.{outcome_of}
use Rattle.cip_productions.specs.Kinds.{is_owner}
use Rattle.cip_productions.specs.Acceptance.{is_duplicate}
use Rattle.cip_datagram.specs.Header.{header_at}
use Rattle.adapter_table.specs.declared.table.AdapterTable.{AdapterTable}
use Rattle.adapter_table.specs.declared.profile.Profile.{Profile}
use Rattle.adapter_table.specs.Connections.{Row}
use Rattle.adapter_table.specs.Requests.{Next as AdapterNext}
use Rattle.adapter_table.specs.Datagrams as adapter
use Rattle.adapter_table.specs.StatedLimits.{accepts_at}
use Rattle.scanner_table.specs.declared.table.ScannerTable.{ScannerTable}
use Rattle.scanner_table.specs.declared.slot.SlotConnection as slotted
use Rattle.scanner_table.specs.declared.slot.SlotState.{SlotState}
use Rattle.scanner_table.specs.declared.slot.SlotState.TheVariants.{Idle, Opening, Established, TimedOut, Closing}
use Rattle.scanner_table.specs.Slots.{IndexedSlot, indexed_slots}
use Rattle.scanner_table.specs.Effects.{Next as ScannerNext}
use Rattle.scanner_table.specs.Datagrams as scanner
use Rattle.station_record.specs.Shortened.{IsBare, Repeats, bare_bytes, is_for_none, is_lost, recorded_datagram, without_data}

-- THE BYTES

-- the bytes that are recorded, read again
pub bare_is : DatagramReadsBack → (bytes : List ℕ) (reading : Result DatagramFields DatagramFault) → IsDatagramReading bytes reading → IsBare reading (datagram_reading (bare_bytes reading))
unfolding datagram_reading
bare_is law bytes (Err fault) is = tt
bare_is law bytes (Ok d) is =
    let fits : DatagramFits d = is.0 in
    law (without_data d) (record { connection = fits.connection; sequence = fits.sequence; count = fits.count; payload = omega arith })

-- what holds of both holds of the one that is chosen
either : {A : Type 0} (holds : A → Type 0) (first : Bool) (x y : A) → holds x → holds y → holds (if first then x else y)
either holds true x y on_x on_y = on_x
either holds false x y on_x on_y = on_y

abbrev is_kept : Delivery → Type 0
is_kept delivery = is_lost delivery ≡ false

-- AN ADAPTER

-- a delivery to a connection is not lost
mode_kept : (found : Option (Bool × List ℕ)) → is_lost (adapter.moded found) ≡ false
mode_kept None = refl
mode_kept (Some (true, rest)) = refl
mode_kept (Some (false, rest)) = refl

owned_kept : (row : Row) (d : DatagramFields) → is_lost (adapter.owned_delivery row d) ≡ false
owned_kept row d = either is_kept (is_duplicate row.last d.count) _ _ refl (mode_kept (header_at d.payload))

accepted_kept : (row : Row) (d : DatagramFields) → is_lost (adapter.accepted_delivery row d) ≡ false
accepted_kept row d = either is_kept (is_owner row.kind) _ _ (owned_kept row d) refl

sized_kept : (within : Option ℕ) (clock : Ms) (row : Row) (d : DatagramFields) → is_lost (adapter.sized_delivery within clock row d) ≡ false
sized_kept within clock row d = either is_kept (accepts_at within clock row d.sequence) _ _ (accepted_kept row d) refl

row_kept : (profile : Profile) (clock : Ms) (row : Row) (d : DatagramFields) → is_lost (adapter.row_delivery profile clock row d) ≡ false
row_kept profile clock row d = either is_kept (length d.payload == adapter.expected_len profile row) _ _ (sized_kept profile.limits.newer clock row d) refl

judged_kept : (t : AdapterTable) (peer : Node) (d : DatagramFields) (row : Row) (delivery : Delivery) → is_lost delivery ≡ false → is_for_none (Ok (adapter.judged_datagram t peer d row delivery).0) ≡ false
judged_kept t peer d row delivery kept =
    either (λ (next : AdapterNext). is_for_none (Ok next.0) ≡ false) (is_accepted delivery) _ _ kept kept

found_alike : (t : AdapterTable) (peer : Node) (d : DatagramFields) (found : Option Row) → is_for_none (Ok (adapter.found_datagram t peer d found).0) ≡ true → adapter.found_datagram t peer (without_data d) found ≡ adapter.found_datagram t peer d found
found_alike t peer d None lost = refl
found_alike t peer d (Some row) lost =
    let kept : is_for_none (Ok (adapter.judged_datagram t peer d row (adapter.row_delivery t.profile t.clock row d)).0) ≡ false = judged_kept t peer d row (adapter.row_delivery t.profile t.clock row d) (row_kept t.profile t.clock row d) in
    absurd (cc)

adapter_alike : (t : AdapterTable) (peer : Node) (reading bare : Result DatagramFields DatagramFault) → IsBare reading bare → is_for_none (Ok (adapter.datagram_of t peer reading).0) ≡ true → adapter.datagram_of t peer bare ≡ adapter.datagram_of t peer reading
adapter_alike t peer (Err fault) (Ok d) is lost = absurd is
adapter_alike t peer (Err fault) (Err other) is lost = refl
adapter_alike t peer (Ok d) bare is lost = ap (adapter.datagram_of t peer) is ∙ found_alike t peer d (find (adapter.is_for peer d.connection) t.rows) lost

-- A SCANNER

connected_kept : (t : ScannerTable) (indexed : IndexedSlot) (d : DatagramFields) (c : slotted.SlotConnection) → is_for_none (Ok (scanner.connected t indexed d c).0) ≡ false
connected_kept t indexed d c =
    either keeps (length d.payload == indexed.config.in_len) _ _
    (either keeps (scanner.accepts_at t indexed c d.sequence) _ _ (either keeps (is_duplicate c.last d.count) _ _ refl refl) refl)
    refl
  where
    keeps : ScannerNext → Type 0
    keeps next = is_for_none (Ok next.0) ≡ false

state_alike : (t : ScannerTable) (indexed : IndexedSlot) (d : DatagramFields) (state : SlotState) → is_for_none (Ok (scanner.state_received t indexed d state).0) ≡ true → scanner.state_received t indexed (without_data d) state ≡ scanner.state_received t indexed d state
state_alike t indexed d Idle lost = refl
state_alike t indexed d (Opening o) lost = refl
state_alike t indexed d (TimedOut link) lost = refl
state_alike t indexed d (Closing c) lost = refl
state_alike t indexed d (Established c) lost =
    let kept : is_for_none (Ok (scanner.connected t indexed d c).0) ≡ false = connected_kept t indexed d c in
    absurd (cc)

at_alike : (t : ScannerTable) (d : DatagramFields) (found : Option IndexedSlot) → is_for_none (Ok (scanner.received_at t d found).0) ≡ true → scanner.received_at t (without_data d) found ≡ scanner.received_at t d found
at_alike t d None lost = refl
at_alike t d (Some indexed) lost = state_alike t indexed d indexed.slot.state lost

scanner_alike : (t : ScannerTable) (peer : Node) (reading bare : Result DatagramFields DatagramFault) → IsBare reading bare → is_for_none (Ok (scanner.received_as t peer reading).0) ≡ true → scanner.received_as t peer bare ≡ scanner.received_as t peer reading
scanner_alike t peer (Err fault) (Ok d) is lost = absurd is
scanner_alike t peer (Err fault) (Err other) is lost = refl
scanner_alike t peer (Ok d) bare is lost = ap (scanner.received_as t peer) is ∙ at_alike t d (find (scanner.is_for peer d.connection) (indexed_slots t)) lost

-- A DEVICE

device_alike : (table : DeviceTable) (peer : Node) (bytes bare : List ℕ) → IsBare (datagram_reading bytes) (datagram_reading bare) → is_for_none (outcome_of (step table (Datagram peer bytes))) ≡ true → step table (Datagram peer bare) ≡ step table (Datagram peer bytes)
unfolding step adapter.received scanner.received
device_alike (Adapter t) peer bytes bare is lost = ap (λ next. Ok (next.0, Adapter next.1)) (adapter_alike t peer (datagram_reading bytes) (datagram_reading bare) is lost)
device_alike (Scanner t) peer bytes bare is lost = ap (λ next. Ok (next.0, Scanner next.1)) (scanner_alike t peer (datagram_reading bytes) (datagram_reading bare) is lost)

recorded_alike : (table : DeviceTable) (peer : Node) (bytes : List ℕ) (outcome : Outcome) (lost : Bool) → is_for_none outcome ≡ lost → IsBare (datagram_reading bytes) (datagram_reading (bare_bytes (datagram_reading bytes))) → outcome_of (step table (Datagram peer bytes)) ≡ outcome → step table (recorded_datagram peer bytes lost) ≡ step table (Datagram peer bytes)
recorded_alike table peer bytes outcome false is bare given = refl
recorded_alike table peer bytes outcome true is bare given = device_alike table peer bytes (bare_bytes (datagram_reading bytes)) bare (ap is_for_none given ∙ is)

-- a datagram as it is recorded
pub datagram_repeats : (peer : Node) (bytes : List ℕ) (outcome : Outcome) → IsBare (datagram_reading bytes) (datagram_reading (bare_bytes (datagram_reading bytes))) → Repeats (Datagram peer bytes) outcome
datagram_repeats peer bytes outcome bare table given = recorded_alike table peer bytes outcome (is_for_none outcome) refl bare given
