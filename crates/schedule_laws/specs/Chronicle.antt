-- The chronicle of a schedule, which stands beside its story: each production with its indexes, each connection that an
-- adapter opened with the slot's opening that requested it, each slot that became established, and each datagram that was
-- accepted with the production that it is. It is computed from the acts; no device and no world stores it (Volume 1,
-- chapter 3, class 1 transport).
use Rattle.std.specs.Prelude.{ℕ, ◌==◌, ◌&&◌, Bool, false, if◌then◌else◌, List, [], ◌∷◌, ◌++◌, find, slice_get, Option, Some, None, Result, Ok, Err}
use Rattle.std.specs.List.{filter_map}
use Rattle.cip_types.specs.declared.names.ConnId.{ConnId}
use Rattle.cip_types.specs.declared.names.Node.{Node}
use Rattle.cip_datagram.specs.declared.datagram.DatagramFault.{DatagramFault}
use Rattle.cip_datagram.specs.Datagram.{DatagramFields}
use Rattle.cip_datagram.specs.Reading.{datagram_reading}
use Rattle.cip_encap.specs.declared.message.EncapFault.{EncapFault}
use Rattle.cip_encap.specs.Message.{MessageFields}
use Rattle.cip_encap.specs.Reading.{message_reading}
use Rattle.cip_events.specs.declared.event.Delivery.{Delivery}
use Rattle.cip_events.specs.declared.event.Event.{Event}
use Rattle.cip_events.specs.declared.event.Event.TheVariants.{Frame}
use Rattle.cip_events.specs.declared.event.Verdict.{Verdict}
use Rattle.cip_events.specs.declared.event.Verdict.TheVariants.{Done, Asked, BadFrame, Ignored, Value, Replied, Delivered}
use Rattle.cip_events.specs.Answers.{is_accepted}
use Rattle.adapter_table.specs.Connections.{Row}
use Rattle.adapter_table.specs.declared.table.AdapterTable.{AdapterTable}
use Rattle.adapter_table.specs.Datagrams.{is_for}
use Rattle.adapter_table.specs.Newest.{was_opened_as}
use Rattle.adapter_table.specs.Productions.{producer_of}
use Rattle.scanner_table.specs.declared.slot.SlotConnection.{SlotConnection}
use Rattle.scanner_table.specs.declared.slot.SlotState.{SlotState}
use Rattle.scanner_table.specs.declared.slot.SlotState.TheVariants.{Idle, Opening, Established, TimedOut, Closing}
use Rattle.scanner_table.specs.declared.table.ScannerTable.{ScannerTable}
use Rattle.scanner_table.specs.Datagrams.{is_for as is_for_slot}
use Rattle.scanner_table.specs.Slots.{IndexedSlot, indexed_slots, slot_at}
use Rattle.device_laws.specs.Newest.{came_from}
use Rattle.cip_tables.specs.declared.table.DeviceTable.{DeviceTable}
use Rattle.cip_tables.specs.declared.table.DeviceTable.TheVariants.{Adapter, Scanner}
use Rattle.cip_tables.specs.Step.{step}
use Rattle.cip_tables.specs.Run.{table_of}
use Rattle.segment_world.specs.Transit.Log.{Sent}
use Rattle.segment_world.specs.Transit.Streams.{Stream}
use Rattle.segment_world.specs.declared.act.Act.{Act}
use Rattle.segment_world.specs.declared.act.Act.TheVariants.{Local, Deliver, NextFrame, OpenStream, CutStream}
use Rattle.segment_world.specs.declared.act.ActFault.{ActFault}
use Rattle.segment_world.specs.World.{World, ReportedEvent, Happened, happens}
use Rattle.segment_world.specs.Story.{Story}
use Rattle.device_laws.specs.Made.{makes}
use Rattle.device_laws.specs.Productions.{End, end_at, is_end, Production, produced_more}

-- OPENINGS

-- A connection that an adapter opened: its end there, the slot's opening whose Forward_Open requested it, its ids, and the
-- producer of its T->O data.
pub record Opened : Type 0 where
  pub row : End
  pub slot : End
  pub o_t_id : ConnId
  pub t_o_id : ConnId
  pub producer : End

-- the device at the other end of a stream
abbrev pub other_end : ℕ → Stream → ℕ
other_end device s = if s.from == device then s.to else s.from

-- the slot's opening that sent a request: its number is the message's sender context
abbrev pub requester : ℕ → Option Stream → Result MessageFields EncapFault → Option End
requester device None reading = None
requester device (Some s) (Err fault) = None
requester device (Some s) (Ok m) = Some (end_at (other_end device s) m.context)

abbrev pub opened_for : ℕ → Option Row → Option End → List Opened
opened_for device None slot = []
opened_for device (Some row) None = []
opened_for device (Some row) (Some slot) = record {
  row = end_at device row.opening;
  slot = slot;
  o_t_id = row.o_t_id;
  t_o_id = row.t_o_id;
  producer = end_at device (producer_of row.state);
} ∷ []

-- the new connection after an event: it has the next opening number of the table before it
abbrev pub new_row : AdapterTable → DeviceTable → Option Row
new_row t (Adapter next) = find (was_opened_as t.next_id) next.rows
new_row t (Scanner next) = None

-- what an event opens: a Forward_Open arrives in a frame, over a stream
abbrev pub frame_opens : World → ℕ → DeviceTable → Event → DeviceTable → List Opened
frame_opens w device (Adapter t) (Frame stream bytes) next = opened_for device (new_row t next) (requester device (slice_get w.streams stream) (message_reading bytes))
frame_opens w device t event next = []

-- the entry of this connection, or of this slot's opening
abbrev pub opens_row : End → Opened → Bool
opens_row row opened = is_end row opened.row

abbrev pub opens_slot : End → Opened → Bool
opens_slot slot opened = is_end slot opened.slot

abbrev pub has_t_o_id : ConnId → Opened → Bool
has_t_o_id id opened = opened.t_o_id.0 == id.0

-- SLOTS THAT ARE ESTABLISHED

-- A slot that became established: its device, its number there, its opening's request number, and its T->O id.
pub record Establishment : Type 0 where
  pub device : ℕ
  pub slot : ℕ
  pub request : ℕ
  pub t_o_id : ConnId

-- the slot was established by this opening already
abbrev pub came_before : ℕ → Option IndexedSlot → Bool
came_before request None = false
came_before request (Some place) = came_from request place.slot.state

abbrev pub establishment : ℕ → ℕ → SlotConnection → Establishment
establishment device number c = record { device = device; slot = number; request = c.opening; t_o_id = c.link.t_o_id }

abbrev pub state_establishes : ℕ → ScannerTable → ℕ → SlotState → Option Establishment
state_establishes device t number Idle = None
state_establishes device t number (Opening o) = None
state_establishes device t number (Established c) = if came_before c.opening (slot_at t number) then None else Some (establishment device number c)
state_establishes device t number (TimedOut link) = None
state_establishes device t number (Closing c) = None

abbrev pub place_establishes : ℕ → ScannerTable → IndexedSlot → Option Establishment
place_establishes device t place = state_establishes device t place.number place.slot.state

-- the slots that are established after an event, and were not so by the same opening before it
abbrev pub establishes : ℕ → DeviceTable → DeviceTable → List Establishment
establishes device (Scanner t) (Scanner next) = filter_map (place_establishes device t) (indexed_slots next)
establishes device t next = []

abbrev pub is_slot : ℕ → ℕ → Establishment → Bool
is_slot device number e = e.device == device && e.slot == number

-- DATAGRAMS THAT ARE ACCEPTED

abbrev pub row_number : Option Row → Option ℕ
row_number None = None
row_number (Some row) = Some row.opening

abbrev pub state_number : SlotState → Option ℕ
state_number Idle = None
state_number (Opening o) = None
state_number (Established c) = Some c.opening
state_number (TimedOut link) = None
state_number (Closing c) = None

abbrev pub slot_number : Option IndexedSlot → Option ℕ
slot_number None = None
slot_number (Some place) = state_number place.slot.state

abbrev pub names_in : DeviceTable → Node → Result DatagramFields DatagramFault → Option ℕ
names_in t peer (Err fault) = None
names_in (Adapter t) peer (Ok d) = row_number (find (is_for peer d.connection) t.rows)
names_in (Scanner t) peer (Ok d) = slot_number (find (is_for_slot peer d.connection) (indexed_slots t))

-- the number of the established connection that a datagram of the peer names
abbrev pub names : DeviceTable → Sent → Option ℕ
names t sent = names_in t sent.from (datagram_reading sent.bytes)

-- A datagram that was accepted: at which end, which production it was, and what became of it.
pub record Acceptance : Type 0 where
  pub consumer : End
  pub production : Production
  pub delivery : Delivery

abbrev pub accepted_as : ℕ → Production → Option ℕ → Delivery → List Acceptance
accepted_as device p None delivery = []
accepted_as device p (Some number) delivery =
    if is_accepted delivery then record { consumer = end_at device number; production = p; delivery = delivery } ∷ [] else []

-- what is accepted, by the verdict of the device's answer
abbrev pub accepted_by_verdict : ℕ → Production → Option ℕ → Verdict → List Acceptance
accepted_by_verdict device p number Done = []
accepted_by_verdict device p number BadFrame = []
accepted_by_verdict device p number Ignored = []
accepted_by_verdict device p number (Value bytes) = []
accepted_by_verdict device p number (Replied pending status additional content) = []
accepted_by_verdict device p number (Asked asks service class instance attribute body) = []
accepted_by_verdict device p number (Delivered delivery) = accepted_as device p number delivery

abbrev pub accepted_sent : ℕ → Option DeviceTable → Option Sent → Option Production → Verdict → List Acceptance
accepted_sent device (Some t) (Some sent) (Some p) verdict = accepted_by_verdict device p (names t sent) verdict
accepted_sent device t sent p verdict = []

abbrev pub has_consumer : End → Acceptance → Bool
has_consumer consumer a = is_end consumer a.consumer

-- the newest that was accepted at this end; the latest stands first
abbrev pub newest : End → List Acceptance → Option Acceptance
newest consumer accepted = find (has_consumer consumer) accepted

-- THE CHRONICLE

-- A story; the productions, one for each datagram that was sent; the connections that adapters opened; the slots that
-- became established and the datagrams that were accepted, of both the latest first.
pub record Chronicle : Type 0 where
  pub story : Story
  pub produced : List Production
  pub opened : List Opened
  pub established : List Establishment
  pub accepted : List Acceptance

-- A delivery names a datagram by its place in the list of all that were sent, which is the place of its production.
abbrev pub accepted_by_act : World → List Production → Act → Verdict → List Acceptance
accepted_by_act w produced (Local device call) verdict = []
accepted_by_act w produced (Deliver index device) verdict = accepted_sent device (slice_get w.tables device) (slice_get w.sent index) (slice_get produced index) verdict
accepted_by_act w produced (NextFrame stream direction) verdict = []
accepted_by_act w produced (OpenStream from to) verdict = []
accepted_by_act w produced (CutStream stream) verdict = []

-- the chronicle with an event of a device, whose table before it is this one
abbrev pub with_event : Chronicle → Act → ReportedEvent → World → DeviceTable → Chronicle
with_event c act reported new t =
    let next = table_of t (step t reported.event) in
    record {
      story = record { world = new; reported = c.story.reported ++ reported ∷ [] };
      produced = produced_more reported.device c.produced (makes t reported.event);
      opened = c.opened ++ frame_opens c.story.world reported.device t reported.event next;
      established = establishes reported.device t next ++ c.established;
      accepted = accepted_by_act c.story.world c.produced act reported.answer.verdict ++ c.accepted;
    }

abbrev pub with_event_at : Chronicle → Act → ReportedEvent → World → Option DeviceTable → Chronicle
with_event_at c act reported new None = record c { story = record { world = new; reported = c.story.reported ++ reported ∷ [] } }
with_event_at c act reported new (Some t) = with_event c act reported new t

abbrev pub recorded : Chronicle → Act → Happened → Result Chronicle ActFault
recorded c act (Err fault) = Err fault
recorded c act (Ok (None, new)) = Ok (record c { story = record { world = new; reported = c.story.reported } })
recorded c act (Ok (Some reported, new)) = Ok (with_event_at c act reported new (slice_get c.story.world.tables reported.device))

-- the chronicle after an act
abbrev pub after_act : Chronicle → Act → Result Chronicle ActFault
after_act c act = recorded c act (happens c.story.world act)

abbrev pub then_act : Result Chronicle ActFault → Act → Result Chronicle ActFault
then_act (Err fault) act = Err fault
then_act (Ok c) act = after_act c act

-- the chronicle of a schedule, or the fault of its first act that has one
unfoldable pub chronicles : Result Chronicle ActFault → List Act → Result Chronicle ActFault
chronicles c [] = c
chronicles c (act ∷ acts) = chronicles (then_act c act) acts

-- the chronicle of a world in which nothing has happened
abbrev pub blank : World → Chronicle
blank w = record { story = record { world = w; reported = [] }; produced = []; opened = []; established = []; accepted = [] }
