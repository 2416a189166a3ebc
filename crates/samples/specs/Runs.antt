-- The outcomes of events at a device, one after another.
use Rattle.std.specs.Prelude.{ℕ, ◌+◌, List, [], ◌∷◌, Ok, Err}
use Rattle.cip_types.specs.declared.names.Node.{Node}
use Rattle.cip_events.specs.declared.event.Delivery.{Delivery}
use Rattle.cip_events.specs.declared.event.Event.{Event}
use Rattle.cip_events.specs.declared.event.Event.TheVariants.{Request}
use Rattle.cip_events.specs.declared.event.Notice.{Notice}
use Rattle.cip_events.specs.declared.event.Notice.TheVariants.{Opened, Closed}
use Rattle.cip_events.specs.declared.event.Recipient.TheVariants.{Peer}
use Rattle.cip_events.specs.declared.event.OutgoingDatagram.{OutgoingDatagram}
use Rattle.cip_events.specs.declared.event.Verdict.{Verdict}
use Rattle.cip_events.specs.declared.event.Verdict.TheVariants.{Done, Value, Delivered}
use Rattle.adapter_table.specs.declared.profile.Profile.{Profile}
use Rattle.cip_tables.specs.declared.table.DeviceTable.{DeviceTable}
use Rattle.cip_events.specs.Outcomes.{Outcome}
use Rattle.cip_tables.specs.Run.{outcomes_of, table_after}
use Rattle.samples.specs.Devices.{fresh, peer, triad}
use Rattle.samples.specs.Requests.{OpeningRequest, opening, opened_reply, refused_reply, closing, closed_reply}

-- ---- events

-- the first originator requests to open a connection
abbrev pub opens : OpeningRequest → Event
opens a = Request peer (opening a)

-- a node closes a connection
abbrev pub closes : Node → OpeningRequest → Event
closes node a = Request node (closing a.serial a.originator)

-- the outcomes of the events at a fresh device of the profile
abbrev pub said : Profile → List Event → List Outcome
said profile events = outcomes_of (fresh profile) events

-- a device of the profile after the events
abbrev pub after : Profile → List Event → DeviceTable
after profile events = table_after (fresh profile) events

-- ---- outcomes

-- a verdict alone
abbrev pub says : Verdict → Outcome
says verdict = Ok (record { frames = []; datagrams = []; verdict = verdict; notices = [] })

-- the delivery of a datagram
abbrev pub delivers : Delivery → Outcome
delivers delivery = says (Delivered delivery)

-- the bytes of a point
abbrev pub holds : List ℕ → Outcome
holds bytes = says (Value bytes)

-- sent datagrams, and these notices
abbrev pub emits : List OutgoingDatagram → List Notice → Outcome
emits datagrams notices = Ok (record { frames = []; datagrams = datagrams; verdict = Done; notices = notices })

-- a reply to a node, and these notices
abbrev pub replies : Node → List ℕ → List Notice → Outcome
replies to bytes notices = Ok (record {
  frames = record { to = Peer to; bytes = bytes } ∷ [];
  datagrams = [];
  verdict = Done;
  notices = notices;
})

-- an id of the common adapter
abbrev pub id : ℕ → ℕ
id counter = 0x10000000 + counter

-- the notice of an opened connection of the common adapter
abbrev pub opened_notice : OpeningRequest → ℕ → Notice
opened_notice a counter = Opened (triad a.serial a.originator) (record { 0 = id counter })

-- the connection is opened with this counter in its O->T id and with this T->O id, every 10 ms both ways
abbrev pub accepts : Node → OpeningRequest → ℕ → ℕ → Outcome
accepts to a counter t_o_id = replies to (opened_reply a (id counter) t_o_id 10000 10000) (opened_notice a counter ∷ [])

-- the connection is refused with an additional status
abbrev pub refuses : Node → OpeningRequest → ℕ → Outcome
refuses to a code = replies to (refused_reply a code) []

-- the connection is closed
abbrev pub ends : Node → OpeningRequest → List Notice → Outcome
ends to a dropped = replies to (closed_reply a.serial a.originator) (Closed (triad a.serial a.originator) ∷ dropped)

-- ---- parts of outcomes

-- the notices of an outcome
abbrev pub notices_of : Outcome → List Notice
notices_of (Ok answer) = answer.notices
notices_of (Err fault) = []
