-- What the frames of an adapter and of a scanner are: an adapter's replies carry the ids and the actual packet intervals of the
-- connection that the event opened, and a scanner sends requests alone (Volume 1, chapter 3, Forward_Open service; Volume 2, chapter 2, sender context).
use Rattle.std.specs.Prelude.{ℕ, ◌≡◌, ◌⊎◌, ◌*◌, ◌==◌, Bool, true, false, List, [], ◌∷◌, ◌++◌, find, Some, Ok}
use Rattle.std.specs.Int.{w32, w64}
use Rattle.std.specs.List.{AllByRecursion, list_any}
use Rattle.cip_encap.specs.Message.{MessageFields}
use Rattle.cip_encap.specs.Packet.{PacketFields}
use Rattle.cip_encap.specs.AnyItems.{any_packet_reading}
use Rattle.cip_encap.specs.Reading.{message_reading}
use Rattle.cip_events.specs.declared.event.Answer.{Answer}
use Rattle.cip_events.specs.declared.event.Event.{Event}
use Rattle.cip_events.specs.declared.event.Event.TheVariants.{Request}
use Rattle.cip_events.specs.declared.event.Event.TheVariants as event
use Rattle.cip_events.specs.declared.event.Frame.{Frame}
use Rattle.cip_types.specs.declared.names.Node.{Node}
use Rattle.cip_events.specs.declared.event.Recipient.TheVariants as recipient
use Rattle.cip_fwdopen.specs.declared.reply.Opened.{Opened}
use Rattle.cip_fwdopen.specs.Open.{OpenFields}
use Rattle.cip_fwdopen.specs.Reply.{reply_service}
use Rattle.cip_netparams.specs.Word.{is_message_trigger}
use Rattle.cip_router.specs.Requests.{opening, router_request_reading}
use Rattle.messaging.specs.declared.class3.Class3Connection.{Class3Connection}
use Rattle.messaging.specs.declared.requests.Requester.{Requester}
use Rattle.messaging.specs.declared.requests.Requester.TheVariants as asker
use Rattle.messaging.specs.declared.requests.Waiting.{Waiting}
use Rattle.messaging.specs.declared.table.Messaging.{Messaging}
use Rattle.messaging.specs.Sound.{EachOf}
use Rattle.adapter_table.specs.Connections.{Row}
use Rattle.adapter_table.specs.declared.table.AdapterTable.{AdapterTable}
use Rattle.adapter_table.specs.Newest.{was_opened_as}
use Rattle.adapter_table.specs.Step.{adapter_step}
use Rattle.adapter_table.specs.Streams.{is_stream}
use Rattle.adapter_table.specs.Whole.{IsWhole}
use Rattle.scanner_table.specs.declared.table.ScannerTable.{ScannerTable}
use Rattle.scanner_table.specs.Step.{scanner_step}
use Rattle.cip_tables.specs.declared.table.DeviceTable.TheVariants.{Scanner}
use Rattle.cip_tables.specs.Whole.{IsWholeDevice}
use Rattle.device_laws.specs.Frames.{again, SuccessesAre, IsNoOpening, ContextFits}

-- AN ADAPTER

-- the success has the ids and the packet intervals of the connection of class 1 that is new in the next table
pub record IsOfRow (t next : AdapterTable) (opened : Opened) : Type 0 where
  pub row : Row
  pub new : find (was_opened_as t.next_id) next.rows ≡ Some row
  pub o_t : opened.o_t_id.0 ≡ again w32 row.o_t_id.0
  pub t_o : opened.t_o_id.0 ≡ again w32 row.t_o_id.0
  pub o_t_api : opened.o_t_api_us ≡ again w32 (1000 * row.o_t_api_ms)
  pub t_o_api : opened.t_o_api_us ≡ again w32 (1000 * row.t_o_api_ms)

-- the same of the connection of class 3, where these data of a message are a request to open one
pub record IsOfClass3 (t next : AdapterTable) (body : List ℕ) (opened : Opened) : Type 0 where
  pub packet : PacketFields
  pub packet_is : any_packet_reading body ≡ Ok packet
  pub large : Bool
  pub request : OpenFields
  pub opens : router_request_reading packet.payload ≡ opening large request
  pub trigger : is_message_trigger request.trigger ≡ true
  pub class3 : Class3Connection
  pub new : next.messaging.class3_connections ≡ t.messaging.class3_connections ++ class3 ∷ []
  pub o_t : opened.o_t_id.0 ≡ again w32 class3.o_t_id.0
  pub t_o : opened.t_o_id.0 ≡ again w32 class3.t_o_id.0
  pub o_t_api : opened.o_t_api_us ≡ again w32 (1000 * class3.o_t_api_ms)
  pub t_o_api : opened.t_o_api_us ≡ again w32 (1000 * class3.t_o_api_ms)

abbrev pub IsOfNew : AdapterTable → AdapterTable → List ℕ → Opened → Type 0
IsOfNew t next body opened = IsOfRow t next opened ⊎ IsOfClass3 t next body opened

-- The success answers the request of this message, which opened a connection. It has the connection's ids and its actual packet
-- intervals, in microseconds, as their fields bring them back.
pub record IsSuccessOf (t next : AdapterTable) (bytes : List ℕ) (context : ℕ) (opened : Opened) : Type 0 where
  pub message : MessageFields
  pub reads : message_reading bytes ≡ Ok message
  pub context_is : context ≡ again w64 message.context
  pub new : IsOfNew t next message.payload opened

-- the frame goes back over the stream of the request; each success in it is of the connection that the request opened
pub record IsReplyTo (t next : AdapterTable) (number : ℕ) (bytes : List ℕ) (frame : Frame) : Type 0 where
  pub to : frame.to ≡ recipient.Stream number
  pub successes : SuccessesAre (IsSuccessOf t next bytes) frame.bytes
  pub opens_nothing : IsNoOpening frame.bytes
  pub context : ContextFits frame.bytes

-- the frame goes to this peer; it has no success and opens nothing
pub record IsReplyToInquiry (peer : Node) (frame : Frame) : Type 0 where
  pub to : frame.to ≡ recipient.Peer peer
  pub successes : SuccessesAre (λ context opened. ⊥) frame.bytes
  pub opens_nothing : IsNoOpening frame.bytes
  pub context : ContextFits frame.bytes

-- a reply to this service is no success of an opening
pub record IsPlainService (service : ℕ) : Type 0 where
  pub small : (reply_service service == 0xD4) ≡ false
  pub large : (reply_service service == 0xDB) ≡ false

-- a request that came over one of these streams has no service of an opening; of one that a class 3 connection brought it does not
-- matter, since no reply to it can be read as a success
abbrev pub PlainFor : (ℕ → Bool) → Requester → ℕ → Type 0
PlainFor ours (asker.Peer node) service = Unit {0}
PlainFor ours (asker.Stream number context) service = ours number ≡ true → IsPlainService service
PlainFor ours (asker.Class3Connection id count) service = Unit {0}

-- so is each request that waits for the application
abbrev pub AsksPlainly : (ℕ → Bool) → Messaging → Type 0
AsksPlainly ours m = EachOf (λ (w : Waiting). PlainFor ours w.asker w.service) m.waiting

-- The frame goes over an open stream of the table, and opens nothing. It is a success only if a request that waited, and came over
-- that stream, has the service of an opening: the application answers what it likes.
pub record IsReplyOverStream (t : AdapterTable) (frame : Frame) : Type 0 where
  pub number : ℕ
  pub to : frame.to ≡ recipient.Stream number
  pub over : list_any (is_stream number) t.streams ≡ true
  pub successes : (ours : ℕ → Bool) → AsksPlainly ours t.messaging → ours number ≡ true → SuccessesAre (λ context opened. ⊥) frame.bytes
  pub opens_nothing : IsNoOpening frame.bytes
  pub context : ContextFits frame.bytes

-- the request came over a stream
abbrev pub IsOfStream : Requester → Type 0
IsOfStream (asker.Peer node) = ⊥
IsOfStream (asker.Stream number context) = Unit {0}
IsOfStream (asker.Class3Connection id count) = Unit {0}

-- so did each request that waits
abbrev pub AsksOverStreams : Messaging → Type 0
AsksOverStreams m = EachOf (λ (w : Waiting). IsOfStream w.asker) m.waiting

-- the frame goes to a peer whose request came over no stream
pub record IsReplyToPeer (t : AdapterTable) (frame : Frame) : Type 0 where
  pub peer : Node
  pub to : frame.to ≡ recipient.Peer peer
  pub over_none : AsksOverStreams t.messaging → ⊥

-- the reply to a request that waited: it goes the way that the request came
abbrev pub IsLateReply : AdapterTable → Frame → Type 0
IsLateReply t frame = IsReplyToPeer t frame ⊎ IsReplyOverStream t frame

-- an adapter sends frames only where one came, or a request or an inquiry without a stream, or where its application or time answers
-- a request that waits
abbrev pub IsAnswerTo : AdapterTable → AdapterTable → Event → Frame → Type 0
IsAnswerTo t next (Request peer bytes) frame = frame.to ≡ recipient.Peer peer
IsAnswerTo t next (event.Frame number bytes) frame = IsReplyTo t next number bytes frame
IsAnswerTo t next (event.Inquiry peer bytes) frame = IsReplyToInquiry peer frame
IsAnswerTo t next (event.Respond number status bytes) frame = IsLateReply t frame
IsAnswerTo t next (event.Tick ms) frame = IsLateReply t frame
IsAnswerTo t next other frame = ⊥

-- so is each frame that an adapter sends at an event
abbrev pub RepliesCarryOpenedIds : Type 0
RepliesCarryOpenedIds =
    (t : AdapterTable) (event : Event) (answer : Answer) (next : AdapterTable) →
    adapter_step t event ≡ Ok (answer, next) → IsWhole t → AllByRecursion (IsAnswerTo t next event) answer.frames

-- A SCANNER

pub record IsNoSuccess (frame : Frame) : Type 0 where
  pub successes : SuccessesAre (λ context opened. ⊥) frame.bytes
  pub context : ContextFits frame.bytes

-- no frame of a scanner can be read as the success of an opening
abbrev pub ScannersSendNoSuccess : Type 0
ScannersSendNoSuccess =
    (t : ScannerTable) (event : Event) (answer : Answer) (next : ScannerTable) →
    scanner_step t event ≡ Ok (answer, next) → IsWholeDevice (Scanner t) → AllByRecursion IsNoSuccess answer.frames
