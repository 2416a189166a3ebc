-- The application answers a request that waits: the answer goes the way that the request came
-- (Volume 1, chapter 2, message router reply; Volume 2, chapter 2, SendRRData and SendUnitData).
use Rattle.std.specs.Prelude.{ℕ, ◌+◌, nat_lt, if◌then◌else◌, List, [], ◌∷◌, length, find, Option, Some, None, Result, Ok, Err}
use Rattle.cip_types.specs.declared.names.ConnId.{ConnId}
use Rattle.cip_events.specs.declared.event.Frame.{Frame}
use Rattle.cip_events.specs.declared.event.StepFault.{StepFault}
use Rattle.cip_events.specs.declared.event.StepFault.TheVariants.{NotAllowedNow, WrongLength}
use Rattle.cip_events.specs.declared.event.Verdict.TheVariants.{Done}
use Rattle.cip_router.specs.Frames.{RequestHeader, router_reply, connected}
use Rattle.cip_router.specs.Replies.{ReplyFields, own}
use Rattle.messaging.specs.declared.class3.Class3Connection as kept
use Rattle.messaging.specs.declared.requests.Requester.{Requester}
use Rattle.messaging.specs.declared.requests.Requester.TheVariants.{Peer, Stream, Class3Connection}
use Rattle.messaging.specs.declared.requests.Waiting.{Waiting}
use Rattle.messaging.specs.declared.table.Messaging.{Messaging}
use Rattle.messaging.specs.Class3Connections.{is_last_message}
use Rattle.messaging.specs.Changes.{longest_answer, has_request_number, answered, replied}
use Rattle.adapter_table.specs.declared.table.AdapterTable.{AdapterTable}
use Rattle.adapter_table.specs.Connected.{fitted_text}
use Rattle.adapter_table.specs.Encapsulation.{reply_frames}
use Rattle.adapter_table.specs.Messages.{with_messages}
use Rattle.adapter_table.specs.Requests.{Next, reply_frame}

-- THE FRAMES

-- what the answer over a stream repeats of an unconnected request: SendRRData, the session of the stream, the context
abbrev pub rr_header : (stream context : ℕ) → RequestHeader
rr_header stream context = record { command = 0x6F; session = stream + 1; context = context }

-- and of a connected message: SendUnitData, the session of the stream
abbrev pub unit_header : (stream : ℕ) → RequestHeader
unit_header stream = record { command = 0x70; session = stream + 1; context = 0 }

-- the frame of a reply to the last message of a class 3 connection
abbrev pub class3_frames : (count service : ℕ) → ReplyFields → Option kept.Class3Connection → List Frame
class3_frames count service reply None = []
class3_frames count service reply (Some d) =
    reply_frames d.stream (unit_header d.stream) (Some (connected d.t_o_id.0 count (fitted_text d service reply)))

-- the frame of a reply, by the route of its request
abbrev pub route_frames : Messaging → Requester → (service : ℕ) → ReplyFields → List Frame
route_frames m (Peer node) service reply = reply_frame node reply ∷ []
route_frames m (Stream number context) service reply = reply_frames number (rr_header number context) (Some (router_reply reply None))
route_frames m (Class3Connection id count) service reply = class3_frames count service reply (find (is_last_message id count) m.class3_connections)

-- THE ANSWER

-- the class 3 connection keeps the reply to its last message
abbrev pub class3_keeps : Messaging → ConnId → (count service : ℕ) → ReplyFields → Option kept.Class3Connection → Messaging
class3_keeps m id count service reply None = m
class3_keeps m id count service reply (Some d) = replied m id count (fitted_text d service reply)

-- the same, if such a connection brought the request
abbrev pub with_reply : Messaging → Requester → (service : ℕ) → ReplyFields → Messaging
with_reply m (Peer node) service reply = m
with_reply m (Stream number context) service reply = m
with_reply m (Class3Connection id count) service reply = class3_keeps m id count service reply (find (is_last_message id count) m.class3_connections)

-- the reply goes out, and the request waits no more
abbrev pub responded : AdapterTable → Waiting → ReplyFields → Next
responded t w reply = (
  record { frames = route_frames t.messaging w.asker w.service reply; datagrams = []; verdict = Done; notices = [] },
  with_messages t (answered (with_reply t.messaging w.asker w.service reply) w.number),
)

abbrev pub respond_of : AdapterTable → (status : ℕ) → List ℕ → Option Waiting → Result Next StepFault
respond_of t status bytes None = Err NotAllowedNow
respond_of t status bytes (Some w) = if nat_lt longest_answer (length bytes) then Err WrongLength else Ok (responded t w (own w.service status bytes))

-- the application answers the request of a number
unfoldable pub respond : AdapterTable → (number status : ℕ) → List ℕ → Result Next StepFault
respond t number status bytes = respond_of t status bytes (find (has_request_number number) t.messaging.waiting)
