-- Streams to targets, and the encapsulation messages that a scanner receives over them (Volume 2, chapter 2,
-- encapsulation messages, RegisterSession and SendRRData).
use Rattle.std.specs.Prelude.{ℕ, ◌==◌, ◌&&◌, Bool, false, if◌then◌else◌, List, [], ◌∷◌, length, find, Option, Some, None, Result, Ok, Err}
use Rattle.cip_types.specs.declared.names.Node.{Node}
use Rattle.cip_encap.specs.declared.message.EncapFault.{EncapFault}
use Rattle.cip_encap.specs.Message.{MessageFields}
use Rattle.cip_encap.specs.Reading.{message_reading}
use Rattle.cip_events.specs.declared.event.Reason.TheVariants as reason
use Rattle.cip_events.specs.declared.event.StepFault.{StepFault}
use Rattle.cip_events.specs.declared.event.StepFault.TheVariants.{NotAllowedNow}
use Rattle.cip_events.specs.declared.event.Verdict.TheVariants.{BadFrame, Ignored}
use Rattle.cip_events.specs.Answers.{plain_answer}
use Rattle.scanner_table.specs.declared.explicit.PendingExplicit.{PendingExplicit}
use Rattle.scanner_table.specs.declared.slot.SlotState.{SlotState}
use Rattle.scanner_table.specs.declared.slot.SlotState.TheVariants.{Idle, Opening, Established, TimedOut, Closing}
use Rattle.scanner_table.specs.declared.table.ScannerTable.{ScannerTable}
use Rattle.scanner_table.specs.declared.table.Stage.{Stage}
use Rattle.scanner_table.specs.declared.table.Stage.TheVariants.{Waiting, Up, Unused}
use Rattle.scanner_table.specs.declared.table.TargetStream.{TargetStream}
use Rattle.scanner_table.specs.Slots.{IndexedSlot, indexed_slots, is_with}
use Rattle.scanner_table.specs.Sessions.{is_stream, is_taken, with_stream, without_stream, with_stage}
use Rattle.scanner_table.specs.Requests.{is_large, registration}
use Rattle.scanner_table.specs.Effects.{Next, Effect, nothing, and_then, done}
use Rattle.scanner_table.specs.Opening.{target_opened}
use Rattle.scanner_table.specs.Replies.{open_answer, refused, answered}
use Rattle.scanner_table.specs.Closing.{closed, target_lost}
use Rattle.scanner_table.specs.Explicit.{awaits, explicit_reply, explicit_answered, explicit_lost}

-- STREAMS OPEN AND CLOSE

-- the scanner registers a session on a new stream
abbrev pub registering_on : ScannerTable → ℕ → Node → Effect
registering_on t number target = record { sent = registration number ∷ []; notices = []; table = with_stream t number target }

-- A stream to a target opens. The scanner refuses a stream number in use, a second stream to a target, and a seventeenth
-- stream.
unfoldable pub stream_opened : ScannerTable → ℕ → Node → Result Next StepFault
stream_opened t number target = if is_taken t.streams number target then Err NotAllowedNow else Ok (done (registering_on t number target))

-- The target's slots give up the replies that they wait for, and then the explicit requests of the stream end.
abbrev pub stream_lost : ScannerTable → TargetStream → Effect
stream_lost t stream = and_then (target_lost stream.peer (without_stream t stream.number)) (explicit_lost stream.number)

-- the cut of the stream that the lookup found, if any
abbrev pub cut_of : ScannerTable → Option TargetStream → Result Next StepFault
cut_of t None = Err NotAllowedNow
cut_of t (Some stream) = Ok (done (stream_lost t stream))

-- a stream is cut, or its target closes it
unfoldable pub stream_cut : ScannerTable → ℕ → Result Next StepFault
stream_cut t number = cut_of t (find (is_stream number) t.streams)

-- REGISTRATION

-- the message is a successful RegisterSession reply, with its four bytes of data
abbrev pub is_registered : MessageFields → Bool
is_registered m = m.command == 0x0065 && (m.status == 0 && length m.payload == 4)

-- the session is registered, and the target's slots that are ready open
abbrev pub session_begun : ScannerTable → TargetStream → ℕ → Effect
session_begun t stream handle = target_opened stream.peer (with_stage t stream.number (Up handle))

-- the registration failed, and the stream stays unused
abbrev pub session_failed : ScannerTable → TargetStream → Effect
session_failed t stream = nothing (with_stage t stream.number Unused)

abbrev pub registered : ScannerTable → TargetStream → MessageFields → Effect
registered t stream m = if is_registered m then session_begun t stream m.session else session_failed t stream

-- SESSIONS THAT END

-- with `tidy`, the message says that its target does not know the session: the encapsulation status is invalid session handle
abbrev pub ends_session : ScannerTable → MessageFields → Bool
ends_session t m = t.profile.tidy && m.status == 0x0064

-- the scanner registers a session on the stream again
abbrev pub registering_again : ScannerTable → TargetStream → Effect
registering_again t stream = record { sent = registration stream.number ∷ []; notices = []; table = with_stage t stream.number Waiting }

-- The session on the stream ends: what waits for a reply over it ends as at a cut, and the scanner registers a new session on the same
-- stream.
abbrev pub session_renewed : TargetStream → ScannerTable → Effect
session_renewed stream t = and_then (and_then (registering_again t stream) (target_lost stream.peer)) (explicit_lost stream.number)

-- MESSAGES

-- no slot and no registration waits for the message
abbrev pub ignored : ScannerTable → Next
ignored t = (plain_answer Ignored, t)

abbrev pub waits_for : ℕ → SlotState → Bool
waits_for number Idle = false
waits_for number (Opening o) = o.request == number
waits_for number (Established c) = false
waits_for number (TimedOut link) = false
waits_for number (Closing c) = c.request == number

-- the slot waits for the reply to the request of this number, from this target
abbrev pub is_awaiting : Node → ℕ → IndexedSlot → Bool
is_awaiting target number indexed = is_with target indexed && waits_for number indexed.slot.state

-- the reply to the slot's request
abbrev pub replied : ScannerTable → IndexedSlot → MessageFields → SlotState → Next
replied t indexed m Idle = ignored t
replied t indexed m (Opening o) = done (answered t indexed o (open_answer (is_large indexed.config) m))
replied t indexed m (Established c) = ignored t
replied t indexed m (TimedOut link) = ignored t
replied t indexed m (Closing c) = done (closed t indexed)

-- the reply at the slot that waits for it, if any
abbrev pub replied_to : ScannerTable → MessageFields → Option IndexedSlot → Next
replied_to t m None = ignored t
replied_to t m (Some indexed) = replied t indexed m indexed.slot.state

-- the target did not serve the slot's request: a slot that opens is refused with this status
abbrev pub unserved_state : ℕ → ScannerTable → IndexedSlot → SlotState → Effect
unserved_state status t indexed Idle = nothing t
unserved_state status t indexed (Opening o) = refused t indexed (reason.Encap status)
unserved_state status t indexed (Established c) = nothing t
unserved_state status t indexed (TimedOut link) = nothing t
unserved_state status t indexed (Closing c) = nothing t

abbrev pub unserved : ℕ → ScannerTable → IndexedSlot → Effect
unserved status t indexed = unserved_state status t indexed indexed.slot.state

-- the slot that waits for the reply, if any, is not served, and the session ends
abbrev pub unserved_at : ScannerTable → TargetStream → MessageFields → Option IndexedSlot → Next
unserved_at t stream m None = ignored t
unserved_at t stream m (Some indexed) = done (and_then (unserved m.status t indexed) (session_renewed stream))

-- the message at the slot that waits for it, if any
abbrev pub answered_at : ScannerTable → TargetStream → MessageFields → Option IndexedSlot → Next
answered_at t stream m found = if ends_session t m then unserved_at t stream m found else replied_to t m found

-- A message by the state of the session. The reply to the registration has sender context 0, and the reply to a request has
-- the request's number.
abbrev pub reported : ScannerTable → TargetStream → MessageFields → Stage → Next
reported t stream m Waiting = if m.context == 0 then done (registered t stream m) else ignored t
reported t stream m (Up handle) = answered_at t stream m (find (is_awaiting stream.peer m.context) (indexed_slots t))
reported t stream m Unused = ignored t

-- the message ends the explicit request that waits for it: with the session, if the target does not know it
abbrev pub explicit_ends : ScannerTable → TargetStream → MessageFields → PendingExplicit → Next
explicit_ends t stream m pending = if ends_session t m then done (session_renewed stream t) else explicit_answered t pending (explicit_reply pending.service m)

-- a message ends the explicit request that waits for it, if any; else the session judges it
abbrev pub message_answer : ScannerTable → TargetStream → MessageFields → Option PendingExplicit → Next
message_answer t stream m None = reported t stream m stream.stage
message_answer t stream m (Some pending) = explicit_ends t stream m pending

-- the answer to a frame of an open stream
abbrev pub frame_answer : ScannerTable → TargetStream → Result MessageFields EncapFault → Next
frame_answer t stream (Err fault) = (plain_answer BadFrame, t)
frame_answer t stream (Ok m) = message_answer t stream m (find (awaits stream.number m.context) t.explicit)

-- the frame at the stream that the lookup found, if any
abbrev pub frame_of : ScannerTable → List ℕ → Option TargetStream → Result Next StepFault
frame_of t bytes None = Err NotAllowedNow
frame_of t bytes (Some stream) = Ok (frame_answer t stream (message_reading bytes))

-- the scanner receives a frame over a stream
unfoldable pub frame : ScannerTable → ℕ → List ℕ → Result Next StepFault
frame t number bytes = frame_of t bytes (find (is_stream number) t.streams)
