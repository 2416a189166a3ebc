-- How the outcome of an event is printed: a line for its verdict or fault, and a line each for the frames, the
-- datagrams and the notices of its answer, in this order. A line begins with the event's number, and LF ends it.
use Rattle.std.specs.Prelude.{ℕ, ◌+◌, List, [], ◌∷◌, ◌++◌, codes, decimal, flat_map, Option, Ok, Err}
use Rattle.cip_types.specs.declared.names.Fault.{Fault}
use Rattle.cip_types.specs.declared.names.Mismatch.{Mismatch}
use Rattle.cip_types.specs.declared.names.Mismatch.TheVariants as mismatch
use Rattle.cip_types.specs.declared.names.Triad.{Triad}
use Rattle.cip_events.specs.declared.event.Answer.{Answer}
use Rattle.cip_events.specs.declared.event.Frame.{Frame}
use Rattle.cip_events.specs.declared.event.Recipient.{Recipient}
use Rattle.cip_events.specs.declared.event.Recipient.TheVariants.{Stream, Peer}
use Rattle.cip_events.specs.declared.event.OutgoingDatagram.{OutgoingDatagram}
use Rattle.cip_events.specs.declared.event.Delivery.{Delivery}
use Rattle.cip_events.specs.declared.event.Delivery.TheVariants.{Applied, Idle, Heartbeat, Duplicate, Old, UnknownId, WrongSize, Malformed}
use Rattle.cip_events.specs.declared.event.Verdict.{Verdict}
use Rattle.cip_events.specs.declared.event.Verdict.TheVariants.{Done, BadFrame, Ignored, Value, Delivered, Replied, Asked}
use Rattle.cip_events.specs.declared.event.Notice.{Notice}
use Rattle.cip_events.specs.declared.event.Notice.TheVariants.{Opened, Closed, Expired, Dropped, Replaced, StreamClosed, Slot, Refused, NoIds, Reset, Unanswered as UnansweredNotice}
use Rattle.cip_events.specs.declared.event.Reason.{Reason}
use Rattle.cip_events.specs.declared.event.Reason.TheVariants as reason
use Rattle.cip_events.specs.declared.event.Unanswered.{Unanswered}
use Rattle.cip_events.specs.declared.event.Unanswered.TheVariants as unanswered
use Rattle.cip_events.specs.declared.event.StepFault.{StepFault}
use Rattle.cip_events.specs.declared.event.StepFault.TheVariants.{OutOfMemory, TickTooLong, ClockEnd, NoSuchPoint, WrongLength, NoSuchSlot, NotAllowedNow}
use Rattle.cip_events.specs.Outcomes.{Outcome}
use Rattle.trace_words.specs.Words.{node_word, nodes_word, bytes_word, id_word, general_word, extended_word}
use Rattle.trace_lines.specs.Kinds.{instance_word}

-- WORDS

-- the name of a fault
abbrev pub fault_word : StepFault → List ℕ
fault_word OutOfMemory = codes "OutOfMemory"
fault_word TickTooLong = codes "TickTooLong"
fault_word ClockEnd = codes "ClockEnd"
fault_word NoSuchPoint = codes "NoSuchPoint"
fault_word WrongLength = codes "WrongLength"
fault_word NoSuchSlot = codes "NoSuchSlot"
fault_word NotAllowedNow = codes "NotAllowedNow"

-- the delivery of a datagram
abbrev pub delivery_word : Delivery → List ℕ
delivery_word Applied = codes "applied"
delivery_word Idle = codes "idle"
delivery_word Heartbeat = codes "heartbeat"
delivery_word Duplicate = codes "duplicate"
delivery_word Old = codes "old"
delivery_word UnknownId = codes "unknown"
delivery_word WrongSize = codes "wrong-size"
delivery_word Malformed = codes "malformed"

-- the service code, class, instance and attribute of a request, and its data
abbrev pub object_words : (service class instance : ℕ) → Option ℕ → List ℕ → List ℕ
object_words service class instance attribute bytes = decimal service ++ (codes " " ++ (decimal class ++ (codes " " ++ (decimal instance ++ (codes " " ++ (instance_word attribute ++ (codes " " ++ bytes_word bytes)))))))

-- the verdict of an event
abbrev pub verdict_words : Verdict → List ℕ
verdict_words Done = codes "done"
verdict_words BadFrame = codes "bad-frame"
verdict_words Ignored = codes "ignored"
verdict_words (Value bytes) = codes "value " ++ bytes_word bytes
verdict_words (Delivered delivery) = delivery_word delivery
verdict_words (Replied number status additional bytes) = codes "replied " ++ (decimal number ++ (codes " " ++ (general_word status ++ (codes " " ++ (bytes_word additional ++ (codes " " ++ bytes_word bytes))))))
verdict_words (Asked number service class instance attribute bytes) = codes "asked " ++ (decimal number ++ (codes " " ++ object_words service class instance attribute bytes))

-- a connection's serial number, vendor number and originator serial number
abbrev pub triad_words : Triad → List ℕ
triad_words triad = decimal triad.serial ++ (codes " " ++ (decimal triad.vendor ++ (codes " " ++ decimal triad.originator)))

-- the status of a request that was refused
abbrev pub refusal_words : Fault → List ℕ
refusal_words fault = codes "cip " ++ (general_word fault.general ++ (codes " " ++ extended_word fault.extended))

-- the mismatch of a reply
abbrev pub mismatch_words : Mismatch → List ℕ
mismatch_words mismatch.Triad = codes "mismatch Triad"
mismatch_words mismatch.Id = codes "mismatch Id"
mismatch_words mismatch.Api = codes "mismatch Api"
mismatch_words (mismatch.Refused fault) = refusal_words fault

-- why a reply did not open a slot's connection
abbrev pub reason_words : Reason → List ℕ
reason_words (reason.Encap status) = codes "encap " ++ decimal status
reason_words reason.Unreadable = codes "unreadable"
reason_words (reason.Cip fault) = refusal_words fault
reason_words (reason.Mismatch why) = mismatch_words why

-- why an explicit request has no reply
abbrev pub unanswered_words : Unanswered → List ℕ
unanswered_words unanswered.TimedOut = codes "timed-out"
unanswered_words unanswered.Lost = codes "lost"
unanswered_words (unanswered.Encap status) = codes "encap " ++ decimal status
unanswered_words unanswered.Unreadable = codes "unreadable"

-- LINES

-- the recipient of a frame
abbrev pub recipient_words : Recipient → List ℕ
recipient_words (Stream stream) = codes "frame " ++ decimal stream
recipient_words (Peer node) = codes "reply " ++ node_word node

abbrev pub frame_line : ℕ → Frame → List ℕ
frame_line number frame = decimal number ++ (codes " " ++ (recipient_words frame.to ++ (codes " " ++ (bytes_word frame.bytes ++ codes "\n"))))

abbrev pub outgoing_line : ℕ → OutgoingDatagram → List ℕ
outgoing_line number outgoing = decimal number ++ (codes " send " ++ (node_word outgoing.address ++ (codes " " ++ (nodes_word outgoing.nodes ++ (codes " " ++ (bytes_word outgoing.bytes ++ codes "\n"))))))

abbrev pub notice_words : Notice → List ℕ
notice_words (Opened triad id) = codes "opened " ++ (triad_words triad ++ (codes " " ++ id_word id))
notice_words (Closed triad) = codes "closed " ++ triad_words triad
notice_words (Expired triad) = codes "expired " ++ triad_words triad
notice_words (Dropped triad) = codes "dropped " ++ triad_words triad
notice_words (Replaced triad) = codes "replaced " ++ triad_words triad
notice_words (StreamClosed stream) = codes "stream-closed " ++ decimal stream
notice_words (Slot slot state) = codes "slot " ++ (decimal slot ++ (codes " " ++ decimal state))
notice_words (Refused slot why) = codes "refused " ++ (decimal slot ++ (codes " " ++ reason_words why))
notice_words (NoIds slot) = codes "no-ids " ++ decimal slot
notice_words (Reset type) = codes "reset " ++ decimal type
notice_words (UnansweredNotice number why) = codes "unanswered " ++ (decimal number ++ (codes " " ++ unanswered_words why))

abbrev pub notice_line : ℕ → Notice → List ℕ
notice_line number notice = decimal number ++ (codes " note " ++ (notice_words notice ++ codes "\n"))

-- OUTCOMES

abbrev pub answer_text : ℕ → Answer → List ℕ
answer_text number answer =
    decimal number ++ (codes " " ++ (verdict_words answer.verdict ++ (codes "\n"
    ++ (flat_map (frame_line number) answer.frames
    ++ (flat_map (outgoing_line number) answer.datagrams
    ++ flat_map (notice_line number) answer.notices)))))

abbrev pub fault_line : ℕ → StepFault → List ℕ
fault_line number fault = decimal number ++ (codes " fault " ++ (fault_word fault ++ codes "\n"))

abbrev pub outcome_text : ℕ → Outcome → List ℕ
outcome_text number (Ok answer) = answer_text number answer
outcome_text number (Err fault) = fault_line number fault

-- the outcomes of events, the first of this number
abbrev pub outcomes_text : ℕ → List Outcome → List ℕ
outcomes_text number [] = []
outcomes_text number (outcome ∷ outcomes) = outcome_text number outcome ++ outcomes_text (number + 1) outcomes
