-- Readers of the lines of an outcome, behind the number of its event.
use Rattle.std.specs.Prelude.{ℕ, List, [], ◌∷◌, codes, Option, Some, None}
use Rattle.cip_types.specs.declared.names.Mismatch.{Mismatch}
use Rattle.cip_types.specs.declared.names.Mismatch.TheVariants as mismatch
use Rattle.cip_types.specs.declared.names.Triad.{Triad}
use Rattle.cip_events.specs.declared.event.Frame.{Frame}
use Rattle.cip_events.specs.declared.event.Recipient.{Recipient}
use Rattle.cip_events.specs.declared.event.Recipient.TheVariants as recipient
use Rattle.cip_events.specs.declared.event.OutgoingDatagram.{OutgoingDatagram}
use Rattle.cip_events.specs.declared.event.Delivery.TheVariants as delivery
use Rattle.cip_events.specs.declared.event.Verdict.{Verdict}
use Rattle.cip_events.specs.declared.event.Verdict.TheVariants as verdict
use Rattle.cip_events.specs.declared.event.Notice.{Notice}
use Rattle.cip_events.specs.declared.event.Notice.TheVariants as notice
use Rattle.cip_events.specs.declared.event.Reason.{Reason}
use Rattle.cip_events.specs.declared.event.Reason.TheVariants as reason
use Rattle.cip_events.specs.declared.event.Unanswered.{Unanswered}
use Rattle.cip_events.specs.declared.event.Unanswered.TheVariants as unanswered
use Rattle.cip_events.specs.declared.event.StepFault.{StepFault}
use Rattle.cip_events.specs.declared.event.StepFault.TheVariants as fault
use Rattle.trace_outcomes.specs.declared.part.Part.{Part}
use Rattle.trace_outcomes.specs.declared.part.Part.TheVariants as part
use Rattle.trace_lines.specs.declared.shapes.TheConstants.{FROM_NODE, FRAME, SEND, VALUE, REPLIED, OWN_REQUEST}
use Rattle.trace_words.specs.Words.{number_of, bytes_of, id_of, general_of, extended_of}
use Rattle.trace_words.specs.Reader.{Reader, next_word, gives, ends, refuses, Meanings, meaning, mapped, ◌>>=◌}
use Rattle.trace_lines.specs.Shapes.{shaped}

-- a connection's serial number, vendor number and originator serial number
abbrev pub triad_reader : Reader Triad
triad_reader = do
  serial ← next_word (number_of 16)
  vendor ← next_word (number_of 16)
  originator ← next_word (number_of 32)
  gives (record { serial = serial; vendor = vendor; originator = originator })

-- a triad at the end of the line
abbrev pub last_triad_reader : Reader Triad
last_triad_reader = do
  triad ← triad_reader
  ends triad

-- what happened to the connection of a triad
abbrev pub of_triad : (Triad → Notice) → Reader Notice
of_triad happened = do
  triad ← last_triad_reader
  gives (happened triad)

abbrev pub opened_reader : Reader Notice
opened_reader = do
  triad ← triad_reader
  id ← next_word id_of
  ends (notice.Opened triad id)

abbrev pub stream_closed_reader : Reader Notice
stream_closed_reader = do
  stream ← next_word (number_of 16)
  ends (notice.StreamClosed stream)

-- a slot, and the number of its state
abbrev pub slot_reader : Reader Notice
slot_reader = do
  slot ← next_word (number_of 32)
  state ← next_word (number_of 8)
  ends (notice.Slot slot state)

abbrev pub no_ids_reader : Reader Notice
no_ids_reader = do
  slot ← next_word (number_of 32)
  ends (notice.NoIds slot)

-- the type of a reset that a peer requests
abbrev pub reset_reader : Reader Notice
reset_reader = do
  type ← next_word (number_of 8)
  ends (notice.Reset type)

-- an encapsulation status
abbrev pub encap_reader : Reader Reason
encap_reader = do
  status ← next_word (number_of 32)
  ends (reason.Encap status)

-- a general status and an extended one
abbrev pub cip_reader : Reader Reason
cip_reader = do
  general ← next_word general_of
  extended ← next_word extended_of
  ends (reason.Cip (record { general = general; extended = extended }))

-- the mismatch of a reply, by its name
abbrev pub mismatch_meanings : Meanings (Option Mismatch)
mismatch_meanings =
    (codes "Triad", Some mismatch.Triad)
    ∷ (codes "Id", Some mismatch.Id)
    ∷ (codes "Api", Some mismatch.Api)
    ∷ []

unfoldable pub mismatch_of : List ℕ → Option Mismatch
mismatch_of word = meaning mismatch_meanings None word

abbrev pub mismatch_reader : Reader Reason
mismatch_reader = do
  why ← next_word mismatch_of
  ends (reason.Mismatch why)

abbrev pub unreadable_reader : Reader Reason
unreadable_reader = ends reason.Unreadable

-- the reasons, each by its first word
abbrev pub reason_meanings : Meanings (Reader Reason)
reason_meanings =
    (codes "cip", cip_reader)
    ∷ (codes "encap", encap_reader)
    ∷ (codes "mismatch", mismatch_reader)
    ∷ (codes "unreadable", unreadable_reader)
    ∷ []

abbrev pub reason_reader : Reader Reason
reason_reader = do
  word ← next_word Some
  meaning reason_meanings refuses word

-- a slot, and why a reply did not open its connection
abbrev pub refused_reader : Reader Notice
refused_reader = do
  slot ← next_word (number_of 32)
  why ← reason_reader
  gives (notice.Refused slot why)

abbrev pub unanswered_encap_reader : Reader Unanswered
unanswered_encap_reader = do
  status ← next_word (number_of 32)
  ends (unanswered.Encap status)

-- why an explicit request has no reply, each by its first word
abbrev pub unanswered_meanings : Meanings (Reader Unanswered)
unanswered_meanings =
    (codes "timed-out", ends unanswered.TimedOut)
    ∷ (codes "lost", ends unanswered.Lost)
    ∷ (codes "encap", unanswered_encap_reader)
    ∷ (codes "unreadable", ends unanswered.Unreadable)
    ∷ []

abbrev pub why_unanswered_reader : Reader Unanswered
why_unanswered_reader = do
  word ← next_word Some
  meaning unanswered_meanings refuses word

-- the number of an explicit request, and why it has no reply
abbrev pub unanswered_reader : Reader Notice
unanswered_reader = do
  number ← next_word (number_of 32)
  why ← why_unanswered_reader
  gives (notice.Unanswered number why)

-- the notices, each by its first word
abbrev pub notice_meanings : Meanings (Reader Notice)
notice_meanings =
    (codes "opened", opened_reader)
    ∷ (codes "closed", of_triad notice.Closed)
    ∷ (codes "expired", of_triad notice.Expired)
    ∷ (codes "dropped", of_triad notice.Dropped)
    ∷ (codes "replaced", of_triad notice.Replaced)
    ∷ (codes "stream-closed", stream_closed_reader)
    ∷ (codes "slot", slot_reader)
    ∷ (codes "refused", refused_reader)
    ∷ (codes "no-ids", no_ids_reader)
    ∷ (codes "reset", reset_reader)
    ∷ (codes "unanswered", unanswered_reader)
    ∷ []

abbrev pub notice_reader : Reader Notice
notice_reader = do
  word ← next_word Some
  meaning notice_meanings refuses word

-- bytes to one recipient
abbrev pub bytes_to : Recipient → Reader Frame
bytes_to to = do
  bytes ← next_word bytes_of
  ends (record { to = to; bytes = bytes })

abbrev pub reply_reader : Reader Frame
reply_reader = shaped FROM_NODE (λ node bytes. ends (record { to = recipient.Peer node; bytes = bytes }))

abbrev pub frame_out_reader : Reader Frame
frame_out_reader = shaped FRAME (λ stream bytes. ends (record { to = recipient.Stream stream; bytes = bytes }))

-- the address, the nodes that consume it, and the bytes
abbrev pub outgoing_reader : Reader OutgoingDatagram
outgoing_reader = shaped SEND (λ address nodes bytes. ends (record { address = address; nodes = nodes; bytes = bytes }))

-- the faults by their names
abbrev pub fault_meanings : Meanings (Option StepFault)
fault_meanings =
    (codes "OutOfMemory", Some fault.OutOfMemory)
    ∷ (codes "TickTooLong", Some fault.TickTooLong)
    ∷ (codes "ClockEnd", Some fault.ClockEnd)
    ∷ (codes "NoSuchPoint", Some fault.NoSuchPoint)
    ∷ (codes "WrongLength", Some fault.WrongLength)
    ∷ (codes "NoSuchSlot", Some fault.NoSuchSlot)
    ∷ (codes "NotAllowedNow", Some fault.NotAllowedNow)
    ∷ []

unfoldable pub fault_of : List ℕ → Option StepFault
fault_of word = meaning fault_meanings None word

-- the verdicts without data by their words
abbrev pub verdict_meanings : Meanings (Option Verdict)
verdict_meanings =
    (codes "done", Some verdict.Done)
    ∷ (codes "bad-frame", Some verdict.BadFrame)
    ∷ (codes "ignored", Some verdict.Ignored)
    ∷ (codes "applied", Some (verdict.Delivered delivery.Applied))
    ∷ (codes "idle", Some (verdict.Delivered delivery.Idle))
    ∷ (codes "heartbeat", Some (verdict.Delivered delivery.Heartbeat))
    ∷ (codes "duplicate", Some (verdict.Delivered delivery.Duplicate))
    ∷ (codes "old", Some (verdict.Delivered delivery.Old))
    ∷ (codes "unknown", Some (verdict.Delivered delivery.UnknownId))
    ∷ (codes "wrong-size", Some (verdict.Delivered delivery.WrongSize))
    ∷ (codes "malformed", Some (verdict.Delivered delivery.Malformed))
    ∷ []

unfoldable pub verdict_of : List ℕ → Option Verdict
verdict_of word = meaning verdict_meanings None word

-- the bytes of a point
abbrev pub value_reader : Reader Verdict
value_reader = shaped VALUE (λ bytes. ends (verdict.Value bytes))

-- the reply to an explicit request: its number, the general status, the bytes of the additional status, and the data
abbrev pub replied_reader : Reader Verdict
replied_reader = shaped REPLIED (λ number status additional bytes. ends (verdict.Replied number status additional bytes))

-- a request to an object of the maker's own: its number, the service code, class, instance and attribute, and the data
abbrev pub own_request_reader : Reader Verdict
own_request_reader = shaped OWN_REQUEST (λ number service class instance attribute bytes. ends (verdict.Asked number service class instance attribute bytes))

abbrev pub fault_reader : Reader StepFault
fault_reader = do
  name ← next_word fault_of
  ends name

-- the parts of an outcome that a word begins
abbrev pub part_meanings : Meanings (Reader Part)
part_meanings =
    (codes "value", mapped part.Verdict value_reader)
    ∷ (codes "replied", mapped part.Verdict replied_reader)
    ∷ (codes "asked", mapped part.Verdict own_request_reader)
    ∷ (codes "fault", mapped part.Fault fault_reader)
    ∷ (codes "reply", mapped part.Frame reply_reader)
    ∷ (codes "frame", mapped part.Frame frame_out_reader)
    ∷ (codes "send", mapped part.Datagram outgoing_reader)
    ∷ (codes "note", mapped part.Notice notice_reader)
    ∷ []

-- a verdict without data, alone
abbrev pub plain_part : Option Verdict → Reader Part
plain_part None = refuses
plain_part (Some parsed) = ends (part.Verdict parsed)

abbrev pub part_reader : Reader Part
part_reader = do
  word ← next_word Some
  meaning part_meanings (plain_part (verdict_of word)) word
