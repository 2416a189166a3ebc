-- The bytes of an answer. It is a list of items: its verdict, its frames, its datagrams, each before the nodes that
-- consume it, and its notices, in the answer's order. Each number is little-endian.
--
--   offset  bytes  field
--        0      4  kind of the item
--        4      4  number a
--        8      4  number b
--       12      4  number c
--       16      4  number d
--       20      8  number of data bytes
--       28         data
--
--   kind  item                           a         b        c           d         data
--      1  verdict: done
--      2  verdict: bad frame
--      3  verdict: ignored
--      4  verdict: value                                                          bytes of the point
--      5  verdict: delivered             delivery
--      6  verdict: reply of a target     number    status                         data of the reply
--      7  additional status of it        number                                   bytes of the additional status
--      8  verdict: request to answer     low       high     service               data of the request
--      9  path of it                     class     instance 1 or 0      attribute
--     16  frame over a stream            stream                                   bytes
--     17  reply to a peer                node                                     bytes
--     32  datagram                       address                                  bytes
--     33  consumer of that datagram      node
--     48  connection opened              serial    vendor   originator  O->T id
--     49  connection closed              serial    vendor   originator
--     50  connection expired             serial    vendor   originator
--     51  connection dropped             serial    vendor   originator
--     52  connection replaced            serial    vendor   originator
--     53  stream closed                  stream
--     54  state of a slot                slot      state
--     55  no ids left for a slot         slot
--     56  reset requested                type
--     64  refused: encapsulation         slot      status
--     65  refused: unreadable            slot
--     66  refused: by the target         slot      general  1 or 0      extended
--     67  refused: triad                 slot
--     68  refused: id                    slot
--     69  refused: api                   slot
--     70  refused: mismatch, by target   slot      general  1 or 0      extended
--     72  no reply: timed out            number
--     73  no reply: stream lost          number
--     74  no reply: encapsulation        number    status
--     75  no reply: unreadable           number
--
-- A number without a meaning is 0. A 1 in c says that there is an extended status, or an attribute. The number of a request
-- to answer has 64 bits: the lower 32 are in a, the higher ones in b.
use Rattle.std.specs.Prelude.{ℕ, ◌==◌, ◌%◌, ◌/◌, if◌then◌else◌, List, [], ◌++◌, length, flat_map, Option, Some, None}
use Rattle.std.specs.Int.{w32, w64, to_le_bytes}
use Rattle.cip_types.specs.declared.names.Fault.{Fault}
use Rattle.cip_types.specs.declared.names.Mismatch.{Mismatch}
use Rattle.cip_types.specs.declared.names.Mismatch.TheVariants as mismatch
use Rattle.cip_types.specs.declared.names.Node.{Node}
use Rattle.cip_types.specs.declared.names.Triad.{Triad}
use Rattle.cip_events.specs.declared.event.Answer.{Answer}
use Rattle.cip_events.specs.declared.event.Delivery.{Delivery}
use Rattle.cip_events.specs.declared.event.Delivery.TheVariants.{Applied, Idle, Heartbeat, Duplicate, Old, UnknownId, WrongSize, Malformed}
use Rattle.cip_events.specs.declared.event.Frame.{Frame}
use Rattle.cip_events.specs.declared.event.Notice.{Notice}
use Rattle.cip_events.specs.declared.event.Notice.TheVariants.{Opened, Closed, Expired, Dropped, Replaced, StreamClosed, Slot, Refused, NoIds, Reset, Unanswered as UnansweredNotice}
use Rattle.cip_events.specs.declared.event.OutgoingDatagram.{OutgoingDatagram}
use Rattle.cip_events.specs.declared.event.Reason.{Reason}
use Rattle.cip_events.specs.declared.event.Reason.TheVariants as reason
use Rattle.cip_events.specs.declared.event.Recipient.{Recipient}
use Rattle.cip_events.specs.declared.event.Recipient.TheVariants.{Stream, Peer}
use Rattle.cip_events.specs.declared.event.Unanswered.{Unanswered}
use Rattle.cip_events.specs.declared.event.Unanswered.TheVariants as unanswered
use Rattle.cip_events.specs.declared.event.Verdict.{Verdict}
use Rattle.cip_events.specs.declared.event.Verdict.TheVariants.{Done, BadFrame, Ignored, Value, Delivered, Replied, Asked}
use Rattle.flat_answers.specs.declared.head.ItemHeader.{ItemHeader}

-- ITEMS

-- an item of this kind with these four numbers
abbrev pub head : ℕ → ℕ → ℕ → ℕ → ℕ → ItemHeader
head kind a b c d = record { kind = kind; a = a; b = b; c = c; d = d }

-- the bytes of an item
unfoldable pub item : ItemHeader → List ℕ → List ℕ
item it bytes = to_le_bytes w32 it.kind ++ (to_le_bytes w32 it.a ++ (to_le_bytes w32 it.b ++ (to_le_bytes w32 it.c ++ (to_le_bytes w32 it.d ++ (to_le_bytes w64 (length bytes) ++ bytes)))))

-- VERDICTS

abbrev pub delivery_number : Delivery → ℕ
delivery_number Applied = 0
delivery_number Idle = 1
delivery_number Heartbeat = 2
delivery_number Duplicate = 3
delivery_number Old = 4
delivery_number UnknownId = 5
delivery_number WrongSize = 6
delivery_number Malformed = 7

-- the delivery of a number; each number from 7 on is that of a malformed datagram
abbrev pub delivery_of : ℕ → Delivery
delivery_of n =
    if n == 0 then Applied
    else if n == 1 then Idle
    else if n == 2 then Heartbeat
    else if n == 3 then Duplicate
    else if n == 4 then Old
    else if n == 5 then UnknownId
    else if n == 6 then WrongSize
    else Malformed

-- a reply to an explicit request: its number, the general status and the data; then the additional status
abbrev pub reply_items : ℕ → ℕ → List ℕ → List ℕ → List ℕ
reply_items number status additional content = item (head 6 number status 0 0) content ++ item (head 7 number 0 0 0) additional

-- a request that the application is to answer: its number and service; its data follow
abbrev pub own_request_head : (number service : ℕ) → ItemHeader
own_request_head number service = head 8 (number % 4294967296) (number / 4294967296) service 0

-- the path of such a request
abbrev pub path_head : (class instance : ℕ) → Option ℕ → ItemHeader
path_head class instance None = head 9 class instance 0 0
path_head class instance (Some attribute) = head 9 class instance 1 attribute

-- an item with data, and one without behind it
abbrev pub two_items : ItemHeader → List ℕ → ItemHeader → List ℕ
two_items first content second = item first content ++ item second []

abbrev pub verdict_item : Verdict → List ℕ
verdict_item Done = item (head 1 0 0 0 0) []
verdict_item BadFrame = item (head 2 0 0 0 0) []
verdict_item Ignored = item (head 3 0 0 0 0) []
verdict_item (Value bytes) = item (head 4 0 0 0 0) bytes
verdict_item (Delivered delivery) = item (head 5 (delivery_number delivery) 0 0 0) []
verdict_item (Replied number status additional content) = reply_items number status additional content
verdict_item (Asked number service class instance attribute content) = two_items (own_request_head number service) content (path_head class instance attribute)

-- FRAMES AND DATAGRAMS

abbrev pub recipient_head : Recipient → ItemHeader
recipient_head (Stream stream) = head 16 stream 0 0 0
recipient_head (Peer node) = head 17 node.0 0 0 0

abbrev pub frame_item : Frame → List ℕ
frame_item frame = item (recipient_head frame.to) frame.bytes

abbrev pub consumer_item : Node → List ℕ
consumer_item node = item (head 33 node.0 0 0 0) []

abbrev pub datagram_items : OutgoingDatagram → List ℕ
datagram_items outgoing = item (head 32 outgoing.address.0 0 0 0) outgoing.bytes ++ flat_map consumer_item outgoing.nodes

-- NOTICES

-- the notice of this kind on a connection
abbrev pub triad_head : ℕ → Triad → ItemHeader
triad_head kind triad = head kind triad.serial triad.vendor triad.originator 0

-- the refusal of this kind by a target
abbrev pub fault_head : ℕ → ℕ → Fault → Option ℕ → ItemHeader
fault_head kind slot fault None = head kind slot fault.general 0 0
fault_head kind slot fault (Some extended) = head kind slot fault.general 1 extended

abbrev pub mismatch_head : ℕ → Mismatch → ItemHeader
mismatch_head slot mismatch.Triad = head 67 slot 0 0 0
mismatch_head slot mismatch.Id = head 68 slot 0 0 0
mismatch_head slot mismatch.Api = head 69 slot 0 0 0
mismatch_head slot (mismatch.Refused fault) = fault_head 70 slot fault fault.extended

abbrev pub reason_head : ℕ → Reason → ItemHeader
reason_head slot (reason.Encap status) = head 64 slot status 0 0
reason_head slot reason.Unreadable = head 65 slot 0 0 0
reason_head slot (reason.Cip fault) = fault_head 66 slot fault fault.extended
reason_head slot (reason.Mismatch why) = mismatch_head slot why

abbrev pub unanswered_head : ℕ → Unanswered → ItemHeader
unanswered_head number unanswered.TimedOut = head 72 number 0 0 0
unanswered_head number unanswered.Lost = head 73 number 0 0 0
unanswered_head number (unanswered.Encap status) = head 74 number status 0 0
unanswered_head number unanswered.Unreadable = head 75 number 0 0 0

abbrev pub notice_head : Notice → ItemHeader
notice_head (Opened triad id) = head 48 triad.serial triad.vendor triad.originator id.0
notice_head (Closed triad) = triad_head 49 triad
notice_head (Expired triad) = triad_head 50 triad
notice_head (Dropped triad) = triad_head 51 triad
notice_head (Replaced triad) = triad_head 52 triad
notice_head (StreamClosed stream) = head 53 stream 0 0 0
notice_head (Slot slot state) = head 54 slot state 0 0
notice_head (NoIds slot) = head 55 slot 0 0 0
notice_head (Reset type) = head 56 type 0 0 0
notice_head (Refused slot why) = reason_head slot why
notice_head (UnansweredNotice number why) = unanswered_head number why

abbrev pub notice_item : Notice → List ℕ
notice_item notice = item (notice_head notice) []

-- ANSWERS

unfoldable pub answer_bytes : Answer → List ℕ
answer_bytes answer = verdict_item answer.verdict ++ (flat_map frame_item answer.frames ++ (flat_map datagram_items answer.datagrams ++ flat_map notice_item answer.notices))
