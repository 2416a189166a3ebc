-- Class 3 connections: tests of one, the number of a node's, and the change of one in a list
-- (Volume 1, chapter 3, transport class 3 and connection triads).
use Rattle.std.specs.Prelude.{ℕ, ◌==◌, ◌&&◌, Bool, false, if◌then◌else◌, List, [], ◌∷◌, length, filter, Option, Some, None}
use Rattle.cip_types.specs.declared.names.ConnId.{ConnId}
use Rattle.cip_types.specs.declared.names.Ms.{Ms}
use Rattle.cip_types.specs.declared.names.Node.{Node}
use Rattle.cip_types.specs.declared.names.Triad.{Triad}
use Rattle.messaging.specs.declared.class3.Class3Connection.{Class3Connection}

-- the most class 3 connections of an adapter
abbrev pub most_class3_connections : ℕ
most_class3_connections = 64

-- ---- tests of one

abbrev pub has_class3_triad : Triad → Class3Connection → Bool
has_class3_triad triad d =
    d.triad.serial == triad.serial && (d.triad.vendor == triad.vendor && d.triad.originator == triad.originator)

abbrev pub class3_triad : Class3Connection → Triad
class3_triad d = d.triad

-- the connection has this O->T id
abbrev pub has_class3_id : ConnId → Class3Connection → Bool
has_class3_id id d = d.o_t_id.0 == id.0

-- it lives on this stream
abbrev pub is_on_stream : ℕ → Class3Connection → Bool
is_on_stream stream d = d.stream == stream

-- the connection of a message that came over a stream with this O->T id
abbrev pub is_class3 : ℕ → ConnId → Class3Connection → Bool
is_class3 stream id d = is_on_stream stream d && has_class3_id id d

-- this node opened it
abbrev pub is_class3_of : Node → Class3Connection → Bool
is_class3_of node d = d.peer.0 == node.0

abbrev pub is_count : ℕ → Option ℕ → Bool
is_count count None = false
is_count count (Some last) = last == count

-- the message of this count repeats the last one that was executed
abbrev pub repeats_last : Class3Connection → ℕ → Bool
repeats_last d count = is_count count d.last

-- the connection has this O->T id, and the message of this count was the last to be executed
abbrev pub is_last_message : ConnId → ℕ → Class3Connection → Bool
is_last_message id count d = has_class3_id id d && repeats_last d count

-- ---- lists of them

-- how many a node opened
abbrev pub class3_count : List Class3Connection → Node → ℕ
class3_count class3_connections node = length (filter (is_class3_of node) class3_connections)

-- the first one that passes a test is changed
abbrev pub first_changed : (Class3Connection → Bool) → (Class3Connection → Class3Connection) → List Class3Connection → List Class3Connection
first_changed test change [] = []
first_changed test change (d ∷ class3_connections) =
    if test d then change d ∷ class3_connections else d ∷ first_changed test change class3_connections

-- ---- changes of one

-- a message was executed: its count, its reply, and the next deadline
abbrev pub executed_class3 : ℕ → List ℕ → Ms → Class3Connection → Class3Connection
executed_class3 count reply deadline d = record d { last = Some count; reply = reply; deadline = deadline }

-- the last message was repeated
abbrev pub repeated_class3 : Ms → Class3Connection → Class3Connection
repeated_class3 deadline d = record d { deadline = deadline }

-- the last message was answered
abbrev pub replied_class3 : List ℕ → Class3Connection → Class3Connection
replied_class3 reply d = record d { reply = reply }
