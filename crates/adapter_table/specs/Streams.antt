-- The streams of an adapter's peers, and the sessions that are registered on them (Volume 2, chapter 2,
-- encapsulation sessions over TCP).
use Rattle.std.specs.Prelude.{ℕ, ◌+◌, ◌==◌, ◌&&◌, ◌||◌, not, nat_le, Bool, true, false, if◌then◌else◌, List, [], ◌∷◌, ◌++◌, length, map, filter, find, Option, Some, None, Result, Ok, Err}
use Rattle.std.specs.List.{list_any}
use Rattle.cip_types.specs.declared.names.Node.{Node}
use Rattle.cip_events.specs.declared.event.Notice.{Notice}
use Rattle.cip_events.specs.declared.event.Notice.TheVariants.{Dropped}
use Rattle.cip_events.specs.declared.event.StepFault.{StepFault}
use Rattle.cip_events.specs.declared.event.StepFault.TheVariants.{NotAllowedNow}
use Rattle.cip_events.specs.declared.event.Verdict.TheVariants.{Done}
use Rattle.messaging.specs.declared.class3.Class3Connection.{Class3Connection}
use Rattle.messaging.specs.Changes as messages
use Rattle.adapter_table.specs.declared.table.Stream.{Stream}
use Rattle.adapter_table.specs.declared.table.AdapterTable.{AdapterTable}
use Rattle.adapter_table.specs.Requests.{Next}
use Rattle.cip_events.specs.Answers.{plain_answer}

-- STREAMS

-- the stream has this number
abbrev pub is_stream : ℕ → Stream → Bool
is_stream number stream = stream.number == number

-- it has another one
abbrev pub is_other_stream : ℕ → Stream → Bool
is_other_stream number stream = not (is_stream number stream)

-- how many streams are open at most
abbrev pub most_streams : ℕ
most_streams = 16

-- a stream of this number is open, or as many as can be are
abbrev pub is_taken : List Stream → ℕ → Bool
is_taken streams number = list_any (is_stream number) streams || nat_le most_streams (length streams)

-- a stream of a peer, on which no session is registered
abbrev pub new_stream : ℕ → Node → Stream
new_stream number peer = record { number = number; peer = peer; registered = false }

-- the stream is open, the last one
unfoldable pub with_stream : AdapterTable → ℕ → Node → AdapterTable
with_stream t number peer = record t { streams = t.streams ++ new_stream number peer ∷ [] }

-- The stream is not open any more. Its class 3 connections end with it, and no answer goes over it or them; all other
-- connections stay.
unfoldable pub without_stream : AdapterTable → ℕ → AdapterTable
without_stream t number = record t {
  streams = filter (is_other_stream number) t.streams;
  messaging = messages.without_stream t.messaging number;
}

abbrev pub ended_notice : Class3Connection → Notice
ended_notice d = Dropped d.triad

-- a notice for each class 3 connection of the stream
abbrev pub ended_notices : AdapterTable → ℕ → List Notice
ended_notices t number = map ended_notice (messages.stream_class3_connections t.messaging number)

-- SESSIONS

-- the handle of a stream's session
abbrev pub session_of : Stream → ℕ
session_of stream = stream.number + 1

-- a session is registered on the stream, and this is its handle
abbrev pub has_session : Stream → ℕ → Bool
has_session stream session = stream.registered && session == session_of stream

-- a session is registered on the stream, if it has this number
abbrev pub registered_stream : ℕ → Stream → Stream
registered_stream number stream = if is_stream number stream then record stream { registered = true } else stream

-- a session is registered on the stream of this number
unfoldable pub registered_table : AdapterTable → ℕ → AdapterTable
registered_table t number = record t { streams = map (registered_stream number) t.streams }

-- STREAMS THAT OPEN AND BREAK

-- a peer opens a stream
unfoldable pub stream_opened : AdapterTable → ℕ → Node → Result Next StepFault
stream_opened t number peer = if is_taken t.streams number then Err NotAllowedNow else Ok (plain_answer Done, with_stream t number peer)

-- the same of the stream that is found, if one is
abbrev pub cut_of : AdapterTable → Option Stream → Result Next StepFault
cut_of t None = Err NotAllowedNow
cut_of t (Some stream) = Ok (record (plain_answer Done) { notices = ended_notices t stream.number }, without_stream t stream.number)

-- a stream breaks, or its peer ends it
unfoldable pub stream_cut : AdapterTable → ℕ → Result Next StepFault
stream_cut t number = cut_of t (find (is_stream number) t.streams)
