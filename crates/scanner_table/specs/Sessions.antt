-- The streams to a scanner's targets, and the sessions that are registered on them (Volume 2, chapter 2,
-- encapsulation sessions over TCP).
use Rattle.std.specs.Prelude.{ℕ, ◌==◌, ◌||◌, not, nat_le, Bool, if◌then◌else◌, List, [], ◌∷◌, ◌++◌, length, map, filter, find, Option, Some, None, option_and_then}
use Rattle.std.specs.List.{list_any}
use Rattle.cip_types.specs.declared.names.Node.{Node}
use Rattle.scanner_table.specs.declared.table.ScannerTable.{ScannerTable}
use Rattle.scanner_table.specs.declared.table.Session.{Session}
use Rattle.scanner_table.specs.declared.table.Stage.{Stage}
use Rattle.scanner_table.specs.declared.table.Stage.TheVariants.{Waiting, Up, Unused}
use Rattle.scanner_table.specs.declared.table.TargetStream.{TargetStream}

-- STREAMS

-- the stream has this number
abbrev pub is_stream : ℕ → TargetStream → Bool
is_stream number stream = stream.number == number

-- the stream has another number
abbrev pub is_other_stream : ℕ → TargetStream → Bool
is_other_stream number stream = not (is_stream number stream)

-- the stream goes to this target
abbrev pub is_to : Node → TargetStream → Bool
is_to target stream = stream.peer.0 == target.0

-- the number is in use, the target has a stream already, or 16 streams are open
abbrev pub is_taken : List TargetStream → ℕ → Node → Bool
is_taken streams number target = list_any (is_stream number) streams || (list_any (is_to target) streams || nat_le 16 (length streams))

-- the table with one more stream, whose registration waits for its reply
abbrev pub with_stream : ScannerTable → ℕ → Node → ScannerTable
with_stream t number target = record t { streams = t.streams ++ record { number = number; peer = target; stage = Waiting } ∷ [] }

-- the table without the stream of this number
abbrev pub without_stream : ScannerTable → ℕ → ScannerTable
without_stream t number = record t { streams = filter (is_other_stream number) t.streams }

-- the stream, in the new stage if it has this number
abbrev pub staged_stream : ℕ → Stage → TargetStream → TargetStream
staged_stream number stage stream = if is_stream number stream then record stream { stage = stage } else stream

abbrev pub with_stage : ScannerTable → ℕ → Stage → ScannerTable
with_stage t number stage = record t { streams = map (staged_stream number stage) t.streams }

-- SESSIONS

abbrev pub session_at : ℕ → Stage → Option Session
session_at number Waiting = None
session_at number (Up handle) = Some (record { stream = number; handle = handle })
session_at number Unused = None

abbrev pub session_on : TargetStream → Option Session
session_on stream = session_at stream.number stream.stage

-- the session with a target, if one is registered
abbrev pub session_with : ScannerTable → Node → Option Session
session_with t target = option_and_then session_on (find (is_to target) t.streams)
