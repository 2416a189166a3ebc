-- The capture file of a trace that is read piece by piece.
use Rattle.std.specs.Prelude.{ℕ, ◌≡◌, List, [], ◌++◌, option_map, Option, Some, None, Result, Ok, Err}
use Rattle.cip_types.specs.declared.memory.OutOfMemory.{OutOfMemory}
use Rattle.trace_files.specs.declared.trace_reader.TracePiece.{TracePiece}
use Rattle.trace_files.specs.declared.trace_reader.TracePiece.TheVariants as piece
use Rattle.trace_files.specs.Pcap.Packets.{file_header}
use Rattle.trace_files.specs.Pcap.Written.{Captured, begun, captured_with, piece_of, view_capture}
use Rattle.trace_files.specs.declared.pcap.capture_lines.TracePackets.{TracePackets}

-- when the trace begins: 0 if the time is not known
abbrev pub start_of : Option ℕ → ℕ
start_of (Some ms) = ms
start_of None = 0

-- what is known of the capture file, from the configuration on
abbrev pub captured_in : TracePackets → Option Captured
captured_in packets = option_map (λ capture. view_capture capture) packets.capture

-- what a piece of the trace adds, and what is known behind it: the header of the file, or the packets of an event
abbrev pub added : ℕ → Option Captured → TracePiece → List ℕ
added start known (piece.Config made_of) = file_header
added start (Some known) (piece.Entry entry) = piece_of known (entry.event, entry.recorded)
added start None (piece.Entry entry) = []

abbrev pub known_after : ℕ → Option Captured → TracePiece → Option Captured
known_after start known (piece.Config made_of) = Some (begun start made_of)
known_after start (Some known) (piece.Entry entry) = Some (captured_with known (entry.event, entry.recorded))
known_after start None (piece.Entry entry) = None

-- A function took a piece. If an allocation was refused, the capture file is of no use.
abbrev pub TakesPiece : TracePackets → TracePiece → List ℕ → Result Unit OutOfMemory → TracePackets → List ℕ → Type 0
TakesPiece old given before (Err refused) new after = Unit {0}
TakesPiece old given before (Ok done) new after =
    (after ≡ before ++ added (start_of old.start_ms) (captured_in old) given)
    × (captured_in new ≡ known_after (start_of old.start_ms) (captured_in old) given)
