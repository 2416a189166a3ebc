-- The lines of an input that arrives in pieces.
use Rattle.std.specs.Prelude.{ℕ, ◌==◌, ◌||◌, nat_lt, if◌then◌else◌, Bool, List, [], length, take, drop, position, Option, Some, None, Result, Ok, Err}
use Rattle.std.specs.IoError.{error_kind}
use Rattle.std.specs.declared.io.Error.{Error}
use Rattle.std.specs.declared.io.ErrorKind.{ErrorKind}
use Rattle.std.specs.declared.io.ErrorKind.TheVariants.{Interrupted}
use Rattle.station_lines.specs.declared.lines.InputRead.{InputRead}
use Rattle.station_lines.specs.declared.lines.InputRead.TheVariants as read
use Rattle.station_lines.specs.declared.lines.NextLine.{NextLine}
use Rattle.station_lines.specs.declared.lines.NextLine.TheVariants as next

abbrev pub is_line_feed : ℕ → Bool
is_line_feed byte = byte == 10

-- a buffer that holds more than 60,000 bytes takes none
abbrev pub is_full : List ℕ → Bool
is_full bytes = nat_lt 60000 (length bytes)

-- what a source of lines has, wherever its bytes lie in memory
pub data LineNow : Type 0 where
  Whole : List ℕ → LineNow
  NotYet : LineNow
  Ended : LineNow

abbrev pub view_next : NextLine → LineNow
view_next (next.Line line) = Whole line.items
view_next next.Nothing = NotYet
view_next next.End = Ended

-- the bytes are a line without an LF: the input has ended, or no more of them fit
abbrev pub is_last : Bool → List ℕ → Bool
is_last ended bytes = ended || is_full bytes

-- what bytes without an LF are, and what of them is left
abbrev pub last_line : Bool → List ℕ → LineNow
last_line ended bytes = if is_last ended bytes then (if length bytes == 0 then Ended else Whole bytes) else NotYet

abbrev pub left_of_all : Bool → List ℕ → List ℕ
left_of_all ended bytes = if is_last ended bytes then [] else bytes

-- the next line, to the first LF, and the bytes behind that LF
abbrev pub next_from : Bool → List ℕ → Option ℕ → LineNow
next_from ended bytes None = last_line ended bytes
next_from ended bytes (Some end) = Whole (take end bytes)

abbrev pub next_of : Bool → List ℕ → LineNow
next_of ended bytes = next_from ended bytes (position is_line_feed bytes)

abbrev pub left_from : Bool → List ℕ → Option ℕ → List ℕ
left_from ended bytes None = left_of_all ended bytes
left_from ended bytes (Some end) = drop 1 (drop end bytes)

abbrev pub left_behind : Bool → List ℕ → List ℕ
left_behind ended bytes = left_from ended bytes (position is_line_feed bytes)

-- a read that a signal interrupts is made again; any other error ends the input
abbrev pub failed_read : ErrorKind → InputRead
failed_read Interrupted = read.Again
failed_read kind = read.End

abbrev pub counted_read : ℕ → InputRead
counted_read count = if count == 0 then read.End else read.Bytes count

abbrev pub input_read : Result ℕ Error → InputRead
input_read (Ok count) = counted_read count
input_read (Err error) = failed_read (error_kind error)
