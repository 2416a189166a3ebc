-- What a read of the standard input means for its reader.
use Rattle.std.specs.Prelude.{ℕ, Bool, true, false}
use Rattle.station_lines.specs.declared.lines.InputRead.{InputRead}
use Rattle.station_lines.specs.declared.lines.InputRead.TheVariants as read

-- the input has ended; a read that a signal interrupted is made again
abbrev pub is_end : InputRead → Bool
is_end (read.Bytes count) = false
is_end read.Again = false
is_end read.End = true

-- the bytes that were read
abbrev pub bytes_of : InputRead → ℕ
bytes_of (read.Bytes count) = count
bytes_of read.Again = 0
bytes_of read.End = 0
