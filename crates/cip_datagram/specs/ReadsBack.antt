-- A written value is read back: laws of the definitions alone, which `reads_back` promises
-- (Volume 2, chapter 2, common packet format; Volume 1, chapter 3, real time formats).
use Rattle.std.specs.Prelude.{◌≡◌, ℕ, Bool, List, ◌++◌, Some, Ok}
use Rattle.std.specs.Int.{w32, to_le_bytes}
use Rattle.cip_datagram.specs.Datagram.{DatagramFields, DatagramFits, datagram_text}
use Rattle.cip_datagram.specs.Reading.{datagram_reading}
use Rattle.cip_datagram.specs.Header.{mode_header, header_at}

-- a datagram
abbrev pub DatagramReadsBack : Type 0
DatagramReadsBack = (d : DatagramFields) → DatagramFits d → datagram_reading (datagram_text d) ≡ Ok d

-- the run/idle header of a mode, whatever data follows it
abbrev pub HeaderReadsBack : Type 0
HeaderReadsBack = (run : Bool) (rest : List ℕ) → header_at (to_le_bytes w32 (mode_header run) ++ rest) ≡ Some (run, rest)
