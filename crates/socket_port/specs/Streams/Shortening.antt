-- The bytes of a stream as a scanner's device sees them (Volume 2, chapter 2, encapsulation header). A target may send a message with
-- up to 65,535 bytes of data, and a device takes 2,048. Of a longer one it sees the header, which says to which request it replies,
-- with the length 0; the data are skipped, and the next message follows.
use Rattle.std.specs.Prelude.{ℕ, ◌-◌, nat_eq, nat_le, nat_lt, if◌then◌else◌, List, [], ◌∷◌, ◌++◌, length, take, drop}
use Rattle.std.specs.Int.{w16}
use Rattle.cip_types.specs.Parts.{number_in}

-- where the next byte stands: the bytes of its header that came, and how many bytes of the present data are to come, which are
-- kept or skipped
pub record Shortening : Type 0 where
  pub head : List ℕ
  pub kept : ℕ
  pub skipped : ℕ

-- at the beginning of a stream
abbrev pub begun : Shortening
begun = record { head = []; kept = 0; skipped = 0 }

-- a header whose length is 0
abbrev pub without_length : List ℕ → List ℕ
without_length header = take 2 header ++ (0 ∷ 0 ∷ drop 4 header)

-- a whole header, as the device sees it, and where the next byte stands
abbrev pub header_of : List ℕ → ℕ → List ℕ × Shortening
header_of header len =
    if nat_le len 2048 then (header, record { head = []; kept = len; skipped = 0 })
    else (without_length header, record { head = []; kept = 0; skipped = len })

abbrev pub seen_header : List ℕ → List ℕ × Shortening
seen_header header = header_of header (number_in w16 header 2)

-- a byte of a header: nothing is seen of it until it is whole
abbrev pub head_byte : List ℕ → List ℕ × Shortening
head_byte head = if nat_lt (length head) 24 then ([], record { head = head; kept = 0; skipped = 0 }) else seen_header head

-- what the device sees with the next byte, and where the one behind it stands
abbrev pub seen_byte : Shortening → ℕ → List ℕ × Shortening
seen_byte at byte =
    if nat_eq at.skipped 0
    then (if nat_eq at.kept 0 then head_byte (at.head ++ byte ∷ []) else (byte ∷ [], record at { kept = at.kept - 1 }))
    else ([], record at { skipped = at.skipped - 1 })

-- what the device has seen, with the next byte
abbrev pub and_byte : List ℕ × Shortening → ℕ → List ℕ × Shortening
and_byte seen byte = (seen.0 ++ (seen_byte seen.1 byte).0, (seen_byte seen.1 byte).1)

-- and with the next bytes
abbrev pub and_bytes : List ℕ × Shortening → List ℕ → List ℕ × Shortening
and_bytes seen [] = seen
and_bytes seen (byte ∷ bytes) = and_bytes (and_byte seen byte) bytes

-- what the device sees of the next bytes, and where the one behind them stands
abbrev pub seen_bytes : Shortening → List ℕ → List ℕ × Shortening
seen_bytes at bytes = and_bytes ([], at) bytes
