-- The CRC-32 of bytes, as Ethernet, gzip and PNG have it (IEEE 802.3, 3.2.9): polynomial 0x04C11DB7, bits of a byte from the
-- least one on, all ones before the first byte, and all bits turned at the end.
use Rattle.std.specs.Prelude.{ℕ, ◌/◌, ◌%◌, bit_xor, slice_index, List, [], ◌∷◌}
use Rattle.trace_outcomes.specs.declared.sums.check_sequence.table.TheConstants.{REMAINDERS}

-- the remainder with one byte more
abbrev pub crc_step : ℕ → ℕ → ℕ
crc_step crc byte = bit_xor (slice_index REMAINDERS (bit_xor (crc % 256) byte)) (crc / 256)

-- the remainder with these bytes more
abbrev pub crc_after : ℕ → List ℕ → ℕ
crc_after crc [] = crc
crc_after crc (byte ∷ bytes) = crc_after (crc_step crc byte) bytes

abbrev pub crc32 : List ℕ → ℕ
crc32 bytes = bit_xor (crc_after 0xFFFF_FFFF bytes) 0xFFFF_FFFF
