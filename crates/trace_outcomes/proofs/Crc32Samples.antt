-- Samples of the definitions, by hand.
use Rattle.std.proofs.Common.{◌≡◌, ℕ, ◌+◌, ◌/◌, ◌%◌, Bool, true, List, [], ◌∷◌, refl}
use Rattle.std.specs.Prelude.{◌==◌, ◌&&◌, bit_xor, codes, if◌then◌else◌}
use Rattle.trace_outcomes.specs.declared.sums.check_sequence.table.TheConstants.{REMAINDERS}
use Rattle.trace_outcomes.specs.Sums.Crc32.Crc.{crc32}

-- one bit of a division by the polynomial, whose bits are written from the least one on
abbrev crc_bit : ℕ → ℕ
crc_bit value = if value % 2 == 1 then bit_xor (value / 2) 0xEDB8_8320 else value / 2

-- the remainder of a byte
abbrev remainder : ℕ → ℕ
remainder byte = crc_bit (crc_bit (crc_bit (crc_bit (crc_bit (crc_bit (crc_bit (crc_bit byte)))))))

abbrev are_remainders : ℕ → List ℕ → Bool
are_remainders byte [] = true
are_remainders byte (value ∷ values) = (value == remainder byte) && are_remainders (byte + 1) values

-- each number of the table is the remainder of its place
table : are_remainders 0 REMAINDERS ≡ true
table = refl

-- the check value of this CRC, which its descriptions give
check_value : crc32 (codes "123456789") ≡ 0xCBF4_3926
check_value = refl

of_nothing : crc32 [] ≡ 0
of_nothing = refl

-- as zlib has it
of_a_line : crc32 (codes "5 done\n") ≡ 0xD57A_F6B3
of_a_line = refl
