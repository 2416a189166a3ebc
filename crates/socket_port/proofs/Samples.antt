-- What a device sees of worked streams.
use Rattle.std.proofs.Common.{◌≡◌, ℕ, List, [], ◌∷◌, ◌++◌, refl}
use Rattle.socket_port.specs.Streams.Shortening.{begun, seen_bytes}

-- a header of SendRRData with this length, whose sender context is 7
abbrev header : ℕ → ℕ → List ℕ
header low high =
    0x6F ∷ 0x00 ∷ low ∷ high ∷ 0x01 ∷ 0x00 ∷ 0x00 ∷ 0x00 ∷ 0x00 ∷ 0x00 ∷ 0x00 ∷ 0x00
    ∷ 0x07 ∷ 0x00 ∷ 0x00 ∷ 0x00 ∷ 0x00 ∷ 0x00 ∷ 0x00 ∷ 0x00 ∷ 0x00 ∷ 0x00 ∷ 0x00 ∷ 0x00 ∷ []

-- a message of three bytes of data is seen whole
pub a_short_message : seen_bytes begun (header 3 0 ++ 1 ∷ 2 ∷ 3 ∷ []) ≡ (header 3 0 ++ 1 ∷ 2 ∷ 3 ∷ [], begun)
a_short_message = refl

-- of one of 2,049 bytes the header is seen, with the length 0
pub a_long_header : seen_bytes begun (header 1 8) ≡ (header 0 0, record { head = []; kept = 0; skipped = 2049 })
a_long_header = refl

-- one of 2,048 bytes is not too long
pub the_longest_header : seen_bytes begun (header 0 8) ≡ (header 0 8, record { head = []; kept = 2048; skipped = 0 })
the_longest_header = refl

-- the data are skipped, and the next message is seen
pub behind_a_long_one : seen_bytes (record { head = []; kept = 0; skipped = 2 }) (0x6F ∷ 0x00 ∷ header 0 0) ≡ (header 0 0, begun)
behind_a_long_one = refl

-- a header that has not come whole is not seen yet
pub a_part_of_a_header : seen_bytes begun (0x6F ∷ 0x00 ∷ 0x01 ∷ 0x08 ∷ []) ≡ ([], record { head = 0x6F ∷ 0x00 ∷ 0x01 ∷ 0x08 ∷ []; kept = 0; skipped = 0 })
a_part_of_a_header = refl
