-- The line of a profile's description as it is read, and as it is written.
use Rattle.std.proofs.Common.{◌≡◌, List, [], ◌∷◌, ℕ, map, codes, refl, Option, Some, None}
use Rattle.std.specs.Prelude.{option_map}
use Rattle.std.specs.Fmt.{digits}
use Rattle.hex.specs.Hex.{decode_pairs, encode_with}
use Rattle.adapter_table.specs.declared.profile.Description.{Description}
use Rattle.trace_words.specs.Words.{words_of, number_of, bytes_of, line_text}
use Rattle.trace_lines.specs.Profiles.{description_reader}
use Rattle.trace_lines.specs.WrittenProfiles.{description_words}

-- the serial number 305419896, the name "Rack 7", the standard TCP port, 100 Mbit/s with a link and full duplex, a physical
-- address, and two minutes
abbrev rack : Description
rack = record {
  serial = 305419896;
  name = 82 ∷ 97 ∷ 99 ∷ 107 ∷ 32 ∷ 55 ∷ [];
  port = 44818;
  speed = 100;
  flags = 15;
  mac = 2 ∷ 0 ∷ 94 ∷ 16 ∷ 0 ∷ 7 ∷ [];
  inactivity = 120;
}

abbrev nameless : Description
nameless = record rack { name = []; inactivity = 0 }

abbrev described : List ℕ → Option Description
described line = option_map (λ got. got.0) (description_reader (words_of line))

descriptions_are_read :
    map described (
    codes "305419896 5261636b2037 44818 100 15 02005e100007 120"
    ∷ codes "305419896 5261636B2037 44818 100 15 02005E100007 120"
    ∷ codes "305419896 - 44818 100 15 02005e100007 0"
    ∷ []
    )
    ≡ Some rack ∷ Some rack ∷ Some nameless ∷ []
unfolding number_of bytes_of decode_pairs
descriptions_are_read = refl

-- a serial number past 32 bits, a name of an odd number of digits, a TCP port past 16 bits, no time-out, one past 16 bits,
-- and a word too many
other_descriptions_are_bad :
    map described (
    codes "4294967296 - 44818 100 15 02005e100007 120"
    ∷ codes "1 526 44818 100 15 02005e100007 120"
    ∷ codes "1 - 65536 100 15 02005e100007 120"
    ∷ codes "1 - 44818 100 15 02005e100007"
    ∷ codes "1 - 44818 100 15 02005e100007 65536"
    ∷ codes "1 - 44818 100 15 02005e100007 120 0"
    ∷ []
    )
    ≡ None ∷ None ∷ None ∷ None ∷ None ∷ None ∷ []
unfolding number_of bytes_of decode_pairs
other_descriptions_are_bad = refl

descriptions_are_written :
    map (λ value. line_text (description_words value)) (rack ∷ nameless ∷ [])
    ≡ codes "describe 305419896 5261636b2037 44818 100 15 02005e100007 120\n"
    ∷ codes "describe 305419896 - 44818 100 15 02005e100007 0\n"
    ∷ []
unfolding digits encode_with
descriptions_are_written = refl
