-- The line of a request that the device gives its application, as it is read, and as it is written.
use Rattle.std.proofs.Common.{◌≡◌, List, [], ◌∷◌, ℕ, map, codes, refl, Option, Some, None}
use Rattle.std.specs.Prelude.{option_map}
use Rattle.std.specs.Fmt.{digits}
use Rattle.hex.specs.Hex.{decode_pairs, encode_with}
use Rattle.cip_events.specs.declared.event.Verdict.{Verdict}
use Rattle.cip_events.specs.declared.event.Verdict.TheVariants.{Asked}
use Rattle.trace_words.specs.Words.{words_of, number_of, instance_of, bytes_of}
use Rattle.trace_outcomes.specs.declared.part.Part.{Part}
use Rattle.trace_outcomes.specs.declared.part.Part.TheVariants as part
use Rattle.trace_outcomes.specs.Parts.{part_reader, verdict_of}
use Rattle.trace_outcomes.specs.WrittenOutcomes.{verdict_words}

abbrev parted : List ℕ → Option Part
parted line = option_map (λ got. got.0) (part_reader (words_of line))

-- Get_Attribute_Single of class 100, instance 1, attribute 3; a service of the maker's own with two bytes and without
-- an attribute; and the largest numbers
abbrev requests : List Verdict
requests =
    Asked 1 14 100 1 (Some 3) []
    ∷ Asked 2 0x32 768 0 None (0xAB ∷ 0xCD ∷ [])
    ∷ Asked 18446744073709551615 255 65535 4294967295 (Some 4294967295) (0 ∷ [])
    ∷ []

abbrev lines : List (List ℕ)
lines =
    codes "asked 1 14 100 1 3 -"
    ∷ codes "asked 2 50 768 0 - abcd"
    ∷ codes "asked 18446744073709551615 255 65535 4294967295 4294967295 00"
    ∷ []

requests_are_read : map parted lines ≡ map (λ request. Some (part.Verdict request)) requests
unfolding verdict_of number_of instance_of bytes_of decode_pairs
requests_are_read = refl

-- a number past 64 bits, a service past 8, no instance, a dash for an instance, no data, and a word too many
other_requests_are_bad :
    map parted (
    codes "asked 18446744073709551616 14 100 1 3 -"
    ∷ codes "asked 1 256 100 1 3 -"
    ∷ codes "asked 1 14 100 3 -"
    ∷ codes "asked 1 14 100 - 3 -"
    ∷ codes "asked 1 14 100 1 3"
    ∷ codes "asked 1 14 100 1 3 - -"
    ∷ []
    )
    ≡ None ∷ None ∷ None ∷ None ∷ None ∷ None ∷ []
unfolding verdict_of number_of instance_of bytes_of decode_pairs
other_requests_are_bad = refl

requests_are_written : map verdict_words requests ≡ lines
unfolding digits encode_with
requests_are_written = refl
