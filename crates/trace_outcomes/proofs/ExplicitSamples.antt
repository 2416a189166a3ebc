-- The lines of a reply to an explicit request, and of one without a reply, as they are read, and as they are written.
use Rattle.std.proofs.Common.{◌≡◌, List, [], ◌∷◌, ℕ, map, codes, refl, Option, Some, None}
use Rattle.std.specs.Prelude.{option_map}
use Rattle.std.specs.Fmt.{digits}
use Rattle.hex.specs.Hex.{decode_pairs, encode_with}
use Rattle.cip_events.specs.declared.event.Notice.{Notice}
use Rattle.cip_events.specs.declared.event.Notice.TheVariants as notice
use Rattle.cip_events.specs.declared.event.Unanswered.TheVariants.{TimedOut, Lost, Encap, Unreadable}
use Rattle.cip_events.specs.declared.event.Verdict.{Verdict}
use Rattle.cip_events.specs.declared.event.Verdict.TheVariants.{Replied}
use Rattle.trace_words.specs.Words.{words_of, number_of, general_of, bytes_of}
use Rattle.trace_outcomes.specs.declared.part.Part.{Part}
use Rattle.trace_outcomes.specs.declared.part.Part.TheVariants as part
use Rattle.trace_outcomes.specs.Parts.{part_reader, verdict_of}
use Rattle.trace_outcomes.specs.WrittenOutcomes.{verdict_words, notice_words}

abbrev parted : List ℕ → Option Part
parted line = option_map (λ got. got.0) (part_reader (words_of line))

-- ---- replies

-- a reply with the vendor number 1, one without data, and one with general status 1 and the additional status 0106
abbrev replies : List Verdict
replies = Replied 7 0 [] (1 ∷ 0 ∷ []) ∷ Replied 4294967295 0x14 [] [] ∷ Replied 0 1 (6 ∷ 1 ∷ []) [] ∷ []

replies_are_read :
    map parted (codes "replied 7 00 - 0100" ∷ codes "replied 4294967295 14 - -" ∷ codes "replied 0 01 0601 -" ∷ [])
    ≡ map (λ reply. Some (part.Verdict reply)) replies
unfolding verdict_of number_of general_of bytes_of decode_pairs
replies_are_read = refl

-- a number past 32 bits, a status of one digit, of three and of four, no data, an odd number of digits, and a word too many
other_replies_are_bad :
    map parted (
    codes "replied 4294967296 00 - -"
    ∷ codes "replied 7 0 - -"
    ∷ codes "replied 7 000 - -"
    ∷ codes "replied 7 0000 - -"
    ∷ codes "replied 7 00 -"
    ∷ codes "replied 7 00 0 -"
    ∷ codes "replied 7 00 - - -"
    ∷ []
    )
    ≡ None ∷ None ∷ None ∷ None ∷ None ∷ None ∷ None ∷ []
unfolding verdict_of number_of general_of bytes_of decode_pairs
other_replies_are_bad = refl

replies_are_written : map verdict_words replies ≡ codes "replied 7 00 - 0100" ∷ codes "replied 4294967295 14 - -" ∷ codes "replied 0 01 0601 -" ∷ []
unfolding digits encode_with
replies_are_written = refl

-- ---- requests without a reply

abbrev noted : List Notice
noted = notice.Unanswered 7 TimedOut ∷ notice.Unanswered 8 Lost ∷ notice.Unanswered 9 (Encap 100) ∷ notice.Unanswered 10 Unreadable ∷ []

abbrev note_lines : List (List ℕ)
note_lines = codes "unanswered 7 timed-out" ∷ codes "unanswered 8 lost" ∷ codes "unanswered 9 encap 100" ∷ codes "unanswered 10 unreadable" ∷ []

abbrev as_note : List ℕ → Option Part
as_note line = option_map (λ got. got.0) (part_reader (codes "note" ∷ words_of line))

unanswered_are_read : map as_note note_lines ≡ map (λ given. Some (part.Notice given)) noted
unfolding verdict_of number_of
unanswered_are_read = refl

-- no reason, another one, no status, a status past 32 bits, and a word too many
other_unanswered_are_bad :
    map as_note (
    codes "unanswered 7"
    ∷ codes "unanswered 7 timeout"
    ∷ codes "unanswered 7 encap"
    ∷ codes "unanswered 7 encap 4294967296"
    ∷ codes "unanswered 7 lost 0"
    ∷ []
    )
    ≡ None ∷ None ∷ None ∷ None ∷ None ∷ []
unfolding verdict_of number_of
other_unanswered_are_bad = refl

unanswered_are_written : map notice_words noted ≡ note_lines
unfolding digits
unanswered_are_written = refl
