-- The line of a requested reset as it is read, and as it is written.
use Rattle.std.proofs.Common.{◌≡◌, List, [], ◌∷◌, ℕ, map, codes, refl, Option, Some, None}
use Rattle.std.specs.Prelude.{option_map}
use Rattle.std.specs.Fmt.{digits}
use Rattle.cip_events.specs.declared.event.Notice.{Notice}
use Rattle.cip_events.specs.declared.event.Notice.TheVariants.{Reset}
use Rattle.trace_words.specs.Words.{words_of, number_of}
use Rattle.trace_outcomes.specs.Parts.{notice_reader}
use Rattle.trace_outcomes.specs.WrittenOutcomes.{notice_words}

abbrev noted : List ℕ → Option Notice
noted line = option_map (λ got. got.0) (notice_reader (words_of line))

-- a type of 8 bits, and nothing behind it
resets_are_read :
    map noted (codes "reset 0" ∷ codes "reset 1" ∷ codes "reset" ∷ codes "reset 256" ∷ codes "reset 0 0" ∷ [])
    ≡ Some (Reset 0) ∷ Some (Reset 1) ∷ None ∷ None ∷ None ∷ []
unfolding number_of
resets_are_read = refl

resets_are_written : notice_words (Reset 1) ≡ codes "reset 1"
unfolding digits
resets_are_written = refl
