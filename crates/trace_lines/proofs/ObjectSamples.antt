-- The line of a class of the maker's own objects as it is read, and as it is written.
use Rattle.std.proofs.Common.{◌≡◌, List, [], ◌∷◌, ℕ, map, codes, refl, Option, Some, None}
use Rattle.std.specs.Prelude.{option_map}
use Rattle.std.specs.Fmt.{digits}
use Rattle.trace_words.specs.Words.{words_of, number_of}
use Rattle.trace_lines.specs.Profiles.{object_reader}
use Rattle.trace_lines.specs.WrittenProfiles.{objects_text}

abbrev class_of : List ℕ → Option ℕ
class_of line = option_map (λ got. got.0) (object_reader (words_of line))

-- the first class that a maker may use, and the largest number
classes_are_read : map class_of (codes "100" ∷ codes "4294967295" ∷ codes "0" ∷ []) ≡ Some 100 ∷ Some 4294967295 ∷ Some 0 ∷ []
unfolding number_of
classes_are_read = refl

-- nothing, a class past 32 bits, hexadecimal digits, a dash, and two classes
others_are_bad : map class_of (codes "" ∷ codes "4294967296" ∷ codes "0x64" ∷ codes "-" ∷ codes "100 101" ∷ []) ≡ None ∷ None ∷ None ∷ None ∷ None ∷ []
unfolding number_of
others_are_bad = refl

classes_are_written : map objects_text ((100 ∷ 768 ∷ []) ∷ [] ∷ []) ≡ codes "object 100\nobject 768\n" ∷ [] ∷ []
unfolding digits
classes_are_written = refl
