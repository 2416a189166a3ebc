-- Where nothing has a name, a text stays as it is.
use Rattle.std.proofs.Common.{◌≡◌, ℕ, Bool, true, false, cond, List, [], ◌∷◌, ◌++◌, Option, Some, None, refl, ap, ◌∙◌}
use Rattle.std.specs.Prelude.{bytes_eq, option_and_then}
use Rattle.std.specs.List.{join_with_byte}
use Rattle.std.proofs.lemmas.List.{append-nil}
use Rattle.std.proofs.lemmas.List.Splits.{join_with_byte-slice_split}
use Rattle.trace_words.specs.PointNames.Labels.{expected_after, found_name, label_text, labelled_line, labelled_lines, labelled_text, labels_from, lines_in, name_behind, is_still_first, words_in}
use Rattle.trace_words.specs.PointNames.Lines.{number_in}
use Rattle.trace_words.specs.declared.point_names.labels.Expected.{Expected}
use Rattle.trace_words.specs.declared.point_names.labels.Expected.TheVariants as expected

none_then : {A B : Type 0} (found : Option A) → ◌≡◌ {A = Option B} (option_and_then (λ it. None) found) None
none_then None = refl
none_then (Some it) = refl

none_found : (expects : Expected) (word : List ℕ) → found_name [] [] expects word ≡ None
none_found expected.Point word = none_then (number_in word)
none_found expected.Points word = none_then (number_in word)
none_found expected.Slot word = none_then (number_in word)
none_found expected.Kind word = refl
none_found expected.Text word = refl
none_found expected.Other word = refl

either : {A : Type 0} (test : Bool) (found : Option A) → found ≡ None → cond test None found ≡ None
either true found none = refl
either false found none = none

none_behind : (expects : Expected) (before word : List ℕ) → name_behind [] [] expects before word ≡ None
none_behind expects before word = either (bytes_eq word before) (found_name [] [] expects word) (none_found expects word)

no_labels : (first : Bool) (expects : Expected) (before : List ℕ) (words : List (List ℕ)) → labels_from [] [] first expects before words ≡ []
no_labels first expects before [] = refl
no_labels first expects before (word ∷ words) =
    ap (λ name. label_text first expects word name ++ labels_from [] [] (is_still_first first name) (expected_after expects word) word words) (none_behind expects before word)
    ∙ no_labels first (expected_after expects word) word words

same_line : (line : List ℕ) → labelled_line [] [] line ≡ line
same_line line = ap (λ labels. line ++ labels) (no_labels true expected.Other [] (words_in line)) ∙ append-nil line

more_joined : (line : List ℕ) (lines : List (List ℕ)) → labelled_lines [] [] (line ∷ lines) ≡ join_with_byte 10 (line ∷ lines)
more_joined line [] = append-nil (labelled_line [] [] line) ∙ same_line line
more_joined line (next ∷ lines) = ap (λ l. l ++ 10 ∷ labelled_lines [] [] (next ∷ lines)) (same_line line) ∙ ap (λ more. line ++ 10 ∷ more) (more_joined next lines)

joined : (lines : List (List ℕ)) → labelled_lines [] [] lines ≡ join_with_byte 10 lines
joined [] = refl
joined (line ∷ lines) = more_joined line lines

pub same_text : (text : List ℕ) → labelled_text [] [] text ≡ text
same_text text = joined (lines_in text) ∙ join_with_byte-slice_split 10 text
