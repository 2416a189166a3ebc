-- The labels of a line word by word, and the lines of a text one after the other.
use Rattle.std.proofs.Common.{◌≡◌, ◌≢◌, ℕ, Bool, List, [], ◌∷◌, ◌++◌, Option, refl, sym, ap, ◌∙◌}
use Rattle.std.proofs.lemmas.List.{append_assoc}
use Rattle.trace_words.specs.PointNames.Labels.{expected_after, is_line_feed, is_still_first, label_text, labelled_line, labelled_lines, labels_from, lines_in, more_lines, name_behind, words_in}
use Rattle.trace_words.specs.declared.point_names.labels.Expected.{Expected}
use Rattle.trace_words.specs.PointNames.Things.{DeviceEntry, PointName}
use Rattle.trace_words.proofs.Parts.{some_part}

-- a word that is not the last one
pub label_more : (names : List PointName) (devices : List DeviceEntry) (first first' : Bool) (expects expects' : Expected) (before word rest after out out' all : List ℕ) (name : Option (List ℕ)) → out ++ labels_from names devices first expects before (words_in rest) ≡ all → words_in rest ≡ word ∷ words_in after → name ≡ name_behind names devices expects before word → out' ≡ out ++ label_text first expects word name → first' ≡ is_still_first first name → expects' ≡ expected_after expects word → out' ++ labels_from names devices first' expects' word (words_in after) ≡ all
label_more names devices first first' expects expects' before word rest after out out' all name so_far parted name_is out_is first_is expects_is =
    let one : out ++ labels_from names devices first expects before (word ∷ words_in after) ≡ all = ap (λ words. out ++ labels_from names devices first expects before words) (sym parted) ∙ so_far in
    rw (out_is, first_is, expects_is, name_is) (append_assoc out (label_text first expects word (name_behind names devices expects before word)) _ ∙ one)

more_are : (names : List PointName) (devices : List DeviceEntry) (lines : List (List ℕ)) → lines ≢ [] → more_lines names devices lines ≡ 10 ∷ labelled_lines names devices lines
more_are names devices [] some = absurd (some refl)
more_are names devices (line ∷ lines) some = refl

-- a line that is not the last one
pub line_more : (names : List PointName) (devices : List DeviceEntry) (line rest after out mid out' all : List ℕ) → out ++ labelled_lines names devices (lines_in rest) ≡ all → lines_in rest ≡ line ∷ lines_in after → mid ≡ out ++ labelled_line names devices line → out' ≡ mid ++ 10 ∷ [] → out' ++ labelled_lines names devices (lines_in after) ≡ all
line_more names devices line rest after out mid out' all so_far parted mid_is out_is =
    let one : out ++ (labelled_line names devices line ++ more_lines names devices (lines_in after)) ≡ all = ap (λ lines. out ++ labelled_lines names devices lines) (sym parted) ∙ so_far in
    let more : more_lines names devices (lines_in after) ≡ 10 ∷ labelled_lines names devices (lines_in after) = more_are names devices (lines_in after) (some_part is_line_feed after) in
    rw (out_is, mid_is) (append_assoc (out ++ labelled_line names devices line) (10 ∷ []) (labelled_lines names devices (lines_in after)) ∙ append_assoc out (labelled_line names devices line) (10 ∷ labelled_lines names devices (lines_in after)) ∙ ap (λ m. out ++ (labelled_line names devices line ++ m)) (sym more) ∙ one)
