-- What a line of a profile adds to its names.
use Rattle.std.proofs.Common.{◌≡◌, ℕ, ◌+◌, Bool, true, false, cond, List, ◌∷◌, ◌++◌, Some, refl, sym, ap, ◌∙◌}
use Rattle.std.specs.Cmp.Derive.{both_true}
use Rattle.std.specs.Prelude.{◌&&◌}
use Rattle.std.specs.Str.{is_utf8}
use Rattle.std.proofs.lemmas.List.{append_assoc}
use Rattle.std.proofs.lemmas.Str.{IsUtf8-from_is_utf8, is_utf8-from_IsUtf8}
use Rattle.trace_words.specs.PointNames.Labels.{lines_in}
use Rattle.trace_words.specs.PointNames.Reading.{bad_line, bad_lines, line_taken, name_taken, names_behind, text_taken}
use Rattle.trace_words.specs.PointNames.Texts.{IsNameText, is_plain}
use Rattle.trace_words.specs.PointNames.Things.{PointName, name_of}
use Rattle.trace_words.specs.declared.point_names.line.Named.{Named}
use Rattle.trace_words.specs.declared.point_names.names.BadName.{BadName}
use Rattle.trace_words.specs.declared.point_names.names.NameLineFault.TheVariants as fault

-- THE TEXT OF A NAME

not_both : (a b : Bool) → ¬ ((a ≡ true) × (b ≡ true)) → (a && b) ≡ false
not_both true true none = absurd (none (refl, refl))
not_both true false none = refl
not_both false b none = refl

pub is_text : (names : List PointName) (thing : Named) (text : List ℕ) → IsNameText text → text_taken names thing text ≡ name_taken names thing text (name_of names thing)
is_text names thing text is = ap (λ b. cond b (name_taken names thing text (name_of names thing)) (names, Some fault.Text)) (both_true (is_utf8-from_IsUtf8 text is.0) is.1)

pub is_no_text : (names : List PointName) (thing : Named) (text : List ℕ) → ¬ (IsNameText text) → text_taken names thing text ≡ (names, Some fault.Text)
is_no_text names thing text none = ap (λ b. cond b (name_taken names thing text (name_of names thing)) (names, Some fault.Text)) (not_both (is_utf8 text) (is_plain text) (λ is. none (IsUtf8-from_is_utf8 text is.0, is.1)))

-- LINES

-- a line that is not the last one
pub names_more : (names new all : List PointName) (line rest after : List ℕ) → names_behind names (lines_in rest) ≡ all → lines_in rest ≡ line ∷ lines_in after → new ≡ (line_taken names line).0 → names_behind new (lines_in after) ≡ all
names_more names new all line rest after so_far parted new_is = rw new_is (ap (names_behind names) (sym parted) ∙ so_far)

-- the bad lines so far, with one more
pub bad_more : (number : ℕ) (names new : List PointName) (bad more all : List BadName) (line rest after : List ℕ) → bad ++ bad_lines number names (lines_in rest) ≡ all → lines_in rest ≡ line ∷ lines_in after → new ≡ (line_taken names line).0 → more ≡ bad ++ bad_line number (line_taken names line).1 → more ++ bad_lines (number + 1) new (lines_in after) ≡ all
bad_more number names new bad more all line rest after so_far parted new_is more_is =
    let one : bad ++ bad_lines number names (line ∷ lines_in after) ≡ all = ap (λ lines. bad ++ bad_lines number names lines) (sym parted) ∙ so_far in
    rw (more_is, new_is) (append_assoc bad (bad_line number (line_taken names line).1) _ ∙ one)
