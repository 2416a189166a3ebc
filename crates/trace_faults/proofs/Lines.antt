-- Lines by their first words.
use Rattle.std.proofs.Common.{◌≡◌, refl, List, ◌∷◌, [], Option, Some, None, true, false, Bool, ℕ, Result, Ok, Err, ap, ◌∙◌, sym}
use Rattle.std.specs.Prelude.{is_some, if◌then◌else◌, option_map, IfOk}
use Rattle.cip_types.specs.declared.memory.OutOfMemory.{OutOfMemory}
use Rattle.trace_lines.specs.LineShapes.{shape_of}
use Rattle.trace_lines.specs.Shapes.{Shape, is_shaped}
use Rattle.trace_text.specs.declared.forms.TraceLine.{TraceLine}
use Rattle.trace_text.specs.Forms.{line_of, line_reader, is_ascii}
use Rattle.trace_words.specs.Words.{words_of}
use Rattle.trace_faults.specs.declared.reasons.LineReason.{LineReason}
use Rattle.trace_faults.specs.Reasons.{is_misplaced}
use Rattle.trace_faults.proofs.Ties.{line_tied}

abbrev Words : Type 0
Words = List (List ℕ)

some_first : (read : Option (TraceLine × Words)) → is_some (option_map (λ (got : TraceLine × Words). got.0) read) ≡ is_some read
some_first None = refl
some_first (Some got) = refl

abbrev text_or : Option (List ℕ) → List ℕ
text_or None = []
text_or (Some text) = text

text_is : (ascii : Bool) (line text : List ℕ) → Some text ≡ (if ascii then Some line else None) → is_some (if ascii then option_map (λ (got : TraceLine × Words). got.0) (line_reader (words_of line)) else None) ≡ is_some (line_reader (words_of text))
text_is true line text is = some_first (line_reader (words_of line)) ∙ ap (λ (text : Option (List ℕ)). is_some (line_reader (words_of (text_or text)))) (sym is)
text_is false line text is = absurd (cc)

-- the text of a line is read as the line
text_read : (line text : List ℕ) → Some text ≡ (if is_ascii line then Some line else None) → is_some (line_of line) ≡ is_some (line_reader (words_of text))
unfolding line_of
text_read line text is = text_is (is_ascii line) line text is

-- why the text is bad is why the line is
pub as_line : (found : Result LineReason OutOfMemory) (line text : List ℕ) → Some text ≡ (if is_ascii line then Some line else None) → IfOk found (λ reason. is_misplaced reason ≡ is_some (line_reader (words_of text))) → IfOk found (λ reason. is_misplaced reason ≡ is_some (line_of line))
as_line (Ok reason) line text is said = said ∙ sym (text_read line text is)
as_line (Err fault) line text is said = tt

none_is : (ascii : Bool) (line : List ℕ) (read : Option TraceLine) → None ≡ (if ascii then Some line else None) → is_some (if ascii then read else None) ≡ false
none_is true line read is = absurd (cc)
none_is false line read is = refl

-- what is no text is no line
pub no_text : (line : List ℕ) → None ≡ (if is_ascii line then Some line else None) → is_some (line_of line) ≡ false
unfolding line_of
no_text line is = none_is (is_ascii line) line _ is

shaped_line : (all : Words) (first : List ℕ) (rest : Words) (shape : Shape) → all ≡ first ∷ rest → Some shape ≡ shape_of first → is_some (line_reader all) ≡ is_shaped shape rest
shaped_line all first rest shape parted is = ap (λ words. is_some (line_reader words)) parted ∙ line_tied first rest shape (sym is)

-- why the words behind the first are bad is why all are
pub as_shaped : (found : Result LineReason OutOfMemory) (all : Words) (first : List ℕ) (rest : Words) (shape : Shape) → all ≡ first ∷ rest → Some shape ≡ shape_of first → IfOk found (λ reason. is_misplaced reason ≡ is_shaped shape rest) → IfOk found (λ reason. is_misplaced reason ≡ is_some (line_reader all))
as_shaped (Ok reason) all first rest shape parted is said = said ∙ sym (shaped_line all first rest shape parted is)
as_shaped (Err fault) all first rest shape parted is said = tt
