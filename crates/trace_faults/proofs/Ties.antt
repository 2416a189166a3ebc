-- The reader of a line reads the words that have its shape, and no others.
use Rattle.std.proofs.Common.{◌≡◌, refl, List, ◌∷◌, [], Option, Some, None, true, false, Bool, ℕ, ◌∙◌, subst}
use Rattle.std.specs.Prelude.{is_some, if◌then◌else◌, option_map}
use Rattle.trace_lines.specs.declared.shapes.WordKind.{WordKind}
use Rattle.trace_lines.specs.declared.shapes.TheConstants.{ADAPTER, OUTPUT, POINT, DESCRIBE, HEARTBEAT, SCANNER, SLOT, RATE, FROM_NODE, EXPLICIT, ANSWER, COUNTERS, STREAM, FRAME, CUT, WRITE, NUMBER, OPENINGS, SERIALS, IDS, MODE}
use Rattle.cip_events.specs.declared.event.Event.{Event}
use Rattle.adapter_table.specs.declared.profile.Description.{Description}
use Rattle.adapter_table.specs.declared.profile.OutputPoint.{OutputPoint}
use Rattle.adapter_table.specs.declared.profile.InputPoint.{InputPoint}
use Rattle.scanner_table.specs.declared.profile.SlotConfig.{SlotConfig}
use Rattle.trace_lines.specs.declared.forms.AdapterLine.{AdapterLine}
use Rattle.trace_lines.specs.declared.forms.HeartbeatLine.{HeartbeatLine}
use Rattle.trace_lines.specs.declared.forms.ScannerLine.{ScannerLine}
use Rattle.trace_lines.specs.declared.forms.TermLine.{TermLine}
use Rattle.trace_lines.specs.declared.forms.TermLine.TheVariants as term
use Rattle.trace_lines.specs.declared.forms.Rate.{Rate}
use Rattle.trace_lines.specs.declared.limit_lines.LimitLine.{LimitLine}
use Rattle.trace_lines.specs.declared.limit_lines.LimitName.{LimitName}
use Rattle.trace_lines.specs.Profiles.{adapter_reader, output_reader, point_reader, description_reader, object_reader, heartbeat_reader}
use Rattle.trace_lines.specs.Shapes.{Build, shaped, Shape, behind_kinds, is_shaped, may_go_on}
use Rattle.trace_lines.specs.ShapeLemmas.{IsWhole, IsOfShape, of_shape, ends_at, some_mapped, end_only}
use Rattle.trace_lines.specs.LimitLemmas.{row_tied}
use Rattle.trace_lines.specs.LineShapes.{line_shapes, shape_of}
use Rattle.trace_lines.specs.Limits.{limit_named, limit_reader, limit_shape}
use Rattle.trace_lines.specs.Slots.{scanner_reader, openings_reader, serials_reader, slot_reader, stated_rate, rate_reader}
use Rattle.trace_text.specs.declared.forms.TraceLine.{TraceLine}
use Rattle.trace_text.specs.declared.forms.TraceLine.TheVariants as line
use Rattle.trace_text.specs.Forms.{line_reader, line_meanings, of_limit, limit_or_part}
use Rattle.trace_words.specs.Reader.{Reader, Meanings, meaning, ends, mapped}
use Rattle.trace_words.specs.Words.{is_word}

mapped_shape : (A B : Type 0) (of : A → B) (read : Reader A) (shape : Shape) → IsOfShape A read (Some shape) → IsOfShape B (mapped of read) (Some shape)
mapped_shape A B of read shape is words = some_mapped A B of (read words) ∙ is words

-- TABLES

abbrev IsEntry : (A : Type 0) → List ℕ × Reader A → List ℕ × Option Shape → Type 0
IsEntry A entry shape = (entry.0 ≡ shape.0) × IsOfShape A entry.1 shape.1

-- two tables have the same words, each with a reader and its shape
abbrev AreTied : (A : Type 0) → Meanings (Reader A) → Meanings (Option Shape) → Type 0
AreTied A [] [] = Unit {0}
AreTied A [] (shape ∷ shapes) = ⊥
AreTied A (entry ∷ entries) [] = ⊥
AreTied A (entry ∷ entries) (shape ∷ shapes) = IsEntry A entry shape × AreTied A entries shapes

found : (A : Type 0) (is : Bool) (here there : Reader A) (one other : Option Shape) (shape : Shape) → IsOfShape A here one → (other ≡ Some shape → IsOfShape A there (Some shape)) → (if is then one else other) ≡ Some shape → IsOfShape A (if is then here else there) (Some shape)
found A true here there one other shape tied more is = subst (IsOfShape A here) is tied
found A false here there one other shape tied more is = more is

looked_up : (A : Type 0) (entries : Meanings (Reader A)) (shapes : Meanings (Option Shape)) → AreTied A entries shapes → (other : Reader A) (one : Option Shape) (word : List ℕ) (shape : Shape) → (one ≡ Some shape → IsOfShape A other (Some shape)) → meaning shapes one word ≡ Some shape → IsOfShape A (meaning entries other word) (Some shape)
looked_up A [] [] tied other one word shape there is = there is
looked_up A [] (s ∷ shapes) tied other one word shape there is = absurd tied
looked_up A (entry ∷ entries) [] tied other one word shape there is = absurd tied
looked_up A (entry ∷ entries) (s ∷ shapes) tied other one word shape there is =
    subst (λ (key : List ℕ). (if is_word key word then s.1 else meaning shapes one word) ≡ Some shape → IsOfShape A (if is_word entry.0 word then entry.1 else meaning entries other word) (Some shape)) tied.0.0
    (found A (is_word entry.0 word) entry.1 (meaning entries other word) s.1 (meaning shapes one word) shape tied.0.1 (looked_up A entries shapes tied.1 other one word shape there)) is

-- LINES

event_shape : (kinds : List WordKind) (build : Build kinds (Reader Event)) → IsWhole Event [] kinds build → IsOfShape TraceLine (mapped line.Event (shaped {A = Event} kinds build)) (Some (kinds, []))
event_shape kinds build whole = mapped_shape Event TraceLine line.Event (shaped {A = Event} kinds build) (kinds, []) (of_shape Event [] kinds build whole)

adapter_shape : IsOfShape AdapterLine adapter_reader (Some (ADAPTER, []))
adapter_shape = of_shape AdapterLine [] ADAPTER _ (λ _ _ _ _ _ _ _ _. ends_at AdapterLine _)

output_shape : IsOfShape OutputPoint output_reader (Some (OUTPUT, []))
output_shape = of_shape OutputPoint [] OUTPUT _ (λ _ _ _ _. ends_at OutputPoint _)

point_shape : IsOfShape InputPoint point_reader (Some (POINT, []))
point_shape = of_shape InputPoint [] POINT _ (λ _ _. ends_at InputPoint _)

description_shape : IsOfShape Description description_reader (Some (DESCRIBE, []))
description_shape = of_shape Description [] DESCRIBE _ (λ _ _ _ _ _ _ _. ends_at Description _)

object_shape : IsOfShape ℕ object_reader (Some (NUMBER, []))
object_shape = of_shape ℕ [] NUMBER _ (λ _. ends_at ℕ _)

heartbeat_shape : IsOfShape HeartbeatLine heartbeat_reader (Some (HEARTBEAT, []))
heartbeat_shape = of_shape HeartbeatLine [] HEARTBEAT _ (λ _ _. ends_at HeartbeatLine _)

scanner_shape : IsOfShape ScannerLine scanner_reader (Some (SCANNER, []))
scanner_shape = of_shape ScannerLine [] SCANNER _ (λ _ _ _ _ _ _. ends_at ScannerLine _)

tidy_shape : IsOfShape TraceLine (ends (line.Term term.Tidy)) (Some ([], []))
tidy_shape = of_shape TraceLine [] [] (ends (line.Term term.Tidy)) (ends_at TraceLine (line.Term term.Tidy))

openings_shape : IsOfShape TermLine openings_reader (Some (OPENINGS, []))
openings_shape = of_shape TermLine [] OPENINGS _ (λ _. ends_at TermLine _)

serials_shape : IsOfShape TermLine serials_reader (Some (SERIALS, []))
serials_shape = of_shape TermLine [] SERIALS _ (λ _. ends_at TermLine _)

stated_shape : IsOfShape Rate stated_rate (Some (RATE, []))
stated_shape = of_shape Rate [] RATE _ (λ _ _. ends_at Rate _)

rate_goes_on : (words : List (List ℕ)) → is_some (rate_reader words) ≡ may_go_on RATE (Some words)
rate_goes_on [] = refl
rate_goes_on (word ∷ words) = stated_shape (word ∷ words) ∙ end_only (behind_kinds RATE (word ∷ words))

-- the lines of limits
limit_tied : (word : List ℕ) (named : Option LimitName) (shape : Shape) → option_map limit_shape named ≡ Some shape → IsOfShape TraceLine (of_limit word named) (Some shape)
limit_tied word None shape is = absurd (cc)
limit_tied word (Some row) shape is = subst (IsOfShape TraceLine (mapped line.Limit (limit_reader row))) is (mapped_shape LimitLine TraceLine line.Limit (limit_reader row) (limit_shape row) (row_tied row))

slot_shape : IsOfShape SlotConfig slot_reader (Some (SLOT, RATE))
slot_shape = of_shape SlotConfig RATE SLOT _ (λ _ _ _ _ _ _ _ _ _ _ _ _ _. λ words. some_mapped Rate SlotConfig _ (rate_reader words) ∙ rate_goes_on words)

lines_are_tied : AreTied TraceLine line_meanings line_shapes
lines_are_tied = ((refl, mapped_shape _ _ line.Adapter adapter_reader (ADAPTER, []) adapter_shape), ((refl, mapped_shape _ _ line.Output output_reader (OUTPUT, []) output_shape), ((refl, mapped_shape _ _ line.Input point_reader (POINT, []) point_shape), ((refl, mapped_shape _ _ line.Config point_reader (POINT, []) point_shape), ((refl, mapped_shape _ _ line.Description description_reader (DESCRIBE, []) description_shape), ((refl, mapped_shape _ _ line.Object object_reader (NUMBER, []) object_shape), ((refl, mapped_shape _ _ line.Heartbeat heartbeat_reader (HEARTBEAT, []) heartbeat_shape), ((refl, mapped_shape _ _ line.Scanner scanner_reader (SCANNER, []) scanner_shape), ((refl, tidy_shape), ((refl, mapped_shape _ _ line.Term openings_reader (OPENINGS, []) openings_shape), ((refl, mapped_shape _ _ line.Term serials_reader (SERIALS, []) serials_shape), ((refl, event_shape IDS _ (λ _ _. ends_at Event _)), ((refl, mapped_shape _ _ line.Slot slot_reader (SLOT, RATE) slot_shape), ((refl, event_shape FROM_NODE _ (λ _ _. ends_at Event _)), ((refl, event_shape FROM_NODE _ (λ _ _. ends_at Event _)), ((refl, event_shape EXPLICIT _ (λ _ _ _. ends_at Event _)), ((refl, event_shape ANSWER _ (λ _ _ _. ends_at Event _)), ((refl, event_shape COUNTERS _ (λ _. ends_at Event _)), ((refl, event_shape STREAM _ (λ _ _. ends_at Event _)), ((refl, event_shape FRAME _ (λ _ _. ends_at Event _)), ((refl, event_shape CUT _ (λ _. ends_at Event _)), ((refl, event_shape FROM_NODE _ (λ _ _. ends_at Event _)), ((refl, event_shape WRITE _ (λ _ _. ends_at Event _)), ((refl, event_shape NUMBER _ (λ _. ends_at Event _)), ((refl, event_shape NUMBER _ (λ _. ends_at Event _)), ((refl, event_shape MODE _ (λ _. ends_at Event _)), ((refl, event_shape NUMBER _ (λ _. ends_at Event _)), ((refl, event_shape NUMBER _ (λ _. ends_at Event _)), tt))))))))))))))))))))))))))))

-- the words behind a first word are read as those of a line exactly if they have its shape
pub line_tied : (word : List ℕ) (words : List (List ℕ)) (shape : Shape) → shape_of word ≡ Some shape → is_some (line_reader (word ∷ words)) ≡ is_shaped shape words
line_tied word words shape is = looked_up TraceLine line_meanings line_shapes lines_are_tied (limit_or_part word) (option_map limit_shape (limit_named word)) word shape (limit_tied word (limit_named word) shape) is words
