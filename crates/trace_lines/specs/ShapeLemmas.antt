-- A reader that is made of the kinds of words reads the words that have their shape, and no others.
use Rattle.std.proofs.Common.{◌≡◌, refl, List, ◌∷◌, [], Option, Some, None, ℕ}
use Rattle.std.specs.Prelude.{is_some, option_map, option_and_then}
use Rattle.trace_lines.specs.declared.shapes.WordKind.{WordKind}
use Rattle.trace_lines.specs.Kinds.{ValueOf, value_of}
use Rattle.trace_lines.specs.Shapes.{Build, shaped, Shape, behind_kinds, is_shaped, is_end, may_go_on}
use Rattle.trace_words.specs.Reader.{Reader, ends, gives, next_word}

-- what is made of any values reads to the end of the line, or on through words of more kinds
abbrev pub IsWhole : (A : Type 0) → List WordKind → (kinds : List WordKind) → Build kinds (Reader A) → Type 0
IsWhole A more [] read = (words : List (List ℕ)) → is_some (read words) ≡ may_go_on more (Some words)
IsWhole A more (kind ∷ kinds) build = (value : ValueOf kind) → IsWhole A more kinds (build value)

-- a reader reads the words of a shape, and no others
abbrev pub IsOfShape : (A : Type 0) → Reader A → Option Shape → Type 0
IsOfShape A read None = Unit {0}
IsOfShape A read (Some shape) = (words : List (List ℕ)) → is_some (read words) ≡ is_shaped shape words

next : (A : Type 0) (more kinds : List WordKind) (kind : WordKind) (build : Build (kind ∷ kinds) (Reader A)) → ((value : ValueOf kind) (words : List (List ℕ)) → is_some (shaped {A = A} kinds (build value) words) ≡ is_shaped (kinds, more) words) → (read : Option (ValueOf kind × List (List ℕ)))
    → is_some (option_and_then (λ (got : ValueOf kind × List (List ℕ)). shaped {A = A} kinds (build got.0) got.1) read) ≡ may_go_on more (option_and_then (behind_kinds kinds) (option_map (λ (got : ValueOf kind × List (List ℕ)). got.1) read))
next A more kinds kind build on None = refl
next A more kinds kind build on (Some got) = on got.0 got.1

pub of_shape : (A : Type 0) (more kinds : List WordKind) (build : Build kinds (Reader A)) → IsWhole A more kinds build → IsOfShape A (shaped {A = A} kinds build) (Some (kinds, more))
of_shape A more [] read whole words = whole words
of_shape A more (kind ∷ kinds) build whole words = next A more kinds kind build (λ value words. of_shape A more kinds (build value) (whole value) words) (next_word (value_of kind) words)

pub ends_at : (A : Type 0) (value : A) (words : List (List ℕ)) → is_some (ends value words) ≡ may_go_on [] (Some words)
ends_at A value [] = refl
ends_at A value (word ∷ words) = refl

pub some_mapped : (A B : Type 0) (of : A → B) (read : Option (A × List (List ℕ))) → is_some (option_and_then (λ (got : A × List (List ℕ)). gives (of got.0) got.1) read) ≡ is_some read
some_mapped A B of None = refl
some_mapped A B of (Some got) = refl

pub end_only : (left : Option (List (List ℕ))) → may_go_on [] left ≡ is_end left
end_only (Some []) = refl
end_only left = refl
