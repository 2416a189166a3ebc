-- The shapes of lines: the kinds of the words behind the words that a line begins with. What a line means, how it is
-- written and why it is bad are made of them.
use Rattle.std.specs.Prelude.{ℕ, Bool, true, false, List, [], ◌∷◌, ◌++◌, option_map, option_and_then, ◌≡◌, Option, Some, None, Result, Ok, Err}
use Rattle.trace_lines.specs.declared.shapes.WordKind.{WordKind}
use Rattle.trace_words.specs.declared.words.TextFault.{TextFault}
use Rattle.trace_words.specs.declared.words.TextFault.TheVariants.{Bad, OutOfMemory}
use Rattle.trace_words.specs.Reader.{Reader, next_word, ◌>>=◌}
use Rattle.trace_lines.specs.Kinds.{ValueOf, value_of, word_of}

-- WHAT IS MADE OF A SHAPE

-- what is made of the values of words of these kinds
abbrev pub Build : List WordKind → Type 0 → Type 0
Build [] A = A
Build (kind ∷ kinds) A = ValueOf kind → Build kinds A

-- words of these kinds are read, and then what is made of their values reads on
abbrev pub shaped : {A : Type 0} (kinds : List WordKind) → Build kinds (Reader A) → Reader A
shaped [] read = read
shaped (kind ∷ kinds) build = next_word (value_of kind) >>= λ value. shaped kinds (build value)

-- the words of values of these kinds, behind those in front
abbrev pub spelled : List (List ℕ) → (kinds : List WordKind) → Build kinds (List (List ℕ))
spelled front [] = front
spelled front (kind ∷ kinds) = λ value. spelled (front ++ word_of kind value ∷ []) kinds

-- WHETHER WORDS HAVE A SHAPE

-- the words behind the first, if that is of this kind
abbrev pub behind_word : WordKind → List (List ℕ) → Option (List (List ℕ))
behind_word kind words = option_map (λ got. got.1) (next_word (value_of kind) words)

-- the words behind those of these kinds; None if one is not of its kind, or missing
abbrev pub behind_kinds : List WordKind → List (List ℕ) → Option (List (List ℕ))
behind_kinds [] words = Some words
behind_kinds (kind ∷ kinds) words = option_and_then (behind_kinds kinds) (behind_word kind words)

-- the kinds of the words of a line, and of those that may follow
abbrev pub Shape : Type 0
Shape = List WordKind × List WordKind

-- no word is left
abbrev pub is_end : Option (List (List ℕ)) → Bool
is_end (Some []) = true
is_end other = false

-- the line ends here, or ends behind words of these kinds
abbrev pub may_go_on : List WordKind → Option (List (List ℕ)) → Bool
may_go_on more None = false
may_go_on more (Some []) = true
may_go_on more (Some (word ∷ words)) = is_end (behind_kinds more (word ∷ words))

-- the words are those of a line of this shape
abbrev pub is_shaped : Shape → List (List ℕ) → Bool
is_shaped shape words = may_go_on shape.1 (behind_kinds shape.0 words)

-- what is answered for a word whose value is dropped
abbrev pub skipped : {A : Type 0} → Result A TextFault → Result Unit TextFault
skipped (Ok value) = Ok tt
skipped (Err fault) = Err fault

-- A function read the word, or refused it. If an allocation was refused, nothing is promised.
abbrev pub Skips : Option (List (List ℕ)) → Result Unit TextFault → List (List ℕ) → Type 0
Skips said (Ok done) rest = said ≡ Some rest
Skips said (Err Bad) rest = said ≡ None
Skips said (Err OutOfMemory) rest = Unit {0}
