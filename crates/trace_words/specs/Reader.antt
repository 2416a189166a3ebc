-- Readers of the words of a line: the value that they read, and the words behind it; None if they refuse.
use Rattle.std.specs.Prelude.{ℕ, ◌≡◌, if◌then◌else◌, List, [], ◌∷◌, option_map, option_and_then, Option, Some, None, Result, Ok, Err}
use Rattle.std.specs.Borrow.{Bor}
use Rattle.trace_words.specs.declared.words.Words.{Words}
use Rattle.trace_words.specs.declared.words.TextFault.{TextFault}
use Rattle.trace_words.specs.declared.words.TextFault.TheVariants.{Bad, OutOfMemory}
use Rattle.trace_words.specs.Words.{words_of, is_word}

abbrev pub Reader : Type 0 → Type 0
Reader A = List (List ℕ) → Option (A × List (List ℕ))

-- one reader, and the next one behind it
infixl 10 ◌>>=◌
abbrev pub ◌>>=◌ : {A B : Type 0} → Reader A → (A → Reader B) → Reader B
read >>= next = λ words. option_and_then (λ got. next got.0 got.1) (read words)

-- the next word, as it is read
abbrev pub next_word : {A : Type 0} → (List ℕ → Option A) → Reader A
next_word read [] = None
next_word read (word ∷ words) = option_map (λ value. (value, words)) (read word)

-- a value, with nothing read
abbrev pub gives : {A : Type 0} → A → Reader A
gives value words = Some (value, words)

-- a value at the end of the line
abbrev pub ends : {A : Type 0} → A → Reader A
ends value [] = Some (value, [])
ends value (word ∷ words) = None

-- nothing is read so
abbrev pub refuses : {A : Type 0} → Reader A
refuses words = None

-- words, each with its value
abbrev pub Meanings : Type 0 → Type 0
Meanings A = List (List ℕ × A)

-- the value of a word, or the value of all other words
abbrev pub meaning : {A : Type 0} → Meanings A → A → List ℕ → A
meaning [] otherwise word = otherwise
meaning (entry ∷ entries) otherwise word = if is_word entry.0 word then entry.1 else meaning entries otherwise word

-- the value of a reader, mapped to another value
abbrev pub mapped : {A B : Type 0} → (A → B) → Reader A → Reader B
mapped of read = do
  value ← read
  gives (of value)

abbrev pub words_left : Option (Bor (List ℕ)) → List (List ℕ)
words_left None = []
words_left (Some rest) = words_of rest.now

-- the words that are not read yet
abbrev pub unread_words : Words → List (List ℕ)
unread_words words = words_left words.rest

-- A function answered the value of the reading, and left the words behind it. If an allocation was refused, nothing
-- is promised.
abbrev pub Takes : {A : Type 0} → Option (A × List (List ℕ)) → Result A TextFault → List (List ℕ) → Type 0
Takes said (Ok value) rest = said ≡ Some (value, rest)
Takes said (Err Bad) rest = said ≡ None
Takes said (Err OutOfMemory) rest = Unit {0}

-- A function answered the value of the reading. If an allocation was refused, nothing is promised.
abbrev pub Finds : {A : Type 0} → Option A → Result A TextFault → Type 0
Finds said (Ok value) = said ≡ Some value
Finds said (Err Bad) = said ≡ None
Finds said (Err OutOfMemory) = Unit {0}

-- The next word is read, or there is none.
abbrev pub TakesWord : List (List ℕ) → List (List ℕ) → Result (Bor (List ℕ)) TextFault → Type 0
TakesWord old new (Ok word) = old ≡ word.now ∷ new
TakesWord old new (Err fault) = (fault ≡ Bad) × (old ≡ [])
