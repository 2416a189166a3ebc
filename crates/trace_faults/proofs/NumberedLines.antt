-- The lines of a name in a text, and the word that they begin with.
use Rattle.std.proofs.Common.{rules, ◌≡◌, ◌≢◌, ℕ, ◌==◌, Bool, true, false, List, [], ◌∷◌, length, map, Option, Some, None, refl, sym, ap, subst, ◌∙◌, arith}
use Rattle.std.specs.Prelude.{if◌then◌else◌}
use Rattle.std.specs.Bool.{Decides}
use Rattle.std.specs.Option.{option_eq}
use Rattle.std.proofs.lemmas.Bool.{cond-true}
use Rattle.std.specs.Cmp.Lexicographic.{bytes_decides}
use Rattle.trace_words.specs.Reader.{meaning}
use Rattle.trace_words.specs.Words.{is_word}
use Rattle.trace_lines.specs.declared.limit_lines.LimitName.{LimitName}
use Rattle.trace_lines.specs.declared.limit_lines.LimitName.TheVariants as limit
use Rattle.trace_lines.specs.declared.limit_lines.TheConstants.{LIMITS}
use Rattle.trace_lines.specs.contracts.limit_lines.LimitNamePartialEq.TheImpl as limit_eq
use Rattle.trace_lines.specs.Limits.{keyword, limit_named}
use Rattle.std.proofs.lemmas.List.Splits.{length-slice_split}
use Rattle.trace_text.specs.Reading.{is_line_feed, parts_of}
use Rattle.trace_faults.specs.declared.profile_faults.defects.LineName.{LineName}
use Rattle.trace_faults.specs.ProfileLines.{is_named, number_among}

some_part : (text : List ℕ) → parts_of text ≢ []
some_part text none = absurd (omega (arith, length-slice_split is_line_feed text, ap length none))

-- the first of these lines is the one that is looked for
pub found_first : (number : ℕ) (name : LineName) (before : ℕ) (text rest line : List ℕ) → parts_of text ≡ line ∷ parts_of rest → is_named name line ≡ true → (before == 0) ≡ true → number_among number name before (parts_of text) ≡ Some number
found_first number name before text rest line parted named none = ap (number_among number name before) parted ∙ go (parts_of rest) (some_part rest)
  where
    go : (parts : List (List ℕ)) → parts ≢ [] → number_among number name before (line ∷ parts) ≡ Some number
    go [] some = absurd (some refl)
    go (next ∷ parts) some = cond-true _ _ _ named ∙ cond-true _ _ _ none

abbrev among : List LimitName → List ℕ → Option LimitName
among rows word = meaning (map (λ row. (keyword row, Some row)) rows) None word

some_is : {A : Type 0} {x y : A} → Some x ≡ Some y → x ≡ y
some_is is = cc

-- the limit of a word has the word
first_has : (first row : LimitName) (word : List ℕ) (others : Option LimitName) (is_first : Bool) → is_word (keyword first) word ≡ is_first → (others ≡ Some row → is_word (keyword row) word ≡ true) → (if is_first then Some first else others) ≡ Some row → is_word (keyword row) word ≡ true
first_has first row word others true at behind is = ap (λ r. is_word (keyword r) word) (sym (some_is is)) ∙ at
first_has first row word others false at behind is = behind is

has_word : (rows : List LimitName) (row : LimitName) (word : List ℕ) → among rows word ≡ Some row → is_word (keyword row) word ≡ true
has_word [] row word is = absurd (cc)
has_word (first ∷ rows) row word is = first_has first row word (among rows word) (is_word (keyword first) word) refl (has_word rows row word) is

limit_has_word : (row : LimitName) (word : List ℕ) → limit_named word ≡ Some row → is_word (keyword row) word ≡ true
limit_has_word row word is = has_word LIMITS row word is

by_keyword : (row : LimitName) → limit_named (keyword row) ≡ Some row
by_keyword limit.LeastRpi = refl
by_keyword limit.Places = refl
by_keyword limit.NodeConnections = refl
by_keyword limit.OwnClosers = refl
by_keyword limit.Newer = refl

-- the word of a limit names it
word_names : (row : LimitName) (word : List ℕ) → is_word (keyword row) word ≡ true → limit_named word ≡ Some row
word_names row word at = subst (λ (w : List ℕ). limit_named w ≡ Some row) (sym ((bytes_decides word (keyword row)).0 at)) (by_keyword row)

limits_decide : (a b : Option LimitName) → Decides (option_eq (limit_eq.ghosts).eq a b) (a ≡ b)
limits_decide a b = search rules

same : (a b : Bool) → (a ≡ true → b ≡ true) → (b ≡ true → a ≡ true) → a ≡ b
same true b to back = sym (to refl)
same false true to back = back refl
same false false to back = refl

pub is_its_word : (row : LimitName) (word : List ℕ) → option_eq (limit_eq.ghosts).eq (limit_named word) (Some row) ≡ is_word (keyword row) word
is_its_word row word =
    let decides = limits_decide (limit_named word) (Some row) in
    same _ _ (λ is. limit_has_word row word (decides.0 is)) (λ at. decides.1 (word_names row word at))
