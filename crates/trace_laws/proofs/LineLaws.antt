-- A line of clean words is read word by word, and the text behind it follows.
use Rattle.std.proofs.Common.{◌≡◌, ◌≢◌, ℕ, ◌+◌, ◌<◌, Bool, true, false, List, [], ◌∷◌, ◌++◌, length, Some, Ok, refl, ap, ◌∙◌, arith, eqb}
use Rattle.std.specs.Prelude.{◌&&◌, nat_lt, ok_or}
use Rattle.std.specs.List.{All, list_all, join_with_byte}
use Rattle.std.proofs.lemmas.Bool.Decides.{nat_tests}
use Rattle.std.proofs.lemmas.List.Elements.{All-append, All-cons, All-nil}
use Rattle.std.proofs.lemmas.List.Splits.{slice_split_at, slice_split_none, length-slice_split}
use Rattle.trace_words.specs.Words.{words_of}
use Rattle.trace_text.specs.declared.forms.TraceLine.{TraceLine}
use Rattle.trace_text.specs.declared.builder.TraceBuilder.{TraceBuilder}
use Rattle.trace_text.specs.Forms.{line_of, line_reader, is_ascii}
use Rattle.trace_text.specs.Reading.{builder_with, builder_after, is_skipped, is_line_feed, parts_of, parsed_from}

-- CLEAN WORDS

-- a byte of a word: of seven bits, above the space
abbrev pub is_plain : ℕ → Bool
is_plain byte = nat_lt 32 byte && nat_lt byte 128

abbrev pub is_clean : List ℕ → Bool
is_clean word = list_all is_plain word

abbrev pub are_clean : List (List ℕ) → Bool
are_clean words = list_all is_clean words

pub both : (a b : Bool) → (a && b) ≡ true → (a ≡ true) × (b ≡ true)
both true b h = (refl, h)
both false b h = absurd (cc)

pub and_both : (a b : Bool) → a ≡ true → b ≡ true → (a && b) ≡ true
and_both a b one two = rw (one, two) refl

pub all_of : {A : Type 0} (test : A → Bool) (xs ys : List A) → list_all test xs ≡ true → list_all test ys ≡ true → list_all test (xs ++ ys) ≡ true
all_of test [] ys one two = two
all_of test (x ∷ xs) ys one two =
    let parts = both (test x) (list_all test xs) one in
    and_both (test x) (list_all test (xs ++ ys)) parts.0 (all_of test xs ys parts.1 two)

other_byte : (c byte : ℕ) → c < 33 → is_plain byte ≡ true → eqb byte c ≡ false
other_byte c byte low plain =
    let parts = both (nat_lt 32 byte) (nat_lt byte 128) plain in
    grind (arith, nat_tests, low, parts.0)

pub without : (c : ℕ) (word : List ℕ) → c < 33 → is_clean word ≡ true → All (λ byte. eqb byte c ≡ false) word
without c [] low clean = All-nil (λ byte. eqb byte c ≡ false)
without c (byte ∷ word) low clean =
    let parts = both (is_plain byte) (is_clean word) clean in
    All-cons (λ byte. eqb byte c ≡ false) byte word (other_byte c byte low parts.0) (without c word low parts.1)

ascii_word : (word : List ℕ) → is_clean word ≡ true → is_ascii word ≡ true
ascii_word [] clean = refl
ascii_word (byte ∷ word) clean =
    let parts = both (is_plain byte) (is_clean word) clean in
    and_both (nat_lt byte 128) (is_ascii word) (both (nat_lt 32 byte) (nat_lt byte 128) parts.0).1 (ascii_word word parts.1)

-- LINES OF CLEAN WORDS

pub words_back : (word : List ℕ) (words : List (List ℕ)) → is_clean word ≡ true → are_clean words ≡ true → words_of (join_with_byte 32 (word ∷ words)) ≡ word ∷ words
words_back word [] clean all = slice_split_none (λ byte. eqb byte 32) word (without 32 word (omega arith) clean)
words_back word (next ∷ words) clean all =
    let parts = both (is_clean next) (are_clean words) all in
    slice_split_at (λ byte. eqb byte 32) word 32 (join_with_byte 32 (next ∷ words)) (without 32 word (omega arith) clean) refl
    ∙ ap (λ rest. word ∷ rest) (words_back next words parts.0 parts.1)

line_ascii : (word : List ℕ) (words : List (List ℕ)) → is_clean word ≡ true → are_clean words ≡ true → is_ascii (join_with_byte 32 (word ∷ words)) ≡ true
line_ascii word [] clean all = ascii_word word clean
line_ascii word (next ∷ words) clean all =
    let parts = both (is_clean next) (are_clean words) all in
    all_of (λ byte. nat_lt byte 128) word (32 ∷ join_with_byte 32 (next ∷ words)) (ascii_word word clean) (line_ascii next words parts.0 parts.1)

line_closed : (word : List ℕ) (words : List (List ℕ)) → is_clean word ≡ true → are_clean words ≡ true → All (λ byte. is_line_feed byte ≡ false) (join_with_byte 32 (word ∷ words))
line_closed word [] clean all = without 10 word (omega arith) clean
line_closed word (next ∷ words) clean all =
    let parts = both (is_clean next) (are_clean words) all in
    All-append (λ byte. is_line_feed byte ≡ false) word (32 ∷ join_with_byte 32 (next ∷ words)) (without 10 word (omega arith) clean) (All-cons (λ byte. is_line_feed byte ≡ false) 32 (join_with_byte 32 (next ∷ words)) refl (line_closed next words parts.0 parts.1))

kept_line : (c : ℕ) (cs : List ℕ) (words : List (List ℕ)) → eqb c 35 ≡ false → is_skipped (join_with_byte 32 ((c ∷ cs) ∷ words)) ≡ false
kept_line c cs [] other = other
kept_line c cs (next ∷ words) other = other

-- a line of clean words is read by its words
pub line_found : (word : List ℕ) (words : List (List ℕ)) (line : TraceLine) → is_clean word ≡ true → are_clean words ≡ true → line_reader (word ∷ words) ≡ Some (line, []) → line_of (join_with_byte 32 (word ∷ words)) ≡ Some line
unfolding line_of
line_found word words line clean all read =
    rw (line_ascii word words clean all, words_back word words clean all, read) refl

pub line_built : (builder builder' : TraceBuilder) (c : ℕ) (cs : List ℕ) (words : List (List ℕ)) (line : TraceLine) → eqb c 35 ≡ false → is_clean (c ∷ cs) ≡ true → are_clean words ≡ true → line_reader ((c ∷ cs) ∷ words) ≡ Some (line, []) → builder_with builder line ≡ Some builder' → builder_after builder (join_with_byte 32 ((c ∷ cs) ∷ words)) ≡ Some builder'
unfolding builder_after
line_built builder builder' c cs words line other clean all read built =
    rw (kept_line c cs words other, line_found (c ∷ cs) words line clean all read) built

-- ONE LINE AFTER THE OTHER

-- the text up to the rest leads from one draft to another
abbrev pub Leads : TraceBuilder → List ℕ → TraceBuilder → List ℕ → Type 0
Leads builder text builder' rest = (number : ℕ) → (next : ℕ) × (parsed_from number (Ok builder) (parts_of text) ≡ parsed_from next (Ok builder') (parts_of rest))

pub stays : (builder : TraceBuilder) (text : List ℕ) → Leads builder text builder text
stays builder text = λ number. (number, refl)

pub goes_on : (one two three : TraceBuilder) (text mid rest : List ℕ) → Leads one text two mid → Leads two mid three rest → Leads one text three rest
goes_on one two three text mid rest first second = λ number. ((second (first number).0).0, (first number).1 ∙ (second (first number).0).1)

some_part : (text : List ℕ) → parts_of text ≢ []
some_part text none = absurd (omega (arith, length-slice_split is_line_feed text, ap length none))

abbrev Parts : Type 0
Parts = List (List ℕ)

part_parsed : (number : ℕ) (builder builder' : TraceBuilder) (line : List ℕ) (parts : Parts) → parts ≢ [] → builder_after builder line ≡ Some builder' → parsed_from number (Ok builder) (line ∷ parts) ≡ parsed_from (number + 1) (Ok builder') parts
part_parsed number builder builder' line [] some built = absurd (some refl)
part_parsed number builder builder' line (next ∷ parts) some built = ap (λ d. parsed_from (number + 1) (ok_or d number) (next ∷ parts)) built

-- a line of clean words, and LF
pub line_leads : (builder builder' : TraceBuilder) (c : ℕ) (cs : List ℕ) (words : List (List ℕ)) (line : TraceLine) (rest : List ℕ) → eqb c 35 ≡ false → is_clean (c ∷ cs) ≡ true → are_clean words ≡ true → line_reader ((c ∷ cs) ∷ words) ≡ Some (line, []) → builder_with builder line ≡ Some builder' → Leads builder (join_with_byte 32 ((c ∷ cs) ∷ words) ++ 10 ∷ rest) builder' rest
line_leads builder builder' c cs words line rest other clean all read built = λ number.
    let parted : parts_of (join_with_byte 32 ((c ∷ cs) ∷ words) ++ 10 ∷ rest) ≡ join_with_byte 32 ((c ∷ cs) ∷ words) ∷ parts_of rest = slice_split_at is_line_feed (join_with_byte 32 ((c ∷ cs) ∷ words)) 10 rest (line_closed (c ∷ cs) words clean all) refl in
    (number + 1, ap (parsed_from number (Ok builder)) parted ∙ part_parsed number builder builder' (join_with_byte 32 ((c ∷ cs) ∷ words)) (parts_of rest) (some_part rest) (line_built builder builder' c cs words line other clean all read built))
