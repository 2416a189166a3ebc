-- The lines of a text, one after the other.
use Rattle.std.proofs.Common.{Ok, Err, Result, ◌≡◌, ◌≢◌, ℕ, ◌+◌, ◌-◌, ◌<◌, Bool, true, false, cond, ltb, get_or, List, [], ◌∷◌, length, take, drop, Some, None, refl, sym, ap, ◌∙◌, arith}
use Rattle.std.specs.Prelude.{position, Option, IfNone, ok_or}
use Rattle.std.specs.List.{position_or_len}
use Rattle.std.proofs.lemmas.Bool.Decides.{nat_tests}
use Rattle.std.proofs.lemmas.List.{take_all, length-drop, drop-drop}
use Rattle.std.proofs.lemmas.List.Sums.{fails_before_first, position_or_len_is}
use Rattle.memchr.specs.Find.{IsFirstByte, is_byte}
use Rattle.std.proofs.lemmas.List.Elements.{All-from_get_or}
use Rattle.std.proofs.lemmas.List.Splits.{slice_split_first, slice_split_none, length-slice_split}
use Rattle.trace_text.specs.declared.builder.TraceBuilder.{TraceBuilder}
use Rattle.trace_text.specs.declared.forms.TraceLine.{TraceLine}
use Rattle.trace_text.specs.declared.trace.Trace.{Trace}
use Rattle.trace_text.specs.declared.trace.TraceFault.{TraceFault}
use Rattle.trace_text.specs.declared.trace.TraceFault.TheVariants.{BadLine}
use Rattle.trace_text.specs.Reading.{is_line_feed, parts_of, builder_after, builder_with, state_after, parsed, parsed_from, ended, Leaves}
use Rattle.trace_words.specs.declared.words.TextFault.{TextFault}
use Rattle.trace_words.specs.declared.words.TextFault.TheVariants.{Bad, OutOfMemory}
use Rattle.trace_words.specs.Reader.{Finds}

chosen : (b : Bool) (n i : ℕ) → cond b (Some n) None ≡ Some i → (b ≡ true) × (n ≡ i)
chosen true n i e = (refl, cc)
chosen false n i e = absurd (cc)

not_true : (b : Bool) → ¬ (b ≡ true) → b ≡ false
not_true true none = absurd (none refl)
not_true false none = refl

not_within : (n : ℕ) → cond (ltb n n) (Some n) None ≡ None
not_within n = let past : ltb n n ≡ false = grind (arith, nat_tests) in ap (λ b. cond b (Some n) None) past

within_is : (k n : ℕ) → k < n → cond (ltb k n) (Some k) None ≡ Some k
within_is k n below = let within : ltb k n ≡ true = grind (arith, nat_tests) in ap (λ b. cond b (Some k) None) within

-- the first LF is found by a search
pub found_byte : (text : List ℕ) (found : Option ℕ) → IsFirstByte (is_byte 10) text found → found ≡ position is_line_feed text
found_byte text None none =
    let at : position_or_len is_line_feed text ≡ length text = position_or_len_is is_line_feed text (length text) 0 (omega arith) (λ k below. not_true _ (none k (omega arith) below)) (λ below. absurd (omega arith)) in
    sym (ap (λ n. cond (ltb n (length text)) (Some n) None) at ∙ not_within (length text))
found_byte text (Some k) first =
    let at : position_or_len is_line_feed text ≡ k = position_or_len_is is_line_feed text k 0 (omega (arith, first.0.high)) (λ i below. not_true _ (first.0.before i (omega arith) below)) (λ below. first.1) in
    sym (ap (λ n. cond (ltb n (length text)) (Some n) None) at ∙ within_is k (length text) first.0.high)

-- the first LF parts a line from the rest
pub first_line : (text : List ℕ) (i : ℕ) → position is_line_feed text ≡ Some i → parts_of text ≡ take i text ∷ parts_of (drop (i + 1) text)
first_line text i found =
    let at = chosen _ _ _ found in
    let within : position_or_len is_line_feed text < length text = grind (arith, nat_tests, at.0) in
    slice_split_first is_line_feed text 0 within ∙ ap (λ n. take n text ∷ parts_of (drop (n + 1) text)) at.1

-- what stands after the byte at i, cut out by its length
pub after_byte : (text back : List ℕ) (i : ℕ) → back ≡ drop i text → take (length back - 1) (drop 1 back) ≡ drop (i + 1) text
after_byte text back i is = take_all (length back - 1) (drop 1 back) (omega (arith, length-drop 1 back)) ∙ ap (drop 1) is ∙ drop-drop 1 i text

open_end : {X : Type 0} (b : Bool) (n : X) → cond b (Some n) None ≡ None → b ≡ false
open_end true n e = absurd (cc)
open_end false n e = refl

-- where there is no LF, the text is the one part
pub last_line : (text : List ℕ) → position is_line_feed text ≡ None → parts_of text ≡ text ∷ []
last_line text none =
    let past : ltb (position_or_len is_line_feed text) (length text) ≡ false = open_end _ _ none in
    let none_before : (k : ℕ) → k < length text → is_line_feed (get_or text k 0) ≡ false = λ k below. fails_before_first is_line_feed text k 0 (grind (arith, nat_tests, past)) in
    slice_split_none is_line_feed text (All-from_get_or (λ byte. is_line_feed byte ≡ false) text 0 none_before)

pub if_none : {A : Type 0} (r : Option A) (P : Type 0) → P → IfNone r P
if_none None P holds = holds
if_none (Some value) P holds = tt

some_part : (text : List ℕ) → parts_of text ≢ []
some_part text none = absurd (omega (arith, length-slice_split is_line_feed text, ap length none))

abbrev Parts : Type 0
Parts = List (List ℕ)

-- a line that is there is read first
pub line_parsed : (number : ℕ) (state : Result TraceBuilder ℕ) (text rest line : List ℕ) → parts_of text ≡ line ∷ parts_of rest → parsed_from number state (parts_of text) ≡ parsed_from (number + 1) (state_after number state line) (parts_of rest)
line_parsed number state text rest line parted = ap (parsed_from number state) parted ∙ go (parts_of rest) (some_part rest)
  where
    go : (parts : Parts) → parts ≢ [] → parsed_from number state (line ∷ parts) ≡ parsed_from (number + 1) (state_after number state line) parts
    go [] some = absurd (some refl)
    go (next ∷ parts) some = refl

-- what is bad stays so
pub stays_bad : (number bad : ℕ) (parts : Parts) → parsed_from number (Err bad) parts ≡ Err (BadLine bad)
stays_bad number bad [] = refl
stays_bad number bad (last ∷ []) = refl
stays_bad number bad (line ∷ next ∷ parts) = stays_bad (number + 1) bad (next ∷ parts)

-- a line that is refused behind the profile
pub line_refused : (builder before after : TraceBuilder) (line : TraceLine) (fault : TextFault) → builder ≡ before → Leaves (builder_with before line) (Err fault) after → Finds (builder_with builder line) (Err fault)
line_refused builder before after line Bad is refused = ap (λ b. builder_with b line) is ∙ refused
line_refused builder before after line OutOfMemory is refused = tt

-- a line that is good
pub good_line : (said : Result Trace TraceFault) (number : ℕ) (builder builder' : TraceBuilder) (text rest line : List ℕ) → said ≡ parsed_from number (Ok builder) (parts_of text) → parts_of text ≡ line ∷ parts_of rest → builder_after builder line ≡ Some builder' → said ≡ parsed_from (number + 1) (Ok builder') (parts_of rest)
good_line said number builder builder' text rest line so_far parted good = so_far ∙ line_parsed number (Ok builder) text rest line parted ∙ ap (λ d. parsed_from (number + 1) (ok_or d number) (parts_of rest)) good

-- a line that is bad
pub bad_line : (said : Result Trace TraceFault) (number : ℕ) (builder : TraceBuilder) (text rest line : List ℕ) → said ≡ parsed_from number (Ok builder) (parts_of text) → parts_of text ≡ line ∷ parts_of rest → builder_after builder line ≡ None → said ≡ Err (BadLine number)
bad_line said number builder text rest line so_far parted bad = so_far ∙ line_parsed number (Ok builder) text rest line parted ∙ ap (λ d. parsed_from (number + 1) (ok_or d number) (parts_of rest)) bad ∙ stays_bad (number + 1) number (parts_of rest)

ended_open : (number : ℕ) (builder : TraceBuilder) (text : List ℕ) → 0 < length text → ended number (Ok builder) text ≡ Err (BadLine number)
ended_open number builder [] some = absurd (omega arith)
ended_open number builder (byte ∷ text) some = refl

-- what no LF ends is bad
pub open_line : (said : Result Trace TraceFault) (number : ℕ) (builder : TraceBuilder) (text : List ℕ) → said ≡ parsed_from number (Ok builder) (parts_of text) → parts_of text ≡ text ∷ [] → 0 < length text → said ≡ Err (BadLine number)
open_line said number builder text so_far parted some = so_far ∙ ap (parsed_from number (Ok builder)) parted ∙ ended_open number builder text some

empty_is : (text : List ℕ) → length text ≡ 0 → text ≡ []
empty_is [] none = refl
empty_is (byte ∷ text) none = absurd (omega arith)

-- the end of the text
pub text_ends : (said : Result Trace TraceFault) (number : ℕ) (builder : TraceBuilder) (text : List ℕ) → said ≡ parsed_from number (Ok builder) (parts_of text) → parts_of text ≡ text ∷ [] → length text ≡ 0 → said ≡ parsed number builder
text_ends said number builder text so_far parted none = so_far ∙ ap (parsed_from number (Ok builder)) parted ∙ ap (ended number (Ok builder)) (empty_is text none)
