-- Walks over the lines of a text, and over the words of a line.
use Rattle.std.proofs.Common.{◌≡◌, ◌<◌, ◌≤◌, ◌+◌, ◌-◌, ◌*◌, ◌%◌, ◌^◌, ℕ, zero, suc, Bool, true, false, cond, List, [], ◌∷◌, ◌++◌, length, take, drop, get_or, Option, Some, None, option_map, refl, ap, sym, not, arith, nat_lt, append_assoc, append-nil}
use Rattle.std.specs.List.{position, position_or_len}
use Rattle.std.proofs.lemmas.Bool.Decides.{nat_tests}
use Rattle.std.proofs.lemmas.List.Sums.{prefix_len-le-length}
use Rattle.std.proofs.lemmas.List.{drop_more, drop_all}
use Rattle.station_port.specs.Counters.HostLines.{is_line_feed, line_of, behind_line, lines_of, behind_words, behind_word, word_of, decimal_from, decimal_of, digit_value}
use Rattle.station_port.specs.Counters.HostFiles.{longest_from, longer, mask_to, interface_with, has_mask, counts_in, is_of, colon_of, numbers_in}

-- ---- the lines of a text

lines_step : (byte : ℕ) (rest : List ℕ) → (0 < length rest → lines_of rest ≡ line_of rest ∷ lines_of (behind_line rest))
    → lines_of (byte ∷ rest) ≡ line_of (byte ∷ rest) ∷ lines_of (behind_line (byte ∷ rest))
unfolding lines_of
lines_step byte rest known = by_feed (is_line_feed byte) refl where
  joined : (place : ℕ) (xs : List ℕ) → (byte ∷ take place xs) ∷ lines_of (drop (place + 1) xs) ≡ take (1 + place) (byte ∷ xs) ∷ lines_of (drop (1 + place + 1) (byte ∷ xs))
  joined place xs =
      let one : 1 + place ≡ suc place = omega arith in
      let two : suc place + 1 ≡ suc (place + 1) = omega arith in
      rw (one, two) refl

  more : (rest : List ℕ) → (0 < length rest → lines_of rest ≡ line_of rest ∷ lines_of (behind_line rest)) → is_line_feed byte ≡ false
      → lines_of (byte ∷ rest) ≡ line_of (byte ∷ rest) ∷ lines_of (behind_line (byte ∷ rest))
  more [] known is = rw is refl
  more (next ∷ rest) known is = rw is (rw (known (omega arith)) (joined (position_or_len is_line_feed (next ∷ rest)) (next ∷ rest)))

  by_feed : (feed : Bool) → is_line_feed byte ≡ feed → lines_of (byte ∷ rest) ≡ line_of (byte ∷ rest) ∷ lines_of (behind_line (byte ∷ rest))
  by_feed true is = rw is refl
  by_feed false is = more rest known is

-- the first line of a text, and those behind it
pub lines_first : (text : List ℕ) → 0 < length text → lines_of text ≡ line_of text ∷ lines_of (behind_line text)
lines_first [] some = absurd (omega arith)
lines_first (byte ∷ rest) some = lines_step byte rest (λ more. lines_first rest more)

pub no_lines : (text : List ℕ) → length text ≡ 0 → lines_of text ≡ []
unfolding lines_of
no_lines [] none = refl
no_lines (byte ∷ rest) none = absurd (omega arith)

-- ---- places

-- what passes first is at its place, or nothing passes
pub found_at : (p : ℕ → Bool) (xs : List ℕ) (i : ℕ) → Some i ≡ position p xs → i ≡ position_or_len p xs
found_at p xs i is = past (nat_lt (position_or_len p xs) (length xs)) is where
  past : (b : Bool) → Some i ≡ cond b (Some (position_or_len p xs)) None → i ≡ position_or_len p xs
  past true is = cc
  past false is = cc

pub none_at : (p : ℕ → Bool) (xs : List ℕ) → None ≡ position p xs → length xs ≡ position_or_len p xs
none_at p xs is = past (nat_lt (position_or_len p xs) (length xs)) refl is where
  past : (b : Bool) → nat_lt (position_or_len p xs) (length xs) ≡ b → None ≡ cond b (Some (position_or_len p xs)) None → length xs ≡ position_or_len p xs
  past true lt is = cc
  past false lt is = let within : position_or_len p xs ≤ length xs = prefix_len-le-length (λ x. not (p x)) xs in grind (arith, nat_tests, within, lt)

-- ---- words

pub words_next : (count : ℕ) (line : List ℕ) → 0 < count → behind_words count line ≡ behind_words (count - 1) (behind_word line)
unfolding behind_words
words_next zero line some = absurd (omega arith)
words_next (suc count) line some = let one : suc count - 1 ≡ count = omega arith in rw one refl

pub words_over : (count : ℕ) (line : List ℕ) → count ≡ 0 → behind_words count line ≡ line
unfolding behind_words
words_over zero line none = refl
words_over (suc count) line none = absurd (omega arith)

-- ---- numbers

pub decimal_next : (so_far : ℕ) (word : List ℕ) (i : ℕ) (digit : ℕ) → i < length word → digit_value (get_or word i 0) ≡ Some digit
    → decimal_from so_far (drop i word) ≡ decimal_from ((10 * so_far + digit) % 2 ^ 32) (drop (i + 1) word)
unfolding decimal_from
decimal_next so_far word i digit lt is = rw (drop_more word i 0 lt) (rw is refl)

pub no_decimal : (so_far : ℕ) (word : List ℕ) (i : ℕ) → i < length word → digit_value (get_or word i 0) ≡ None → decimal_from so_far (drop i word) ≡ None
unfolding decimal_from
no_decimal so_far word i lt is = rw (drop_more word i 0 lt) (rw is refl)

pub decimal_over : (so_far : ℕ) (word : List ℕ) (i : ℕ) → length word ≤ i → decimal_from so_far (drop i word) ≡ Some so_far
unfolding decimal_from
decimal_over so_far word i le = rw (drop_all i word le) refl

-- ---- routes

pub longest_next : (so_far : Option ℕ) (address : ℕ) (text : List ℕ) → 0 < length text
    → longest_from so_far address (lines_of text) ≡ longest_from (longer so_far (mask_to address (line_of text))) address (lines_of (behind_line text))
unfolding longest_from
longest_next so_far address text some = rw (lines_first text some) refl

pub longest_over : (so_far : Option ℕ) (address : ℕ) (text : List ℕ) → length text ≡ 0 → longest_from so_far address (lines_of text) ≡ so_far
unfolding longest_from
longest_over so_far address text none = rw (no_lines text none) refl

pub interface_found : (address mask : ℕ) (text : List ℕ) → 0 < length text → has_mask (mask_to address (line_of text)) mask ≡ true
    → interface_with address mask (lines_of text) ≡ Some (word_of (line_of text))
unfolding interface_with
interface_found address mask text some is = rw (lines_first text some) (rw is refl)

pub interface_next : (address mask : ℕ) (text : List ℕ) → 0 < length text → has_mask (mask_to address (line_of text)) mask ≡ false
    → interface_with address mask (lines_of text) ≡ interface_with address mask (lines_of (behind_line text))
unfolding interface_with
interface_next address mask text some is = rw (lines_first text some) (rw is refl)

pub no_interface : (address mask : ℕ) (text : List ℕ) → length text ≡ 0 → interface_with address mask (lines_of text) ≡ None
unfolding interface_with
no_interface address mask text none = rw (no_lines text none) refl

-- ---- counts

pub counts_found : (interface text : List ℕ) → 0 < length text → is_of interface (line_of text) ≡ true
    → counts_in interface (lines_of text) ≡ Some (drop (colon_of (line_of text) + 1) (line_of text))
unfolding counts_in
counts_found interface text some is = rw (lines_first text some) (rw is refl)

pub counts_next : (interface text : List ℕ) → 0 < length text → is_of interface (line_of text) ≡ false
    → counts_in interface (lines_of text) ≡ counts_in interface (lines_of (behind_line text))
unfolding counts_in
counts_next interface text some is = rw (lines_first text some) (rw is refl)

pub no_counts : (interface text : List ℕ) → length text ≡ 0 → counts_in interface (lines_of text) ≡ None
unfolding counts_in
no_counts interface text none = rw (no_lines text none) refl

abbrev pub onto : List ℕ → Option (List ℕ) → Option (List ℕ)
onto front more = option_map (λ (behind : List ℕ). front ++ behind) more

pub numbers_next : (front : List ℕ) (count : ℕ) (line : List ℕ) (number : ℕ) → 0 < count → decimal_of (word_of line) ≡ Some number
    → onto front (numbers_in count line) ≡ onto (front ++ number ∷ []) (numbers_in (count - 1) (behind_word line))
unfolding numbers_in
numbers_next front zero line number some is = absurd (omega arith)
numbers_next front (suc count) line number some is = let one : suc count - 1 ≡ count = omega arith in rw (one, is) (joined (numbers_in count (behind_word line))) where
  joined : (more : Option (List ℕ)) → onto front (option_map (λ (behind : List ℕ). number ∷ behind) more) ≡ onto (front ++ number ∷ []) more
  joined None = refl
  joined (Some behind) = ap Some (sym (append_assoc front (number ∷ []) behind))

pub no_numbers : (front : List ℕ) (count : ℕ) (line : List ℕ) → 0 < count → decimal_of (word_of line) ≡ None → onto front (numbers_in count line) ≡ None
unfolding numbers_in
no_numbers front zero line some is = absurd (omega arith)
no_numbers front (suc count) line some is = rw is refl

pub numbers_over : (front : List ℕ) (count : ℕ) (line : List ℕ) → count ≡ 0 → onto front (numbers_in count line) ≡ Some front
unfolding numbers_in
numbers_over front zero line none = ap Some (append-nil front)
numbers_over front (suc count) line none = absurd (omega arith)
