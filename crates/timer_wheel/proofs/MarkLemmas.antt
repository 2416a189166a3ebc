-- The marks of the slots.
use Rattle.std.proofs.Common.{◌≡◌, ◌≢◌, ℕ, ◌+◌, ◌-◌, ◌*◌, ◌/◌, ◌%◌, ◌^◌, ◌<◌, ◌≤◌, List, length, set, get_or, Some, None, bit_and, bit_or, w64, inl, inr, arith, sym, ap, ◌∙◌, length-set, get_or-set_same, get_or-set_other}
use Rattle.std.proofs.lemmas.Bool.{cases_eq, cases_lt}
use Rattle.std.proofs.lemmas.Option.{same_Some}
use Rattle.std.proofs.lemmas.Nat.{shr-shr, shr_le}
use Rattle.std.proofs.lemmas.Nat.Bits.{bit_at_set_same, bit_at_set_other, bit_at_clear_other, bit_at_above, bit_at-trailing_zeros, bit_at-zero}
use Rattle.std.specs.Int.{bit_at, trailing_zeros}
use Rattle.futures.specs.LinkedLists.{LinkedLists, list_of, list_count, key_limit, Moves, IsEmpty}
use Rattle.timer_wheel.specs.Marks.{mark_of, IsMarked, AllEmpty}

-- what a word of marks is after a slot is marked, and after its mark is taken off
abbrev pub with_mark : List ℕ → ℕ → List ℕ
with_mark marks slot = set marks (slot / 64) (bit_or (get_or marks (slot / 64) 0) (1 * 2 ^ (slot % 64) % 2 ^ 64))

abbrev pub without_mark : List ℕ → ℕ → List ℕ
without_mark marks slot = set marks (slot / 64) (bit_and (get_or marks (slot / 64) 0) (2 ^ 64 - 1 - 1 * 2 ^ (slot % 64) % 2 ^ 64))

mark_of-with_same : (marks : List ℕ) (slot : ℕ) → slot / 64 < length marks → mark_of (with_mark marks slot) slot ≡ 1
mark_of-with_same marks slot within =
    ap (λ n. bit_at n (slot % 64)) (get_or-set_same marks (slot / 64) (bit_or (get_or marks (slot / 64) 0) (1 * 2 ^ (slot % 64) % 2 ^ 64)) 0 within)
    ∙ bit_at_set_same w64 (get_or marks (slot / 64) 0) (slot % 64) (omega arith)

-- one word of the marks is written, in which only the bit of this slot changes
mark_of-written : (marks : List ℕ) (slot other word : ℕ) → slot / 64 < length marks → other ≢ slot → ((i : ℕ) → i < 64 → i ≢ slot % 64 → bit_at word i ≡ bit_at (get_or marks (slot / 64) 0) i) → mark_of (set marks (slot / 64) word) other ≡ mark_of marks other
mark_of-written marks slot other word within differs same =
    elim (cases_eq (other / 64) (slot / 64)) [
      | inl here ↦
          let bit : other % 64 ≢ slot % 64 = λ e. differs (omega arith) in
          ap (λ k. bit_at (get_or (set marks (slot / 64) word) k 0) (other % 64)) here
          ∙ ap (λ n. bit_at n (other % 64)) (get_or-set_same marks (slot / 64) word 0 within)
          ∙ same (other % 64) (omega arith) bit
          ∙ ap (λ k. bit_at (get_or marks k 0) (other % 64)) (sym here)
      | inr apart ↦ ap (λ n. bit_at n (other % 64)) (get_or-set_other marks (slot / 64) (other / 64) word 0 apart)
    ]

mark_of-with_other : (marks : List ℕ) (slot other : ℕ) → slot / 64 < length marks → other ≢ slot → mark_of (with_mark marks slot) other ≡ mark_of marks other
mark_of-with_other marks slot other within differs =
    mark_of-written marks slot other _ within differs (λ i below apart. bit_at_set_other w64 (get_or marks (slot / 64) 0) (slot % 64) (omega arith) i apart)

mark_of-without_other : (marks : List ℕ) (slot other : ℕ) → slot / 64 < length marks → other ≢ slot → mark_of (without_mark marks slot) other ≡ mark_of marks other
mark_of-without_other marks slot other within differs =
    mark_of-written marks slot other _ within differs (λ i below apart. bit_at_clear_other w64 (get_or marks (slot / 64) 0) (slot % 64) (omega arith) i below apart)

-- a key moves to a list, which is marked
pub IsMarked-put : (marks : List ℕ) (s s' s'' : LinkedLists) (key list : ℕ) → list ≤ 768 → IsMarked marks s → Moves s s' key None → Moves s' s'' key (Some list) → IsMarked (with_mark marks list) s''
IsMarked-put marks s s' s'' key list below is out into =
    let within : list / 64 < length marks = omega (arith, is.size) in
    record {
      lists = into.count ∙ out.count ∙ is.lists;
      size = length-set marks (list / 64) _ ∙ is.size;
      marked = λ slot other slot_in there.
          elim (cases_eq slot list) [
            | inl same ↦ ap (mark_of (with_mark marks list)) same ∙ mark_of-with_same marks list within
            | inr differs ↦
                let stays : other ≢ key = λ e. differs (same_Some slot list (sym there ∙ ap (list_of s'') e ∙ into.moved)) in
                mark_of-with_other marks list slot within differs
                ∙ is.marked slot other slot_in (sym (into.others other stays ∙ out.others other stays) ∙ there)
          ];
    }

-- the mark of an empty slot is taken off
pub IsMarked-unmark : (marks : List ℕ) (s : LinkedLists) (slot : ℕ) → slot < 768 → IsEmpty s slot → IsMarked marks s → IsMarked (without_mark marks slot) s
IsMarked-unmark marks s slot below empty is =
    record {
      lists = is.lists;
      size = length-set marks (slot / 64) _ ∙ is.size;
      marked = λ other key other_in there.
          let differs : other ≢ slot = λ e. empty key (there ∙ ap Some e) in
          mark_of-without_other marks slot other (omega (arith, is.size)) differs ∙ is.marked other key other_in there;
    }

-- no slot from the first up to the second is marked
pub record NoMarks (marks : List ℕ) (from to : ℕ) : Type 0 where
  pub unmarked : (slot : ℕ) → from ≤ slot → slot < to → mark_of marks slot ≡ 0

pub NoMarks-join : (marks : List ℕ) (from mid to : ℕ) → NoMarks marks from mid → NoMarks marks mid to → NoMarks marks from to
NoMarks-join marks from mid to first second =
    record {
      unmarked = λ slot above below.
          elim (cases_lt slot mid) [
            | inl early ↦ first.unmarked slot above early
            | inr late ↦ second.unmarked slot late below
          ];
    }

pub NoMarks-less : (marks : List ℕ) (from to less : ℕ) → less ≤ to → NoMarks marks from to → NoMarks marks from less
NoMarks-less marks from to less order all = record { unmarked = λ slot above below. all.unmarked slot above (omega arith) }

-- slots with no mark are empty
pub AllEmpty-unmarked : (marks : List ℕ) (s : LinkedLists) (from to : ℕ) → to ≤ 768 → IsMarked marks s → NoMarks marks from to → AllEmpty s from to
AllEmpty-unmarked marks s from to below is none slot above under key there =
    let wrong : 1 ≡ 0 = sym (is.marked slot key (omega arith) there) ∙ none.unmarked slot above under in
    absurd (omega (arith, wrong))

-- the bits of a number that is shifted
bit_at-shr : (n k j : ℕ) → bit_at (n / 2 ^ k) j ≡ bit_at n (k + j)
bit_at-shr n k j = ap (λ m. m % 2) (shr-shr n k j)

-- the mark of a slot, in the word of an earlier one that is shifted to begin there
mark_of-shifted : (marks : List ℕ) (at slot : ℕ) → at ≤ slot → slot / 64 ≡ at / 64 → mark_of marks slot ≡ bit_at (get_or marks (at / 64) 0 / 2 ^ (at % 64)) (slot - at)
mark_of-shifted marks at slot order same =
    let place : slot % 64 ≡ at % 64 + (slot - at) = omega arith in
    ap (λ k. bit_at (get_or marks k 0) (slot % 64)) same
    ∙ ap (bit_at (get_or marks (at / 64) 0)) place
    ∙ sym (bit_at-shr (get_or marks (at / 64) 0) (at % 64) (slot - at))

-- the rest of a word has no mark
pub NoMarks-word : (marks : List ℕ) (at : ℕ) → get_or marks (at / 64) 0 / 2 ^ (at % 64) ≡ 0 → NoMarks marks at ((at / 64 + 1) * 64)
NoMarks-word marks at zero_rest =
    record {
      unmarked = λ slot above below.
          mark_of-shifted marks at slot above (omega arith)
          ∙ ap (λ n. bit_at n (slot - at)) zero_rest
          ∙ bit_at-zero (slot - at);
    }

-- up to the first mark of a word there is none
pub NoMarks-found : (marks : List ℕ) (at : ℕ) → get_or marks (at / 64) 0 < 2 ^ 64 → 0 < get_or marks (at / 64) 0 / 2 ^ (at % 64) → NoMarks marks at (at + trailing_zeros w64 (get_or marks (at / 64) 0 / 2 ^ (at % 64)))
NoMarks-found marks at fits some =
    let word : ℕ = get_or marks (at / 64) 0 in
    let rest : ℕ = word / 2 ^ (at % 64) in
    let small : rest < 2 ^ 64 = omega (arith, shr_le word (at % 64)) in
    let first = bit_at-trailing_zeros w64 rest some small in
    let place : ℕ = trailing_zeros w64 rest in
    let inside : at % 64 + place < 64 =
    elim (cases_lt (at % 64 + place) 64) [
      | inl below ↦ below
      | inr past ↦
          let wrong : 1 ≡ 0 = sym first.1 ∙ bit_at-shr word (at % 64) place ∙ bit_at_above word 64 (at % 64 + place) fits past in
          absurd (omega (arith, wrong))
    ] in
    record {
      unmarked = λ slot above below.
          mark_of-shifted marks at slot above (omega arith) ∙ first.2 (slot - at) (omega arith);
    }

-- the lists while keys are put with the free ones
pub record IsFilling (keys count : ℕ) (s : LinkedLists) : Type 0 where
  pub lists : list_count s ≡ 769
  pub room : keys < key_limit s
  pub free : (key : ℕ) → key < count → list_of s key ≡ Some 768
  pub beyond : (key : ℕ) → count ≤ key → list_of s key ≡ None
