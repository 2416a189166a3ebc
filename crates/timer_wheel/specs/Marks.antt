-- The marks of the slots that are not empty. No public clause cites this module.
use Rattle.std.specs.Prelude.{◌≡◌, ℕ, ◌/◌, ◌%◌, ◌<◌, ◌≤◌, List, length, Some, None, slice_index}
use Rattle.std.specs.Int.{bit_at}
use Rattle.futures.specs.LinkedLists.{LinkedLists, list_of, list_count, key_limit, IsEmpty}

-- the bit of a slot
abbrev pub mark_of : List ℕ → ℕ → ℕ
mark_of marks slot = bit_at (slice_index marks (slot / 64)) (slot % 64)

-- there are 768 slots and the list of the free keys, and each slot that has a key is marked
pub record IsMarked (marks : List ℕ) (s : LinkedLists) : Type 0 where
  pub lists : list_count s ≡ 769
  pub size : length marks ≡ 13
  pub marked : (slot key : ℕ) → slot < 768 → list_of s key ≡ Some slot → mark_of marks slot ≡ 1

-- the slots from the first up to the second have no key
abbrev pub AllEmpty : LinkedLists → ℕ → ℕ → Type 0
AllEmpty s from to = (slot : ℕ) → from ≤ slot → slot < to → IsEmpty s slot

-- this number of keys is in the list of the free ones, and no other key is in a list
pub record AllFree (keys : ℕ) (s : LinkedLists) : Type 0 where
  pub room : keys ≤ key_limit s
  pub free : (key : ℕ) → key < keys → list_of s key ≡ Some 768
  pub beyond : (key : ℕ) → keys ≤ key → list_of s key ≡ None
