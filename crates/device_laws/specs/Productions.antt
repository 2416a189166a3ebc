-- Productions in the order in which they were made, each with two indexes that no device keeps: how many its producer had
-- made, and how often its count had risen. A device sends an index only as a number on a circle: the sequence number of a
-- datagram is its production index modulo 2^32, and its count is its new-data index modulo 2^16 (Volume 1, chapter 3, class 1
-- transport; Volume 2, chapter 2, sequenced address item).
use Rattle.std.specs.Prelude.{ℕ, ◌≡◌, ◌+◌, ◌==◌, ◌&&◌, ◌%◌, ◌^◌, Bool, if◌then◌else◌, List, [], ◌∷◌, ◌++◌, count_by, slice_get, Some}
use Rattle.std.specs.List.{AllByRecursion}
use Rattle.device_laws.specs.Made.{Made}

-- ENDS OF CONNECTIONS

-- One end of a connection, at the device of this place in a list of devices. At an adapter the number is the opening number
-- of a connection, or the number of a producer, which is the opening number of the connection that began it; at a scanner it
-- is the request number of a slot's opening.
pub record End : Type 0 where
  pub device : ℕ
  pub number : ℕ

abbrev pub end_at : ℕ → ℕ → End
end_at device number = record { device = device; number = number }

abbrev pub is_end : End → End → Bool
is_end a b = b.device == a.device && b.number == a.number

-- PRODUCTIONS

-- A production with its production index and its new-data index.
pub record Production : Type 0 where
  pub producer : End
  pub index : ℕ
  pub new_data : ℕ
  pub made : Made

-- the producer made it
abbrev pub is_by : End → Production → Bool
is_by producer p = is_end producer p.producer

-- the producer made it, and its count rose
abbrev pub is_new_data_by : End → Production → Bool
is_new_data_by producer p = is_by producer p && p.made.is_new_data

abbrev pub one_if : Bool → ℕ
one_if holds = if holds then 1 else 0

-- what the device makes next, after these productions
abbrev pub numbered : ℕ → List Production → Made → Production
numbered device produced made = record {
  producer = end_at device made.number;
  index = count_by (is_by (end_at device made.number)) produced + 1;
  new_data = count_by (is_new_data_by (end_at device made.number)) produced + one_if made.is_new_data;
  made = made;
}

-- the productions, with what the device makes after them
abbrev pub produced_more : ℕ → List Production → List Made → List Production
produced_more device produced [] = produced
produced_more device produced (made ∷ rest) = produced_more device (produced ++ numbered device produced made ∷ []) rest

-- NUMBERS ON THE CIRCLES

-- the sequence number and the count of the datagram are its indexes on their circles
pub record IsNumbered (p : Production) : Type 0 where
  pub sequence : p.made.datagram.sequence ≡ p.index % 2 ^ 32
  pub count : p.made.datagram.count ≡ p.new_data % 2 ^ 16

-- DATA

-- equal new-data indexes of one producer have equal data
abbrev pub DataAgree : List Production → Type 0
DataAgree produced =
    (i j : ℕ) (p q : Production) → slice_get produced i ≡ Some p → slice_get produced j ≡ Some q →
    p.producer ≡ q.producer → p.new_data ≡ q.new_data → p.made.datagram.payload ≡ q.made.datagram.payload

-- the sequence numbers and counts of productions follow from their indexes, and so does what is repeated
pub record AreInOrder (produced : List Production) : Type 0 where
  pub numbered : AllByRecursion IsNumbered produced
  pub agree : DataAgree produced
