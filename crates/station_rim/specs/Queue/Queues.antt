-- A queue of pieces of text with a bound.
use Rattle.std.specs.Prelude.{ℕ, ◌+◌, ◌-◌, ◌^◌, min, nat_le, nat_lt, ◌&&◌, Bool, true, false, List, [], ◌∷◌, ◌++◌, length, Option, Some, None}

-- the pieces, the oldest first, and how many bytes and pieces more may be taken
pub record Queue : Type 0 where
  pub pieces : List (List ℕ)
  pub free_bytes : ℕ
  pub free_pieces : ℕ

abbrev pub empty_queue : ℕ → ℕ → Queue
empty_queue most_bytes most_pieces = record { pieces = []; free_bytes = most_bytes; free_pieces = most_pieces }

abbrev pub is_nil : List (List ℕ) → Bool
is_nil [] = true
is_nil (piece ∷ pieces) = false

abbrev pub is_empty : Queue → Bool
is_empty queue = is_nil queue.pieces

-- a piece fits
abbrev pub has_room : Queue → List ℕ → Bool
has_room queue piece = nat_lt 0 queue.free_pieces && nat_le (length piece) queue.free_bytes

-- with a piece behind the others
abbrev pub with_pushed : Queue → List ℕ → Queue
with_pushed queue piece = record { pieces = queue.pieces ++ piece ∷ []; free_bytes = queue.free_bytes - length piece; free_pieces = queue.free_pieces - 1 }

-- the oldest piece
abbrev pub first_of : List (List ℕ) → Option (List ℕ)
first_of [] = None
first_of (piece ∷ pieces) = Some piece

abbrev pub first_piece : Queue → Option (List ℕ)
first_piece queue = first_of queue.pieces

-- a number of the machine, which ends at 2^64 - 1
abbrev pub up_to_end : ℕ → ℕ
up_to_end number = min number (2 ^ 64 - 1)

-- without the oldest piece, whose place is free again
abbrev pub without : Queue → List (List ℕ) → Queue
without queue [] = queue
without queue (piece ∷ pieces) = record { pieces = pieces; free_bytes = up_to_end (queue.free_bytes + length piece); free_pieces = up_to_end (queue.free_pieces + 1) }

abbrev pub without_first : Queue → Queue
without_first queue = without queue queue.pieces
