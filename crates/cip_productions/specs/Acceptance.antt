-- The acceptance of datagrams: the order of sequence numbers, and repeated counts
-- (Volume 1, chapter 3, class 1 transport; Volume 2, chapter 2, sequenced address item).
use Rattle.std.specs.Prelude.{ℕ, ◌==◌, Bool, true, false, Option, Some, None}
use Rattle.cip_types.specs.Circle.{is_newer}
use Rattle.cip_productions.specs.declared.acceptance.Accepted.{Accepted}

-- the first number is accepted, and a later one if it is newer than the last accepted one
abbrev pub accepts_sequence : Option Accepted → ℕ → Bool
accepts_sequence None sequence = true
accepts_sequence (Some last) sequence = is_newer sequence last.number

-- the count repeats that of the last accepted datagram: there is no new data
abbrev pub is_duplicate : Option Accepted → ℕ → Bool
is_duplicate None count = false
is_duplicate (Some last) count = count == last.count
