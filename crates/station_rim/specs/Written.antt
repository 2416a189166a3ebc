-- Which texts are written together.
use Rattle.std.specs.Prelude.{ℕ, ◌+◌, ◌&&◌, not, nat_le, nat_lt, Bool}

-- A text is written behind those that are gathered, if all of them have at most so many bytes. A longer one is written by itself.
abbrev pub joins : (most gathered len : ℕ) → Bool
joins most gathered len = nat_le (gathered + len) most

-- More is gathered, if the last text is behind the others, it was not the last one for now, and there is room.
abbrev pub gathers : (most : ℕ) → (joined last : Bool) → (gathered : ℕ) → Bool
gathers most joined last gathered = joined && (not last && nat_lt gathered most)
