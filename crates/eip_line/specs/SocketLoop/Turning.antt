-- The turns of a line: each turn of a device reads its clock once.
use Rattle.std.specs.Prelude.{ℕ, ◌≡◌, List, drop}

-- a clock with these next answers was read so many times
abbrev pub IsReadTimes : ℕ → List ℕ → List ℕ → Type 0
IsReadTimes count coming left = left ≡ drop count coming
