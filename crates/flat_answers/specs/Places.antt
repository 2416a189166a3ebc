-- Bytes at a position of a caller's room, and sizes as the machine counts them.
use Rattle.std.specs.Prelude.{ℕ, ◌≡◌, ◌+◌, ◌-◌, ◌^◌, min, List, ◌++◌, length, take, drop}

-- Bytes are written over those at a position. What lies before it and behind them stays.
pub record Puts (bytes : List ℕ) (at : ℕ) (old : List ℕ) (next : ℕ) (new : List ℕ) : Type 0 where
  pub len : length new ≡ length old
  pub behind : next ≡ at + length bytes
  pub front : take next new ≡ take at old ++ bytes
  pub rest : drop next new ≡ drop next old

-- a number of bytes, as far as 64 bits count
abbrev pub counted : ℕ → ℕ
counted len = min len (2 ^ 64 - 1)
