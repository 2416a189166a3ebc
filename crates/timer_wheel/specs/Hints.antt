-- The cache of tokens' keys. No public clause cites this module.
use Rattle.std.specs.Prelude.{ℕ, ◌*◌, ◌/◌, ◌%◌, ◌^◌}
use Rattle.timer_wheel.specs.declared.search.TheConstants.{SPREAD}

-- the index of a token's entry: the upper bits of a multiple of its number
abbrev pub hint_index : ℕ → ℕ → ℕ
hint_index shift token = token * SPREAD % 2 ^ 64 / 2 ^ (shift % 64)
