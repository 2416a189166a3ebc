-- The first watchdog of a connection (Volume 1, chapter 3, inactivity watchdog).
use Rattle.std.specs.Prelude.{ℕ, ◌+◌, max}
use Rattle.cip_types.specs.declared.names.Ms.{Ms}

-- the first watchdog is at least 10 seconds
abbrev pub first_deadline : Ms → ℕ → Ms
first_deadline clock timeout_ms = record { 0 = clock.0 + max 10000 timeout_ms }
