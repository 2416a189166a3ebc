-- The clock of a trace.
use Rattle.std.specs.Prelude.{ℕ, ◌+◌, ◌%◌, ◌^◌, if◌then◌else◌, Bool, true, false, Option, Some, Err}
use Rattle.cip_events.specs.declared.event.Event.{Event}
use Rattle.cip_events.specs.declared.event.Event.TheVariants.{Tick}
use Rattle.cip_events.specs.Outcomes.{Outcome}

abbrev pub is_refused : Option Outcome → Bool
is_refused (Some (Err fault)) = true
is_refused _ = false

abbrev pub later : ℕ → ℕ → Bool → ℕ
later time ms refused = if refused then time else (time + ms) % 2 ^ 64

-- the time after an event; a refused tick does not pass
abbrev pub time_after : ℕ → Event → Option Outcome → ℕ
time_after time (Tick ms) outcome = later time ms (is_refused outcome)
time_after time _ outcome = time
