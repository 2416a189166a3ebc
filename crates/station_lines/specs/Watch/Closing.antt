-- The slots of a scanner that are being closed, and how long a station that ends waits for them.
use Rattle.std.specs.Prelude.{ℕ, ◌+◌, ◌-◌, ◌^◌, ◌==◌, ◌&&◌, min, nat_lt, Bool, List, [], ◌∷◌, slice_set}
use Rattle.cip_events.specs.declared.event.Notice.{Notice}
use Rattle.cip_events.specs.declared.event.Notice.TheVariants as notice
use Rattle.cip_events.specs.declared.slot_phase.SlotPhase.TheVariants as phase
use Rattle.cip_events.specs.Phases.{phase_number}
use Rattle.cip_tables.specs.declared.table.Config.{Config}
use Rattle.cip_tables.specs.declared.table.Config.TheVariants.{Adapter, Scanner}

-- the slot is being closed
abbrev pub is_marked : Bool → Bool
is_marked closing = closing

-- a slot is being closed from the notice of this state on, until that of another one
abbrev pub closing_after : Notice → List Bool → List Bool
closing_after (notice.Slot slot state) closing = slice_set closing slot (state == phase_number phase.Closing)
closing_after other closing = closing

-- after all notices of an answer
abbrev pub closing_through : List Notice → List Bool → List Bool
closing_through [] closing = closing
closing_through (first ∷ notices) closing = closing_through notices (closing_after first closing)

-- A STATION THAT ENDS

-- how long it waits while slots are being closed: a scanner for its open time-out
abbrev pub closing_ms : Config → ℕ
closing_ms (Adapter profile) = 0
closing_ms (Scanner profile) = profile.open_timeout

-- when it waits no longer: so many milliseconds later; time ends with the numbers
abbrev pub close_end : ℕ → ℕ → ℕ
close_end now closing = min (now + closing) (2 ^ 64 - 1)

-- whether it waits: while a slot is being closed, until that time
abbrev pub waits_on : Bool → ℕ → ℕ → Bool
waits_on closing now until = closing && nat_lt now until
