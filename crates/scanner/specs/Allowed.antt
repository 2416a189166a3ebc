-- Which slots can be started.
use Rattle.std.specs.Prelude.{not, Bool, false}
use Rattle.scanner_table.specs.declared.slot.SlotState.{SlotState}
use Rattle.scanner_table.specs.declared.slot.SlotState.TheVariants.{Idle, Opening, Established, TimedOut, Closing}

-- a slot can be started in this state, by whether its connection is desired
abbrev pub can_start : Bool → SlotState → Bool
can_start desired_up Idle = not desired_up
can_start desired_up (Opening o) = false
can_start desired_up (Established c) = false
can_start desired_up (TimedOut link) = false
can_start desired_up (Closing c) = false
