-- Which notices of a device are troubles: what went wrong at one of its connections, slots or requests, or is to be known at once.
use Rattle.std.specs.Prelude.{◌==◌, Bool, true, false}
use Rattle.cip_events.specs.declared.event.Notice.{Notice}
use Rattle.cip_events.specs.declared.event.Notice.TheVariants as notice
use Rattle.cip_events.specs.declared.slot_phase.SlotPhase.TheVariants as phase
use Rattle.cip_events.specs.Phases.{phase_number}

-- a connection timed out or was dropped, a slot timed out or is not opened, a request stays without a reply, or a peer requests a reset
abbrev pub is_trouble_notice : Notice → Bool
is_trouble_notice (notice.Expired triad) = true
is_trouble_notice (notice.Dropped triad) = true
is_trouble_notice (notice.Slot slot state) = state == phase_number phase.TimedOut
is_trouble_notice (notice.Refused slot reason) = true
is_trouble_notice (notice.NoIds slot) = true
is_trouble_notice (notice.Reset kind) = true
is_trouble_notice (notice.Unanswered number why) = true
is_trouble_notice other = false
