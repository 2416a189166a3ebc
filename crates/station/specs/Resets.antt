-- Resets that peers request (Volume 1, chapter 5, Identity object, Reset service).
use Rattle.std.specs.Prelude.{Bool, true, false, Ok, Err}
use Rattle.std.specs.List.{list_any}
use Rattle.cip_events.specs.declared.event.Notice.{Notice}
use Rattle.cip_events.specs.declared.event.Notice.TheVariants as notice
use Rattle.cip_events.specs.Outcomes.{Outcome}

-- a peer requests a reset, of either type, and the device grants it
abbrev pub is_reset : Notice → Bool
is_reset (notice.Reset type) = true
is_reset other = false

-- .. by an outcome
abbrev pub grants_reset : Outcome → Bool
grants_reset (Ok answer) = list_any is_reset answer.notices
grants_reset (Err fault) = false
