-- How explicit requests end without a reply (Volume 1, chapter 3, unconnected messaging).
use Rattle.std.specs.Prelude.{Bool}
use Rattle.cip_events.specs.declared.event.Unanswered.{Unanswered}
use Rattle.cip_events.specs.declared.event.Unanswered.TheVariants as unanswered
use Rattle.scanner_table.specs.declared.explicit.PendingExplicit.{PendingExplicit}
use Rattle.scanner_table.specs.Explicit.{is_late, is_over}
use Rattle.explicit_requests.specs.declared.endings.ExplicitEnd.{ExplicitEnd}
use Rattle.explicit_requests.specs.declared.endings.ExplicitEnd.TheVariants.{Late, Over}

-- the request ends
abbrev pub ends : ExplicitEnd → PendingExplicit → Bool
ends (Late clock) = is_late clock
ends (Over stream) = is_over stream

-- why it has no reply
abbrev pub why_of : ExplicitEnd → Unanswered
why_of (Late clock) = unanswered.TimedOut
why_of (Over stream) = unanswered.Lost
