use Rattle.std.proofs.Common.{◌≡◌, drop}
use Rattle.station_lines.specs.Watch.Closing.{closing_through}
use Rattle.station_lines.proofs.watch.closing.ClosingSlots.note.Given as goal

-- the notices that are left lead from the slots so far to those after all
abbrev pub invariant-loop-notice : goal.invariant-loop-notice
invariant-loop-notice l = closing_through (drop l.notice-index l.notices) l.self ≡ closing_through l.notices l.initial.self
