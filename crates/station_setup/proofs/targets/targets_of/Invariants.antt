use Rattle.std.proofs.Common.{◌≡◌, [], drop}
use Rattle.station_setup.specs.Settings.{targets_through}
use Rattle.station_setup.proofs.targets.targets_of.Given as goal

-- the slots that are left lead from the targets so far to all
abbrev pub invariant-loop-slot : goal.invariant-loop-slot
invariant-loop-slot l = targets_through l.port l.targets.items (drop l.slot-index l.slot-items) ≡ targets_through l.port [] l.slot-items
