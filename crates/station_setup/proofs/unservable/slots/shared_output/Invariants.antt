use Rattle.std.proofs.Common.{◌≡◌, ◌+◌, length}
use Rattle.station_setup.specs.Unservable.Defects.{shared_output}
use Rattle.station_setup.proofs.unservable.slots.shared_output.Given as goal

-- the slots that are left give the same with the number of their first one as all slots with 0
abbrev pub invariant-loop-slot : goal.invariant-loop-slot
invariant-loop-slot l = (shared_output 0 l.fn.slots ≡ shared_output l.index l.rest) × (l.index + length l.rest ≡ length l.fn.slots)

abbrev pub decreases-loop-slot : goal.decreases-loop-slot
decreases-loop-slot l = length l.rest
