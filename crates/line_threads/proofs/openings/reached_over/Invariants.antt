use Rattle.std.proofs.Common.{◌≡◌, drop, map}
use Rattle.line_threads.specs.Openings.{distinct, others_at, target_of}
use Rattle.line_threads.proofs.Reaching.{reaching}
use Rattle.line_threads.proofs.openings.reached_over.Given as goal

abbrev pub invariant-loop-slot : goal.invariant-loop-slot
invariant-loop-slot l = reaching l.nodes l.own l.reached.items (drop l.slot-index l.slots) ≡ distinct (others_at l.nodes l.own (map target_of l.slots))
