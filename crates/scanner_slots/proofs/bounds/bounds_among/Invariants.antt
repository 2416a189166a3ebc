use Rattle.scanner_slots.specs.Bounding.{has_target}
use Rattle.scanner_slots.proofs.Bounded.{Covers}
use Rattle.scanner_slots.proofs.bounds.bounds_among.Given as goal

abbrev pub invariant-loop-index : goal.invariant-loop-index
invariant-loop-index l = Covers l.bounds (has_target l.streams) l.configs l.slots l.index
