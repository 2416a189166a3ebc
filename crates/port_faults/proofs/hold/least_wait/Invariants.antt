use Rattle.std.proofs.Common.{◌≡◌, drop}
use Rattle.port_faults.specs.Holds.{wait_of}
use Rattle.port_faults.proofs.hold.least_wait.Given as goal

-- the least so far, and what is left
abbrev pub invariant-loop-held : goal.invariant-loop-held
invariant-loop-held l = wait_of l.now_ms l.arrived l.least (drop l.held-index l.waiting) ≡ wait_of l.now_ms l.arrived l.most_ms l.waiting
