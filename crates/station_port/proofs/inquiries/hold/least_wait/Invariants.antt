use Rattle.std.proofs.Common.{◌≡◌, drop}
use Rattle.station_port.specs.Inquiries.Holds.{inquiry_wait}
use Rattle.station_port.proofs.inquiries.hold.least_wait.Given as goal

-- the least so far, and what is left
abbrev pub invariant-loop-held : goal.invariant-loop-held
invariant-loop-held l = inquiry_wait l.now_ms l.least (drop l.held-index l.waiting) ≡ inquiry_wait l.now_ms l.most_ms l.waiting
