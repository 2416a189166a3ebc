use Rattle.std.proofs.Common.{◌≡◌, drop}
use Rattle.line_threads.specs.Openings.{openings}
use Rattle.line_threads.proofs.Reaching.{opening_on}
use Rattle.line_threads.proofs.openings.openings_of.Given as goal

abbrev pub invariant-loop-place : goal.invariant-loop-place
invariant-loop-place l = opening_on l.nodes l.place l.openings.items (drop l.place l.configs) ≡ openings l.nodes l.configs
