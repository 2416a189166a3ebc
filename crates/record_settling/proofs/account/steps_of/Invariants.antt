use Rattle.std.proofs.Common.{◌≡◌, ◌++◌, drop}
use Rattle.record_settling.specs.Accounts.{accounted}
use Rattle.record_settling.proofs.account.steps_of.Given as goal

-- the steps so far, and those of what is left
abbrev pub invariant-loop-entry : goal.invariant-loop-entry
invariant-loop-entry l = l.steps.items ++ accounted l.names l.seen (drop l.entry-index l.entries) ≡ accounted l.names 0 l.entries
