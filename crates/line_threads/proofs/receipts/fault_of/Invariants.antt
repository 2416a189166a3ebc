use Rattle.std.proofs.Common.{◌≡◌, drop}
use Rattle.line_threads.specs.Lines.{first_fault}
use Rattle.line_threads.proofs.receipts.fault_of.Given as goal

abbrev pub invariant-loop-account : goal.invariant-loop-account
invariant-loop-account l = first_fault (drop l.account-index l.accounts) ≡ first_fault l.accounts
