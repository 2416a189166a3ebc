use Rattle.std.proofs.Common.{◌≡◌}
use Rattle.line_threads.specs.Lines.{all_receipts}
use Rattle.line_threads.proofs.receipts.joined.Given as goal

abbrev pub invariant-loop-account : goal.invariant-loop-account
invariant-loop-account l = l.all.items ≡ all_receipts l.yielded
