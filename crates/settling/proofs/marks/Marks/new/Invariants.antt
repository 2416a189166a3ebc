use Rattle.std.proofs.Common.{◌≡◌, take}
use Rattle.settling.specs.Receipts.{unmarked}
use Rattle.settling.proofs.marks.Marks.new.Given as goal

abbrev pub invariant-loop-history : goal.invariant-loop-history
invariant-loop-history l = l.rows.items ≡ unmarked (take l.history-index l.histories)
