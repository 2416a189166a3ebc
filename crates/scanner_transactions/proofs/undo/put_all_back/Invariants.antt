use Rattle.std.proofs.Common.{◌≡◌, vec_len}
use Rattle.scanner_transactions.specs.Undoing.{undone_slots}
use Rattle.scanner_transactions.proofs.undo.put_all_back.Given as goal

abbrev pub invariant-loop-before : goal.invariant-loop-before
invariant-loop-before l = undone_slots l.kept.items l.slots.items ≡ undone_slots l.initial.kept.items l.initial.slots.items

abbrev pub decreases-loop-before : goal.decreases-loop-before
decreases-loop-before l = vec_len l.kept
