use Rattle.std.proofs.Common.{ℕ, ◌<◌}
use Rattle.timer_wheel.specs.Layout.{HasToken}
use Rattle.timer_wheel.proofs.search.key_of.Given as goal

abbrev pub invariant-loop-key : goal.invariant-loop-key
invariant-loop-key l = (key : ℕ) → key < l.key → ¬ HasToken l.timers l.token.0 key
