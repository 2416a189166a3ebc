use Rattle.std.proofs.Common.{◌≡◌, ◌≤◌, ℕ, slice_get, Some}
use Rattle.settling.proofs.search.cause.sent_place.Given as goal

-- none from here on
abbrev pub invariant-loop-place : goal.invariant-loop-place
invariant-loop-place g l = (k : ℕ) → l.place ≤ k → slice_get l.world.sent k ≡ Some (record { from = l.peer; bytes = l.bytes }) → ⊥
