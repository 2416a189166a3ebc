-- What the definitions of marks give at worked values.
use Rattle.std.proofs.Common.{◌≡◌, true, false, [], ◌∷◌, refl}
use Rattle.settling.specs.Receipts.{mark_at, with_mark}

marked : mark_at (with_mark ((false ∷ false ∷ []) ∷ (false ∷ []) ∷ []) 0 1) 0 1 ≡ true
marked = refl

unmarked_yet : mark_at (with_mark ((false ∷ false ∷ []) ∷ (false ∷ []) ∷ []) 0 1) 0 0 ≡ false
unmarked_yet = refl
