-- Spare buffers.
use Rattle.std.specs.Prelude.{◌≡◌, ◌≤◌, ℕ, List, [], ◌∷◌}
use Rattle.std.specs.Vec.{vec_capacity}
use Rattle.std.specs.Global.{Vec}

-- each buffer is empty, and has the capacity for a frame
abbrev pub AreSpare : List (Vec ℕ) → Type 0
AreSpare [] = Unit {0}
AreSpare (spare ∷ spares) = (spare.items ≡ []) × (2048 ≤ vec_capacity spare) × AreSpare spares
