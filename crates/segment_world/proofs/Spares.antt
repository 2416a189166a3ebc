-- Spare buffers, with one less or one more.
use Rattle.std.proofs.Common.{◌≡◌, ◌≤◌, ℕ, List, [], ◌∷◌, ◌++◌}
use Rattle.std.specs.Vec.{vec_capacity}
use Rattle.std.specs.Global.{Vec}
use Rattle.segment_world.specs.Transit.Spares.{AreSpare}

pub spare_push : (spares : List (Vec ℕ)) (spare : Vec ℕ) → AreSpare spares → spare.items ≡ [] → 2048 ≤ vec_capacity spare → AreSpare (spares ++ spare ∷ [])
spare_push [] spare kept empty space = (empty, space, tt)
spare_push (x ∷ spares) spare kept empty space = (kept.0, kept.1, spare_push spares spare kept.2 empty space)

pub spare_last : (spares : List (Vec ℕ)) (spare : Vec ℕ) → AreSpare (spares ++ spare ∷ []) → AreSpare spares × (spare.items ≡ []) × (2048 ≤ vec_capacity spare)
spare_last [] spare kept = (tt, kept.0, kept.1)
spare_last (x ∷ spares) spare kept = let rest = spare_last spares spare kept.2 in ((kept.0, kept.1, rest.0), rest.1, rest.2)
