-- Several steps of the placing.
use Rattle.std.proofs.Common.{◌≡◌, ◌<◌, ◌+◌, ℕ, List, subst, sym, below_more}
use Rattle.cip_events.specs.declared.event.Event.{Event}
use Rattle.settling.specs.Search.Placements.{Placement, StuckHere}

pub stuck_more : (hs : List (List Event)) (now next : Placement) (i : ℕ) → ((j : ℕ) → j < i → StuckHere hs now j) → next ≡ now → StuckHere hs now i → (j : ℕ) → j < i + 1 → StuckHere hs next j
stuck_more hs now next i stuck same here = subst (λ (b : Placement). (j : ℕ) → j < i + 1 → StuckHere hs b j) (sym same) (below_more (StuckHere hs now) i stuck here)
