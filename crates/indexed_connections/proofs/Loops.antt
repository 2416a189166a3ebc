-- Loops that push each element that passes a test, or a value made of it.
use Rattle.std.proofs.Common.{◌≡◌, ◌<◌, ℕ, ◌+◌, Bool, true, false, cond, List, [], ◌∷◌, ◌++◌, length, take, get_or, filter, map, None, refl, ◌∙◌, ap, arith}
use Rattle.std.specs.List.{filter_map, cons_option}
use Rattle.std.proofs.lemmas.Grind.{common_steps}
use Rattle.std.proofs.lemmas.List.Elements.{filter_more}
use Rattle.cip_productions.specs.declared.production.Producer.{Producer}
use Rattle.adapter_table.specs.Connections.{Row}
use Rattle.adapter_table.specs.Productions.{producer_in}
use Rattle.indexed_connections.specs.List.Orders.{picked}

-- one more does not
pub left_more : {X : Type 0} (p : X → Bool) (xs : List X) (i : ℕ) (d : X) (kept : List X) → i < length xs → kept ≡ filter p (take i xs) → p (get_or xs i d) ≡ false → kept ≡ filter p (take (i + 1) xs)
left_more p xs i d kept lt are fails =
    let more = filter_more p xs i d lt in
    grind (arith, common_steps)

-- one more is reported
pub reported_more : {X Y : Type 0} (g : X → Y) (front : List Y) (p : X → Bool) (xs : List X) (i : ℕ) (d : X) (reported new : List Y) → i < length xs → reported ≡ front ++ map g (filter p (take i xs)) → p (get_or xs i d) ≡ true → new ≡ reported ++ g (get_or xs i d) ∷ [] → new ≡ front ++ map g (filter p (take (i + 1) xs))
reported_more g front p xs i d reported new lt are passes grown =
    rw (filter_more p xs i d lt, passes) (grind (arith, common_steps))

-- one more is not
pub unreported_more : {X Y : Type 0} (g : X → Y) (front : List Y) (p : X → Bool) (xs : List X) (i : ℕ) (d : X) (reported : List Y) → i < length xs → reported ≡ front ++ map g (filter p (take i xs)) → p (get_or xs i d) ≡ false → reported ≡ front ++ map g (filter p (take (i + 1) xs))
unreported_more {X} g front p xs i d reported lt are fails =
    are ∙ ap (λ (l : List X). front ++ map g l) (left_more p xs i d (filter p (take i xs)) lt refl fails)

-- ---- producers of connections that pass a test

pub all_picked : (test : Row → Bool) (rows : List Row) → filter_map (picked test) rows ≡ filter_map producer_in (filter test rows)
all_picked test [] = refl
all_picked test (row ∷ rows) = split (test row) (all_picked test rows)
  where
    split : (b : Bool) → filter_map (picked test) rows ≡ filter_map producer_in (filter test rows)
        → cons_option (cond b (producer_in row) None) (filter_map (picked test) rows) ≡ filter_map producer_in (cond b (row ∷ filter test rows) (filter test rows))
    split true rest = ap (λ (l : List Producer). cons_option (producer_in row) l) rest
    split false rest = rest
