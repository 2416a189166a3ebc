-- The ends of connections in their order are those of the connections in theirs.
use Rattle.std.proofs.Common.{◌≡◌, Bool, true, false, cond, List, [], ◌∷◌, map, refl, sym, ◌∙◌, ap}
use Rattle.cip_types.specs.declared.names.Triad.{Triad}
use Rattle.cip_types.specs.Order.{inserted, in_order}
use Rattle.messaging.specs.declared.class3.Class3Connection.{Class3Connection}
use Rattle.messaging.specs.declared.late.Class3End.{Class3End}
use Rattle.messaging.specs.Class3Connections.{class3_triad}
use Rattle.messaging.specs.Endings.{by_ending, ending_of, ending_triad}
use Rattle.messaging.specs.Times.{by_class3_deadline}

inserted_step : (b : Bool) (d other : Class3Connection) (ds : List Class3Connection) (new : List Class3Connection) (ends : List Class3End) → map ending_of new ≡ ends → map ending_of (cond b (d ∷ other ∷ ds) (other ∷ new)) ≡ cond b (ending_of d ∷ ending_of other ∷ map ending_of ds) (ending_of other ∷ ends)
inserted_step true d other ds new ends rest = refl
inserted_step false d other ds new ends rest = ap (λ (l : List Class3End). ending_of other ∷ l) rest

inserted_ends : (d : Class3Connection) (ds : List Class3Connection) → map ending_of (inserted by_class3_deadline d ds) ≡ inserted by_ending (ending_of d) (map ending_of ds)
inserted_ends d [] = refl
inserted_ends d (other ∷ ds) = inserted_step (by_class3_deadline d other) d other ds (inserted by_class3_deadline d ds) _ (inserted_ends d ds)

ends_in_order : (ds : List Class3Connection) → map ending_of (in_order by_class3_deadline ds) ≡ in_order by_ending (map ending_of ds)
ends_in_order [] = refl
ends_in_order (d ∷ ds) = inserted_ends d (in_order by_class3_deadline ds) ∙ ap (inserted by_ending (ending_of d)) (ends_in_order ds)

triads_of_ends : (ds : List Class3Connection) → map ending_triad (map ending_of ds) ≡ map class3_triad ds
triads_of_ends [] = refl
triads_of_ends (d ∷ ds) = ap (λ (l : List Triad). d.triad ∷ l) (triads_of_ends ds)

pub triads_in_order : (ds : List Class3Connection) (ends : List Class3End) → ends ≡ in_order by_ending (map ending_of ds) → map ending_triad ends ≡ map class3_triad (in_order by_class3_deadline ds)
triads_in_order ds ends is =
    ap (map ending_triad) (is ∙ sym (ends_in_order ds)) ∙ triads_of_ends (in_order by_class3_deadline ds)
