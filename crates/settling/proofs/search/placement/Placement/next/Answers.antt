use Rattle.std.proofs.Common.{◌≡◌, ◌≤◌, List, [], ◌∷◌, length, get_or, arith, sym, ap, ◌∙◌}
use Rattle.cip_events.specs.declared.event.Event.{Event}
use Rattle.settling.specs.Search.Histories.{events_of_all}
use Rattle.settling.specs.Search.Placements.{rest}
use Rattle.settling.proofs.search.placement.Placement.next.Goals as goal

first_of : (xs : List Event) (e : Event) → 1 ≤ length xs → e ≡ get_or xs 0 e → (es : List Event) × (xs ≡ e ∷ es)
first_of [] e le is = absurd (omega arith)
first_of (x ∷ xs) e le is = (xs, ap (λ (y : Event). y ∷ xs) (sym is))

pub returns-in-len1-up-clause-some : goal.returns-in-len1-up-clause-some
returns-in-len1-up-clause-some g c =
    let first = first_of c.events_left.result.now c.event-item.result c.in-len1-up.len_at_least c.event-item.is in
    let is : c.events_left.result.now ≡ rest (events_of_all c.args.histories.now) c.args.self.now.placed c.args.device = rw (← c.self.view_is, ← c.deref.ensures.value) c.events_left.ensures in
    (first.0, sym is ∙ first.1)
