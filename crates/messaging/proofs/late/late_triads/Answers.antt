use Rattle.std.proofs.Common.{◌≡◌, ◌∙◌, List, map, filter, ap, subst, IfOk}
use Rattle.cip_types.specs.declared.names.Triad.{Triad}
use Rattle.cip_types.specs.Order.{in_order}
use Rattle.messaging.specs.Endings.{by_ending, ending_of}
use Rattle.messaging.specs.Times.{is_late_class3}
use Rattle.messaging.proofs.Ordering.{triads_in_order}
use Rattle.messaging.proofs.late.late_triads.Goals as goal

pub returns : goal.returns
returns c =
    let late = filter (is_late_class3 c.args.clock) c.args.class3_connections.now in
    let ordered : c.deref-2.result.now ≡ in_order by_ending (map ending_of late) =
    c.deref-2.ensures.value ∙ c.in_ok-ordered.ensures ∙ ap (in_order by_ending) (c.deref.ensures.value ∙ c.in_ok-endings.ensures) in
    subst (λ (l : List Triad). IfOk c.triads_of.result (λ triads. triads.items ≡ l)) (triads_in_order late c.deref-2.result.now ordered) c.triads_of.ensures
