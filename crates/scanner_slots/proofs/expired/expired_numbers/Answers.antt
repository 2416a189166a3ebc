use Rattle.std.proofs.Common.{◌≡◌, ◌∙◌, List, map, filter, ap, subst, IfOk}
use Rattle.cip_types.specs.Order.{in_order}
use Rattle.scanner_table.specs.Slots.{IndexedSlot, indexed_from}
use Rattle.scanner_table.specs.Ticks.{by_deadline, has_expired}
use Rattle.scanner_slots.specs.Views.{slot_number, view_slot}
use Rattle.scanner_slots.proofs.OrderedViews.{order_viewed}
use Rattle.scanner_slots.proofs.expired.expired_numbers.Goals as goal

pub returns : goal.returns
returns c =
    let found : map view_slot c.in_ok-found.found.items ≡ filter (has_expired c.args.clock) (indexed_from 0 c.args.configs.now c.args.slots.now) = c.in_ok-found.ensures in
    let ordered : map view_slot c.deref-2.result.now ≡ in_order by_deadline (filter (has_expired c.args.clock) (indexed_from 0 c.args.configs.now c.args.slots.now)) =
    ap (map view_slot) (c.deref-2.ensures.value ∙ c.in_ok-ordered.ensures)
    ∙ order_viewed view_slot by_deadline c.deref.result.now
    ∙ ap (in_order by_deadline) (ap (map view_slot) c.deref.ensures.value ∙ found) in
    subst (λ (slots : List IndexedSlot). IfOk c.numbers_of.result (λ numbers. numbers.items ≡ map slot_number slots)) ordered c.numbers_of.ensures
