use Rattle.std.proofs.Common.{◌∙◌, ap, map}
use Rattle.cip_types.specs.Order.{in_order}
use Rattle.scanner_table.specs.Productions.{by_due}
use Rattle.scanner_slots.specs.Views.{view_slot}
use Rattle.scanner_data.proofs.Orders.{if_ok, order_viewed}
use Rattle.scanner_data.proofs.productions.due_slots.Goals as goal

pub returns : goal.returns
returns c = if_ok _ _ c.sorted.result (λ due is. ap (map view_slot) is ∙ order_viewed view_slot by_due c.deref.result.now ∙ ap (in_order by_due) (ap (map view_slot) c.deref.ensures.value ∙ c.in_ok-due.ensures)) c.sorted.ensures
