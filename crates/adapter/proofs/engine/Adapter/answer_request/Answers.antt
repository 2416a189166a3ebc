use Rattle.std.proofs.Common.{◌≡◌, ◌∙◌, Some, None, sym}
use Rattle.cip_router.specs.Replies.{view_reply}
use Rattle.adapter_table.specs.declared.table.AdapterTable.{AdapterTable}
use Rattle.adapter_replies.specs.Messages.{found_last}
use Rattle.adapter_replies.specs.RouteLaws.{responded_is}
use Rattle.adapter_replies.specs.Routes.{waiting_route}
use Rattle.adapter.proofs.engine.Adapter.answer_request.Goals as goal

pub returns-in-Some : goal.returns-in-Some
returns-in-Some g c =
    let t : AdapterTable = c.self.inside.state in
    let w = c.args.request.now in
    let some : waiting_route w (found_last t.messaging w.asker) ≡ Some c.in-Some.route = sym (rw (c.found_last-class3.ensures, c.messaging.ensures) at c.of_waiting.ensures) ∙ c.in-Some.is in
    rw (← c.self.view_is, ← responded_is t w (view_reply c.args.reply.now), some) (rw (← c.self.view_is) at c.answer_on.ensures)

pub returns-in-None : goal.returns-in-None
returns-in-None g c =
    let t : AdapterTable = c.self.inside.state in
    let w = c.args.request.now in
    let none : waiting_route w (found_last t.messaging w.asker) ≡ None = sym (rw (c.found_last-class3.ensures, c.messaging.ensures) at c.of_waiting.ensures) ∙ c.in-None.is in
    rw (← c.self.view_is, ← responded_is t w (view_reply c.args.reply.now), none) (rw c.plain-answer.ensures at c.settle_unkept.ensures)
