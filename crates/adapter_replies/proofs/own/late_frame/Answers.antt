use Rattle.std.proofs.Common.{◌≡◌, ◌∙◌, ◌∷◌, [], Option, Some, None, sym, ap}
use Rattle.cip_events.specs.declared.event.Frame.{Frame}
use Rattle.cip_router.specs.Replies.{own}
use Rattle.messaging.specs.Times.{without_late_class3_connections}
use Rattle.adapter_replies.specs.declared.routes.Route.{Route}
use Rattle.adapter_replies.specs.Messages.{found_last, way_frames}
use Rattle.adapter_replies.specs.RouteLaws.{waiting_is}
use Rattle.adapter_replies.specs.Routes.{waiting_route}
use Rattle.adapter_replies.proofs.own.late_frame.Goals as goal

pub returns-in_default : goal.returns-in_default
returns-in_default c =
    let m = without_late_class3_connections c.args.clock c.args.messaging.now in
    let w = c.args.request.now in
    let none : waiting_route w (found_last m w.asker) ≡ None = sym (rw c.found_on_time-class3.ensures at c.of_waiting.ensures) ∙ c.in_default.is in
    ap (λ (way : Option Route). way_frames way (own w.service 0x1F [])) (sym none) ∙ waiting_is m w (own w.service 0x1F [])

pub returns : goal.returns
returns c =
    let m = without_late_class3_connections c.args.clock c.args.messaging.now in
    let w = c.args.request.now in
    let some : waiting_route w (found_last m w.asker) ≡ Some c.in-Some.route = sym (rw c.found_on_time-class3.ensures at c.of_waiting.ensures) ∙ c.in-Some.is in
    let made = rw c.fault-status.ensures.value at c.in_ok-reply_frame.ensures in
    ap (λ (frame : Frame). frame ∷ []) made ∙ ap (λ (way : Option Route). way_frames way (own w.service 0x1F [])) (sym some) ∙ waiting_is m w (own w.service 0x1F [])
