use Rattle.std.proofs.Common.{map, slice_get, Ok, Err, sym, ap, ◌∙◌}
use Rattle.segment_world.specs.Transit.Streams.{with_stream, taken_from, answered}
use Rattle.segment_world.specs.World.{World, event_at_device, without_front, taken_at}
use Rattle.segment_world.proofs.Acts.{done_so, undone_so}
use Rattle.segment_world.proofs.CameTo.{as_many}
use Rattle.segment_world.proofs.world.World.next_frame.Goals as goal

pub invariant_of-self-in-Ok-step_at : goal.invariant_of-self-in-Ok-step_at
invariant_of-self-in-Ok-step_at g c =
    let reception = c.in-Ok.reception in
    c.self.invariant ∙ sym (as_many g.D.Device.table c.self.inside.devices.items c.step_at.new.devices.items reception.device reception.event (Ok c.in-Ok-step_at.answer) c.in-Ok-step_at.ensures)

pub invariant_of-self-in-Err-step_at : goal.invariant_of-self-in-Err-step_at
invariant_of-self-in-Err-step_at g c =
    let reception = c.in-Ok.reception in
    c.self.invariant ∙ sym (as_many g.D.Device.table c.self.inside.devices.items c.step_at.new.devices.items reception.device reception.event (Err c.in-Err-step_at.fault) c.in-Err-step_at.ensures)

pub returns-in-Ok-step_at : goal.returns-in-Ok-step_at
returns-in-Ok-step_at g c =
    let seen : World = record { nodes = c.self.inside.nodes.items; tables = map g.D.Device.table c.self.inside.devices.items; sent = c.self.inside.traffic.log.sent; streams = c.self.inside.traffic.streams.streams } in
    let n = c.args.stream in
    let d = c.args.direction in
    let reception = c.in-Ok.reception in
    let is = c.in-Ok.ensures.reception in
    let answer = c.in-Ok-step_at.answer in
    done_so (taken_at n d c.args.self.now (slice_get c.args.self.now.streams n)) c.args.self.now (without_front n d seen) reception.device reception.event answer reception.node (map g.D.Device.table c.step_at.new.devices.items) c.fan_out.new.self.log.sent c.fan_out.new.self.streams.streams
    (is.is ∙ ap (λ (w : World). event_at_device reception.device reception.event (without_front n d w)) (sym c.self.view_is))
    c.in-Ok-step_at.ensures
    (ap (λ (w : World). slice_get w.nodes reception.device) c.self.view_is ∙ is.node)
    (rw c.reserve_answer.ensures.sent at c.fan_out.ensures.sent)
    (c.fan_out.ensures.streams ∙ ap (answered reception.device answer) (c.take_front.ensures.streams ∙ ap (with_stream (taken_from d) n) c.reserve_answer.ensures.streams))

pub returns : goal.returns
returns g c =
    let n = c.args.stream in
    let d = c.args.direction in
    let reception = c.in-Ok.reception in
    let is = c.in-Ok.ensures.reception in
    undone_so (taken_at n d c.args.self.now (slice_get c.args.self.now.streams n)) c.args.self.now (without_front n d c.args.self.now) reception.device reception.event c.in-Err-step_at.fault _ (map g.D.Device.table c.self.inside.devices.items) (map g.D.Device.table c.step_at.new.devices.items) _ c.reserve_answer.new.self.log.sent _ c.reserve_answer.new.self.streams.streams
    c.self.view_is
    is.is
    (sym (ap (λ (w : World). w.tables) c.self.view_is))
    c.in-Err-step_at.ensures
    c.reserve_answer.ensures.sent
    c.reserve_answer.ensures.streams
