use Rattle.std.proofs.Common.{map, slice_get, sym, ap, ◌∙◌}
use Rattle.cip_events.specs.declared.event.Event.{Event}
use Rattle.segment_world.specs.World.{World, event_at_device, event_of_call, event_of_ready}
use Rattle.segment_world.proofs.Acts.{done_so, undone_so}
use Rattle.segment_world.proofs.world.World.local.Goals as goal

pub returns-in-Ok-call_at : goal.returns-in-Ok-call_at
returns-in-Ok-call_at g c =
    let mid : World = (record { nodes = c.self.inside.nodes.items; tables = map g.D.Device.table c.self.inside.devices.items; sent = c.self.inside.traffic.log.sent; streams = c.self.inside.traffic.streams.streams }) in
    let event = event_of_ready c.in-Ok-ready.ready in
    done_so (event_at_device c.args.device (event_of_call c.args.call.now) c.args.self.now) c.args.self.now mid c.args.device event c.in-Ok-call_at.answer c.in-Some.node (map g.D.Device.table c.call_at.new.devices.items) c.fan_out.new.self.log.sent c.fan_out.new.self.streams.streams
    (ap (λ (e : Event). event_at_device c.args.device e c.args.self.now) (sym c.in-Ok-ready.ensures) ∙ ap (event_at_device c.args.device event) (sym c.self.view_is))
    c.in-Ok-call_at.ensures
    (ap (λ l. slice_get l c.args.device) (sym c.deref.ensures.value) ∙ sym c.node_of.ensures ∙ c.in-Some.is)
    (rw c.reserve_answer.ensures.sent at c.fan_out.ensures.sent)
    (rw c.reserve_answer.ensures.streams at c.fan_out.ensures.streams)

pub returns-in-Err : goal.returns-in-Err
returns-in-Err g c =
    let event = event_of_ready c.in-Ok-ready.ready in
    undone_so (event_at_device c.args.device (event_of_call c.args.call.now) c.args.self.now) c.args.self.now c.args.self.now c.args.device event c.in-Err.fault _ (map g.D.Device.table c.self.inside.devices.items) (map g.D.Device.table c.call_at.new.devices.items) _ c.reserve_answer.new.self.log.sent _ c.reserve_answer.new.self.streams.streams
    c.self.view_is
    (ap (λ (e : Event). event_at_device c.args.device e c.args.self.now) (sym c.in-Ok-ready.ensures))
    (sym (ap (λ (w : World). w.tables) c.self.view_is))
    c.in-Err.ensures
    c.reserve_answer.ensures.sent
    c.reserve_answer.ensures.streams
