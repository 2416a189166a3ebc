use Rattle.std.proofs.Common.{map, ◌≡◌, List, slice_get, slice_index_or, refl, sym, ap, ◌∙◌}
use Rattle.std.proofs.lemmas.List.{length-map}
use Rattle.cip_types.specs.declared.names.Node.{Node}
use Rattle.segment_world.specs.Transit.Fronts.{view_front}
use Rattle.segment_world.specs.World.{World, node_at}
use Rattle.segment_world.proofs.Acts.{stands, comes_over, comes_over_possibly}
use Rattle.segment_world.proofs.world.World.reception.Goals as goal

pub returns-in-Ok-clause-reception : goal.returns-in-Ok-clause-reception
returns-in-Ok-clause-reception g c =
    let mid : World = (record { nodes = c.self.inside.nodes.items; tables = map g.D.Device.table c.self.inside.devices.items; sent = c.self.inside.traffic.log.sent; streams = c.self.inside.traffic.streams.streams }) in
    let at = stands c.self.inside.nodes.items (map g.D.Device.table c.self.inside.devices.items) c.self.inside.traffic.log.sent c.self.inside.traffic.streams.streams c.args.self.now c.receiver_of-device.result c.in-Some-node_of.node c.self.view_is (c.self.invariant ∙ sym (length-map c.self.inside.devices.items g.D.Device.table)) (ap (λ l. slice_get l c.receiver_of-device.result) (sym c.deref.ensures.value) ∙ sym c.node_of.ensures ∙ c.in-Some-node_of.is) in
    let peer : c.node_or_zero-peer.result ≡ node_at mid c.sender_of.result = c.node_or_zero-peer.ensures ∙ ap (λ (l : List Node). slice_index_or l c.sender_of.result (record { 0 = 0 })) c.deref-2.ensures.value in
    record {
      is = comes_over c.args.stream c.args.direction mid c.args.self.now c.in-Some.endpoints (view_front c.in-Some-front.front) c.receiver_of-device.result c.sender_of.result c.node_or_zero-peer.result c.into_event.result c.self.view_is c.in-Some.ensures c.in-Some-front.ensures c.receiver_of-device.ensures c.sender_of.ensures peer (c.into_event.ensures ∙ c.in-Ok.ensures);
      node = at.1;
    }

pub returns-in-Err-clause-fault : goal.returns-in-Err-clause-fault
returns-in-Err-clause-fault g c =
    let mid : World = (record { nodes = c.self.inside.nodes.items; tables = map g.D.Device.table c.self.inside.devices.items; sent = c.self.inside.traffic.log.sent; streams = c.self.inside.traffic.streams.streams }) in
    let at = stands c.self.inside.nodes.items (map g.D.Device.table c.self.inside.devices.items) c.self.inside.traffic.log.sent c.self.inside.traffic.streams.streams c.args.self.now c.receiver_of-device.result c.in-Some-node_of.node c.self.view_is (c.self.invariant ∙ sym (length-map c.self.inside.devices.items g.D.Device.table)) (ap (λ l. slice_get l c.receiver_of-device.result) (sym c.deref.ensures.value) ∙ sym c.node_of.ensures ∙ c.in-Some-node_of.is) in
    (comes_over_possibly c.args.stream c.args.direction mid c.args.self.now c.in-Some.endpoints (view_front c.in-Some-front.front) c.receiver_of-device.result c.self.view_is c.in-Some.ensures c.in-Some-front.ensures c.receiver_of-device.ensures at.0, refl)
