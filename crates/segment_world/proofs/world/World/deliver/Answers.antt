use Rattle.std.proofs.Common.{map, sym}
use Rattle.segment_world.specs.World.{World}
use Rattle.segment_world.proofs.Acts.{delivered_so}
use Rattle.segment_world.proofs.world.World.deliver.Goals as goal

pub returns-clause-follows : goal.returns-clause-follows
returns-clause-follows g c =
    let mid : World = (record { nodes = c.self.inside.nodes.items; tables = map g.D.Device.table c.self.inside.devices.items; sent = c.self.inside.traffic.log.sent; streams = c.self.inside.traffic.streams.streams }) in
    delivered_so c.args.self.now mid c.args.device c.args.index (record { from = c.in-Some.from; bytes = c.in-Some.bytes.now }) c.deliver_at-delivery.result c.plain.result (map g.D.Device.table c.deliver_at-delivery.new.devices.items)
    c.self.view_is
    (sym c.in-Some.ensures)
    c.deliver_at-delivery.ensures
    c.plain.ensures
