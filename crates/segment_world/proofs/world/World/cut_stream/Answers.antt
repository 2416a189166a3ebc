use Rattle.std.proofs.Common.{map, sym, ◌∙◌}
use Rattle.segment_world.specs.World.{World}
use Rattle.segment_world.proofs.Acts.{cut_so, uncut_so}
use Rattle.segment_world.proofs.world.World.cut_stream.Goals as goal

pub returns-then-cut-clause-follows : goal.returns-then-cut-clause-follows
returns-then-cut-clause-follows g c =
    let mid : World = (record { nodes = c.self.inside.nodes.items; tables = map g.D.Device.table c.self.inside.devices.items; sent = c.self.inside.traffic.log.sent; streams = c.self.inside.traffic.streams.streams }) in
    cut_so c.args.stream mid c.args.self.now c.cut.new.self.streams c.self.view_is (sym c.if-cut.true ∙ c.cut.ensures.open) (c.cut.ensures.cut c.if-cut.true)

pub returns-clause-follows : goal.returns-clause-follows
returns-clause-follows g c =
    let mid : World = (record { nodes = c.self.inside.nodes.items; tables = map g.D.Device.table c.self.inside.devices.items; sent = c.self.inside.traffic.log.sent; streams = c.self.inside.traffic.streams.streams }) in
    uncut_so c.args.stream mid c.args.self.now c.cut.new.self.streams c.self.view_is (sym c.if-cut.false ∙ c.cut.ensures.open) (c.cut.ensures.kept c.if-cut.false)
