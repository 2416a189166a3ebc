use Rattle.segment_world.specs.World.{event_of_ready}
use Rattle.segment_world.proofs.CameTo.{came_to}
use Rattle.segment_world.proofs.devices.call_at.Goals as goal

pub returns : goal.returns
returns g c = came_to c.answers_are_small.ensures g.D.Device.table c.args.devices.now.items c.args.device (event_of_ready c.args.call) c.perform.result c.perform.new.device c.index.result.now c.index_mut.result.now c.requires c.index.ensures c.is_whole.ensures c.index_mut.ensures.value c.perform.ensures
