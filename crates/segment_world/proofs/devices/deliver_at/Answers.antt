use Rattle.segment_world.proofs.CameTo.{was_delivered}
use Rattle.segment_world.proofs.devices.deliver_at.Goals as goal

pub returns : goal.returns
returns g c = was_delivered g.D.Device.table c.args.devices.now.items c.args.device c.args.peer c.args.bytes.now c.deliver.result c.deliver.new.self c.index_mut.result.now c.requires c.index_mut.ensures.value c.deliver.ensures
