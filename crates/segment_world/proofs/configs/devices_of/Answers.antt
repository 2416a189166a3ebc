use Rattle.segment_world.proofs.Listing.{first_good, made_more}
use Rattle.segment_world.proofs.configs.devices_of.Goals as goal

pub device_of-requires-clause-good : goal.device_of-requires-clause-good
device_of-requires-clause-good g c = (first_good _ _ c.in-Some.config c.in-Some.ensures.steps.0 c.loop-config.invariant.good).0

pub loop-config-preserved : goal.loop-config-preserved
loop-config-preserved g c =
    let steps = c.in-Some.ensures.steps.0 in
    record {
      made = made_more g.D.Device.table c.loop-config.devices.items c.push.new.self.items _ _ _ c.in-Some.config _ steps c.in_ok-device_of.ensures c.loop-config.invariant.made c.in_ok-push.ensures.items;
      good = (first_good _ _ c.in-Some.config steps c.loop-config.invariant.good).1;
    }
