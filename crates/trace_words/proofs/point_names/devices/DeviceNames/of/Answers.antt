use Rattle.std.proofs.Common.{◌∙◌}
use Rattle.trace_words.proofs.Found.{device_found}
use Rattle.trace_words.proofs.point_names.devices.DeviceNames.of.Goals as goal

pub returns : goal.returns
returns c = c.found.ensures ∙ device_found c.args.self.now.devices.items c.args.address.now
