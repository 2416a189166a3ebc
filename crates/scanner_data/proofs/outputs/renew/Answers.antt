use Rattle.std.proofs.Common.{arith}
use Rattle.scanner_data.proofs.Changes.{renewed_all}
use Rattle.scanner_data.proofs.outputs.renew.Goals as goal

pub returns : goal.returns
returns c = renewed_all c.args.configs.now c.args.slots.now c.loop-index.slots c.loop-index.index (omega arith) c.loop-index.invariant
