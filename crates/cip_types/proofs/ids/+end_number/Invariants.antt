use Rattle.std.proofs.Common.{length}
use Rattle.cip_types.proofs.ids.+end_number.Given as goal

abbrev pub decreases-end_number : goal.decreases-end_number
decreases-end_number l = length l.blocks.now
