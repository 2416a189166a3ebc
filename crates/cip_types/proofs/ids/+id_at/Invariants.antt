use Rattle.std.proofs.Common.{length}
use Rattle.cip_types.proofs.ids.+id_at.Given as goal

abbrev pub decreases-id_at : goal.decreases-id_at
decreases-id_at l = length l.blocks.now
