use Rattle.scanner_data.proofs.Facts.{as_many}
use Rattle.scanner_data.proofs.outputs.set_mode.Goals as goal

pub renew_all-requires : goal.renew_all-requires
renew_all-requires c = rw c.as_slice.ensures (as_many _ _ _ _ c.requires.whole.slots)
