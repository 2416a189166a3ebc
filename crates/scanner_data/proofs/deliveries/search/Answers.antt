use Rattle.scanner_slots.specs.Views.{table_of}
use Rattle.scanner_data.proofs.Facts.{few_slots}
use Rattle.scanner_data.proofs.deliveries.search.Goals as goal

pub find_slot-requires : goal.find_slot-requires
find_slot-requires g c = rw c.as_slice.ensures (few_slots (table_of c.args.profile.now c.args.scanner.now) c.requires.whole)
