use Rattle.std.proofs.Common.{◌≤◌, length}
use Rattle.scanner_slots.proofs.Few.{few_slots}
use Rattle.scanner_slots.proofs.due.has_place.Goals as goal

pub openings_at-requires : goal.openings_at-requires
openings_at-requires c =
    let few : length c.args.profile.now.slots ≤ 64 = few_slots c.args.profile.now c.requires in
    rw c.as_slice.ensures few
