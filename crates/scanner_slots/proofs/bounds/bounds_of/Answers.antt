use Rattle.std.proofs.Common.{◌≤◌, length, arith}
use Rattle.scanner_slots.proofs.Few.{few_slots}
use Rattle.scanner_slots.proofs.bounds.bounds_of.Goals as goal

pub bounds_among-requires : goal.bounds_among-requires
bounds_among-requires c =
    let few : length c.args.profile.now.slots ≤ 64 = few_slots c.args.profile.now c.requires in
    rw c.as_slice.ensures (omega (arith, few))
