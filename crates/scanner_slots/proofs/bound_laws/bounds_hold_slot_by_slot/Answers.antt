use Rattle.scanner_slots.proofs.Singly.{each_bounded, all_bounded, earlier_bounded}
use Rattle.scanner_slots.proofs.bound_laws.bounds_hold_slot_by_slot.Goals as goal

pub returns : goal.returns
returns c = record { each = each_bounded; all = all_bounded; earlier = earlier_bounded }
