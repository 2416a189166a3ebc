use Rattle.std.proofs.Common.{◌≡◌, drop}
use Rattle.station_lines.specs.Watch.Slots.{with_groups}
use Rattle.station_lines.proofs.watch.slots.add_groups.Given as goal

-- the slots that are left lead from the groups so far to all
abbrev pub invariant-loop-slot : goal.invariant-loop-slot
invariant-loop-slot l = with_groups (drop l.slot-index l.slots) l.groups.items ≡ with_groups l.slots l.initial.groups.items
