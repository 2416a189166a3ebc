use Rattle.std.proofs.Common.{◌≡◌, ◌++◌, string_bytes}
use Rattle.page_feed.specs.Snapshots.{slots_below}
use Rattle.page_feed.proofs.snapshots.push_slots.Given as goal

-- the slots of the numbers so far
abbrev pub invariant-loop-number : goal.invariant-loop-number
invariant-loop-number g l = string_bytes l.out ≡ string_bytes l.fn.out ++ slots_below l.configs l.now_ms l.rows l.copy (g.D.Device.table l.device) l.number
