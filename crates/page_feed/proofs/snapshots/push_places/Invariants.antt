use Rattle.std.proofs.Common.{◌≡◌, ◌++◌, string_bytes}
use Rattle.page_feed.specs.Snapshots.{connections_below}
use Rattle.page_feed.proofs.snapshots.push_places.Given as goal

-- the connections at the places so far
abbrev pub invariant-loop-place : goal.invariant-loop-place
invariant-loop-place g l = string_bytes l.out ≡ string_bytes l.fn.out ++ connections_below l.now_ms l.rows (g.D.Device.table l.device) l.place
