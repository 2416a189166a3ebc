use Rattle.std.proofs.Common.{◌≡◌, ◌++◌, map, sum, length}
use Rattle.std.specs.Vec.Iter.{into_iter_items}
use Rattle.device_lock.specs.Histories.{count_of, events_of}
use Rattle.device_lock.proofs.history.joined.Given as goal

-- what was taken out of the segments so far, and what is left in them
abbrev pub invariant-loop-segment : goal.invariant-loop-segment
invariant-loop-segment l = record {
  config : l.config ≡ l.fn.config;
  events : l.events.items ++ events_of (into_iter_items l.segment-iterator) ≡ events_of l.fn.segments.items;
  counts : l.counts.items ++ map count_of (into_iter_items l.segment-iterator) ≡ map count_of l.fn.segments.items;
  all : sum l.counts.items ≡ length l.events.items;
}
