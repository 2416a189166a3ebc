use Rattle.std.proofs.Common.{◌<◌, ℕ, slice_index}
use Rattle.settling.specs.Search.Histories.{bytes_of}
use Rattle.settling.proofs.search.finding.count_devices.Given as goal

abbrev pub invariant-loop-history : goal.invariant-loop-history
invariant-loop-history l = (i : ℕ) → i < l.history-index → slice_index (bytes_of l.histories) i < 256
