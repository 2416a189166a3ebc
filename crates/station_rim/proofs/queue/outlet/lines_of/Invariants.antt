use Rattle.std.proofs.Common.{◌≡◌, drop}
use Rattle.station_rim.specs.Queue.Outlets.{lines_of, lines_on}
use Rattle.station_rim.proofs.queue.outlet.lines_of.Given as goal

-- the bytes that are left add their lines to those so far
abbrev pub invariant-loop-byte : goal.invariant-loop-byte
invariant-loop-byte l = lines_on l.lines (drop l.byte-index l.text) ≡ lines_of l.text
