use Rattle.cip_types.specs.Indices.{Mapped}
use Rattle.station_lines.specs.Watch.DatagramCounts.Gaps.{window_after}
use Rattle.station_lines.proofs.watch.datagram_counts.gaps.note_each.Given as goal

-- the places so far have noted the gap
abbrev pub invariant-loop-window : goal.invariant-loop-window
invariant-loop-window l = Mapped (window_after l.number l.gap l.moved) l.initial.windows l.windows l.window-index
