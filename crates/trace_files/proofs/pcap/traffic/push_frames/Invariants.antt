use Rattle.std.proofs.Common.{◌≡◌, ◌++◌, drop}
use Rattle.trace_files.specs.Pcap.Traffic.{frames_records, frames_streams}
use Rattle.trace_files.proofs.pcap.traffic.push_frames.Given as goal

-- the frames that are left add what all frames add to the first bytes and streams
abbrev pub invariant-loop-frame : goal.invariant-loop-frame
invariant-loop-frame l =
    (l.out.items ++ frames_records l.context (drop l.frame-index l.frames) l.streams.items ≡ l.fn.out.items ++ frames_records l.context l.frames l.fn.streams.items)
    × (frames_streams (drop l.frame-index l.frames) l.streams.items ≡ frames_streams l.frames l.fn.streams.items)
