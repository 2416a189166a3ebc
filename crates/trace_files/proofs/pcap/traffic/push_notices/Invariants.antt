use Rattle.std.proofs.Common.{◌≡◌, ◌++◌, drop}
use Rattle.trace_files.specs.Pcap.Traffic.{notices_records, notices_streams}
use Rattle.trace_files.proofs.pcap.traffic.push_notices.Given as goal

-- the notices that are left add what all notices add to the first bytes and streams
abbrev pub invariant-loop-notice : goal.invariant-loop-notice
invariant-loop-notice l =
    (l.out.items ++ notices_records l.context (drop l.notice-index l.notices) l.streams.items ≡ l.fn.out.items ++ notices_records l.context l.notices l.fn.streams.items)
    × (notices_streams (drop l.notice-index l.notices) l.streams.items ≡ notices_streams l.notices l.fn.streams.items)
