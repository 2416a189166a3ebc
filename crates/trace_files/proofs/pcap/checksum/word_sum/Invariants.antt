use Rattle.std.proofs.Common.{◌≡◌, ◌+◌, ◌*◌, ◌≤◌, length}
use Rattle.trace_files.specs.Pcap.Checksum.{word_sum}
use Rattle.trace_files.proofs.pcap.checksum.word_sum.Given as goal

-- the words so far and those that are left are all words
abbrev pub invariant-loop-rest : goal.invariant-loop-rest
invariant-loop-rest l = (l.total + word_sum l.rest ≡ word_sum l.fn.bytes) × (l.total + 65535 * length l.rest ≤ 65535 * length l.fn.bytes)

abbrev pub decreases-loop-rest : goal.decreases-loop-rest
decreases-loop-rest l = length l.rest
