use Rattle.std.proofs.Common.{◌≡◌, length}
use Rattle.trace_outcomes.specs.Sums.Crc32.Crc.{crc_after}
use Rattle.trace_outcomes.proofs.sums.check_sequence.crc.crc32.Given as goal

-- the bytes so far and those that are left are all bytes
abbrev pub invariant-loop-rest : goal.invariant-loop-rest
invariant-loop-rest l = crc_after l.crc l.rest ≡ crc_after 0xFFFF_FFFF l.fn.bytes

abbrev pub decreases-loop-rest : goal.decreases-loop-rest
decreases-loop-rest l = length l.rest
