use Rattle.std.proofs.Common.{◌≡◌}
use Rattle.station_port.specs.Counters.HostLines.{behind_words}
use Rattle.station_port.proofs.counters.host_lines.word_behind.Given as goal

abbrev pub invariant-loop-left : goal.invariant-loop-left
invariant-loop-left l = behind_words l.left l.rest ≡ behind_words l.fn.count l.fn.line

abbrev pub decreases-loop-left : goal.decreases-loop-left
decreases-loop-left l = l.left
