use Rattle.std.proofs.Common.{sym, ◌∙◌, ap, arith}
use Rattle.station_port.specs.Counters.HostLines.{word_of}
use Rattle.station_port.proofs.HostWalks.{words_next, words_over}
use Rattle.station_port.proofs.counters.host_lines.word_behind.Goals as goal

pub loop-left-preserved : goal.loop-left-preserved
loop-left-preserved c = rw c.behind_word-rest.ensures (sym (words_next c.loop-left.left c.loop-left.rest.now c.loop-left-test.true) ∙ c.loop-left.invariant)

pub returns : goal.returns
returns c = c.word_of.ensures ∙ ap word_of (sym (words_over c.loop-left.left c.loop-left.rest.now (omega arith)) ∙ c.loop-left.invariant)
