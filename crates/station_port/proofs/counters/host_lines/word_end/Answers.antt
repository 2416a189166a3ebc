use Rattle.station_port.proofs.HostWalks.{found_at, none_at}
use Rattle.station_port.specs.Counters.HostLines.{is_space}
use Rattle.station_port.proofs.counters.host_lines.word_end.Goals as goal

pub returns-in-Some-clause-first : goal.returns-in-Some-clause-first
returns-in-Some-clause-first c = found_at is_space c.args.line.now c.in-Some.end c.in-Some.ensures.first

pub returns-in-None-clause-first : goal.returns-in-None-clause-first
returns-in-None-clause-first c = none_at is_space c.args.line.now c.in-None.ensures.first
