use Rattle.station_port.proofs.HostWalks.{found_at, none_at}
use Rattle.station_port.specs.Counters.HostLines.{is_line_feed}
use Rattle.station_port.proofs.counters.host_lines.line_end.Goals as goal

pub returns-in-Some-clause-first : goal.returns-in-Some-clause-first
returns-in-Some-clause-first c = found_at is_line_feed c.args.text.now c.in-Some.end c.in-Some.ensures.first

pub returns-in-None-clause-first : goal.returns-in-None-clause-first
returns-in-None-clause-first c = none_at is_line_feed c.args.text.now c.in-None.ensures.first
