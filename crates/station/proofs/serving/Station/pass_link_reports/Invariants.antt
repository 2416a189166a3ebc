use Rattle.station.specs.Rests.{Rests}
use Rattle.station.proofs.serving.Station.pass_link_reports.Given as goal

-- the station rests
abbrev pub invariant-loop : goal.invariant-loop
invariant-loop g l = Rests (g.P.Port.is_scripted) (g.P.Port.tape) (g.P.Port.failed) l.initial.self l.self
