use Rattle.station.specs.Rests.{Rests}
use Rattle.station.proofs.serving.Station.print_from.Given as goal

-- the station rests
abbrev pub invariant-loop-place : goal.invariant-loop-place
invariant-loop-place g l = Rests (g.P.Port.is_scripted) (g.P.Port.tape) (g.P.Port.failed) l.initial.self l.self
