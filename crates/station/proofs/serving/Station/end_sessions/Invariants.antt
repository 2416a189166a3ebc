use Rattle.std.proofs.Common.{drop}
use Rattle.station.proofs.SessionEnds.{EndsSoFar}
use Rattle.station.proofs.serving.Station.end_sessions.Given as goal

-- the sessions so far were ended, and the others are left
abbrev pub invariant-loop-session : goal.invariant-loop-session
invariant-loop-session g l = EndsSoFar (g.P.Port.is_scripted) (g.P.Port.tape) (g.P.Port.failed) l.sessions (drop l.session-index l.sessions) l.initial.self l.self
