use Rattle.station.specs.Lives.{starts_of}
use Rattle.station.specs.Recorded.{Does, Recorded}
use Rattle.station.proofs.serving.Station.start.Given as goal

-- the slots so far were requested, and the recorder has noted what the device did
abbrev pub invariant-loop-slot : goal.invariant-loop-slot
invariant-loop-slot g l = record {
  recorded : Recorded (g.W.RecordSink.contents) (g.P.Port.is_scripted) (g.C.Clock.is_scripted) (g.C.Clock.coming) (g.P.Port.tape) (g.P.Port.failed) (g.D.Device.table) l.initial.self l.self;
  requested : Does (g.W.RecordSink.contents) (g.P.Port.is_scripted) (g.C.Clock.is_scripted) (g.C.Clock.coming) (g.P.Port.tape) (g.P.Port.failed) (g.D.Device.table) (starts_of l.slot) l.initial.self l.self;
}
