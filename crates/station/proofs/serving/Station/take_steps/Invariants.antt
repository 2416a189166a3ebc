use Rattle.station.specs.Lives.{TookMany}
use Rattle.station.specs.Recorded.{Recorded}
use Rattle.station.proofs.serving.Station.take_steps.Given as goal

-- so many steps were taken, and the recorder has noted what the device did
abbrev pub invariant-loop : goal.invariant-loop
invariant-loop g l = record {
  recorded : Recorded (g.W.RecordSink.contents) (g.P.Port.is_scripted) (g.C.Clock.is_scripted) (g.C.Clock.coming) (g.P.Port.tape) (g.P.Port.failed) (g.D.Device.table) l.initial.self l.self;
  many : TookMany (g.W.RecordSink.contents) (g.P.Port.is_scripted) (g.C.Clock.is_scripted) (g.C.Clock.coming) (g.P.Port.tape) (g.P.Port.failed) (g.D.Device.table) (g.S.StepSource.gives) l.counter l.initial.source l.initial.self l.source l.self;
}
