use Rattle.station.specs.Lives.{turns_of}
use Rattle.station.specs.Recorded.{Does, Recorded}
use Rattle.station.proofs.serving.Station.wait_closed.Given as goal

-- so many turns were made, and the recorder has noted what the device did
abbrev pub invariant-loop : goal.invariant-loop
invariant-loop g l = record {
  recorded : Recorded (g.W.RecordSink.contents) (g.P.Port.is_scripted) (g.C.Clock.is_scripted) (g.C.Clock.coming) (g.P.Port.tape) (g.P.Port.failed) (g.D.Device.table) l.initial.self l.self;
  turned : Does (g.W.RecordSink.contents) (g.P.Port.is_scripted) (g.C.Clock.is_scripted) (g.C.Clock.coming) (g.P.Port.tape) (g.P.Port.failed) (g.D.Device.table) (turns_of l.counter) l.initial.self l.self;
}
