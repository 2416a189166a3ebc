use Rattle.station.specs.Lives.{ticks_of}
use Rattle.station.specs.Recorded.{Does, Recorded}
use Rattle.station.proofs.serving.Station.time_out_owners.Given as goal

-- so many of the longest ticks were made, and the recorder has noted what the device did
abbrev pub invariant-loop : goal.invariant-loop
invariant-loop g l = record {
  recorded : Recorded (g.W.RecordSink.contents) (g.P.Port.is_scripted) (g.C.Clock.is_scripted) (g.C.Clock.coming) (g.P.Port.tape) (g.P.Port.failed) (g.D.Device.table) l.initial.self l.self;
  aged : Does (g.W.RecordSink.contents) (g.P.Port.is_scripted) (g.C.Clock.is_scripted) (g.C.Clock.coming) (g.P.Port.tape) (g.P.Port.failed) (g.D.Device.table) (ticks_of l.counter) l.initial.self l.self;
}
