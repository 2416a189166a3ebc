use Rattle.std.proofs.Common.{take}
use Rattle.std.specs.List.{flat_map}
use Rattle.cip_events.specs.Transmission.{SendsAll}
use Rattle.cip_events.proofs.sending.send_all.Given as goal

-- the outputs so far went
abbrev pub invariant-loop-part : goal.invariant-loop-part
invariant-loop-part g l = record {
  went : SendsAll (g.O.Outlet.sends l.outlet) l.initial.network (flat_map g.P.AnswerPart.outputs (take l.part-index l.parts)) l.network;
  ready : g.O.Outlet.is_ready l.network;
}
