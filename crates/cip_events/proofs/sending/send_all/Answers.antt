use Rattle.std.proofs.Common.{arith}
use Rattle.std.proofs.lemmas.Result.{err_from_is_err_and}
use Rattle.cip_events.proofs.Sent.{breaks_within, flat_map_parts, went_on}
use Rattle.cip_events.proofs.sending.send_all.Goals as goal

pub returns-in_err-send : goal.returns-in_err-send
returns-in_err-send g c =
    let p = err_from_is_err_and c.from_residual.result c.from_residual.ensures.1 in
    rw p.1
    (breaks_within (g.O.Outlet.sends c.args.outlet.now) (g.O.Outlet.fails c.args.outlet.now) _ _ _ _ _ _ _ c.loop-part.invariant.went c.in_err-send.ensures
    (flat_map_parts g.P.AnswerPart.outputs _ c.loop-part.part-index _ (omega arith) c.part-item.is))

pub loop-part-preserved : goal.loop-part-preserved
loop-part-preserved g c = record {
  went =
      went_on (g.O.Outlet.sends c.args.outlet.now) g.P.AnswerPart.outputs _ c.loop-part.part-index _ _ _ _ (omega arith) c.part-item.is c.loop-part.invariant.went c.in_ok-send.ensures.0;
  ready = c.in_ok-send.ensures.1;
}
