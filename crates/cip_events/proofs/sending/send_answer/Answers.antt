use Rattle.std.proofs.Common.{refl}
use Rattle.std.specs.List.{flat_map}
use Rattle.std.proofs.lemmas.Result.{err_from_is_err_and}
use Rattle.cip_events.specs.Outputs.{close_outputs}
use Rattle.cip_events.proofs.Sent.{breaks_within, sends_behind}
use Rattle.cip_events.proofs.sending.send_answer.Goals as goal

pub returns-in_err-send_all-2 : goal.returns-in_err-send_all-2
returns-in_err-send_all-2 g c =
    let p = err_from_is_err_and c.from_residual-in_err-send_all-2.result c.from_residual-in_err-send_all-2.ensures.1 in
    rw p.1
    (breaks_within (g.O.Outlet.sends c.args.outlet.now) (g.O.Outlet.fails c.args.outlet.now) _ _ _ _ _ (flat_map close_outputs c.args.answer.now.notices) _ c.in_ok-send_all.ensures.0 c.in_err-send_all-2.ensures
    (rw (c.as_slice.ensures, c.as_slice-2.ensures)))

pub returns : goal.returns
returns g c =
    sends_behind (g.O.Outlet.is_ready) (g.O.Outlet.sends c.args.outlet.now) (g.O.Outlet.fails c.args.outlet.now) _ _ _ _ _ _ c.send_all-3.result c.in_ok-send_all.ensures.0
    (sends_behind (g.O.Outlet.is_ready) (g.O.Outlet.sends c.args.outlet.now) (g.O.Outlet.fails c.args.outlet.now) _ _ _ _ _ _ c.send_all-3.result c.in_ok-send_all-2.ensures.0 c.send_all-3.ensures refl)
    (rw (c.as_slice.ensures, c.as_slice-2.ensures, c.as_slice-3.ensures))
