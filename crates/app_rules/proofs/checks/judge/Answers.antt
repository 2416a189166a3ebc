use Rattle.std.proofs.Common.{rules}
use Rattle.std.proofs.lemmas.Result.{err_from_is_err_and}
use Rattle.adapter_table.specs.Checks.{verdict}
use Rattle.app_rules.proofs.Order.{all_passed, refused_request, refused_points, refused_at_points}
use Rattle.app_rules.proofs.checks.judge.Goals as goal

pub returns-clause-verdict : goal.returns-clause-verdict
unfolding verdict
returns-clause-verdict g c = all_passed _ _ _ _ _ _ c.in_ok-path.ensures c.in_ok-transport.ensures.passed c.in_ok-points.ensures c.in_ok-check_points.ensures (search rules)

pub returns-in_err-transport-clause-verdict : goal.returns-in_err-transport-clause-verdict
unfolding verdict
returns-in_err-transport-clause-verdict g c =
    let p = err_from_is_err_and c.from_residual-in_err-transport.result c.from_residual-in_err-transport.ensures.1 in
    rw (p.1, p.2) (refused_request _ _ _ _ _ c.in_ok-path.ensures c.in_err-transport.ensures.passed)

pub returns-in_err-points-clause-verdict : goal.returns-in_err-points-clause-verdict
unfolding verdict
returns-in_err-points-clause-verdict g c =
    let p = err_from_is_err_and c.from_residual-in_err-points.result c.from_residual-in_err-points.ensures.1 in
    rw (p.1, p.2) (refused_points _ _ _ _ _ c.in_ok-path.ensures c.in_ok-transport.ensures.passed c.in_err-points.ensures)

pub returns-in_err-check_points-clause-verdict : goal.returns-in_err-check_points-clause-verdict
unfolding verdict
returns-in_err-check_points-clause-verdict g c =
    let p = err_from_is_err_and c.from_residual-in_err-check_points.result c.from_residual-in_err-check_points.ensures.1 in
    rw (p.1, p.2) (refused_at_points _ _ _ _ _ _ c.in_ok-path.ensures c.in_ok-transport.ensures.passed c.in_ok-points.ensures c.in_err-check_points.ensures)
