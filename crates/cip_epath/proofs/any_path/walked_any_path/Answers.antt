use Rattle.std.proofs.Common.{arith, sym, ◌∙◌}
use Rattle.std.proofs.lemmas.Result.{err_from_is_err_and}
use Rattle.cip_epath.specs.Path.{view_path}
use Rattle.cip_epath.specs.Laws.AnyLaws.{any_behind}
use Rattle.cip_epath.proofs.Walks.{some_left, none_left, gives_seen}
use Rattle.cip_epath.proofs.AnyWalk.{any_starts, any_then, any_ends, any_stops}
use Rattle.cip_epath.proofs.any_path.walked_any_path.Goals as goal

pub loop-rest-init : goal.loop-rest-init
loop-rest-init c = any_starts _ (λ i. omega (arith, c.type_inv.bytes i))

pub loop-rest-smaller : goal.loop-rest-smaller
loop-rest-smaller c = (any_behind _ _ _ c.loop-rest.invariant.fits c.in_ok-segment.ensures).shorter

pub loop-rest-preserved : goal.loop-rest-preserved
loop-rest-preserved c = let h = any_then _ _ _ _ _ _ c.loop-rest.invariant c.in_ok-segment.ensures in rw (c.then-builder.ensures, c.then-inhibits.ensures) h

pub returns-in_err-segment : goal.returns-in_err-segment
returns-in_err-segment c =
    let p = err_from_is_err_and c.from_residual.result c.from_residual.ensures.1 in
    rw (p.1, p.2) (sym (any_stops _ _ _ _ _ c.loop-rest.invariant (some_left _ _ c.is_empty.ensures c.loop-rest-test.true) c.in_err-segment.ensures))

pub returns : goal.returns
returns c = sym (any_ends _ _ _ _ c.loop-rest.invariant (none_left _ _ c.is_empty.ensures c.loop-rest-test.false) ∙ gives_seen view_path _ _ c.finished_any.ensures)
