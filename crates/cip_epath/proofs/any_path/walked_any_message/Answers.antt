use Rattle.std.proofs.Common.{arith, sym, ◌∙◌}
use Rattle.std.specs.Option.{option_map}
use Rattle.std.proofs.lemmas.Result.{err_from_is_err_and}
use Rattle.cip_epath.specs.ElectronicKey.{view_key}
use Rattle.cip_epath.specs.Laws.AnyLaws.{any_behind}
use Rattle.cip_epath.proofs.Walks.{some_left, none_left, gives_seen}
use Rattle.cip_epath.proofs.AnyWalk.{any_message_starts, any_message_then, any_message_ends, any_message_stops}
use Rattle.cip_epath.proofs.any_path.walked_any_message.Goals as goal

pub loop-rest-init : goal.loop-rest-init
loop-rest-init c = any_message_starts _ (λ i. omega (arith, c.type_inv.bytes i))

pub loop-rest-smaller : goal.loop-rest-smaller
loop-rest-smaller c = (any_behind _ _ _ c.loop-rest.invariant.fits c.in_ok-segment.ensures).shorter

pub loop-rest-preserved : goal.loop-rest-preserved
loop-rest-preserved c = let h = any_message_then _ _ _ _ _ c.loop-rest.invariant c.in_ok-segment.ensures in rw (c.then-builder.ensures) h

pub returns-in_err-segment : goal.returns-in_err-segment
returns-in_err-segment c =
    let p = err_from_is_err_and c.from_residual.result c.from_residual.ensures.1 in
    rw (p.1, p.2) (sym (any_message_stops _ _ _ _ c.loop-rest.invariant (some_left _ _ c.is_empty.ensures c.loop-rest-test.true) c.in_err-segment.ensures))

pub returns : goal.returns
returns c = sym (any_message_ends _ _ _ c.loop-rest.invariant (none_left _ _ c.is_empty.ensures c.loop-rest-test.false) ∙ gives_seen (option_map view_key) _ _ c.finished_message.ensures)
