use Rattle.std.proofs.Common.{arith, sym, ◌∙◌}
use Rattle.std.specs.Option.{option_map}
use Rattle.std.proofs.lemmas.Result.{err_from_is_err_and}
use Rattle.cip_epath.specs.ElectronicKey.{view_key}
use Rattle.cip_epath.specs.Laws.Cuts.{segment_shrinks}
use Rattle.cip_epath.proofs.Walks.{some_left, none_left, gives_seen}
use Rattle.cip_epath.proofs.MessageWalk.{message_starts, message_then, message_ends, message_stops}
use Rattle.cip_epath.proofs.message_path.walked_message.Goals as goal

pub loop-rest-init : goal.loop-rest-init
loop-rest-init c = message_starts _ (λ i. omega (arith, c.type_inv.bytes i))

pub loop-rest-smaller : goal.loop-rest-smaller
loop-rest-smaller c = segment_shrinks _ _ _ c.loop-rest.invariant.fits c.in_ok-segment.ensures

pub loop-rest-preserved : goal.loop-rest-preserved
loop-rest-preserved c = let h = message_then _ _ _ _ _ c.loop-rest.invariant c.in_ok-segment.ensures in rw (c.then-builder.ensures) h

pub returns-in_err-segment : goal.returns-in_err-segment
returns-in_err-segment c =
    let p = err_from_is_err_and c.from_residual.result c.from_residual.ensures.1 in
    rw (p.1, p.2) (sym (message_stops _ _ _ _ c.loop-rest.invariant (some_left _ _ c.is_empty.ensures c.loop-rest-test.true) c.in_err-segment.ensures))

pub returns : goal.returns
returns c = sym (message_ends _ _ _ c.loop-rest.invariant (none_left _ _ c.is_empty.ensures c.loop-rest-test.false) ∙ gives_seen (option_map view_key) _ _ c.finished_message.ensures)
