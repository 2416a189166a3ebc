use Rattle.std.proofs.Common.{arith}
use Rattle.cip_encap.proofs.StreamLaws.{walk_more, walk_ends, left_is_small}
use Rattle.cip_encap.proofs.splitter.messages_of.Goals as goal

pub loop-text-preserved : goal.loop-text-preserved
loop-text-preserved c =
    let more = walk_more c.args.stream.now c.loop-text.rest.now c.in-Some.text.now c.in-Some.after.now c.loop-text.messages.items c.loop-text.invariant c.in-Some.ensures.0 c.in-Some.ensures.1 in
    rw (c.in_ok-push.ensures.items, c.in_ok-copy_of.ensures) more

pub returns-clause-messages : goal.returns-clause-messages
returns-clause-messages c = rw c.in_ok-rest.ensures.items (walk_ends c.args.stream.now c.loop-text.rest.now c.loop-text.messages.items c.loop-text.invariant c.in_default.ensures)

pub returns-clause-small : goal.returns-clause-small
returns-clause-small c = left_is_small c.args.stream.now c.in_ok-rest.rest.items c.loop-text.messages.items (λ i. omega (arith, c.type_inv.stream i)) (returns-clause-messages c)
