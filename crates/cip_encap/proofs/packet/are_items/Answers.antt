use Rattle.std.proofs.Common.{sym, ◌∙◌}
use Rattle.cip_encap.proofs.AnyItemLaws.{items_more, items_stop, items_end}
use Rattle.cip_encap.proofs.packet.are_items.Goals as goal

pub returns-in-None : goal.returns-in-None
returns-in-None c = sym (items_stop c.args.count c.loop-done.done c.loop-done.rest.now c.loop-done-test.true (sym c.in-None.ensures)) ∙ c.loop-done.invariant

pub loop-done-preserved : goal.loop-done-preserved
loop-done-preserved c = sym (items_more c.args.count c.loop-done.done c.loop-done.rest.now c.in-Some.after.now c.loop-done-test.true (sym c.in-Some.ensures)) ∙ c.loop-done.invariant

pub returns : goal.returns
returns c = c.is_empty.ensures ∙ sym (items_end c.args.count c.loop-done.done c.loop-done.rest.now c.loop-done-test.false) ∙ c.loop-done.invariant
