use Rattle.std.proofs.Common.{sym, ◌∙◌}
use Rattle.station_port.proofs.Alone.{among_first, among_more, among_stop, among_end}
use Rattle.station_port.proofs.named_ports.named.named_among.Goals as goal

pub returns-in-Some : goal.returns-in-Some
returns-in-Some c = c.in-Some.ensures ∙ sym (among_first c.args.count c.loop-done.done c.loop-done.rest.now c.in-Some.named c.loop-done-test.true (sym c.in-Some.ensures)) ∙ c.loop-done.invariant

pub returns-in-None : goal.returns-in-None
returns-in-None c = sym (among_stop c.args.count c.loop-done.done c.loop-done.rest.now c.loop-done-test.true (sym c.in_default.ensures) (sym c.in-None.ensures)) ∙ c.loop-done.invariant

pub loop-done-preserved : goal.loop-done-preserved
loop-done-preserved c = sym (among_more c.args.count c.loop-done.done c.loop-done.rest.now c.in-Some-after_item.after.now c.loop-done-test.true (sym c.in_default.ensures) (sym c.in-Some-after_item.ensures)) ∙ c.loop-done.invariant

pub returns : goal.returns
returns c = sym (among_end c.args.count c.loop-done.done c.loop-done.rest.now c.loop-done-test.false) ∙ c.loop-done.invariant
