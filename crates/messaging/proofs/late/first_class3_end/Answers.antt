use Rattle.std.proofs.Common.{◌≡◌, ◌+◌, ◌∙◌, ap, min, get_or, arith}
use Rattle.messaging.specs.declared.class3.Class3Connection.{Class3Connection}
use Rattle.messaging.specs.Times.{class3_end}
use Rattle.messaging.proofs.Deadlines.{first_begins, first_more, first_done}
use Rattle.messaging.proofs.late.first_class3_end.Goals as goal

pub loop-class3-init : goal.loop-class3-init
loop-class3-init c = first_begins class3_end c.args.class3_connections.now

pub loop-class3-preserved : goal.loop-class3-preserved
loop-class3-preserved c =
    let next : c.min-first.result ≡ min c.loop-class3.first (class3_end (get_or c.args.class3_connections.now c.loop-class3.class3-index c.class3-item.result)) =
    c.min-first.ensures ∙ ap (λ (d : Class3Connection). min c.loop-class3.first (class3_end d)) c.class3-item.is in
    first_more class3_end c.loop-class3.first c.min-first.result c.loop-class3.class3-index c.args.class3_connections.now c.class3-item.result c.loop-class3-test.true next c.loop-class3.invariant (c.loop-class3.class3-index + 1) (omega arith)

pub returns : goal.returns
returns c = first_done class3_end c.loop-class3.first c.loop-class3.class3-index c.args.class3_connections.now c.loop-class3-test.false c.loop-class3.invariant
