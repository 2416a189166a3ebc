use Rattle.std.proofs.Common.{sym, ◌∙◌}
use Rattle.station_port.proofs.LinkNames.{names_past}
use Rattle.station_port.proofs.counters.requests.names_link.Goals as goal

pub loop-at-preserved : goal.loop-at-preserved
loop-at-preserved c =
    sym (names_past c.args.bytes.now c.loop-at.at c.loop-at-test.true (rw c.split_at.ensures.back at (sym c.begins_link.ensures ∙ c.if-begins_link.false)))
    ∙ c.loop-at.invariant
