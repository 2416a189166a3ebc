use Rattle.std.proofs.Common.{sym, ◌∙◌, arith}
use Rattle.station_port.proofs.HostWalks.{decimal_next, decimal_over, no_decimal}
use Rattle.station_port.proofs.counters.host_lines.decimal_from.Goals as goal

pub returns-in_default : goal.returns-in_default
returns-in_default c =
    sym (no_decimal c.loop-byte.number c.args.word.now c.loop-byte.byte-index c.loop-byte-test.true (sym c.in_default.ensures))
    ∙ c.loop-byte.invariant.so_far

pub loop-byte-preserved : goal.loop-byte-preserved
loop-byte-preserved c = record {
  so_far = rw c.from.ensures (sym (decimal_next c.loop-byte.number c.args.word.now c.loop-byte.byte-index c.in-Some.digit c.loop-byte-test.true (sym c.in-Some.ensures))
      ∙ c.loop-byte.invariant.so_far);
  small = omega arith;
}

pub returns : goal.returns
returns c = sym (decimal_over c.loop-byte.number c.args.word.now c.loop-byte.byte-index c.loop-byte-test.false) ∙ c.loop-byte.invariant.so_far
