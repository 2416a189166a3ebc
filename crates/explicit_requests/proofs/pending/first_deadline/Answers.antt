use Rattle.std.proofs.Common.{◌+◌, arith}
use Rattle.explicit_requests.proofs.Deadlines.{due_of_none, due_more, due_of_all}
use Rattle.explicit_requests.proofs.pending.first_deadline.Goals as goal

pub loop-explicit-init : goal.loop-explicit-init
loop-explicit-init c = record { so_far = due_of_none c.args.pending.now; within = omega arith }

pub loop-explicit-preserved : goal.loop-explicit-preserved
loop-explicit-preserved c = record {
  so_far = due_more c.loop-explicit.first c.min-first.result c.loop-explicit.explicit-index c.args.pending.now _ c.loop-explicit-test.true c.min-first.ensures c.loop-explicit.invariant.so_far (c.loop-explicit.explicit-index + 1) (omega arith);
  within = omega (arith, c.min-first.ensures, c.loop-explicit.invariant.within);
}

pub returns : goal.returns
returns c = due_of_all c.loop-explicit.first c.loop-explicit.explicit-index c.args.pending.now c.loop-explicit-test.false c.loop-explicit.invariant.so_far c.loop-explicit.invariant.within
