use Rattle.std.proofs.Common.{refl}
use Rattle.adapter.proofs.state.datagrams.apply.Goals as goal

pub apply-requires-clause-output : goal.apply-requires-clause-output
apply-requires-clause-output c = c.requires.output c.in-Applied.bytes.now (rw c.in-Applied.is (refl, refl))
