use Rattle.std.proofs.Common.{refl}
use Rattle.udp_runner.proofs.Driven.{drove_kept}
use Rattle.udp_runner.proofs.in_time.take_waiting.Goals as goal

pub returns-then-not-is_zero-clause-run : goal.returns-then-not-is_zero-clause-run
returns-then-not-is_zero-clause-run g c = drove_kept (g.O.Observer.notes) _ _ _ _ _ _ _ _ _ (λ sc. refl) refl
