use Rattle.std.proofs.Common.{arith, refl, ap, sym, true}
use Rattle.udp_runner.specs.Turns.{ticks_of}
use Rattle.udp_runner.proofs.Driven.{drove_as, drove_kept}
use Rattle.udp_runner.proofs.runner.tick.Goals as goal

pub returns-then-ms-eq0 : goal.returns-then-ms-eq0
returns-then-ms-eq0 g c =
    drove_as (g.O.Observer.notes) (g.P.Port.is_scripted) true true _ _ 0 0 1 1 _ _ _ (λ ti. ti) (λ sc ti. ap ticks_of (sym c.if-ms-eq0.true)) refl (omega arith)
    (drove_kept (g.O.Observer.notes) _ _ _ _ _ _ _ _ _ (λ sc. refl) refl)
