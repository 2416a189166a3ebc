use Rattle.std.proofs.Common.{◌∙◌, true}
use Rattle.udp_runner.proofs.Driven.{drove_one}
use Rattle.udp_runner.proofs.SentOutputs.{sends_none}
use Rattle.udp_runner.proofs.runner.deliver.Goals as goal

pub returns : goal.returns
returns g c =
    drove_one (g.O.Observer.notes) (g.P.Port.is_scripted) true _ _ _ _
    (rw c.as_slice.ensures at c.deliver-delivery.ensures) c.delivered.ensures
    (λ scripted. c.give_back.ensures.kept scripted ∙ sends_none (g.P.Port.tape c.args.port.now)) c.give_back.ensures.worked
