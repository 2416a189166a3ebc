use Rattle.std.proofs.Common.{refl}
use Rattle.cip_events.specs.Outputs.AnswerOutput.{End}
use Rattle.udp_runner.specs.declared.output.SentOutput.TheVariants as sent
use Rattle.udp_runner.proofs.AtPorts.{puts_sent}
use Rattle.udp_runner.proofs.outlet.AtPortOutlet.close.Goals as goal

pub returns : goal.returns
returns g c =
    puts_sent (g.P.Port.is_scripted) (g.P.Port.tape) (g.P.Port.failed) _ _ (End c.args.stream) (sent.Close c.args.stream) c.send.result refl c.requires
    c.send.ensures.sent c.send.ensures.kept c.send.ensures.worked c.send.ensures.counted
