use Rattle.std.proofs.Common.{refl}
use Rattle.cip_events.specs.Outputs.AnswerOutput.{Message}
use Rattle.udp_runner.specs.declared.output.SentOutput.TheVariants as sent
use Rattle.udp_runner.proofs.AtPorts.{puts_sent}
use Rattle.udp_runner.proofs.outlet.AtPortOutlet.message.Goals as goal

pub returns : goal.returns
returns g c =
    puts_sent (g.P.Port.is_scripted) (g.P.Port.tape) (g.P.Port.failed) _ _ (Message c.args.stream c.args.bytes.now) (sent.Frame c.args.stream c.args.bytes.now) c.send.result refl c.requires
    c.send.ensures.sent c.send.ensures.kept c.send.ensures.worked c.send.ensures.counted
