use Rattle.udp_runner.specs.declared.output.SentOutput.TheVariants as sent
use Rattle.udp_runner.proofs.SentOutputs.{on_err_map, one_unsent}
use Rattle.udp_runner.proofs.runner.send_reply.Goals as goal

pub returns-in-Peer-clause-some : goal.returns-in-Peer-clause-some
returns-in-Peer-clause-some g c =
    on_err_map c.send.result _ _ (λ kept s. rw c.in-Peer.is (one_unsent _ _ (sent.Reply _ _) (kept s))) c.send.ensures.kept
