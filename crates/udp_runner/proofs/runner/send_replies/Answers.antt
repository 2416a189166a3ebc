use Rattle.std.proofs.Common.{arith}
use Rattle.udp_runner.specs.Outputs.{reply_sent}
use Rattle.udp_runner.proofs.SentOutputs.{flat_map_parts, on_err_is, some_within}
use Rattle.udp_runner.proofs.runner.send_replies.Goals as goal

pub returns-in_err-send_reply-clause-some : goal.returns-in_err-send_reply-clause-some
returns-in_err-send_reply-clause-some g c =
    on_err_is c.from_residual.result _
    (λ s. some_within _ _ _ _ _ _ _ (c.loop-frame.invariant.sends s) (c.in_err-send_reply.ensures.some s)
    (flat_map_parts reply_sent _ c.loop-frame.frame-index _ (omega arith) c.frame-item.is))
