use Rattle.std.proofs.Common.{◌+◌, ◌∙◌, ap}
use Rattle.std.specs.List.{flat_map}
use Rattle.cip_events.specs.Outputs.{answer_outputs}
use Rattle.udp_runner.specs.Outputs.{output_sent, reply_sent}
use Rattle.udp_runner.proofs.AtPorts.{broke_counted, broke_some, went_sent, went_worked}
use Rattle.udp_runner.proofs.SentOutputs.{on_err_is, on_err_map, on_ok_map, sends_both, some_first, some_second}
use Rattle.udp_runner.proofs.runner.send.Goals as goal

pub returns-in_err-send_answer-clause-some : goal.returns-in_err-send_answer-clause-some
returns-in_err-send_answer-clause-some g c =
    on_err_is c.from_residual.result _
    (λ s. some_first _ _ (flat_map output_sent (answer_outputs c.args.answer.now)) (flat_map reply_sent c.args.answer.now.frames)
    (broke_some (g.P.Port.is_scripted) (g.P.Port.tape) (g.P.Port.failed) _ _ _ c.in_err-send_answer.ensures s))

pub returns-in_err-send_answer-clause-counted : goal.returns-in_err-send_answer-clause-counted
returns-in_err-send_answer-clause-counted g c =
    on_err_is c.from_residual.result _ (broke_counted (g.P.Port.is_scripted) (g.P.Port.tape) (g.P.Port.failed) _ _ _ c.in_err-send_answer.ensures)

pub returns-clause-sent : goal.returns-clause-sent
returns-clause-sent g c =
    on_ok_map c.send_replies.result _ _
    (λ second s. sends_both _ _ _ (flat_map output_sent (answer_outputs c.args.answer.now)) (flat_map reply_sent c.args.answer.now.frames)
    (went_sent (g.P.Port.is_scripted) (g.P.Port.tape) (g.P.Port.failed) _ _ _ c.in_ok-send_answer.ensures.0 s) (second s))
    (rw c.as_slice.ensures at c.send_replies.ensures.sent)

pub returns-clause-worked : goal.returns-clause-worked
returns-clause-worked g c =
    on_ok_map c.send_replies.result _ _
    (λ second. second ∙ went_worked (g.P.Port.is_scripted) (g.P.Port.tape) (g.P.Port.failed) _ _ _ c.in_ok-send_answer.ensures.0)
    c.send_replies.ensures.worked

pub returns-clause-some : goal.returns-clause-some
returns-clause-some g c =
    on_err_map c.send_replies.result _ _
    (λ second s. some_second _ _ _ (flat_map output_sent (answer_outputs c.args.answer.now)) (flat_map reply_sent c.args.answer.now.frames)
    (went_sent (g.P.Port.is_scripted) (g.P.Port.tape) (g.P.Port.failed) _ _ _ c.in_ok-send_answer.ensures.0 s) (second s))
    (rw c.as_slice.ensures at c.send_replies.ensures.some)

pub returns-clause-counted : goal.returns-clause-counted
returns-clause-counted g c =
    on_err_map c.send_replies.result _ _
    (λ second. second ∙ ap (λ n. n + 1) (went_worked (g.P.Port.is_scripted) (g.P.Port.tape) (g.P.Port.failed) _ _ _ c.in_ok-send_answer.ensures.0))
    c.send_replies.ensures.counted
