use Rattle.std.proofs.Common.{arith, ◌≡◌, ◌+◌, ◌<◌, ◌++◌, ◌∙◌, ap, get_or, length, take, drop}
use Rattle.std.specs.List.{flat_map}
use Rattle.std.proofs.lemmas.List.{get_or_default}
use Rattle.std.proofs.lemmas.Result.{err_from_is_err_and}
use Rattle.cip_events.specs.Outputs.AnswerOutput.{Datagram}
use Rattle.udp_runner.specs.Outputs.{copy_to, output_sent}
use Rattle.udp_runner.proofs.SentOutputs.{flat_map_parts, one_unsent, some_within}
use Rattle.udp_runner.proofs.outlet.AtPortOutlet.datagram.Goals as goal

pub returns-in_err-send : goal.returns-in_err-send
returns-in_err-send g c =
    let p = err_from_is_err_and c.from_residual.result c.from_residual.ensures.1 in
    rw p.1
    (record {
      some = λ is_scripted.
          let nodes = c.as_slice-node-items.result.now in
          let bytes = c.as_slice-bytes.result.now in
          let at = c.loop-node.node-index in
          let node = get_or nodes at c.args.datagram.now.address in
          let within : at < length nodes = omega arith in
          let parts : output_sent (Datagram c.args.datagram.now) ≡ flat_map (copy_to bytes) (take at nodes) ++ (copy_to bytes node ++ flat_map (copy_to bytes) (drop (at + 1) nodes)) =
          rw (← c.as_slice-node-items.ensures, ← c.as_slice-bytes.ensures) (flat_map_parts (copy_to bytes) nodes at node within (get_or_default nodes at _ _ within))
          in
          some_within (g.P.Port.tape c.args.network.now) _ _ _ _ _ _ (c.loop-node.invariant.sends is_scripted) (one_unsent _ _ _ (c.in_err-send.ensures.kept is_scripted)) parts;
      counted = c.in_err-send.ensures.counted ∙ ap (λ n. n + 1) c.loop-node.invariant.counted;
    })
