use Rattle.std.proofs.Common.{unwrap_or, ap, ◌∙◌}
use Rattle.std.proofs.lemmas.Option.{unwrap_or-slice_get}
use Rattle.segment_world.proofs.reception.node_or_zero.Goals as goal

pub returns : goal.returns
returns c = c.unwrap_or.ensures ∙ ap (λ o. unwrap_or o (record { 0 = 0 })) c.node_of.ensures ∙ unwrap_or-slice_get c.args.nodes.now c.args.device (record { 0 = 0 })
