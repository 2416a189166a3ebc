use Rattle.std.proofs.Common.{unwrap_or, ap, ◌∙◌}
use Rattle.std.proofs.lemmas.Option.{unwrap_or-slice_get}
use Rattle.settling.proofs.search.cause.node_of.Goals as goal

pub returns : goal.returns
returns g c = c.unwrap_or.ensures ∙ ap (λ o. unwrap_or o (record { 0 = 0 })) c.node.ensures ∙ unwrap_or-slice_get c.args.world.now.nodes c.args.device (record { 0 = 0 })
