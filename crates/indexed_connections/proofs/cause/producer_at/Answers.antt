use Rattle.std.proofs.Common.{sym, ap, Some, ◌∙◌}
use Rattle.indexed_connections.proofs.Written.{any_on, producer_is}
use Rattle.indexed_connections.proofs.cause.producer_at.Goals as goal

pub producer_with_hint-requires : goal.producer_with_hint-requires
producer_with_hint-requires c = sym (any_on c.args.cause c.args.number c.args.connections.now) ∙ c.requires

pub returns : goal.returns
returns c = ap (λ p. Some p) c.producer_on.ensures ∙ producer_is c.args.cause c.args.number c.args.connections.now _ c.producer_with_hint.ensures
