use Rattle.std.proofs.Common.{refl}
use Rattle.conn_slab.specs.Index.{items_of}
use Rattle.conn_slab.proofs.Members.{members_of}
use Rattle.conn_slab.proofs.connections.Connections.is_single.Goals as goal

pub returns-in-Some : goal.returns-in-Some
returns-in-Some c =
    let own = c.self.inside in
    rw (← c.self.view_is, members_of c.args.number own.pool (items_of own.records own.by_triad.entries) c.self.invariant.balanced, ← c.group_with_hint.ensures, c.in-Some.is) refl

pub returns-in-None : goal.returns-in-None
returns-in-None c =
    let own = c.self.inside in
    rw (← c.self.view_is, members_of c.args.number own.pool (items_of own.records own.by_triad.entries) c.self.invariant.balanced, ← c.group_with_hint.ensures, c.in-None.is) refl
