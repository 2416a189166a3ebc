use Rattle.std.proofs.Common.{◌∙◌, length, sym, ap, arith}
use Rattle.std.proofs.lemmas.List.{length-map}
use Rattle.conn_slab.specs.Index.{items_of}
use Rattle.conn_slab.specs.Records.{row_of}
use Rattle.conn_slab.proofs.Lookups.{items_len}
use Rattle.conn_slab.proofs.connections.Connections.len.Goals as goal

pub returns-clause-len : goal.returns-clause-len
returns-clause-len c =
    let own = c.self.inside in
    c.len.ensures.len ∙ sym (items_len own.records own.by_source.entries own.by_triad.entries c.self.invariant.filed.by_name)
    ∙ sym (length-map (items_of own.records own.by_triad.entries) (row_of own.pool)) ∙ ap (λ l. length l) c.self.view_is

pub returns-clause-few : goal.returns-clause-few
returns-clause-few c =
    let own = c.self.inside in
    let same = items_len own.records own.by_source.entries own.by_triad.entries c.self.invariant.filed.by_name in
    let few = c.self.invariant.few in
    let len = c.len.ensures.len in
    omega arith
