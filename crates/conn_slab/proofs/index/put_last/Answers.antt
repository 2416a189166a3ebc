use Rattle.std.proofs.Common.{◌≡◌, ◌++◌, [], ◌∷◌}
use Rattle.conn_slab.specs.Index.{items_of}
use Rattle.conn_slab.specs.Layout.{AreFiled}
use Rattle.conn_slab.proofs.Lookups.{added}
use Rattle.conn_slab.proofs.index.put_last.Goals as goal

whole : (c : goal.After-unwrap-2) → AreFiled c.insert_reserved-key.new.self c.insert.new.self.entries c.insert-2.new.self.entries × (items_of c.insert_reserved-key.new.self c.insert.new.self.entries ≡ items_of c.args.records.now c.args.by_triad.now.entries ++ c.args.opened ∷ [])
whole c =
    let put = rw c.unwrap.ensures at c.insert.ensures.entries in
    let finds = rw c.unwrap.ensures at c.insert.ensures.updates in
    let placed = rw c.unwrap-2.ensures at c.insert-2.ensures.updates in
    added c.args.records.now c.args.by_triad.now.entries c.args.by_source.now.entries c.requires.filed
    c.insert_reserved-key.new.self c.insert.new.self.entries c.insert-2.new.self.entries c.insert_reserved-key.result c.args.opened
    c.key_for-name.result c.source_of-source.result c.key_for-name.ensures c.source_of-source.ensures
    c.insert_reserved-key.ensures.was_vacant c.insert_reserved-key.ensures.updates
    c.requires.new_triad c.requires.new_source
    put finds.0 c.insert.ensures.unique placed.0

pub returns-clause-filed : goal.returns-clause-filed
returns-clause-filed c = (whole c).0

pub returns-clause-items : goal.returns-clause-items
returns-clause-items c = (whole c).1
