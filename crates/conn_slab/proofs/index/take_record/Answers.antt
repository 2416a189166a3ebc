use Rattle.std.proofs.Common.{◌≡◌, sym, ap, ◌∙◌, None, not, filter, rules}
use Rattle.conn_slab.specs.Index.{items_of}
use Rattle.conn_slab.specs.Records.{is_of}
use Rattle.conn_slab.specs.Layout.{AreFiled}
use Rattle.conn_slab.proofs.Lookups.{at_name, no_name, filter_none, name_held, taken}
use Rattle.conn_slab.proofs.index.take_record.Goals as goal

left : (c : goal.After-swap_remove) → AreFiled c.remove-record.new.self c.shift_remove.new.self.entries c.swap_remove.new.self.entries × (items_of c.remove-record.new.self c.shift_remove.new.self.entries ≡ filter (λ r. not (is_of c.args.name r)) (items_of c.args.records.now c.args.by_triad.now.entries))
left c =
    taken c.args.records.now c.args.by_triad.now.entries c.args.by_source.now.entries c.requires
    c.remove-record.new.self c.shift_remove.new.self.entries c.swap_remove.new.self.entries
    c.args.name c.in_ok-key.key c.remove-record.result c.source_of.result
    (sym c.in_ok-key.ensures.value) c.remove-record.ensures.value c.remove-record.ensures.updates
    c.in_ok-key.ensures.entries c.in_ok-key.ensures.updates.0 c.in_ok-key.ensures.unique
    c.source_of.ensures c.swap_remove.ensures.updates.0

pub returns-in_err-key-clause-taken : goal.returns-in_err-key-clause-taken
returns-in_err-key-clause-taken c =
    let none : c.from_residual.result ≡ None = search rules in
    none ∙ sym (no_name c.args.records.now c.args.by_triad.now.entries c.args.by_source.now.entries c.requires c.args.name (sym c.in_err-key.ensures.value))

pub returns-in_err-key-clause-rest : goal.returns-in_err-key-clause-rest
returns-in_err-key-clause-rest c =
    ap (items_of c.args.records.now) c.in_err-key.ensures.unchanged
    ∙ sym (filter_none _ _ (no_name c.args.records.now c.args.by_triad.now.entries c.args.by_source.now.entries c.requires c.args.name (sym c.in_err-key.ensures.value)))

pub remove-record-requires : goal.remove-record-requires
remove-record-requires c = name_held c.args.records.now c.args.by_triad.now.entries c.args.by_source.now.entries c.requires c.args.name c.in_ok-key.key (sym c.in_ok-key.ensures.value)

pub returns-clause-filed : goal.returns-clause-filed
returns-clause-filed c = (left c).0

pub returns-clause-taken : goal.returns-clause-taken
returns-clause-taken c =
    let way = at_name c.args.records.now c.args.by_triad.now.entries c.args.by_source.now.entries c.requires c.args.name c.in_ok-key.key (sym c.in_ok-key.ensures.value) in
    sym c.remove-record.ensures.value ∙ way.1 ∙ sym way.3

pub returns-clause-rest : goal.returns-clause-rest
returns-clause-rest c = (left c).1
