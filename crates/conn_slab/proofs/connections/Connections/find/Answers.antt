use Rattle.std.proofs.Common.{◌≡◌, ◌∙◌, ◌&&◌, Bor, Option, Some, None, find, sym, ap}
use Rattle.std.specs.Option.{option_map, option_copied}
use Rattle.std.specs.Map.{lookup}
use Rattle.adapter_table.specs.Connections.{Row}
use Rattle.adapter_table.specs.Datagrams.{is_for}
use Rattle.conn_slab.specs.declared.record.Source.{Source}
use Rattle.conn_slab.specs.Index.{items_of}
use Rattle.conn_slab.specs.Records.{Record, row_of, same_source, source_of}
use Rattle.conn_slab.specs.Layout.{IsServed, running_key}
use Rattle.conn_slab.proofs.Running.{runs, by_source, nobody, somebody, target_is}
use Rattle.conn_slab.proofs.RowLemmas.{find_rows, found_all, live}
use Rattle.conn_slab.proofs.connections.Connections.find.Goals as goal

pub returns-in_err-key : goal.returns-in_err-key
returns-in_err-key c =
    let own = c.self.inside in
    let rs = items_of own.records own.by_triad.entries in
    let place : Source = record { peer = c.args.peer.0; id = c.args.id.0 } in
    let none : running_key own.records (lookup (same_source place) own.by_source.entries) ≡ None = ap (running_key own.records) (sym c.get.ensures.value) ∙ sym c.running.ensures ∙ c.in_err-key.was in
    let removed = nobody own.records own.by_triad.entries own.by_source.entries c.self.invariant.filed (λ r. same_source place (source_of r)) (lookup (same_source place) own.by_source.entries) (by_source own.records own.by_triad.entries own.by_source.entries c.self.invariant.filed place) none in
    c.from_residual.ensures
    ∙ sym (find_rows (row_of own.pool) (is_for c.args.peer c.args.id.0) (λ r. same_source place (source_of r) && runs r) (target_is own.pool c.args.peer c.args.id.0) rs ∙ ap (option_map (row_of own.pool)) removed)
    ∙ ap (find (is_for c.args.peer c.args.id.0)) c.self.view_is

found : (c : goal.In_ok-record) → find (λ r. same_source (record { peer = c.args.peer.0; id = c.args.id.0 }) (source_of r) && runs r) (items_of c.self.inside.records c.self.inside.by_triad.entries) ≡ Some c.in_ok-record.record.now
found c =
    let own = c.self.inside in
    let place : Source = record { peer = c.args.peer.0; id = c.args.id.0 } in
    let some : running_key own.records (lookup (same_source place) own.by_source.entries) ≡ Some (c.in_ok-key.key, c.in_ok-key.field-0-1) = ap (running_key own.records) (sym c.get.ensures.value) ∙ sym c.running.ensures ∙ c.in_ok-key.was in
    let way = somebody own.records own.by_triad.entries own.by_source.entries c.self.invariant.filed (λ r. same_source place (source_of r)) (lookup (same_source place) own.by_source.entries) (by_source own.records own.by_triad.entries own.by_source.entries c.self.invariant.filed place) c.in_ok-key.key c.in_ok-key.field-0-1 some in
    way.found_is ∙ sym way.stored ∙ sym c.get-2.ensures ∙ ap (λ (o : Option (Bor Record)). option_copied o) c.in_ok-record.was

pub row_of-requires : goal.row_of-requires
row_of-requires c =
    let own = c.self.inside in
    live own.pool c.in_ok-record.record.now c.in_ok-record.record.now.state
    (found_all (IsServed own.pool) (λ r. same_source (record { peer = c.args.peer.0; id = c.args.id.0 }) (source_of r) && runs r) (items_of own.records own.by_triad.entries) c.in_ok-record.record.now (found c) c.self.invariant.balanced.served)

pub returns : goal.returns
returns c =
    let own = c.self.inside in
    let rs = items_of own.records own.by_triad.entries in
    let place : Source = record { peer = c.args.peer.0; id = c.args.id.0 } in
    let some : running_key own.records (lookup (same_source place) own.by_source.entries) ≡ Some (c.in_ok-key.key, c.in_ok-key.field-0-1) = ap (running_key own.records) (sym c.get.ensures.value) ∙ sym c.running.ensures ∙ c.in_ok-key.was in
    let way = somebody own.records own.by_triad.entries own.by_source.entries c.self.invariant.filed (λ r. same_source place (source_of r)) (lookup (same_source place) own.by_source.entries) (by_source own.records own.by_triad.entries own.by_source.entries c.self.invariant.filed place) c.in_ok-key.key c.in_ok-key.field-0-1 some in
    let there = way.found_is ∙ sym way.stored ∙ sym c.get-2.ensures ∙ ap (λ (o : Option (Bor Record)). option_copied o) c.in_ok-record.was in
    ap (λ (r : Row). Some r) c.row_of.ensures
    ∙ sym (find_rows (row_of own.pool) (is_for c.args.peer c.args.id.0) (λ r. same_source place (source_of r) && runs r) (target_is own.pool c.args.peer c.args.id.0) rs ∙ ap (option_map (row_of own.pool)) there)
    ∙ ap (find (is_for c.args.peer c.args.id.0)) c.self.view_is
