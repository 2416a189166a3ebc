use Rattle.std.proofs.Common.{◌≡◌, ◌∙◌, ℕ, Bor, Option, Some, None, find, sym, ap}
use Rattle.std.specs.Option.{option_map, option_copied}
use Rattle.std.specs.Map.{lookup}
use Rattle.adapter_table.specs.Connections.{Row}
use Rattle.adapter_table.specs.Rows.{has_triad}
use Rattle.conn_slab.specs.Index.{items_of}
use Rattle.conn_slab.specs.Records.{Record, row_of, is_of, key_for, same_key}
use Rattle.conn_slab.specs.Layout.{IsServed}
use Rattle.conn_slab.proofs.Lookups.{at_name, no_name}
use Rattle.conn_slab.proofs.RowLemmas.{triad_is, find_rows, found_all, live}
use Rattle.conn_slab.proofs.connections.Connections.of.Goals as goal

pub returns-in_err-key : goal.returns-in_err-key
returns-in_err-key c =
    let own = c.self.inside in
    let rs = items_of own.records own.by_triad.entries in
    let absent : lookup (same_key (key_for c.args.triad)) own.by_triad.entries ≡ None =
    ap (λ n. lookup (same_key n) own.by_triad.entries) (sym c.key_for.ensures) ∙ sym c.get.ensures.value ∙ ap (λ (o : Option (Bor ℕ)). option_copied o) c.in_err-key.was in
    c.from_residual.ensures
    ∙ sym (find_rows (row_of own.pool) (has_triad c.args.triad) (is_of (key_for c.args.triad)) (triad_is own.pool c.args.triad) rs ∙ ap (option_map (row_of own.pool)) (no_name own.records own.by_triad.entries own.by_source.entries c.self.invariant.filed (key_for c.args.triad) absent))
    ∙ ap (find (has_triad c.args.triad)) c.self.view_is

pub returns-in_err-record : goal.returns-in_err-record
returns-in_err-record c =
    let own = c.self.inside in
    let way = at_name own.records own.by_triad.entries own.by_source.entries c.self.invariant.filed c.key_for.result c.in_ok-key.key.now (sym c.get.ensures.value ∙ ap (λ (o : Option (Bor ℕ)). option_copied o) c.in_ok-key.was) in
    let never : Some way.0 ≡ None = sym way.1 ∙ sym c.get-2.ensures ∙ ap (λ (o : Option (Bor Record)). option_copied o) c.in_err-record.was in
    absurd cc

found : (c : goal.In_ok-record) → (find (is_of c.key_for.result) (items_of c.self.inside.records c.self.inside.by_triad.entries) ≡ Some c.in_ok-record.record.now)
found c =
    let own = c.self.inside in
    let way = at_name own.records own.by_triad.entries own.by_source.entries c.self.invariant.filed c.key_for.result c.in_ok-key.key.now (sym c.get.ensures.value ∙ ap (λ (o : Option (Bor ℕ)). option_copied o) c.in_ok-key.was) in
    way.3 ∙ sym way.1 ∙ sym c.get-2.ensures ∙ ap (λ (o : Option (Bor Record)). option_copied o) c.in_ok-record.was

pub row_of-requires : goal.row_of-requires
row_of-requires c =
    let own = c.self.inside in
    live own.pool c.in_ok-record.record.now c.in_ok-record.record.now.state (found_all (IsServed own.pool) (is_of c.key_for.result) (items_of own.records own.by_triad.entries) c.in_ok-record.record.now (found c) c.self.invariant.balanced.served)

pub returns : goal.returns
returns c =
    let own = c.self.inside in
    let rs = items_of own.records own.by_triad.entries in
    let way = at_name own.records own.by_triad.entries own.by_source.entries c.self.invariant.filed c.key_for.result c.in_ok-key.key.now (sym c.get.ensures.value ∙ ap (λ (o : Option (Bor ℕ)). option_copied o) c.in_ok-key.was) in
    let there = way.3 ∙ sym way.1 ∙ sym c.get-2.ensures ∙ ap (λ (o : Option (Bor Record)). option_copied o) c.in_ok-record.was in
    ap (λ (r : Row). Some r) c.row_of.ensures
    ∙ sym (find_rows (row_of own.pool) (has_triad c.args.triad) (is_of (key_for c.args.triad)) (triad_is own.pool c.args.triad) rs ∙ ap (option_map (row_of own.pool)) (ap (λ n. find (is_of n) rs) (sym c.key_for.ensures) ∙ there))
    ∙ ap (find (has_triad c.args.triad)) c.self.view_is
