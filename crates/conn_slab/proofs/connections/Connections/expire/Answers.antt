use Rattle.std.proofs.Common.{◌≡◌, ◌∙◌, Some, None, List, map, sym, ap, subst}
use Rattle.std.specs.List.{list_any}
use Rattle.std.specs.Map.{lookup}
use Rattle.mcast_pool.specs.declared.group.Group.{Group}
use Rattle.slab.specs.Slab.{with_value}
use Rattle.adapter_table.specs.Connections.{Row}
use Rattle.adapter_table.specs.Rows.{holds_triad}
use Rattle.conn_slab.specs.Index.{items_of}
use Rattle.conn_slab.specs.Records.{row_of, key_for, same_key}
use Rattle.conn_slab.specs.Layout.{running_key}
use Rattle.conn_slab.specs.Connections.{timed_out_if}
use Rattle.conn_slab.proofs.Effects.{expired, unexpired}
use Rattle.conn_slab.proofs.connections.Connections.expire.Goals as goal

pub returns-in_default-clause-found : goal.returns-in_default-clause-found
returns-in_default-clause-found c =
    let own = c.self.inside in
    let none : running_key own.records (lookup (same_key (key_for c.args.triad)) own.by_triad.entries) ≡ None =
    ap (λ n. running_key own.records (lookup (same_key n) own.by_triad.entries)) (sym c.key_for.ensures) ∙ ap (running_key own.records) (sym c.get.ensures.value) ∙ sym c.running.ensures ∙ c.in_default.is in
    sym (unexpired own.records own.by_triad.entries own.by_source.entries own.pool c.self.invariant c.args.triad none).0 ∙ ap (list_any (holds_triad c.args.triad)) c.self.view_is

pub returns-in_default-clause-rows : goal.returns-in_default-clause-rows
returns-in_default-clause-rows c =
    let own = c.self.inside in
    let none : running_key own.records (lookup (same_key (key_for c.args.triad)) own.by_triad.entries) ≡ None =
    ap (λ n. running_key own.records (lookup (same_key n) own.by_triad.entries)) (sym c.key_for.ensures) ∙ ap (running_key own.records) (sym c.get.ensures.value) ∙ sym c.running.ensures ∙ c.in_default.is in
    let P : List Row → Type 0 = λ rows. rows ≡ map (timed_out_if c.args.triad) rows in
    subst P c.self.view_is (sym (unexpired own.records own.by_triad.entries own.by_source.entries own.pool c.self.invariant c.args.triad none).1)

pub leave-requires : goal.leave-requires
leave-requires c =
    let own = c.self.inside in
    let some : running_key own.records (lookup (same_key (key_for c.args.triad)) own.by_triad.entries) ≡ Some (c.in-Some.key, c.in-Some.number) =
    ap (λ n. running_key own.records (lookup (same_key n) own.by_triad.entries)) (sym c.key_for.ensures) ∙ ap (running_key own.records) (sym c.get.ensures.value) ∙ sym c.running.ensures ∙ c.in-Some.is in
    (expired own.records own.by_triad.entries own.by_source.entries own.pool c.self.invariant c.args.triad c.in-Some.key c.in-Some.number c.index_mut-record.result.now c.len-groups.ensures.groups some c.index_mut-record.ensures.value).in_use

pub invariant_of-self : goal.invariant_of-self
invariant_of-self c =
    let own = c.self.inside in
    let some : running_key own.records (lookup (same_key (key_for c.args.triad)) own.by_triad.entries) ≡ Some (c.in-Some.key, c.in-Some.number) =
    ap (λ n. running_key own.records (lookup (same_key n) own.by_triad.entries)) (sym c.key_for.ensures) ∙ ap (running_key own.records) (sym c.get.ensures.value) ∙ sym c.running.ensures ∙ c.in-Some.is in
    let all = expired own.records own.by_triad.entries own.by_source.entries own.pool c.self.invariant c.args.triad c.in-Some.key c.in-Some.number c.index_mut-record.result.now c.len-groups.ensures.groups some c.index_mut-record.ensures.value in
    rw c.leave.ensures.groups all.kept

pub returns-clause-found : goal.returns-clause-found
returns-clause-found c =
    let own = c.self.inside in
    let some : running_key own.records (lookup (same_key (key_for c.args.triad)) own.by_triad.entries) ≡ Some (c.in-Some.key, c.in-Some.number) =
    ap (λ n. running_key own.records (lookup (same_key n) own.by_triad.entries)) (sym c.key_for.ensures) ∙ ap (running_key own.records) (sym c.get.ensures.value) ∙ sym c.running.ensures ∙ c.in-Some.is in
    let all = expired own.records own.by_triad.entries own.by_source.entries own.pool c.self.invariant c.args.triad c.in-Some.key c.in-Some.number c.index_mut-record.result.now c.len-groups.ensures.groups some c.index_mut-record.ensures.value in
    sym all.found ∙ ap (list_any (holds_triad c.args.triad)) c.self.view_is

pub returns-clause-rows : goal.returns-clause-rows
returns-clause-rows c =
    let own = c.self.inside in
    let some : running_key own.records (lookup (same_key (key_for c.args.triad)) own.by_triad.entries) ≡ Some (c.in-Some.key, c.in-Some.number) =
    ap (λ n. running_key own.records (lookup (same_key n) own.by_triad.entries)) (sym c.key_for.ensures) ∙ ap (running_key own.records) (sym c.get.ensures.value) ∙ sym c.running.ensures ∙ c.in-Some.is in
    let all = expired own.records own.by_triad.entries own.by_source.entries own.pool c.self.invariant c.args.triad c.in-Some.key c.in-Some.number c.index_mut-record.result.now c.len-groups.ensures.groups some c.index_mut-record.ensures.value in
    ap (λ (pool : List Group). map (row_of pool) (items_of (with_value own.records c.in-Some.key (record c.index_mut-record.result.now { state = None })) own.by_triad.entries)) c.leave.ensures.groups
    ∙ all.rows ∙ ap (map (timed_out_if c.args.triad)) c.self.view_is
