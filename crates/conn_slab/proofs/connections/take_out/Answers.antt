use Rattle.std.proofs.Common.{◌≡◌, ◌≤◌, ◌∙◌, List, Some, None, find, filter, map, not, length, sym, ap, subst, arith}
use Rattle.std.specs.Option.{option_map}
use Rattle.mcast_pool.specs.declared.group.Group.{Group}
use Rattle.adapter_table.specs.Rows.{has_triad}
use Rattle.conn_slab.specs.Index.{items_of}
use Rattle.conn_slab.specs.Records.{Record, row_of, is_of, key_for, left_by}
use Rattle.conn_slab.specs.Layout.{IsServed, IsBalanced}
use Rattle.conn_slab.proofs.Lookups.{filter_none, items_keys}
use Rattle.conn_slab.proofs.RowLemmas.{triad_is, find_rows, without_rows, lone_items, found_all, live, out_of, fewer}
use Rattle.conn_slab.proofs.connections.take_out.Goals as goal

none_of : (c : goal.After-from_residual) → find (is_of (key_for c.args.triad)) (items_of c.args.records.now c.args.by_triad.now.entries) ≡ None
none_of c = ap (λ n. find (is_of n) (items_of c.args.records.now c.args.by_triad.now.entries)) (sym c.key_for.ensures) ∙ sym c.take_record.ensures.taken ∙ c.in_err-record.was

same_items : (c : goal.After-from_residual) → items_of c.take_record.new.records c.take_record.new.by_triad.entries ≡ items_of c.args.records.now c.args.by_triad.now.entries
same_items c =
    c.take_record.ensures.rest ∙ ap (λ n. filter (λ r. not (is_of n r)) (items_of c.args.records.now c.args.by_triad.now.entries)) c.key_for.ensures
    ∙ filter_none (is_of (key_for c.args.triad)) (items_of c.args.records.now c.args.by_triad.now.entries) (none_of c)

pub returns-in_err-record-clause-consistent : goal.returns-in_err-record-clause-consistent
returns-in_err-record-clause-consistent c = record {
  filed = c.take_record.ensures.filed;
  balanced = subst (IsBalanced c.args.pool.now) (sym (same_items c)) c.requires.balanced;
  few = subst (λ (rs : List Record). length rs ≤ 64) (sym (same_items c)) c.requires.few;
}

pub returns-in_err-record-clause-taken : goal.returns-in_err-record-clause-taken
returns-in_err-record-clause-taken c =
    let rs = items_of c.args.records.now c.args.by_triad.now.entries in
    c.from_residual.ensures ∙ sym (find_rows (row_of c.args.pool.now) (has_triad c.args.triad) (is_of (key_for c.args.triad)) (triad_is c.args.pool.now c.args.triad) rs ∙ ap (option_map (row_of c.args.pool.now)) (none_of c))

pub returns-in_err-record-clause-rest : goal.returns-in_err-record-clause-rest
returns-in_err-record-clause-rest c =
    let rs = items_of c.args.records.now c.args.by_triad.now.entries in
    ap (map (row_of c.args.pool.now)) (same_items c ∙ sym (filter_none (is_of (key_for c.args.triad)) rs (none_of c))) ∙ sym (without_rows c.args.pool.now c.args.triad rs)

found : (c : goal.After-leave) → find (is_of (key_for c.args.triad)) (items_of c.args.records.now c.args.by_triad.now.entries) ≡ Some c.in_ok-record.record
found c = ap (λ n. find (is_of n) (items_of c.args.records.now c.args.by_triad.now.entries)) (sym c.key_for.ensures) ∙ sym c.take_record.ensures.taken ∙ c.in_ok-record.was

pub row_of-row-requires : goal.row_of-row-requires
row_of-row-requires c =
    let rs = items_of c.args.records.now c.args.by_triad.now.entries in
    live c.args.pool.now c.in_ok-record.record c.in_ok-record.record.state
    (found_all (IsServed c.args.pool.now) (is_of c.key_for.result) rs c.in_ok-record.record (sym c.take_record.ensures.taken ∙ c.in_ok-record.was) c.requires.balanced.served)

pub leave-requires : goal.leave-requires
leave-requires c =
    let rs = items_of c.args.records.now c.args.by_triad.now.entries in
    live c.args.pool.now c.in_ok-record.record c.in_ok-record.record.state
    (found_all (IsServed c.args.pool.now) (is_of c.key_for.result) rs c.in_ok-record.record (sym c.take_record.ensures.taken ∙ c.in_ok-record.was) c.requires.balanced.served)

rest_is : (c : goal.After-leave) → items_of c.take_record.new.records c.take_record.new.by_triad.entries ≡ filter (λ r. not (is_of (key_for c.args.triad) r)) (items_of c.args.records.now c.args.by_triad.now.entries)
rest_is c = c.take_record.ensures.rest ∙ ap (λ n. filter (λ r. not (is_of n r)) (items_of c.args.records.now c.args.by_triad.now.entries)) c.key_for.ensures

out : (c : goal.After-leave) → IsBalanced (left_by c.in_ok-record.record.state c.args.pool.now) (filter (λ r. not (is_of (key_for c.args.triad) r)) (items_of c.args.records.now c.args.by_triad.now.entries))
    × (map (row_of (left_by c.in_ok-record.record.state c.args.pool.now)) (filter (λ r. not (is_of (key_for c.args.triad) r)) (items_of c.args.records.now c.args.by_triad.now.entries)) ≡ map (row_of c.args.pool.now) (filter (λ r. not (is_of (key_for c.args.triad) r)) (items_of c.args.records.now c.args.by_triad.now.entries)))
out c =
    let rs = items_of c.args.records.now c.args.by_triad.now.entries in
    let keys = items_keys c.args.records.now c.args.by_source.now.entries c.args.by_triad.now.entries c.requires.filed.by_name in
    out_of c.args.pool.now rs (is_of (key_for c.args.triad)) c.in_ok-record.record c.len-groups.ensures.groups c.requires.balanced
    (lone_items (key_for c.args.triad) rs _ keys c.requires.filed.distinct) (found c)

pub returns-clause-consistent : goal.returns-clause-consistent
returns-clause-consistent c =
    let rs = items_of c.args.records.now c.args.by_triad.now.entries in
    let less = fewer (λ r. not (is_of (key_for c.args.triad) r)) rs in
    let few = c.requires.few in
    let short : length (filter (λ r. not (is_of (key_for c.args.triad) r)) rs) ≤ 64 = omega arith in
    record {
      filed = c.take_record.ensures.filed;
      balanced = rw (rest_is c, c.leave.ensures) (out c).0;
      few = subst (λ (l : List Record). length l ≤ 64) (sym (rest_is c)) short;
    }

pub returns-clause-taken : goal.returns-clause-taken
returns-clause-taken c =
    let rs = items_of c.args.records.now c.args.by_triad.now.entries in
    ap (λ r. Some r) c.row_of-row.ensures
    ∙ sym (find_rows (row_of c.args.pool.now) (has_triad c.args.triad) (is_of (key_for c.args.triad)) (triad_is c.args.pool.now c.args.triad) rs ∙ ap (option_map (row_of c.args.pool.now)) (found c))

pub returns-clause-rest : goal.returns-clause-rest
returns-clause-rest c =
    let rs = items_of c.args.records.now c.args.by_triad.now.entries in
    ap (map (row_of c.leave.new.pool)) (rest_is c)
    ∙ ap (λ (pool : List Group). map (row_of pool) (filter (λ r. not (is_of (key_for c.args.triad) r)) rs)) c.leave.ensures
    ∙ (out c).1 ∙ sym (without_rows c.args.pool.now c.args.triad rs)
