use Rattle.std.proofs.Common.{◌≡◌, ◌≤◌, ◌∙◌, ◌++◌, ◌∷◌, [], List, map, length, sym, ap, subst, arith}
use Rattle.std.specs.Map.{lookup}
use Rattle.mcast_pool.specs.declared.group.Group.{Group}
use Rattle.conn_slab.specs.Index.{items_of}
use Rattle.conn_slab.specs.Records.{Record, row_of, record_of, key_for, key_of, same_key, source_of, same_source}
use Rattle.conn_slab.proofs.Lookups.{absent_name, absent_source}
use Rattle.conn_slab.proofs.Balance.{enters}
use Rattle.conn_slab.proofs.RowLemmas.{fit_last, agree_last, share_last, triad_last, source_last, few_established, long_last, length_last}
use Rattle.conn_slab.proofs.connections.append.Goals as goal

pub enter-requires-clause-few : goal.enter-requires-clause-few
enter-requires-clause-few c =
    let rs = items_of c.args.records.now c.args.by_triad.now.entries in
    let long = long_last c.args.pool.now rs c.args.row.now in
    let few = c.requires.fits.few in
    let sum = c.requires.consistent.balanced.sum in
    let some = few_established rs in
    omega arith

pub enter-requires-clause-may : goal.enter-requires-clause-may
enter-requires-clause-may c =
    let rs = items_of c.args.records.now c.args.by_triad.now.entries in
    let rows = map (row_of c.args.pool.now) rs in
    (enters c.args.row.now c.args.pool.now rs c.len-groups.ensures.groups c.requires.consistent.balanced (fit_last rows c.args.row.now c.requires.fits.fit) (agree_last rows c.args.row.now c.requires.fits.agree) (share_last rows c.args.row.now c.requires.fits.share)).0

pub put_last-requires-clause-new_triad : goal.put_last-requires-clause-new_triad
put_last-requires-clause-new_triad c =
    let rs = items_of c.args.records.now c.args.by_triad.now.entries in
    ap (λ (r : Record). lookup (same_key (key_of r)) c.args.by_triad.now.entries) c.record_of.ensures
    ∙ absent_name c.args.records.now c.args.by_triad.now.entries c.args.by_source.now.entries c.requires.consistent.filed (key_for c.args.row.now.triad) (triad_last c.args.pool.now rs c.args.row.now c.requires.fits.triads)

pub put_last-requires-clause-new_source : goal.put_last-requires-clause-new_source
put_last-requires-clause-new_source c =
    let rs = items_of c.args.records.now c.args.by_triad.now.entries in
    ap (λ (r : Record). lookup (same_source (source_of r)) c.args.by_source.now.entries) c.record_of.ensures
    ∙ absent_source c.args.records.now c.args.by_triad.now.entries c.args.by_source.now.entries c.requires.consistent.filed (source_of (record_of c.args.row.now)) (source_last c.args.pool.now rs c.args.row.now c.requires.fits.ids)

items_are : (c : goal.After-put_last) → items_of c.put_last.new.records c.put_last.new.by_triad.entries ≡ items_of c.args.records.now c.args.by_triad.now.entries ++ record_of c.args.row.now ∷ []
items_are c = c.put_last.ensures.items ∙ ap (λ (r : Record). items_of c.args.records.now c.args.by_triad.now.entries ++ r ∷ []) c.record_of.ensures

pub returns-clause-consistent : goal.returns-clause-consistent
returns-clause-consistent c =
    let rs = items_of c.args.records.now c.args.by_triad.now.entries in
    let rows = map (row_of c.args.pool.now) rs in
    let all = enters c.args.row.now c.args.pool.now rs c.len-groups.ensures.groups c.requires.consistent.balanced (fit_last rows c.args.row.now c.requires.fits.fit) (agree_last rows c.args.row.now c.requires.fits.agree) (share_last rows c.args.row.now c.requires.fits.share) in
    let long = long_last c.args.pool.now rs c.args.row.now in
    let more = length_last rs (record_of c.args.row.now) in
    let few = c.requires.fits.few in
    let short : length (rs ++ record_of c.args.row.now ∷ []) ≤ 64 = omega arith in
    record {
      filed = c.put_last.ensures.filed;
      balanced = rw (items_are c, c.enter.ensures) all.1;
      few = subst (λ (l : List Record). length l ≤ 64) (sym (items_are c)) short;
    }

pub returns-clause-rows : goal.returns-clause-rows
returns-clause-rows c =
    let rs = items_of c.args.records.now c.args.by_triad.now.entries in
    let rows = map (row_of c.args.pool.now) rs in
    let all = enters c.args.row.now c.args.pool.now rs c.len-groups.ensures.groups c.requires.consistent.balanced (fit_last rows c.args.row.now c.requires.fits.fit) (agree_last rows c.args.row.now c.requires.fits.agree) (share_last rows c.args.row.now c.requires.fits.share) in
    ap (map (row_of c.enter.new.pool)) (items_are c)
    ∙ ap (λ (pool : List Group). map (row_of pool) (rs ++ record_of c.args.row.now ∷ [])) c.enter.ensures
    ∙ all.2
