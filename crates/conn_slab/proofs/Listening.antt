-- Listen-only connections are those of listen-only records.
use Rattle.std.proofs.Common.{◌≡◌, ℕ, ◌||◌, List, [], ◌∷◌, map, Option, Some, None, is_some, refl, ap, ◌∙◌}
use Rattle.std.specs.List.{list_any, cons_option}
use Rattle.std.specs.Map.{values_of}
use Rattle.slab.specs.Slab.{Slab, get}
use Rattle.adapter_table.specs.Rows.{lives}
use Rattle.mcast_pool.specs.declared.group.Group.{Group}
use Rattle.conn_slab.specs.declared.record.TriadKey.{TriadKey}
use Rattle.conn_slab.specs.Index.{items_of}
use Rattle.conn_slab.specs.Records.{Record, row_of, state_of, listens, listens_in}
use Rattle.conn_slab.specs.Connections.{is_listening}

lives_is : (pool : List Group) (n : Option ℕ) → is_some n ≡ lives (state_of pool n)
lives_is pool None = refl
lives_is pool (Some n) = refl

rows_listen : (pool : List Group) (rs : List Record) → list_any listens rs ≡ list_any is_listening (map (row_of pool) rs)
rows_listen pool [] = refl
rows_listen pool (r ∷ rs) = rw (lives_is pool r.state, rows_listen pool rs) refl

keys_listen : (slab : Slab Record) (triads : List (TriadKey × ℕ)) → list_any (λ key. listens_in (get slab key)) (values_of triads) ≡ list_any listens (items_of slab triads)
keys_listen slab [] = refl
keys_listen slab (e ∷ es) = split (get slab e.1) (keys_listen slab es)
  where
    split : (o : Option Record) → list_any (λ key. listens_in (get slab key)) (values_of es) ≡ list_any listens (items_of slab es) → (listens_in o || list_any (λ key. listens_in (get slab key)) (values_of es)) ≡ list_any listens (cons_option o (items_of slab es))
    split None rest = rest
    split (Some r) rest = ap (λ b. listens r || b) rest

pub some_listen : (slab : Slab Record) (triads : List (TriadKey × ℕ)) (pool : List Group) → list_any (λ key. listens_in (get slab key)) (values_of triads) ≡ list_any is_listening (map (row_of pool) (items_of slab triads))
some_listen slab triads pool = keys_listen slab triads ∙ rows_listen pool (items_of slab triads)
