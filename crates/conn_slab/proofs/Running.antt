-- The established record that an index leads to, and the connections once it is changed.
use Rattle.std.proofs.Common.{◌≡◌, ℕ, ◌==◌, ◌&&◌, Bool, true, false, if◌then◌else◌, List, [], ◌∷◌, map, find, Option, Some, None, is_some, refl, sym, ap, ◌∙◌}
use Rattle.std.specs.Map.{lookup}
use Rattle.slab.specs.Slab.{Slab, get, Updates}
use Rattle.cip_types.specs.declared.names.Triad.{Triad}
use Rattle.cip_types.specs.declared.names.Node.{Node}
use Rattle.adapter_table.specs.Connections.{Row}
use Rattle.adapter_table.specs.Rows.{holds_triad}
use Rattle.adapter_table.specs.Datagrams.{is_for}
use Rattle.mcast_pool.specs.declared.group.Group.{Group}
use Rattle.conn_slab.specs.declared.record.TriadKey.{TriadKey}
use Rattle.conn_slab.specs.declared.record.Source.{Source}
use Rattle.conn_slab.specs.Index.{IsNamed, items_of}
use Rattle.conn_slab.specs.Records.{Record, row_of, key_of, key_for, same_key, is_of, source_of, same_source}
use Rattle.conn_slab.specs.Layout.{AreFiled, running_key, running_in, running_of}
use Rattle.conn_slab.proofs.Indexed.{find_nobody, find_running, only_one, indexed_changed, items_changed_at}
use Rattle.conn_slab.proofs.Lookups.{exact_keys, exact_sources, at_name}
use Rattle.conn_slab.proofs.Indexed.{key_of_name}
use Rattle.conn_slab.proofs.RowLemmas.{triad_is, lives_is, back}

abbrev pub runs : Record → Bool
runs r = is_some r.state

some_is : {X : Type 0} {a b : X} → Some a ≡ Some b → a ≡ b
some_is e = cc

pub and_back : (a b : Bool) → a && b ≡ b && a
and_back true true = refl
and_back true false = refl
and_back false true = refl
and_back false false = refl

-- what leads to the records that pass a test
pub record LeadsBy (slab : Slab Record) (triads : List (TriadKey × ℕ)) (sources : List (Source × ℕ)) (test : Record → Bool) (found : Option ℕ) : Type 0 where
  pub leads : (e : TriadKey × ℕ) (n : IsNamed key_of same_key source_of same_source slab sources e) → test n.item ≡ true → found ≡ Some e.1
  pub passes : (key : ℕ) (r : Record) → found ≡ Some key → get slab key ≡ Some r → test r ≡ true
  pub held : (key : ℕ) → found ≡ Some key → (name : TriadKey) × (lookup (same_key name) triads ≡ Some key)

module _ (slab : Slab Record) (triads : List (TriadKey × ℕ)) (sources : List (Source × ℕ)) (filed : AreFiled slab triads sources) where
  pub by_name : (name : TriadKey) → LeadsBy slab triads sources (is_of name) (lookup (same_key name) triads)
  by_name name = record {
    leads = λ e n here. ap (λ m. lookup (same_key m) triads) (exact_keys.only name (key_of n.item) here) ∙ key_of_name key_of same_key source_of same_source exact_keys exact_sources slab triads sources filed e n;
    passes = λ key r at stored. let way = at_name slab triads sources filed name key at in ap (is_of name) (some_is (sym stored ∙ way.1)) ∙ way.2;
    held = λ key at. (name, at);
  }

  pub by_source : (place : Source) → LeadsBy slab triads sources (λ r. same_source place (source_of r)) (lookup (same_source place) sources)
  by_source place = record {
    leads = λ e n here. ap (λ p. lookup (same_source p) sources) (exact_sources.only place (source_of n.item) here) ∙ n.placed;
    passes = λ key r at stored.
        let way = filed.by_source place key at in
        ap (λ x. same_source place (source_of x)) (some_is (sym stored ∙ way.stored)) ∙ ap (same_source place) way.placed ∙ exact_sources.all place;
    held = λ key at. let way = filed.by_source place key at in (key_of way.item, way.named);
  }

  module _ (test : Record → Bool) (found : Option ℕ) (by : LeadsBy slab triads sources test found) where
    pub nobody : running_key slab found ≡ None → find (λ r. test r && runs r) (items_of slab triads) ≡ None
    nobody none = find_nobody key_of same_key source_of same_source exact_keys exact_sources slab triads sources filed test runs found by.leads (λ key r at stored. still key r at stored none)
      where
        stopped : (key : ℕ) (o : Option ℕ) → running_of key o ≡ None → is_some o ≡ false
        stopped key None is = refl
        stopped key (Some n) is = absurd cc

        still : (key : ℕ) (r : Record) → found ≡ Some key → get slab key ≡ Some r → running_key slab found ≡ None → runs r ≡ false
        still key r at stored none = stopped key r.state (sym (ap (running_key slab) at ∙ ap (running_in key) stored) ∙ none)

    -- the record under the key
    pub record Runs (key number : ℕ) : Type 0 where
      pub r : Record
      pub at : found ≡ Some key
      pub stored : get slab key ≡ Some r
      pub number_is : r.state ≡ Some number
      pub tested : test r ≡ true
      pub found_is : find (λ x. test x && runs x) (items_of slab triads) ≡ Some r

    pub somebody : (key number : ℕ) → running_key slab found ≡ Some (key, number) → Runs key number
    somebody key number is = by_found found refl is
      where
        pair_is : (k : ℕ) (o : Option ℕ) → running_of k o ≡ Some (key, number) → (k ≡ key) × (o ≡ Some number)
        pair_is k None e = absurd cc
        pair_is k (Some n) e = let same : (k, n) ≡ (key, number) = some_is e in (ap (λ p. p.0) same, ap (λ p. Some p.1) same)

        by_record : (k : ℕ) (o : Option Record) → found ≡ Some k → get slab k ≡ o → running_in k o ≡ Some (key, number) → Runs key number
        by_record k None at stored e = absurd cc
        by_record k (Some r) at stored e =
            let pair = pair_is k r.state e in
            let at_key : found ≡ Some key = at ∙ ap (λ i. Some i) pair.0 in
            let stored_key : get slab key ≡ Some r = ap (get slab) (sym pair.0) ∙ stored in
            let tested = by.passes key r at_key stored_key in
            let name = by.held key at_key in
            record {
              r = r;
              at = at_key;
              stored = stored_key;
              number_is = pair.1;
              tested = tested;
              found_is = find_running key_of same_key source_of same_source exact_keys exact_sources slab triads sources filed test runs found by.leads key r at_key stored_key tested (ap is_some pair.1) (same_key name.0) name.1;
            }

        by_found : (o : Option ℕ) → found ≡ o → running_key slab o ≡ Some (key, number) → Runs key number
        by_found None at e = absurd cc
        by_found (Some k) at e = by_record k (get slab k) at refl e

    -- it is changed in place
    module _ (key number : ℕ) (is : running_key slab found ≡ Some (key, number)) (next : Slab Record) (r : Record) (change : Record → Record) (stored : get slab key ≡ Some r) (updates : Updates slab next key (Some (change r)))
        (same_name : key_of (change r) ≡ key_of r) (source_same : source_of (change r) ≡ source_of r) where
      pub filed_changed : AreFiled next triads sources
      filed_changed = indexed_changed key_of same_key source_of same_source exact_keys exact_sources slab triads sources filed next key r (change r) stored updates same_name source_same

      pub items_changed : items_of next triads ≡ map (λ x. if test x && runs x then change x else x) (items_of slab triads)
      items_changed =
          let way = somebody key number is in
          let one : way.r ≡ r = some_is (sym way.stored ∙ stored) in
          items_changed_at key_of same_key source_of same_source exact_keys exact_sources slab triads sources filed next key r (change r) stored updates same_name source_same
          (λ x. test x && runs x) change (ap (λ x. test x && runs x) (sym one) ∙ ap (λ b. b && runs way.r) way.tested ∙ ap is_some way.number_is) refl
          (λ e n here. only_one key_of same_key source_of same_source exact_keys exact_sources slab triads sources filed test runs found by.leads key way.at e n here)

-- ---- what the connections are then

pub rows_changed : (f : Record → Row) (p : Row → Bool) (q : Record → Bool) (change : Row → Row) (changed : Record → Record) → ((r : Record) → p (f r) ≡ q r) → ((r : Record) → f (changed r) ≡ change (f r)) → (rs : List Record)
    → map f (map (λ r. if q r then changed r else r) rs) ≡ map (λ row. if p row then change row else row) (map f rs)
rows_changed f p q change changed same follows [] = refl
rows_changed f p q change changed same follows (r ∷ rs) = rw (same r, rows_changed f p q change changed same follows rs) (ap (λ x. x ∷ map (λ row. if p row then change row else row) (map f rs)) (split (q r)))
  where
    split : (b : Bool) → f (if b then changed r else r) ≡ (if b then change (f r) else f r)
    split true = follows r
    split false = refl

pub held_is : (pool : List Group) (triad : Triad) (r : Record) → holds_triad triad (row_of pool r) ≡ is_of (key_for triad) r && runs r
held_is pool triad r = rw (lives_is pool r.state, triad_is pool triad r) (and_back (is_some r.state) (is_of (key_for triad) r))

pub target_is : (pool : List Group) (peer : Node) (id : ℕ) (r : Record) → is_for peer id (row_of pool r) ≡ same_source (record { peer = peer.0; id = id }) (source_of r) && runs r
target_is pool peer id r = rw (lives_is pool r.state, back r.peer.0 peer.0, back r.o_t_id.0 id) (and_back (is_some r.state) (peer.0 == r.peer.0 && id == r.o_t_id.0))
