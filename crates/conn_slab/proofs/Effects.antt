-- The connections after an expiry, and after an accepted datagram.
use Rattle.std.proofs.Common.{◌≡◌, ◌≤◌, ◌∙◌, ◌&&◌, ℕ, Bool, true, false, Option, Some, None, List, find, map, length, is_some, if◌then◌else◌, sym, ap, subst, refl}
use Rattle.std.specs.List.{list_any}
use Rattle.std.specs.Option.{option_map}
use Rattle.std.specs.Map.{lookup}
use Rattle.std.proofs.lemmas.List.{length-map}
use Rattle.slab.specs.Slab.{Slab, get, with_value}
use Rattle.slab.proofs.SlabLemmas.{Updates-with_value}
use Rattle.cip_types.specs.declared.names.Triad.{Triad}
use Rattle.cip_types.specs.declared.names.Node.{Node}
use Rattle.cip_types.specs.declared.names.Ms.{Ms}
use Rattle.cip_productions.specs.declared.acceptance.Accepted.{Accepted}
use Rattle.mcast_pool.specs.declared.group.Group.{Group}
use Rattle.mcast_pool.specs.Groups.{left, AreGroups, IsInUse}
use Rattle.adapter_table.specs.Connections.{Row}
use Rattle.adapter_table.specs.Rows.{holds_triad}
use Rattle.adapter_table.specs.Datagrams.{is_for}
use Rattle.conn_slab.specs.declared.record.TriadKey.{TriadKey}
use Rattle.conn_slab.specs.declared.record.Source.{Source}
use Rattle.conn_slab.specs.Index.{items_of}
use Rattle.conn_slab.specs.Records.{Record, row_of, is_of, key_for, same_key, source_of, same_source}
use Rattle.conn_slab.specs.Layout.{IsConsistent, IsServed, IsLive, IsBalanced, running_key}
use Rattle.conn_slab.specs.Connections.{timed_out, timed_out_if, accepting, accepting_if}
use Rattle.conn_slab.proofs.Lookups.{items_keys}
use Rattle.conn_slab.proofs.Indexed.{any_found, change_none}
use Rattle.conn_slab.proofs.Numbers.{both_hold}
use Rattle.conn_slab.proofs.Running.{runs, by_name, by_source, nobody, somebody, held_is, target_is, rows_changed, filed_changed, items_changed}
use Rattle.conn_slab.proofs.RowLemmas.{any_rows, find_rows, found_all, live, lone_items, lone_less, stop, stopped, accepted_balance}

some_is : {X : Type 0} {a b : X} → Some a ≡ Some b → a ≡ b
some_is e = cc

module _ (slab : Slab Record) (triads : List (TriadKey × ℕ)) (sources : List (Source × ℕ)) (pool : List Group) (consistent : IsConsistent slab triads sources pool) where
  -- where none passes, none is changed
  pub untouched : (p : Row → Bool) (q : Record → Bool) (change : Row → Row) → ((r : Record) → p (row_of pool r) ≡ q r) → find q (items_of slab triads) ≡ None
      → (list_any p (map (row_of pool) (items_of slab triads)) ≡ false) × (map (λ row. if p row then change row else row) (map (row_of pool) (items_of slab triads)) ≡ map (row_of pool) (items_of slab triads))
  untouched p q change same none = (
    any_rows (row_of pool) p q same (items_of slab triads) ∙ any_found q (items_of slab triads) ∙ ap (λ (o : Option Record). is_some o) none,
    change_none p change (map (row_of pool) (items_of slab triads)) (find_rows (row_of pool) p q same (items_of slab triads) ∙ ap (option_map (row_of pool)) none),
  )

  -- ---- a connection that times out

  pub record Expired (triad : Triad) (key number : ℕ) (r : Record) : Type 0 where
    pub in_use : IsInUse number pool
    pub found : list_any (holds_triad triad) (map (row_of pool) (items_of slab triads)) ≡ true
    pub kept : IsConsistent (with_value slab key (record r { state = None })) triads sources (left number pool)
    pub rows : map (row_of (left number pool)) (items_of (with_value slab key (record r { state = None })) triads) ≡ map (timed_out_if triad) (map (row_of pool) (items_of slab triads))

  pub expired : (triad : Triad) (key number : ℕ) (r : Record) → AreGroups pool → running_key slab (lookup (same_key (key_for triad)) triads) ≡ Some (key, number) → get slab key ≡ Some r → Expired triad key number r
  expired triad key number r each is stored =
      let name = key_for triad in
      let by = by_name slab triads sources consistent.filed name in
      let found = lookup (same_key name) triads in
      let way = somebody slab triads sources consistent.filed (is_of name) found by key number is in
      let one : way.r ≡ r = some_is (sym way.stored ∙ stored) in
      let has : r.state ≡ Some number = ap (λ (x : Record). x.state) (sym one) ∙ way.number_is in
      let at : find (λ x. is_of name x && runs x) (items_of slab triads) ≡ Some r = way.found_is ∙ ap (λ x. Some x) one in
      let updates = Updates-with_value slab key (stop r) (ap is_some stored) in
      let next = with_value slab key (stop r) in
      let items = items_changed slab triads sources consistent.filed (is_of name) found by key number is next r stop stored updates refl refl in
      let lone = lone_less (is_of name) (λ x. is_of name x && runs x) (λ x passes. (both_hold (is_of name x) (runs x) passes).0) (items_of slab triads) (lone_items name (items_of slab triads) _ (items_keys slab sources triads consistent.filed.by_name) consistent.filed.distinct) in
      let left_it = stopped pool (items_of slab triads) (λ x. is_of name x && runs x) r number each consistent.balanced lone at has in
      record {
        in_use = subst (IsLive pool) has (live pool r r.state (found_all (IsServed pool) (λ x. is_of name x && runs x) (items_of slab triads) r at consistent.balanced.served));
        found = any_rows (row_of pool) (holds_triad triad) (λ x. is_of name x && runs x) (held_is pool triad) (items_of slab triads) ∙ any_found (λ x. is_of name x && runs x) (items_of slab triads) ∙ ap (λ (o : Option Record). is_some o) at;
        kept = record {
          filed = filed_changed slab triads sources consistent.filed (is_of name) found by key number is next r stop stored updates refl refl;
          balanced = subst (IsBalanced (left number pool)) (sym items) left_it.0;
          few = subst (λ (n : ℕ). n ≤ 64) (sym (ap (λ (l : List Record). length l) items ∙ length-map (items_of slab triads) (λ x. if is_of name x && runs x then stop x else x))) consistent.few;
        };
        rows = ap (map (row_of (left number pool))) items ∙ left_it.1
            ∙ rows_changed (row_of pool) (holds_triad triad) (λ x. is_of name x && runs x) timed_out stop (held_is pool triad) (λ x. refl) (items_of slab triads);
      }

  pub unexpired : (triad : Triad) → running_key slab (lookup (same_key (key_for triad)) triads) ≡ None
      → (list_any (holds_triad triad) (map (row_of pool) (items_of slab triads)) ≡ false) × (map (timed_out_if triad) (map (row_of pool) (items_of slab triads)) ≡ map (row_of pool) (items_of slab triads))
  unexpired triad none =
      let name = key_for triad in
      untouched (holds_triad triad) (λ x. is_of name x && runs x) timed_out (held_is pool triad)
      (nobody slab triads sources consistent.filed (is_of name) (lookup (same_key name) triads) (by_name slab triads sources consistent.filed name) none)

  -- the triad is that of an established connection where its key runs
  pub held_by : (triad : Triad) → list_any (holds_triad triad) (map (row_of pool) (items_of slab triads)) ≡ is_some (running_key slab (lookup (same_key (key_for triad)) triads))
  held_by triad = by_key (running_key slab (lookup (same_key (key_for triad)) triads)) refl
    where
      by_key : (o : Option (ℕ × ℕ)) → running_key slab (lookup (same_key (key_for triad)) triads) ≡ o → list_any (holds_triad triad) (map (row_of pool) (items_of slab triads)) ≡ is_some o
      by_key None none = (unexpired triad none).0
      by_key (Some x) some =
          let name = key_for triad in
          let way = somebody slab triads sources consistent.filed (is_of name) (lookup (same_key name) triads) (by_name slab triads sources consistent.filed name) x.0 x.1 some in
          any_rows (row_of pool) (holds_triad triad) (λ r. is_of name r && runs r) (held_is pool triad) (items_of slab triads) ∙ any_found (λ r. is_of name r && runs r) (items_of slab triads) ∙ ap (λ (o : Option Record). is_some o) way.found_is

  -- ---- a connection that accepts a datagram

  pub record Accepts (peer : Node) (id : ℕ) (key : ℕ) (r : Record) (accepted : Accepted) (deadline : Ms) : Type 0 where
    pub found : list_any (is_for peer id) (map (row_of pool) (items_of slab triads)) ≡ true
    pub kept : IsConsistent (with_value slab key (record r { last = Some accepted; deadline = deadline })) triads sources pool
    pub rows : map (row_of pool) (items_of (with_value slab key (record r { last = Some accepted; deadline = deadline })) triads) ≡ map (accepting_if peer id accepted.number accepted.count deadline) (map (row_of pool) (items_of slab triads))

  pub accepts : (peer : Node) (id key number : ℕ) (r : Record) (accepted : Accepted) (deadline : Ms) → running_key slab (lookup (same_source (record { peer = peer.0; id = id })) sources) ≡ Some (key, number) → get slab key ≡ Some r → Accepts peer id key r accepted deadline
  accepts peer id key number r accepted deadline is stored =
      let place : Source = record { peer = peer.0; id = id } in
      let test : Record → Bool = λ x. same_source place (source_of x) in
      let change : Record → Record = λ x. record x { last = Some accepted; deadline = deadline } in
      let by = by_source slab triads sources consistent.filed place in
      let found = lookup (same_source place) sources in
      let way = somebody slab triads sources consistent.filed test found by key number is in
      let at = way.found_is in
      let updates = Updates-with_value slab key (change r) (ap is_some stored) in
      let next = with_value slab key (change r) in
      let items = items_changed slab triads sources consistent.filed test found by key number is next r change stored updates refl refl in
      record {
        found = any_rows (row_of pool) (is_for peer id) (λ x. test x && runs x) (target_is pool peer id) (items_of slab triads) ∙ any_found (λ x. test x && runs x) (items_of slab triads) ∙ ap (λ (o : Option Record). is_some o) at;
        kept = record {
          filed = filed_changed slab triads sources consistent.filed test found by key number is next r change stored updates refl refl;
          balanced = subst (IsBalanced pool) (sym items) (accepted_balance pool (items_of slab triads) (λ x. test x && runs x) (Some accepted) deadline consistent.balanced);
          few = subst (λ (n : ℕ). n ≤ 64) (sym (ap (λ (l : List Record). length l) items ∙ length-map (items_of slab triads) (λ x. if test x && runs x then change x else x))) consistent.few;
        };
        rows = ap (map (row_of pool)) items
            ∙ rows_changed (row_of pool) (is_for peer id) (λ x. test x && runs x) (accepting accepted.number accepted.count deadline) change (target_is pool peer id) (λ x. refl) (items_of slab triads);
      }

  pub unaccepted : (peer : Node) (id number count : ℕ) (deadline : Ms) → running_key slab (lookup (same_source (record { peer = peer.0; id = id })) sources) ≡ None
      → (list_any (is_for peer id) (map (row_of pool) (items_of slab triads)) ≡ false) × (map (accepting_if peer id number count deadline) (map (row_of pool) (items_of slab triads)) ≡ map (row_of pool) (items_of slab triads))
  unaccepted peer id number count deadline none =
      let place : Source = record { peer = peer.0; id = id } in
      untouched (is_for peer id) (λ x. same_source place (source_of x) && runs x) (accepting number count deadline) (target_is pool peer id)
      (nobody slab triads sources consistent.filed (λ x. same_source place (source_of x)) (lookup (same_source place) sources) (by_source slab triads sources consistent.filed place) none)
