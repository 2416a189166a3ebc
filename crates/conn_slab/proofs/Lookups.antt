-- The two indexes at records of connections.
use Rattle.std.proofs.Common.{◌≡◌, ℕ, Bool, true, false, ◌&&◌, cond, not, List, [], ◌∷◌, ◌++◌, if◌then◌else◌, find, filter, Option, Some, None, is_some, map, length, suc, refl, sym, ap, ◌∙◌, true≢false, arith}
use Rattle.std.specs.List.{AllByRecursion, IsDistinct}
use Rattle.std.specs.Map.{lookup, keys_of, remove_entry}
use Rattle.std.proofs.lemmas.Bool.Decides.{Decides-eqb}
use Rattle.slab.specs.Slab.{Slab, get, ContainsKey, Updates}
use Rattle.indexmap.specs.IndexMap.{insert_entry}
use Rattle.conn_slab.specs.declared.record.TriadKey.{TriadKey}
use Rattle.conn_slab.specs.declared.record.Source.{Source}
use Rattle.conn_slab.specs.Index.{IsExact, IsNamed, items_of}
use Rattle.conn_slab.specs.Records.{Record, key_of, same_key, is_of, source_of, same_source}
use Rattle.conn_slab.specs.Layout.{AreFiled}
use Rattle.conn_slab.proofs.Indexed.{find_source, find_name, find_name_none, item_named, indexed_kept, items_taken, indexed_taken, items_added, indexed_added}

both_true : (a b : Bool) → a && b ≡ true → (a ≡ true) × (b ≡ true)
both_true true b h = (refl, h)
both_true false b h = absurd (true≢false (sym h))

pub exact_keys : IsExact same_key
exact_keys = record {
  only = λ a b h.
      let s = both_true _ _ h in
      let t = both_true _ _ s.1 in
      let serial : a.serial ≡ b.serial = (Decides-eqb a.serial b.serial).0 s.0 in
      let vendor : a.vendor ≡ b.vendor = (Decides-eqb a.vendor b.vendor).0 t.0 in
      let originator : a.originator ≡ b.originator = (Decides-eqb a.originator b.originator).0 t.1 in
      λ i. record { serial = serial i; vendor = vendor i; originator = originator i };
  all = λ a. grind arith;
}

pub exact_sources : IsExact same_source
exact_sources = record {
  only = λ a b h.
      let s = both_true _ _ h in
      let peer : a.peer ≡ b.peer = (Decides-eqb a.peer b.peer).0 s.0 in
      let id : a.id ≡ b.id = (Decides-eqb a.id b.id).0 s.1 in
      λ i. record { peer = peer i; id = id i };
  all = λ a. grind arith;
}

-- a new name goes last
insert_last : {K X : Type 0} (same : K → K → Bool) (key : K) (value : X) (es : List (K × X)) → lookup (same key) es ≡ None → insert_entry same es key value ≡ es ++ (key, value) ∷ []
insert_last same key value [] absent = refl
insert_last same key value (e ∷ es) absent = split (same key e.0) refl (insert_last same key value es)
  where
    split : (b : Bool) → same key e.0 ≡ b → (lookup (same key) es ≡ None → insert_entry same es key value ≡ es ++ (key, value) ∷ [])
        → (if same key e.0 then (e.0, value) ∷ es else e ∷ insert_entry same es key value) ≡ e ∷ (es ++ (key, value) ∷ [])
    split true is rest = let some : lookup (same key) (e ∷ es) ≡ Some e.1 = ap (λ b. cond b (Some e.1) (lookup (same key) es)) is in absurd (cc)
    split false is rest = rw is (ap (λ ds. e ∷ ds) (rest (sym (ap (λ b. cond b (Some e.1) (lookup (same key) es)) is) ∙ absent)))

-- a filter by a test that nothing passes leaves all
pub filter_none : {X : Type 0} (test : X → Bool) (xs : List X) → find test xs ≡ None → filter (λ x. not (test x)) xs ≡ xs
filter_none test [] h = refl
filter_none test (x ∷ xs) h = split (test x) refl (filter_none test xs)
  where
    split : (b : Bool) → test x ≡ b → (find test xs ≡ None → filter (λ y. not (test y)) xs ≡ xs) → cond (not (test x)) (x ∷ filter (λ y. not (test y)) xs) (filter (λ y. not (test y)) xs) ≡ x ∷ xs
    split true is rest = let some : find test (x ∷ xs) ≡ Some x = ap (λ b. cond b (Some x) (find test xs)) is in absurd (cc)
    split false is rest = rw is (ap (λ ys. x ∷ ys) (rest (sym (ap (λ b. cond b (Some x) (find test xs)) is) ∙ h)))

pub items_len : (slab : Slab Record) (sources : List (Source × ℕ)) (names : List (TriadKey × ℕ)) → AllByRecursion (IsNamed key_of same_key source_of same_source slab sources) names → length (items_of slab names) ≡ length names
items_len slab sources [] h = refl
items_len slab sources (e ∷ es) h = rw h.0.stored (ap suc (items_len slab sources es h.1))

-- the triads of the records are the names
pub items_keys : (slab : Slab Record) (sources : List (Source × ℕ)) (names : List (TriadKey × ℕ)) → AllByRecursion (IsNamed key_of same_key source_of same_source slab sources) names → map key_of (items_of slab names) ≡ keys_of names
items_keys slab sources [] h = refl
items_keys slab sources (e ∷ es) h = rw h.0.stored (λ i. h.0.named i ∷ items_keys slab sources es h.1 i)

module _ (slab : Slab Record) (triads : List (TriadKey × ℕ)) (sources : List (Source × ℕ)) (filed : AreFiled slab triads sources) where
  pub at_name : (name : TriadKey) (key : ℕ) → lookup (same_key name) triads ≡ Some key → (r : Record) × (get slab key ≡ Some r) × (is_of name r ≡ true) × (find (is_of name) (items_of slab triads) ≡ Some r)
  at_name name key found =
      let way = item_named key_of same_key source_of same_source exact_keys exact_sources slab triads sources filed name key found in
      (way.0, way.1, ap (same_key name) way.2 ∙ exact_keys.all name, find_name key_of same_key source_of same_source exact_keys exact_sources slab triads sources filed name key way.0 found way.1)

  pub no_name : (name : TriadKey) → lookup (same_key name) triads ≡ None → find (is_of name) (items_of slab triads) ≡ None
  no_name name absent = find_name_none key_of same_key source_of same_source exact_keys exact_sources slab triads sources filed name absent

  pub name_held : (name : TriadKey) (key : ℕ) → lookup (same_key name) triads ≡ Some key → ContainsKey slab key
  name_held name key found = ap is_some (at_name name key found).1

  -- what no record has, no look-up finds
  pub absent_name : (name : TriadKey) → find (is_of name) (items_of slab triads) ≡ None → lookup (same_key name) triads ≡ None
  absent_name name absent = split (lookup (same_key name) triads) refl
    where
      split : (found : Option ℕ) → lookup (same_key name) triads ≡ found → lookup (same_key name) triads ≡ None
      split None is = is
      split (Some key) is = let way = at_name name key is in let some = way.3 in absurd (cc)

  pub absent_source : (place : Source) → find (λ r. same_source place (source_of r)) (items_of slab triads) ≡ None → lookup (same_source place) sources ≡ None
  absent_source place absent = split (lookup (same_source place) sources) refl
    where
      split : (found : Option ℕ) → lookup (same_source place) sources ≡ found → lookup (same_source place) sources ≡ None
      split None is = is
      split (Some key) is =
          let way = filed.by_source place key is in
          let some = find_source key_of same_key source_of same_source exact_keys exact_sources slab triads sources filed place key way.item is way.stored in
          absurd (cc)

  -- capacity is reserved
  pub kept : (next : Slab Record) (more : List (TriadKey × ℕ)) (others : List (Source × ℕ)) → next ≡ record slab { capacity = next.capacity } → more ≡ triads → others ≡ sources → AreFiled next more others
  kept next more others same same_triads same_sources =
      let at : (key : ℕ) → get next key ≡ get slab key = λ key. ap (λ s. get s key) same in
      rw (same_triads, same_sources) (indexed_kept key_of same_key source_of same_source exact_keys exact_sources slab triads sources filed next at)

  -- a record is taken out
  pub taken : (next : Slab Record) (rest : List (TriadKey × ℕ)) (others : List (Source × ℕ)) (name : TriadKey) (key : ℕ) (r : Record) (place : Source)
      → lookup (same_key name) triads ≡ Some key → get slab key ≡ Some r → Updates slab next key None
      → rest ≡ remove_entry (same_key name) triads
      → ((other : TriadKey) → lookup (same_key other) rest ≡ (if same_key name other then None else lookup (same_key other) triads))
      → IsDistinct same_key (keys_of rest) → place ≡ source_of r
      → ((other : Source) → lookup (same_source other) others ≡ (if same_source place other then None else lookup (same_source other) sources))
      → AreFiled next rest others × (items_of next rest ≡ filter (λ x. not (is_of name x)) (items_of slab triads))
  taken next rest others name key r place found stored updates entries at_names distinct source_is at_sources = (
    rw entries (indexed_taken key_of same_key source_of same_source exact_keys exact_sources slab triads sources filed next key name r found stored updates (rw entries at distinct) others
        (λ other. at_sources other ∙ ap (λ p. if same_source p other then None else lookup (same_source other) sources) source_is) (λ other. ap (lookup (same_key other)) (sym entries) ∙ at_names other)),
    rw entries (items_taken key_of same_key source_of same_source exact_keys exact_sources slab triads sources filed next key name r found stored updates),
  )

  -- a record is put last
  pub added : (next : Slab Record) (more : List (TriadKey × ℕ)) (others : List (Source × ℕ)) (key : ℕ) (r : Record) (name : TriadKey) (place : Source)
      → name ≡ key_of r → place ≡ source_of r → get slab key ≡ None → Updates slab next key (Some r)
      → lookup (same_key (key_of r)) triads ≡ None → lookup (same_source (source_of r)) sources ≡ None
      → more ≡ insert_entry same_key triads name key
      → ((other : TriadKey) → lookup (same_key other) more ≡ (if same_key name other then Some key else lookup (same_key other) triads))
      → IsDistinct same_key (keys_of more)
      → ((other : Source) → lookup (same_source other) others ≡ (if same_source place other then Some key else lookup (same_source other) sources))
      → AreFiled next more others × (items_of next more ≡ items_of slab triads ++ r ∷ [])
  added next more others key r name place name_is source_is vacant updates no_name no_source entries at_names distinct at_sources =
      let last : more ≡ triads ++ (key_of r, key) ∷ [] = entries ∙ ap (λ n. insert_entry same_key triads n key) name_is ∙ insert_last same_key (key_of r) key triads no_name in (
        rw last (indexed_added key_of same_key source_of same_source exact_keys exact_sources slab triads sources filed next key r vacant updates others
            (λ other. at_sources other ∙ ap (λ p. if same_source p other then Some key else lookup (same_source other) sources) source_is)
            (λ other. ap (lookup (same_key other)) (sym last) ∙ at_names other ∙ ap (λ n. if same_key n other then Some key else lookup (same_key other) triads) name_is)
            no_name no_source (rw last at distinct)),
        ap (items_of next) last ∙ items_added key_of same_key source_of same_source exact_keys exact_sources slab triads sources filed next key r vacant updates,
      )
