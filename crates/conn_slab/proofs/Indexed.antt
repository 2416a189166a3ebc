-- The two indexes stay consistent with the items through each change, and the list of items after it.
use Rattle.std.proofs.Common.{◌≡◌, ◌≢◌, ◌⊎◌, ℕ, Bool, true, false, not, cond, ◌&&◌, List, [], ◌∷◌, ◌++◌, map, filter, find, Option, Some, None, is_some, refl, sym, ap, subst, ◌∙◌, true≢false, inl, inr, if◌then◌else◌}
use Rattle.std.specs.List.{AllByRecursion, list_any, IsDistinct}
use Rattle.std.specs.Map.{lookup, remove_entry, keys_of}
use Rattle.std.proofs.lemmas.Bool.{cases_eq}
use Rattle.std.proofs.lemmas.List.Elements.{filter_map-append}
use Rattle.std.proofs.lemmas.Map.Keys.{IsDistinct-head, IsDistinct-tail}
use Rattle.slab.specs.Slab.{Slab, get, Updates}
use Rattle.conn_slab.specs.Index.{IsNamed, IsPlaced, IsIndexed, IsExact, items_of}

some_is : {X : Type 0} {a b : X} → Some a ≡ Some b → a ≡ b
some_is e = cc

-- ---- a list of entries, each of which leads to a item
module _ {Item Name : Type 0} (slab : Slab Item) where
  -- the entry leads to a item, of which this holds
  abbrev pub Leads : (Name × ℕ → Item → Type 0) → Name × ℕ → Type 0
  Leads P entry = (item : Item) × (get slab entry.1 ≡ Some item) × P entry item

  pub find_none : (test : Item → Bool) (names : List (Name × ℕ)) → AllByRecursion (Leads (λ e r. test r ≡ false)) names → find test (items_of slab names) ≡ None
  find_none test [] h = refl
  find_none test (e ∷ es) h = rw (h.0.1, h.0.2) (find_none test es h.1)

  pub find_one : (test : Item → Bool) (key : ℕ) (item : Item) → get slab key ≡ Some item → test item ≡ true
      → (names : List (Name × ℕ)) → AllByRecursion (Leads (λ e r. test r ≡ true → e.1 ≡ key)) names
      → (by : Name → Bool) → lookup by names ≡ Some key → find test (items_of slab names) ≡ Some item
  find_one test key item stored passes [] h by found = cc
  find_one test key item stored passes (e ∷ es) h by found = rw h.0.1 (split (test h.0.0) refl (find_one test key item stored passes es h.1 by))
    where
      later : (b : Bool) → by e.0 ≡ b → test h.0.0 ≡ false → lookup by es ≡ Some key
      later true here fails =
          let same : e.1 ≡ key = some_is (sym (ap (λ b. cond b (Some e.1) (lookup by es)) here) ∙ found) in
          let item_is : h.0.0 ≡ item = some_is (sym h.0.1 ∙ ap (get slab) same ∙ stored) in
          absurd (true≢false (sym passes ∙ ap test (sym item_is) ∙ fails))
      later false past fails = sym (ap (λ b. cond b (Some e.1) (lookup by es)) past) ∙ found

      split : (b : Bool) → test h.0.0 ≡ b → (lookup by es ≡ Some key → find test (items_of slab es) ≡ Some item) → cond (test h.0.0) (Some h.0.0) (find test (items_of slab es)) ≡ Some item
      split true is rest = rw is (sym h.0.1 ∙ ap (get slab) (h.0.2 is) ∙ stored)
      split false is rest = rw is (rest (later (by e.0) refl is))

  -- the items in which each that passes is changed
  pub items_changed : (next : Slab Item) (test : Item → Bool) (change : Item → Item) (names : List (Name × ℕ))
      → AllByRecursion (Leads (λ e r. get next e.1 ≡ Some (if test r then change r else r))) names
      → items_of next names ≡ map (λ r. if test r then change r else r) (items_of slab names)
  items_changed next test change [] h = refl
  items_changed next test change (e ∷ es) h = rw (h.0.1, h.0.2) (ap (λ rs. (if test h.0.0 then change h.0.0 else h.0.0) ∷ rs) (items_changed next test change es h.1))

  -- the items but for those that pass
  pub items_filtered : (next : Slab Item) (test : Item → Bool) (by : Name → Bool) (names : List (Name × ℕ))
      → AllByRecursion (Leads (λ e r. (test r ≡ by e.0) × (by e.0 ≡ false → get next e.1 ≡ Some r))) names
      → items_of next (filter (λ e. not (by e.0)) names) ≡ filter (λ r. not (test r)) (items_of slab names)
  items_filtered next test by [] h = refl
  items_filtered next test by (e ∷ es) h = rw (h.0.1, h.0.2.0) (split (by e.0) refl (items_filtered next test by es h.1))
    where
      split : (b : Bool) → by e.0 ≡ b
          → items_of next (filter (λ e. not (by e.0)) es) ≡ filter (λ r. not (test r)) (items_of slab es)
          → items_of next (cond (not (by e.0)) (e ∷ filter (λ e. not (by e.0)) es) (filter (λ e. not (by e.0)) es)) ≡ cond (not (by e.0)) (h.0.0 ∷ filter (λ r. not (test r)) (items_of slab es)) (filter (λ r. not (test r)) (items_of slab es))
      split true is rest = rw is rest
      split false is rest = rw is (rw (h.0.2.1 is) (ap (λ rs. h.0.0 ∷ rs) rest))

  pub items_kept : (next : Slab Item) (names : List (Name × ℕ)) → AllByRecursion (Leads (λ e r. get next e.1 ≡ Some r)) names → items_of next names ≡ items_of slab names
  items_kept next [] h = refl
  items_kept next (e ∷ es) h = rw (h.0.1, h.0.2) (ap (λ rs. h.0.0 ∷ rs) (items_kept next es h.1))

-- what holds of each element by way of another fact of it
pub each : {X : Type 0} (P Q : X → Type 0) → ((x : X) → P x → Q x) → (xs : List X) → AllByRecursion P xs → AllByRecursion Q xs
each P Q f [] h = tt
each P Q f (x ∷ xs) h = (f x h.0, each P Q f xs h.1)

pub each_append : {X : Type 0} (P : X → Type 0) (xs ys : List X) → AllByRecursion P xs → AllByRecursion P ys → AllByRecursion P (xs ++ ys)
each_append P [] ys h k = k
each_append P (x ∷ xs) ys h k = (h.0, each_append P xs ys h.1 k)

pub each_filter : {X : Type 0} (P Q : X → Type 0) (test : X → Bool) → ((x : X) → test x ≡ true → P x → Q x) → (xs : List X) → AllByRecursion P xs → AllByRecursion Q (filter test xs)
each_filter P Q test f [] h = tt
each_filter P Q test f (x ∷ xs) h = split (test x) refl (each_filter P Q test f xs h.1)
  where
    split : (b : Bool) → test x ≡ b → AllByRecursion Q (filter test xs) → AllByRecursion Q (cond (test x) (x ∷ filter test xs) (filter test xs))
    split true is rest = rw is (f x is h.0, rest)
    split false is rest = rw is rest

-- what holds of each entry, and of the one that a look-up finds
entry_found : {Name : Type 0} (P : Name × ℕ → Type 0) (by : Name → Bool) (key : ℕ) (names : List (Name × ℕ)) → lookup by names ≡ Some key → AllByRecursion P names → (e : Name × ℕ) × (e.1 ≡ key) × (by e.0 ≡ true) × P e
entry_found {Name} P by key [] found h = absurd (cc)
entry_found {Name} P by key (e ∷ es) found h = split (by e.0) refl (λ past. entry_found P by key es past h.1)
  where
    split : (b : Bool) → by e.0 ≡ b → (lookup by es ≡ Some key → (d : Name × ℕ) × (d.1 ≡ key) × (by d.0 ≡ true) × P d) → (d : Name × ℕ) × (d.1 ≡ key) × (by d.0 ≡ true) × P d
    split true is rest = (e, some_is (sym (ap (λ b. cond b (Some e.1) (lookup by es)) is) ∙ found), is, h.0)
    split false is rest = rest (sym (ap (λ b. cond b (Some e.1) (lookup by es)) is) ∙ found)

filter_all : {X : Type 0} (test : X → Bool) (xs : List X) → AllByRecursion (λ x. test x ≡ true) xs → filter test xs ≡ xs
filter_all test [] h = refl
filter_all test (x ∷ xs) h = rw (h.0) (ap (λ ys. x ∷ ys) (filter_all test xs h.1))

-- with distinct names, the first entry of a name is the only one
pub entry_removed : {Name X : Type 0} (same : Name → Name → Bool) → IsExact same → (name : Name) (names : List (Name × X)) → IsDistinct same (keys_of names) → remove_entry (same name) names ≡ filter (λ e. not (same name e.0)) names
entry_removed {Name} {X} same exact name [] distinct = refl
entry_removed {Name} {X} same exact name (e ∷ es) distinct = split (same name e.0) refl (entry_removed same exact name es (IsDistinct-tail same e.0 (keys_of es) distinct))
  where
    others : (ds : List (Name × X)) → AllByRecursion (λ y. same e.0 y ≡ false) (keys_of ds) → AllByRecursion (λ d. not (same e.0 d.0) ≡ true) ds
    others [] h = tt
    others (d ∷ ds) h = (ap not h.0, others ds h.1)

    split : (b : Bool) → same name e.0 ≡ b → remove_entry (same name) es ≡ filter (λ e. not (same name e.0)) es
        → cond (same name e.0) es (e ∷ remove_entry (same name) es) ≡ cond (not (same name e.0)) (e ∷ filter (λ e. not (same name e.0)) es) (filter (λ e. not (same name e.0)) es)
    split true is rest = rw is (sym (subst (λ n. filter (λ d. not (same n d.0)) es ≡ es) (sym (exact.only name e.0 is)) (filter_all _ es (others es (IsDistinct-head same e.0 (keys_of es) distinct)))))
    split false is rest = rw is (ap (λ ds. e ∷ ds) rest)

both : {X : Type 0} (P Q : X → Type 0) (xs : List X) → AllByRecursion P xs → AllByRecursion Q xs → AllByRecursion (λ x. P x × Q x) xs
both P Q [] h k = tt
both P Q (x ∷ xs) h k = ((h.0, k.0), both P Q xs h.1 k.1)

module _ {Item Name Source : Type 0} (name_of : Item → Name) (same_name : Name → Name → Bool) (source_of : Item → Source) (same_source : Source → Source → Bool)
    (exact_names : IsExact same_name) (exact_sources : IsExact same_source)
    (slab : Slab Item) (names : List (Name × ℕ)) (sources : List (Source × ℕ)) (indexed : IsIndexed name_of same_name source_of same_source slab names sources) where
  -- the item of a place
  pub find_source : (place : Source) (key : ℕ) (item : Item) → lookup (same_source place) sources ≡ Some key → get slab key ≡ Some item → find (λ r. same_source place (source_of r)) (items_of slab names) ≡ Some item
  find_source place key item found stored =
      let way = indexed.by_source place key found in
      let item_is : way.item ≡ item = some_is (sym way.stored ∙ stored) in
      let passes : same_source place (source_of item) ≡ true = ap (same_source place) (ap source_of (sym item_is) ∙ way.placed) ∙ exact_sources.all place in
      find_one slab (λ r. same_source place (source_of r)) key item stored passes names
      (each _ _ (λ e n. (n.item, n.stored, λ here. some_is (sym n.placed ∙ ap (λ p. lookup (same_source p) sources) (sym (exact_sources.only place (source_of n.item) here)) ∙ found))) names indexed.by_name)
      (same_name (name_of way.item)) way.named

  pub find_source_none : (place : Source) → lookup (same_source place) sources ≡ None → find (λ r. same_source place (source_of r)) (items_of slab names) ≡ None
  find_source_none place absent =
      find_none slab (λ r. same_source place (source_of r)) names
      (each _ _ (λ e n. (n.item, n.stored, split n (same_source place (source_of n.item)) refl)) names indexed.by_name)
    where
      split : {e : Name × ℕ} (n : IsNamed name_of same_name source_of same_source slab sources e) (b : Bool) → same_source place (source_of n.item) ≡ b → same_source place (source_of n.item) ≡ false
      split {e} n true here = let p = exact_sources.only place (source_of n.item) here in let some : lookup (same_source place) sources ≡ Some e.1 = ap (λ p. lookup (same_source p) sources) p ∙ n.placed in absurd (cc)
      split n false here = here

  -- the key of an entry is the one that its name leads to
  pub key_of_name : (e : Name × ℕ) (n : IsNamed name_of same_name source_of same_source slab sources e) → lookup (same_name (name_of n.item)) names ≡ Some e.1
  key_of_name e n =
      let way = indexed.by_source (source_of n.item) e.1 n.placed in
      ap (λ r. lookup (same_name (name_of r)) names) (some_is (sym n.stored ∙ way.stored)) ∙ way.named

  -- the item that a name leads to, under its name
  pub item_named : (name : Name) (key : ℕ) → lookup (same_name name) names ≡ Some key → (item : Item) × (get slab key ≡ Some item) × (name_of item ≡ name) × (lookup (same_source (source_of item)) sources ≡ Some key)
  item_named name key found =
      let e = entry_found _ (same_name name) key names found indexed.by_name in
      let n = e.3 in
      (n.item, ap (get slab) (sym e.1) ∙ n.stored, n.named ∙ sym (exact_names.only name e.0.0 e.2), n.placed ∙ ap Some e.1)

  pub find_name : (name : Name) (key : ℕ) (item : Item) → lookup (same_name name) names ≡ Some key → get slab key ≡ Some item → find (λ r. same_name name (name_of r)) (items_of slab names) ≡ Some item
  find_name name key item found stored =
      let way = item_named name key found in
      let item_is : way.0 ≡ item = some_is (sym way.1 ∙ stored) in
      find_one slab (λ r. same_name name (name_of r)) key item stored (ap (same_name name) (ap name_of (sym item_is) ∙ way.2) ∙ exact_names.all name) names
      (each _ _ (λ e n. (n.item, n.stored, λ here. some_is (sym (key_of_name e n) ∙ ap (λ m. lookup (same_name m) names) (sym (exact_names.only name (name_of n.item) here)) ∙ found))) names indexed.by_name)
      (same_name name) found

  pub find_name_none : (name : Name) → lookup (same_name name) names ≡ None → find (λ r. same_name name (name_of r)) (items_of slab names) ≡ None
  find_name_none name absent =
      find_none slab (λ r. same_name name (name_of r)) names
      (each _ _ (λ e n. (n.item, n.stored, split e n (same_name name (name_of n.item)) refl)) names indexed.by_name)
    where
      split : (e : Name × ℕ) (n : IsNamed name_of same_name source_of same_source slab sources e) (b : Bool) → same_name name (name_of n.item) ≡ b → same_name name (name_of n.item) ≡ false
      split e n true here = let some : lookup (same_name name) names ≡ Some e.1 = ap (λ m. lookup (same_name m) names) (exact_names.only name (name_of n.item) here) ∙ key_of_name e n in absurd (cc)
      split e n false here = here

  -- ---- items that stay under their keys
  module _ (next : Slab Item) (same : (key : ℕ) → get next key ≡ get slab key) where
    pub indexed_kept : IsIndexed name_of same_name source_of same_source next names sources
    indexed_kept = record {
      distinct = indexed.distinct;
      by_name = each _ _ (λ e n. record { item = n.item; stored = same e.1 ∙ n.stored; named = n.named; placed = n.placed }) names indexed.by_name;
      by_source = λ place key here. let way = indexed.by_source place key here in record { item = way.item; stored = same key ∙ way.stored; placed = way.placed; named = way.named };
    }

    pub items_same : items_of next names ≡ items_of slab names
    items_same = items_kept slab next names (each _ _ (λ e n. (n.item, n.stored, same e.1 ∙ n.stored)) names indexed.by_name)

  -- ---- a item taken out
  module _ (next : Slab Item) (key : ℕ) (name : Name) (item : Item) (found : lookup (same_name name) names ≡ Some key) (stored : get slab key ≡ Some item) (updates : Updates slab next key None) where
    -- an entry of another name keeps its item
    kept_named : (e : Name × ℕ) (n : IsNamed name_of same_name source_of same_source slab sources e) → same_name name e.0 ≡ false → e.1 ≢ key
    kept_named e n apart same =
        let item_is : n.item ≡ item = some_is (sym n.stored ∙ ap (get slab) same ∙ stored) in
        let way = item_named name key found in
        let also : way.0 ≡ item = some_is (sym way.1 ∙ stored) in
        let name_is : name ≡ e.0 = sym way.2 ∙ ap name_of (also ∙ sym item_is) ∙ n.named in
        true≢false (sym (exact_names.all name) ∙ ap (same_name name) name_is ∙ apart)

    pub items_taken : items_of next (remove_entry (same_name name) names) ≡ filter (λ r. not (same_name name (name_of r))) (items_of slab names)
    items_taken =
        rw (entry_removed same_name exact_names name names indexed.distinct)
        (items_filtered slab next (λ r. same_name name (name_of r)) (same_name name) names
        (each _ _ (λ e n. (n.item, n.stored, (ap (same_name name) n.named, λ apart. updates.others e.1 (kept_named e n apart) ∙ n.stored))) names indexed.by_name))

    pub indexed_taken : IsDistinct same_name (keys_of (remove_entry (same_name name) names)) → (rest : List (Source × ℕ))
        → ((place : Source) → lookup (same_source place) rest ≡ (if same_source (source_of item) place then None else lookup (same_source place) sources))
        → ((other : Name) → lookup (same_name other) (remove_entry (same_name name) names) ≡ (if same_name name other then None else lookup (same_name other) names))
        → IsIndexed name_of same_name source_of same_source next (remove_entry (same_name name) names) rest
    indexed_taken distinct rest at_source at_name = record {
      distinct = distinct;
      by_name = rw (entry_removed same_name exact_names name names indexed.distinct) (each_filter _ _ _ keep names indexed.by_name);
      by_source = λ place other here. moved place other here (same_source (source_of item) place) refl;
    }
      where
        apart_from : (e : Name × ℕ) → not (same_name name e.0) ≡ true → same_name name e.0 ≡ false
        apart_from e p = split (same_name name e.0) refl
          where
            split : (b : Bool) → same_name name e.0 ≡ b → same_name name e.0 ≡ false
            split true is = absurd (true≢false (sym p ∙ ap not is))
            split false is = is

        keep : (e : Name × ℕ) → not (same_name name e.0) ≡ true → IsNamed name_of same_name source_of same_source slab sources e → IsNamed name_of same_name source_of same_source next rest e
        keep e p n =
            let differs = kept_named e n (apart_from e p) in
            record { item = n.item; stored = updates.others e.1 differs ∙ n.stored; named = n.named; placed = at_source (source_of n.item) ∙ placed e n differs (same_source (source_of item) (source_of n.item)) refl }
          where
            placed : (e : Name × ℕ) (n : IsNamed name_of same_name source_of same_source slab sources e) → e.1 ≢ key → (b : Bool) → same_source (source_of item) (source_of n.item) ≡ b → (if same_source (source_of item) (source_of n.item) then None else lookup (same_source (source_of n.item)) sources) ≡ Some e.1
            placed e n differs true is =
                let way = item_named name key found in
                let also : way.0 ≡ item = some_is (sym way.1 ∙ stored) in
                absurd (differs (some_is (sym n.placed ∙ ap (λ p. lookup (same_source p) sources) (sym (exact_sources.only _ _ is)) ∙ ap (λ r. lookup (same_source (source_of r)) sources) (sym also) ∙ way.3)))
            placed e n differs false is = rw is n.placed

        moved : (place : Source) (other : ℕ) → lookup (same_source place) rest ≡ Some other → (b : Bool) → same_source (source_of item) place ≡ b → IsPlaced name_of same_name source_of same_source next (remove_entry (same_name name) names) place other
        moved place other here true is = let none : lookup (same_source place) rest ≡ None = at_source place ∙ ap (λ b. if b then None else lookup (same_source place) sources) is in absurd (cc)
        moved place other here false is =
            let before : lookup (same_source place) sources ≡ Some other = sym (at_source place ∙ ap (λ b. if b then None else lookup (same_source place) sources) is) ∙ here in
            let way = indexed.by_source place other before in
            let differs : other ≢ key = λ same. true≢false (sym (exact_sources.all place) ∙ ap (λ p. same_source p place) (sym way.placed ∙ ap source_of (some_is (sym way.stored ∙ ap (get slab) same ∙ stored))) ∙ is) in
            record { item = way.item; stored = updates.others other differs ∙ way.stored; placed = way.placed; named = at_name (name_of way.item) ∙ named way differs (same_name name (name_of way.item)) refl }
          where
            named : (way : IsPlaced name_of same_name source_of same_source slab names place other) → other ≢ key → (b : Bool) → same_name name (name_of way.item) ≡ b → (if same_name name (name_of way.item) then None else lookup (same_name (name_of way.item)) names) ≡ Some other
            named way differs true is = absurd (differs (some_is (sym way.named ∙ ap (λ m. lookup (same_name m) names) (sym (exact_names.only _ _ is)) ∙ found)))
            named way differs false is = rw is way.named

  -- ---- a item put last
  module _ (next : Slab Item) (key : ℕ) (item : Item) (vacant : get slab key ≡ None) (updates : Updates slab next key (Some item)) where
    kept_old : (e : Name × ℕ) (n : IsNamed name_of same_name source_of same_source slab sources e) → e.1 ≢ key
    kept_old e n same = let some : get slab key ≡ Some n.item = ap (get slab) (sym same) ∙ n.stored in cc

    pub items_added : items_of next (names ++ (name_of item, key) ∷ []) ≡ items_of slab names ++ item ∷ []
    items_added =
        let old = items_kept slab next names (each _ _ (λ e n. (n.item, n.stored, updates.others e.1 (kept_old e n) ∙ n.stored)) names indexed.by_name) in
        filter_map-append (λ e. get next e.1) names ((name_of item, key) ∷ []) ∙ rw (updates.changed) (ap (λ rs. rs ++ item ∷ []) old)

    pub indexed_added : (more : List (Source × ℕ))
        → ((place : Source) → lookup (same_source place) more ≡ (if same_source (source_of item) place then Some key else lookup (same_source place) sources))
        → ((other : Name) → lookup (same_name other) (names ++ (name_of item, key) ∷ []) ≡ (if same_name (name_of item) other then Some key else lookup (same_name other) names))
        → lookup (same_name (name_of item)) names ≡ None → lookup (same_source (source_of item)) sources ≡ None
        → IsDistinct same_name (keys_of (names ++ (name_of item, key) ∷ []))
        → IsIndexed name_of same_name source_of same_source next (names ++ (name_of item, key) ∷ []) more
    indexed_added more at_source at_name no_name no_source distinct = record {
      distinct = distinct;
      by_name = each_append _ names ((name_of item, key) ∷ []) (each _ _ keep names indexed.by_name) (record { item = item; stored = updates.changed; named = refl; placed = at_source (source_of item) ∙ ap (λ b. if b then Some key else lookup (same_source (source_of item)) sources) (exact_sources.all _) }, tt);
      by_source = λ place other here. moved place other here (same_source (source_of item) place) refl;
    }
      where
        keep : (e : Name × ℕ) → IsNamed name_of same_name source_of same_source slab sources e → IsNamed name_of same_name source_of same_source next more e
        keep e n = record { item = n.item; stored = updates.others e.1 (kept_old e n) ∙ n.stored; named = n.named; placed = at_source (source_of n.item) ∙ placed (same_source (source_of item) (source_of n.item)) refl }
          where
            placed : (b : Bool) → same_source (source_of item) (source_of n.item) ≡ b → (if same_source (source_of item) (source_of n.item) then Some key else lookup (same_source (source_of n.item)) sources) ≡ Some e.1
            placed true is = let some : lookup (same_source (source_of item)) sources ≡ Some e.1 = ap (λ p. lookup (same_source p) sources) (exact_sources.only _ _ is) ∙ n.placed in absurd (cc)
            placed false is = rw is n.placed

        moved : (place : Source) (other : ℕ) → lookup (same_source place) more ≡ Some other → (b : Bool) → same_source (source_of item) place ≡ b → IsPlaced name_of same_name source_of same_source next (names ++ (name_of item, key) ∷ []) place other
        moved place other here true is =
            let same : key ≡ other = some_is (sym (at_source place ∙ ap (λ b. if b then Some key else lookup (same_source place) sources) is) ∙ here) in
            record { item = item; stored = ap (get next) (sym same) ∙ updates.changed; placed = exact_sources.only _ _ is; named = at_name (name_of item) ∙ ap (λ b. if b then Some key else lookup (same_name (name_of item)) names) (exact_names.all _) ∙ ap Some same }
        moved place other here false is =
            let before : lookup (same_source place) sources ≡ Some other = sym (at_source place ∙ ap (λ b. if b then Some key else lookup (same_source place) sources) is) ∙ here in
            let way = indexed.by_source place other before in
            let differs : other ≢ key = λ same. let some : get slab key ≡ Some way.item = ap (get slab) (sym same) ∙ way.stored in cc in
            record { item = way.item; stored = updates.others other differs ∙ way.stored; placed = way.placed; named = at_name (name_of way.item) ∙ named way (same_name (name_of item) (name_of way.item)) refl }
          where
            named : (way : IsPlaced name_of same_name source_of same_source slab names place other) → (b : Bool) → same_name (name_of item) (name_of way.item) ≡ b → (if same_name (name_of item) (name_of way.item) then Some key else lookup (same_name (name_of way.item)) names) ≡ Some other
            named way true is = let some : lookup (same_name (name_of item)) names ≡ Some other = ap (λ m. lookup (same_name m) names) (exact_names.only _ _ is) ∙ way.named in absurd (cc)
            named way false is = rw is way.named

  -- ---- an item changed in place
  module _ (next : Slab Item) (key : ℕ) (item changed : Item) (stored : get slab key ≡ Some item) (updates : Updates slab next key (Some changed)) (same_name_of : name_of changed ≡ name_of item) (same_source_of : source_of changed ≡ source_of item) where
    pub indexed_changed : IsIndexed name_of same_name source_of same_source next names sources
    indexed_changed = record {
      distinct = indexed.distinct;
      by_name = each _ _ (λ e n. keep e n (cases_eq e.1 key)) names indexed.by_name;
      by_source = λ place other here. moved place other (indexed.by_source place other here) (cases_eq other key);
    }
      where
        keep : (e : Name × ℕ) → IsNamed name_of same_name source_of same_source slab sources e → (e.1 ≡ key) ⊎ (e.1 ≢ key) → IsNamed name_of same_name source_of same_source next sources e
        keep e n (inl same) =
            let item_is : n.item ≡ item = some_is (sym n.stored ∙ ap (get slab) same ∙ stored) in
            record { item = changed; stored = ap (get next) same ∙ updates.changed; named = same_name_of ∙ ap name_of (sym item_is) ∙ n.named; placed = ap (λ p. lookup (same_source p) sources) (same_source_of ∙ ap source_of (sym item_is)) ∙ n.placed }
        keep e n (inr differs) = record { item = n.item; stored = updates.others e.1 differs ∙ n.stored; named = n.named; placed = n.placed }

        moved : (place : Source) (other : ℕ) → IsPlaced name_of same_name source_of same_source slab names place other → (other ≡ key) ⊎ (other ≢ key) → IsPlaced name_of same_name source_of same_source next names place other
        moved place other way (inl same) =
            let item_is : way.item ≡ item = some_is (sym way.stored ∙ ap (get slab) same ∙ stored) in
            record { item = changed; stored = ap (get next) same ∙ updates.changed; placed = same_source_of ∙ ap source_of (sym item_is) ∙ way.placed; named = ap (λ m. lookup (same_name m) names) (same_name_of ∙ ap name_of (sym item_is)) ∙ way.named }
        moved place other way (inr differs) = record { item = way.item; stored = updates.others other differs ∙ way.stored; placed = way.placed; named = way.named }

    -- the items that pass are those of this key, and they are changed
    pub items_changed_at : (test : Item → Bool) (change : Item → Item) → test item ≡ true → change item ≡ changed
        → ((e : Name × ℕ) (n : IsNamed name_of same_name source_of same_source slab sources e) → test n.item ≡ true → e.1 ≡ key)
        → items_of next names ≡ map (λ r. if test r then change r else r) (items_of slab names)
    items_changed_at test change passes gives only = items_changed slab next test change names (each _ _ (λ e n. (n.item, n.stored, split e n (test n.item) refl (cases_eq e.1 key))) names indexed.by_name)
      where
        split : (e : Name × ℕ) (n : IsNamed name_of same_name source_of same_source slab sources e) (b : Bool) → test n.item ≡ b → (e.1 ≡ key) ⊎ (e.1 ≢ key) → get next e.1 ≡ Some (if test n.item then change n.item else n.item)
        split e n b is (inl same) =
            let item_is : n.item ≡ item = some_is (sym n.stored ∙ ap (get slab) same ∙ stored) in
            ap (get next) same ∙ updates.changed ∙ ap Some (sym gives ∙ ap change (sym item_is)) ∙ ap (λ c. Some (if c then change n.item else n.item)) (sym (ap test item_is ∙ passes))
        split e n true is (inr differs) = absurd (differs (only e n is))
        split e n false is (inr differs) = updates.others e.1 differs ∙ n.stored ∙ ap (λ c. Some (if c then change n.item else n.item)) (sym is)

  -- ---- the items that pass a test, of which a look-up finds the one that may also be running
  module _ (test running : Item → Bool) (found : Option ℕ) (leads : (e : Name × ℕ) (n : IsNamed name_of same_name source_of same_source slab sources e) → test n.item ≡ true → found ≡ Some e.1) where
    pub find_nobody : ((key : ℕ) (item : Item) → found ≡ Some key → get slab key ≡ Some item → running item ≡ false) → find (λ r. test r && running r) (items_of slab names) ≡ None
    find_nobody none = find_none slab (λ r. test r && running r) names (each _ _ (λ e n. (n.item, n.stored, split e n (test n.item) refl)) names indexed.by_name)
      where
        split : (e : Name × ℕ) (n : IsNamed name_of same_name source_of same_source slab sources e) (b : Bool) → test n.item ≡ b → test n.item && running n.item ≡ false
        split e n true is = rw is (none e.1 n.item (leads e n is) n.stored)
        split e n false is = rw is refl

    passes : (item : Item) → test item && running item ≡ true → test item ≡ true
    passes item both = split (test item) refl
      where
        split : (b : Bool) → test item ≡ b → test item ≡ true
        split true is = is
        split false is = absurd (true≢false (sym both ∙ ap (λ b. b && running item) is))

    pub only_one : (key : ℕ) → found ≡ Some key → (e : Name × ℕ) (n : IsNamed name_of same_name source_of same_source slab sources e) → test n.item && running n.item ≡ true → e.1 ≡ key
    only_one key at e n both = some_is (sym (leads e n (passes n.item both)) ∙ at)

    pub find_running : (key : ℕ) (item : Item) → found ≡ Some key → get slab key ≡ Some item → test item ≡ true → running item ≡ true → (by : Name → Bool) → lookup by names ≡ Some key → find (λ r. test r && running r) (items_of slab names) ≡ Some item
    find_running key item at stored tested runs by named =
        find_one slab (λ r. test r && running r) key item stored (ap (λ b. b && running item) tested ∙ runs) names
        (each _ _ (λ e n. (n.item, n.stored, only_one key at e n)) names indexed.by_name) by named

-- where no item passes, none is changed
pub change_none : {Item : Type 0} (test : Item → Bool) (change : Item → Item) (items : List Item) → find test items ≡ None → map (λ r. if test r then change r else r) items ≡ items
change_none test change [] h = refl
change_none test change (r ∷ rs) h = split (test r) refl (change_none test change rs)
  where
    split : (b : Bool) → test r ≡ b → (find test rs ≡ None → map (λ r. if test r then change r else r) rs ≡ rs) → (if test r then change r else r) ∷ map (λ r. if test r then change r else r) rs ≡ r ∷ rs
    split true is rest = let some : find test (r ∷ rs) ≡ Some r = ap (λ b. cond b (Some r) (find test rs)) is in absurd (cc)
    split false is rest = rw is (ap (λ ys. r ∷ ys) (rest (sym (ap (λ b. cond b (Some r) (find test rs)) is) ∙ h)))

pub any_found : {Item : Type 0} (test : Item → Bool) (items : List Item) → list_any test items ≡ is_some (find test items)
any_found test [] = refl
any_found test (r ∷ rs) = split (test r) refl (any_found test rs)
  where
    split : (b : Bool) → test r ≡ b → list_any test rs ≡ is_some (find test rs) → list_any test (r ∷ rs) ≡ is_some (cond (test r) (Some r) (find test rs))
    split true is rest = rw is refl
    split false is rest = rw is rest
