-- The class 3 connection of an O->T id, before and after each change of a list of connections.
use Rattle.std.proofs.Common.{◌≡◌, ◌⊎◌, inl, inr, ℕ, ◌==◌, ◌&&◌, ◌||◌, Bool, true, false, cond, List, [], ◌∷◌, ◌++◌, filter, find, Option, Some, None, refl, sym, ◌∙◌, ap, subst, arith, eqb-true}
use Rattle.std.specs.List.{list_any}
use Rattle.std.proofs.lemmas.Bool.Decides.{nat_tests}
use Rattle.std.proofs.lemmas.Option.{same_Some}
use Rattle.base_lemmas.specs.Lists.{found_passes}
use Rattle.cip_types.specs.declared.names.ConnId.{ConnId}
use Rattle.messaging.specs.declared.class3.Class3Connection.{Class3Connection}
use Rattle.messaging.specs.Class3Connections.{has_class3_id, first_changed}
use Rattle.messaging.specs.Sound.{EachOf, EachTwoOf, IdsDiffer}
use Rattle.messaging.specs.Lemmas.EachOfLemmas.{each_left}
use Rattle.adapter_table.specs.declared.table.Stream.{Stream}
use Rattle.adapter_table.specs.Lemmas.MessageLemmas.{found_any}
use Rattle.adapter_table.specs.MessagesSound.{carries, IsCarried}
use Rattle.adapter_table.specs.Sound.{StreamsDiffer}
use Rattle.adapter_table.specs.Streams.{is_stream}

abbrev pub Found : ConnId → List Class3Connection → Class3Connection → Type 0
Found id ds d = find (has_class3_id id) ds ≡ Some d

-- each that is found after a change was found before, and is what the change made of it
pub record Was (id : ConnId) (ds : List Class3Connection) (change : Class3Connection → Class3Connection) (e : Class3Connection) : Type 0 where
  pub old : Class3Connection
  pub found : Found id ds old
  pub is : e ≡ change old

abbrev pub Leaves : ConnId → (Class3Connection → Class3Connection) → List Class3Connection → List Class3Connection → Type 0
Leaves id change ds es = (e : Class3Connection) → Found id es e → Was id ds change e

abbrev pub same : Class3Connection → Class3Connection
same d = d

pub leaves_same : (id : ConnId) (ds : List Class3Connection) → Leaves id same ds ds
leaves_same id ds e found = record { old = e; found = found; is = refl }

-- behind one that another id has
behind : (id : ConnId) (change : Class3Connection → Class3Connection) (x : Class3Connection) (ds : List Class3Connection) (e : Class3Connection) → has_class3_id id x ≡ false → Was id ds change e → Was id (x ∷ ds) change e
behind id change x ds e other was = record { old = was.old; found = rw other was.found; is = was.is }

-- ---- ids that differ

differ_in_id : (id : ConnId) (x e : Class3Connection) → has_class3_id id x ≡ true → has_class3_id id e ≡ true → IdsDiffer x e → true ≡ false
differ_in_id id x e first second apart = absurd (grind (arith, nat_tests))

each_step : {A : Type 0} (P : A → Type 0) (b : Bool) (y e : A) (rest : Option A) → cond b (Some y) rest ≡ Some e → P y → (rest ≡ Some e → P e) → P e
each_step P true y e rest found here more = subst P (same_Some y e found) here
each_step P false y e rest found here more = more found

pub each_found : {A : Type 0} (P : A → Type 0) (p : A → Bool) (xs : List A) (e : A) → find p xs ≡ Some e → EachOf P xs → P e
each_found P p [] e is all = absurd (let x = is in cc)
each_found P p (x ∷ xs) e is all = each_step P (p x) x e (find p xs) is all.0 (λ later. each_found P p xs e later all.1)

-- ---- some connections end

filter_step : (a b : Bool) (id : ConnId) (p : Class3Connection → Bool) (x : Class3Connection) (xs : List Class3Connection) (e : Class3Connection) → has_class3_id id x ≡ a → p x ≡ b → EachOf (IdsDiffer x) xs → Found id (cond b (x ∷ filter p xs) (filter p xs)) e → (Found id (filter p xs) e → Was id xs same e) → Was id (x ∷ xs) same e
filter_step true true id p x xs e has passes differ found rest =
    record { old = x; found = rw has refl; is = sym (same_Some x e (sym (hit has) ∙ found)) }
  where
    hit : has_class3_id id x ≡ true → find (has_class3_id id) (x ∷ filter p xs) ≡ Some x
    hit is = rw is refl
filter_step false true id p x xs e has passes differ found rest =
    behind id same x xs e has (rest (sym (miss has) ∙ found))
  where
    miss : has_class3_id id x ≡ false → find (has_class3_id id) (x ∷ filter p xs) ≡ find (has_class3_id id) (filter p xs)
    miss is = rw is refl
filter_step true false id p x xs e has passes differ found rest =
    let apart = each_found (IdsDiffer x) (has_class3_id id) (filter p xs) e found (each_left (IdsDiffer x) p xs differ) in
    absurd (let never = differ_in_id id x e has (found_passes (has_class3_id id) (filter p xs) e found) apart in cc)
filter_step false false id p x xs e has passes differ found rest = behind id same x xs e has (rest found)

pub filter_leaves : (id : ConnId) (p : Class3Connection → Bool) (ds : List Class3Connection) → EachTwoOf IdsDiffer ds → Leaves id same ds (filter p ds)
filter_leaves id p [] differ e found = absurd (let x = found in cc)
filter_leaves id p (x ∷ xs) differ e found =
    filter_step (has_class3_id id x) (p x) id p x xs e refl refl differ.0 found (λ later. filter_leaves id p xs differ.1 e later)

-- ---- one connection is changed

-- the change is of a connection of this id, and leaves ids
pub record IsChange (other : ConnId) (test : Class3Connection → Bool) (f : Class3Connection → Class3Connection) : Type 0 where
  pub named : (d : Class3Connection) → test d ≡ true → has_class3_id other d ≡ true
  pub id : (d : Class3Connection) → (f d).o_t_id ≡ d.o_t_id

abbrev pub changed : (Class3Connection → Bool) → (Class3Connection → Class3Connection) → Class3Connection → Class3Connection
changed test f d = cond (test d) (f d) d

-- two ids of one connection are the ids of all that have one of them
one_id : (id other : ConnId) (x e : Class3Connection) → has_class3_id other x ≡ true → has_class3_id id x ≡ false → has_class3_id id e ≡ true → has_class3_id other e ≡ true → true ≡ false
one_id id other x e first apart second third = absurd (grind (arith, nat_tests))

untouched : (b : Bool) (id other : ConnId) (test : Class3Connection → Bool) (f : Class3Connection → Class3Connection) (x e : Class3Connection) → IsChange other test f → has_class3_id id x ≡ false → test x ≡ true → has_class3_id id e ≡ true → test e ≡ b → e ≡ cond b (f e) e
untouched true id other test f x e change apart tests has own = absurd (let never = one_id id other x e (change.named x tests) apart has (change.named e own) in cc)
untouched false id other test f x e change apart tests has own = refl

change_step : (a b : Bool) (id other : ConnId) (test : Class3Connection → Bool) (f : Class3Connection → Class3Connection) (x : Class3Connection) (xs : List Class3Connection) (e : Class3Connection) → IsChange other test f → has_class3_id id x ≡ a → test x ≡ b → Found id (cond b (f x ∷ xs) (x ∷ first_changed test f xs)) e → (Found id (first_changed test f xs) e → Was id xs (changed test f) e) → Was id (x ∷ xs) (changed test f) e
change_step true true id other test f x xs e change has tests found rest =
    record { old = x; found = rw has refl; is = sym (same_Some (f x) e (sym (hit (ap (λ (i : ConnId). i.0 == id.0) (change.id x) ∙ has)) ∙ found)) ∙ made tests }
  where
    hit : has_class3_id id (f x) ≡ true → find (has_class3_id id) (f x ∷ xs) ≡ Some (f x)
    hit is = rw is refl

    made : test x ≡ true → f x ≡ cond (test x) (f x) x
    made is = rw is refl
change_step false true id other test f x xs e change has tests found rest =
    let later : Found id xs e = sym (miss (ap (λ (i : ConnId). i.0 == id.0) (change.id x) ∙ has)) ∙ found in
    record { old = e; found = rw has later; is = untouched (test e) id other test f x e change has tests (found_passes (has_class3_id id) xs e later) refl }
  where
    miss : has_class3_id id (f x) ≡ false → find (has_class3_id id) (f x ∷ xs) ≡ find (has_class3_id id) xs
    miss is = rw is refl
change_step true false id other test f x xs e change has tests found rest =
    record { old = x; found = rw has refl; is = sym (same_Some x e (sym (hit has) ∙ found)) ∙ left tests }
  where
    hit : has_class3_id id x ≡ true → find (has_class3_id id) (x ∷ first_changed test f xs) ≡ Some x
    hit is = rw is refl

    left : test x ≡ false → x ≡ cond (test x) (f x) x
    left is = rw is refl
change_step false false id other test f x xs e change has tests found rest =
    behind id (changed test f) x xs e has (rest (sym (miss has) ∙ found))
  where
    miss : has_class3_id id x ≡ false → find (has_class3_id id) (x ∷ first_changed test f xs) ≡ find (has_class3_id id) (first_changed test f xs)
    miss is = rw is refl

pub change_leaves : (id other : ConnId) (test : Class3Connection → Bool) (f : Class3Connection → Class3Connection) → IsChange other test f → (ds : List Class3Connection) → Leaves id (changed test f) ds (first_changed test f ds)
change_leaves id other test f change [] e found = absurd (let x = found in cc)
change_leaves id other test f change (x ∷ xs) e found =
    change_step (has_class3_id id x) (test x) id other test f x xs e change refl refl found (λ later. change_leaves id other test f change xs e later)

-- ---- a connection opens

append_step : (b : Bool) (x : Class3Connection) (rest : Option Class3Connection) (e : Class3Connection) → cond b (Some x) rest ≡ Some e → ((b ≡ true) × (x ≡ e)) ⊎ ((b ≡ false) × (rest ≡ Some e))
append_step true x rest e is = inl (refl, same_Some x e is)
append_step false x rest e is = inr (refl, is)

pub appended : (id : ConnId) (ds : List Class3Connection) (new e : Class3Connection) → Found id (ds ++ new ∷ []) e → Found id ds e ⊎ (has_class3_id id new ≡ true)
appended id [] new e found = elim (append_step (has_class3_id id new) new None e found) [
  | inl mine ↦ inr mine.0
  | inr other ↦ absurd (let x = other.1 in cc)
]
appended id (x ∷ ds) new e found = elim (append_step (has_class3_id id x) x (find (has_class3_id id) (ds ++ new ∷ [])) e found) [
  | inl mine ↦ inl (first_is (has_class3_id id x) mine.0 mine.1)
  | inr other ↦ elim (appended id ds new e other.1) [
    | inl later ↦ inl (later_is (has_class3_id id x) other.0 later)
    | inr here ↦ inr here
  ]
]
  where
    first_is : (b : Bool) → b ≡ true → x ≡ e → cond b (Some x) (find (has_class3_id id) ds) ≡ Some e
    first_is true is alike = ap (λ (d : Class3Connection). Some d) alike
    first_is false is alike = absurd (let n : false ≡ true = is in cc)

    later_is : (b : Bool) → b ≡ false → find (has_class3_id id) ds ≡ Some e → cond b (Some x) (find (has_class3_id id) ds) ≡ Some e
    later_is true is later = absurd (let n : true ≡ false = is in cc)
    later_is false is later = later

-- ---- one that another test finds

own_step : (a b : Bool) (id : ConnId) (p : Class3Connection → Bool) (x d : Class3Connection) (xs : List Class3Connection) → has_class3_id id x ≡ b → EachOf (IdsDiffer x) xs → has_class3_id id d ≡ true → cond a (Some x) (find p xs) ≡ Some d → (find p xs ≡ Some d → Found id xs d) → cond b (Some x) (find (has_class3_id id) xs) ≡ Some d
own_step true true id p x d xs has differ mine is rest = is
own_step true false id p x d xs has differ mine is rest = absurd (let n : true ≡ false = sym mine ∙ ap (has_class3_id id) (sym (same_Some x d is)) ∙ has in cc)
own_step false true id p x d xs has differ mine is rest =
    let apart = each_found (IdsDiffer x) p xs d is differ in
    absurd (let never = differ_in_id id x d has mine apart in cc)
own_step false false id p x d xs has differ mine is rest = rest is

-- it is the one of its id
pub found_of_id : (id : ConnId) (p : Class3Connection → Bool) (ds : List Class3Connection) (d : Class3Connection) → EachTwoOf IdsDiffer ds → has_class3_id id d ≡ true → find p ds ≡ Some d → Found id ds d
found_of_id id p [] d differ mine is = absurd (let x = is in cc)
found_of_id id p (x ∷ xs) d differ mine is = own_step (p x) (has_class3_id id x) id p x d xs refl differ.0 mine is (λ later. found_of_id id p xs d differ.1 mine later)

both_step : (a : Bool) (q : Class3Connection → Bool) (x d : Class3Connection) (first rest : Option Class3Connection) → cond a (Some x) first ≡ Some d → q d ≡ true → (first ≡ Some d → rest ≡ Some d) → cond (a && q x) (Some x) rest ≡ Some d
both_step true q x d first rest is tests later = let alike : x ≡ d = same_Some x d is in rw (ap q alike ∙ tests) is
both_step false q x d first rest is tests later = later is

-- the one of its id that passes another test is found by both
pub found_both : (id : ConnId) (q : Class3Connection → Bool) (ds : List Class3Connection) (d : Class3Connection) → Found id ds d → q d ≡ true → find (λ x. has_class3_id id x && q x) ds ≡ Some d
found_both id q [] d is tests = absurd (let x = is in cc)
found_both id q (x ∷ xs) d is tests = both_step (has_class3_id id x) q x d (find (has_class3_id id) xs) (find (λ y. has_class3_id id y && q y) xs) is tests (λ later. found_both id q xs d later tests)

both_swapped : (a : Bool) (q : Class3Connection → Bool) (x d : Class3Connection) (first rest : Option Class3Connection) → cond a (Some x) first ≡ Some d → q d ≡ true → (first ≡ Some d → rest ≡ Some d) → cond (q x && a) (Some x) rest ≡ Some d
both_swapped true q x d first rest is tests later = let alike : x ≡ d = same_Some x d is in rw (ap q alike ∙ tests) is
both_swapped false q x d first rest is tests later = none (q x) where
  none : (b : Bool) → cond (b && false) (Some x) rest ≡ Some d
  none true = later is
  none false = later is

pub found_with : (id : ConnId) (q : Class3Connection → Bool) (ds : List Class3Connection) (d : Class3Connection) → Found id ds d → q d ≡ true → find (λ x. q x && has_class3_id id x) ds ≡ Some d
found_with id q [] d is tests = absurd (let x = is in cc)
found_with id q (x ∷ xs) d is tests = both_swapped (has_class3_id id x) q x d (find (has_class3_id id) xs) (find (λ y. q y && has_class3_id id y) xs) is tests (λ later. found_with id q xs d later tests)

-- ---- the stream of a connection

carrying_step : (a b : Bool) (x : Stream) (rest : Option Stream) (more : Bool) → ((a && b) || more) ≡ true → (more ≡ true → (s : Stream) × (rest ≡ Some s)) → (s : Stream) × (cond a (Some x) rest ≡ Some s)
carrying_step true b x rest more is later = (x, refl)
carrying_step false b x rest more is later = later is

pub carrying : (number : ℕ) (streams : List Stream) → IsCarried streams number → (s : Stream) × (find (is_stream number) streams ≡ Some s)
carrying number [] carried = absurd (let x = carried in cc)
carrying number (x ∷ streams) carried = carrying_step (is_stream number x) x.registered x (find (is_stream number) streams) (list_any (carries number) streams) carried (λ later. carrying number streams later)

any_open : (number : ℕ) (streams : List Stream) → (s : Stream) × (find (is_stream number) streams ≡ Some s) → list_any (is_stream number) streams ≡ true
any_open number streams found = found_any (is_stream number) (is_stream number) streams found.0 found.1 (found_passes (is_stream number) streams found.0 found.1)

registered_step : (a b : Bool) (number : ℕ) (x s : Stream) (streams : List Stream) → is_stream number x ≡ a → x.registered ≡ b → StreamsDiffer (x ∷ streams) → IsCarried (x ∷ streams) number → cond a (Some x) (find (is_stream number) streams) ≡ Some s → (IsCarried streams number → find (is_stream number) streams ≡ Some s → s.registered ≡ true) → s.registered ≡ true
registered_step true true number x s streams here has differ carried found later = ap (λ (y : Stream). y.registered) (sym (same_Some x s found)) ∙ has
registered_step true false number x s streams here has differ carried found later =
    let n : x.number ≡ number = eqb-true x.number number here in
    let rest : IsCarried streams number = sym (none (is_stream number x) has) ∙ carried in
    absurd (let never : true ≡ false = sym (any_open number streams (carrying number streams rest)) ∙ ap (λ (k : ℕ). list_any (is_stream k) streams) (sym n) ∙ differ.0 in cc)
  where
    none : (b : Bool) → x.registered ≡ false → ((b && x.registered) || list_any (carries number) streams) ≡ list_any (carries number) streams
    none true is = rw is refl
    none false is = refl
registered_step false b number x s streams here has differ carried found later = later (rest here carried) found where
  rest : is_stream number x ≡ false → IsCarried (x ∷ streams) number → IsCarried streams number
  rest is there = let e : list_any (carries number) (x ∷ streams) ≡ list_any (carries number) streams = rw is refl in sym e ∙ there

-- the open stream of a class 3 connection has a session
pub registered : (number : ℕ) (streams : List Stream) (s : Stream) → StreamsDiffer streams → IsCarried streams number → find (is_stream number) streams ≡ Some s → s.registered ≡ true
registered number [] s differ carried found = absurd (let x = found in cc)
registered number (x ∷ streams) s differ carried found =
    registered_step (is_stream number x) x.registered number x s streams refl refl differ carried found (λ more later. registered number streams s differ.1 more later)
