-- An adapter's books over the productions of a tick, and of a write of an input: each step keeps that its producers and what
-- they produced agree.
use Rattle.std.proofs.Common.{◌≡◌, ◌≢◌, ◌≤◌, ℕ, ◌==◌, ◌&&◌, Bool, true, false, cond, List, [], ◌∷◌, ◌++◌, map, filter, find, is_some, Option, Some, None, Result, Ok, Err, IfOk, ◌⊎◌, inl, inr, refl, sym, ◌∙◌, ap, subst, arith, eqb-true, eq-eqb, ne_eqb}
use Rattle.std.proofs.lemmas.Bool.{and_parts, eqb-false}
use Rattle.std.specs.List.{AllByRecursion, filter_map}
use Rattle.std.specs.Option.{IfSome, unwrap_or}
use Rattle.base_lemmas.specs.Numbers.{not_same}
use Rattle.cip_types.specs.Order.{inserted, in_order, differs, first_of_each}
use Rattle.cip_types.specs.declared.names.Ms.{Ms}
use Rattle.cip_events.specs.declared.event.Event.{Event}
use Rattle.cip_events.specs.declared.event.Event.TheVariants as event
use Rattle.cip_events.specs.declared.event.StepFault.{StepFault}
use Rattle.cip_netparams.specs.declared.Trigger.{Trigger}
use Rattle.cip_netparams.specs.declared.Trigger.TheVariants.{Cyclic, ChangeOfState}
use Rattle.cip_productions.specs.declared.production.Production as cip
use Rattle.cip_productions.specs.declared.production.Producer.{Producer}
use Rattle.cip_productions.specs.Productions.{produced, is_production_due, is_free, deferred, is_on_change, is_produced_on_change, changed_by, same_producer, by_number, by_due}
use Rattle.adapter_table.specs.declared.profile.Profile.{Profile}
use Rattle.adapter_table.specs.Connections.{Row}
use Rattle.adapter_table.specs.declared.row.State.{State}
use Rattle.adapter_table.specs.declared.row.State.TheVariants.{Established, TimedOut}
use Rattle.adapter_table.specs.declared.table.AdapterTable.{AdapterTable}
use Rattle.adapter_table.specs.declared.table.PointValue.{PointValue}
use Rattle.adapter_table.specs.Closing.{stays}
use Rattle.adapter_table.specs.Points.{bytes_at}
use Rattle.adapter_table.specs.Productions.{state_is_due, state_producer, producer_in, producers, producer_of, is_due, produced_state, produced_row, state_produces_on_change, produces_on_change, changed_state, changed_row}
use Rattle.adapter_table.specs.Profiles.{is_at}
use Rattle.adapter_table.specs.Requests.{Next}
use Rattle.adapter_table.specs.Rows.{is_established, written_state, written_row, Each as RowsEach, EachTwo as RowsTwo}
use Rattle.adapter_table.specs.Scratch.{or_else}
use Rattle.adapter_table.specs.Sound.{ShareInGroup}
use Rattle.adapter_table.specs.Step.{written_table, changed_table, write, adapter_step}
use Rattle.adapter_table.specs.Ticks.{has_expired, expired_row, expired_rows, clocked_table, expired_table, produced_table, advanced, tick}
use Rattle.adapter_table.specs.Whole.{IsWhole}
use Rattle.messaging.specs.declared.table.Messaging.{Messaging}
use Rattle.adapter_table.specs.Messages.{with_messages}
use Rattle.adapter_table.specs.Lemmas.CounterSteps.{profile_stays}
use Rattle.adapter_table.specs.Lemmas.EffectLemmas.{write_is, tick_is}
use Rattle.device_laws.specs.Lemmas.Lists.{all_more, all_filtered, all_mapped, all_ordered, all_firsts, all_made, all_kept}
use Rattle.device_laws.specs.Lemmas.Texts.{either}
use Rattle.device_laws.specs.Inputs.{written_at, StepsWriteInputs}
use Rattle.device_laws.specs.Made.{Made, adapter_made, due_made, advanced_made, changed_made, adapter_makes}
use Rattle.device_laws.specs.Productions.{End, end_at, Production, numbered, produced_more}
use Rattle.device_laws.specs.Lemmas.ListCounts.{Has, all_has, has_filter, has_order}
use Rattle.device_laws.specs.Lemmas.Books.{HasNotProduced, ProducerBooks, WellMade, IsOwn, unproduced_more, books_other, books_own, rewritten, well_more}
use Rattle.device_laws.specs.Lemmas.Inputs.{steps_write}
use Rattle.device_laws.specs.Lemmas.AdapterBooks.{RowStateBooks, RowBooks, InputBooks, AdapterBooks, ProducesInput, RowsProduceInputs, IsQuiet, input_value, same_changed, steps_produce, messages_keep, quiet_keeps, books_as}

-- ---- lists

-- so related is each to each that stands behind it
abbrev Two : {X : Type 0} → (X → X → Type 0) → List X → Type 0
Two R [] = Unit {0}
Two R (x ∷ xs) = AllByRecursion (R x) xs × Two R xs

two_kept : {X : Type 0} (R : X → X → Type 0) (b : Bool) (x : X) (p : X → Bool) (xs : List X) → AllByRecursion (R x) xs → Two R (filter p xs) → Two R (cond b (x ∷ filter p xs) (filter p xs))
two_kept R true x p xs all two = (all_filtered (R x) p xs all, two)
two_kept R false x p xs all two = two

two_filter : {X : Type 0} (R : X → X → Type 0) (p : X → Bool) (xs : List X) → Two R xs → Two R (filter p xs)
two_filter R p [] two = tt
two_filter R p (x ∷ xs) two = two_kept R (p x) x p xs two.0 (two_filter R p xs two.1)

-- the numbers of two producers differ
abbrev Apart : Producer → Producer → Type 0
Apart a b = a.production.producer ≢ b.production.producer

differ_apart : (a b : Producer) → differs same_producer a b ≡ true → Apart a b
differ_apart a b is = not_same a.production.producer b.production.producer is

firsts_apart : (xs : List Producer) → Two Apart (first_of_each same_producer xs)
firsts_apart [] = tt
firsts_apart (x ∷ xs) = (
  all_more (λ (y : Producer). differs same_producer x y ≡ true) (Apart x) (differ_apart x) (filter (differs same_producer x) (first_of_each same_producer xs)) (all_kept (differs same_producer x) (first_of_each same_producer xs)),
  two_filter Apart (differs same_producer x) (first_of_each same_producer xs) (firsts_apart xs),
)

all_new_step : (b : Bool) (P : Producer → Type 0) (x y : Producer) (ys more : List Producer) → P x → P y → AllByRecursion P ys → AllByRecursion P more → AllByRecursion P (cond b (x ∷ y ∷ ys) (y ∷ more))
all_new_step true P x y ys more is here all inner = (is, (here, all))
all_new_step false P x y ys more is here all inner = (here, inner)

all_inserted : (P : Producer → Type 0) (before : Producer → Producer → Bool) (x : Producer) (ys : List Producer) → P x → AllByRecursion P ys → AllByRecursion P (inserted before x ys)
all_inserted P before x [] is all = (is, tt)
all_inserted P before x (y ∷ ys) is all = all_new_step (before x y) P x y ys (inserted before x ys) is all.0 all.1 (all_inserted P before x ys is all.1)

two_new_step : (b : Bool) (x y : Producer) (ys more : List Producer) → AllByRecursion (Apart x) (y ∷ ys) → Two Apart (y ∷ ys) → Two Apart more → AllByRecursion (Apart y) more → Two Apart (cond b (x ∷ y ∷ ys) (y ∷ more))
two_new_step true x y ys more apart two inner behind = (apart, two)
two_new_step false x y ys more apart two inner behind = (behind, inner)

two_inserted : (before : Producer → Producer → Bool) (x : Producer) (ys : List Producer) → AllByRecursion (Apart x) ys → Two Apart ys → Two Apart (inserted before x ys)
two_inserted before x [] apart two = (tt, tt)
two_inserted before x (y ∷ ys) apart two =
    two_new_step (before x y) x y ys (inserted before x ys) apart two (two_inserted before x ys apart.1 two.1)
    (all_inserted (Apart y) before x ys (λ same. apart.0 (sym same)) two.0)

two_ordered : (before : Producer → Producer → Bool) (xs : List Producer) → Two Apart xs → Two Apart (in_order before xs)
two_ordered before [] two = tt
two_ordered before (x ∷ xs) two = two_inserted before x (in_order before xs) (all_ordered (Apart x) before xs two.0) (two_ordered before xs two.1)

-- a producer of this number stands in the list
pub record HasNumber (n : ℕ) (xs : List Producer) : Type 0 where
  pub producer : Producer
  pub there : Has producer xs
  pub is : producer.production.producer ≡ n

first_step : (b : Bool) (n : ℕ) (x : Producer) (xs : List Producer) → (x.production.producer == n) ≡ b → HasNumber n (first_of_each same_producer xs) → HasNumber n (first_of_each same_producer (x ∷ xs))
first_step true n x xs is has = record { producer = x; there = inl refl; is = eqb-true x.production.producer n is }
first_step false n x xs is has =
    let passes : differs same_producer x has.producer ≡ true = rw has.is (rw is refl) in
    record { producer = has.producer; there = inr (has_filter (differs same_producer x) has.producer (first_of_each same_producer xs) passes has.there); is = has.is }

firsts_step : (n : ℕ) (x : Producer) (xs : List Producer) (has : HasNumber n (x ∷ xs)) → (x ≡ has.producer) ⊎ Has has.producer xs → ((more : HasNumber n xs) → HasNumber n (first_of_each same_producer xs)) → HasNumber n (first_of_each same_producer (x ∷ xs))
firsts_step n x xs has (inl is) more = record { producer = x; there = inl refl; is = ap (λ (p : Producer). p.production.producer) is ∙ has.is }
firsts_step n x xs has (inr there) more = first_step (x.production.producer == n) n x xs refl (more (record { producer = has.producer; there = there; is = has.is }))

has_firsts : (n : ℕ) (xs : List Producer) → HasNumber n xs → HasNumber n (first_of_each same_producer xs)
has_firsts n [] has = absurd has.there
has_firsts n (x ∷ xs) has = firsts_step n x xs has has.there (has_firsts n xs)

has_ordered : (before : Producer → Producer → Bool) (n : ℕ) (xs : List Producer) → HasNumber n xs → HasNumber n (in_order before xs)
has_ordered before n xs has = record { producer = has.producer; there = has_order before has.producer xs has.there; is = has.is }

-- ---- rows and their producers

abbrev row_producer : Row → cip.Production → Producer
row_producer row p = record { point = row.produced; id = row.t_o_id; production = p }

first_made : (row : Row) (state : State) (rest : List Row) (n : ℕ) → row.state ≡ state → HasNumber n (filter_map producer_in rest) → HasNumber n (filter_map producer_in (row ∷ rest))
first_made row TimedOut rest n is has = rw is has
first_made row (Established p) rest n is has = rw is (record { producer = has.producer; there = inr has.there; is = has.is })

has_producer : (rows : List Row) (row : Row) (p : cip.Production) → Has row rows → row.state ≡ Established p → HasNumber p.producer (filter_map producer_in rows)
has_producer [] row p has is = absurd has
has_producer (a ∷ rows) row p (inl same) is =
    let at : a.state ≡ Established p = ap (λ (x : Row). x.state) same ∙ is in
    rw at (record { producer = row_producer a p; there = inl refl; is = refl })
has_producer (a ∷ rows) row p (inr has) is = first_made a a.state rows p.producer refl (has_producer rows row p has is)

-- the producer is that of a row which passes the test
pub record IsFrom (test : Row → Bool) (rows : List Row) (x : Producer) : Type 0 where
  pub row : Row
  pub there : Has row rows
  pub passes : test row ≡ true
  pub state : row.state ≡ Established x.production
  pub point : x.point ≡ row.produced

state_from : (test : Row → Bool) (rows : List Row) (row : Row) (state : State) → row.state ≡ state → Has row rows → test row ≡ true → IfSome (state_producer row state) (IsFrom test rows)
state_from test rows row TimedOut is has passes = tt
state_from test rows row (Established p) is has passes = record { row = row; there = has; passes = passes; state = is; point = refl }

pub record StandsPassing (test : Row → Bool) (rows : List Row) (row : Row) : Type 0 where
  pub there : Has row rows
  pub passes : test row ≡ true

passing_there : (b : Bool) (test : Row → Bool) (all : List Row) (row : Row) (rest : List Row) → test row ≡ b → Has row all → AllByRecursion (StandsPassing test all) rest → AllByRecursion (StandsPassing test all) (cond b (row ∷ rest) rest)
passing_there true test all row rest is has more = (record { there = has; passes = is }, more)
passing_there false test all row rest is has more = more

filter_there : (test : Row → Bool) (all rows : List Row) → ((row : Row) → Has row rows → Has row all) → AllByRecursion (StandsPassing test all) (filter test rows)
filter_there test all [] more = tt
filter_there test all (row ∷ rows) more = passing_there (test row) test all row (filter test rows) refl (more row (inl refl)) (filter_there test all rows (λ other has. more other (inr has)))

all_from : (test : Row → Bool) (before : Producer → Producer → Bool) (rows : List Row) → AllByRecursion (IsFrom test rows) (in_order before (producers (filter test rows)))
all_from test before rows =
    all_ordered (IsFrom test rows) before (producers (filter test rows))
    (all_firsts (IsFrom test rows) same_producer (filter_map producer_in (filter test rows))
    (all_made (StandsPassing test rows) (IsFrom test rows) producer_in (λ row stands. state_from test rows row row.state refl stands.there stands.passes) (filter test rows) (filter_there test rows rows (λ row has. has))))

has_from : (test : Row → Bool) (before : Producer → Producer → Bool) (rows : List Row) (row : Row) (p : cip.Production) → Has row rows → test row ≡ true → row.state ≡ Established p → HasNumber p.producer (in_order before (producers (filter test rows)))
has_from test before rows row p has passes is =
    has_ordered before p.producer (producers (filter test rows)) (has_firsts p.producer (filter_map producer_in (filter test rows)) (has_producer (filter test rows) row p (has_filter test row rows passes has) is))

-- two rows of one producer are alike
abbrev Share : List Row → Type 0
Share rows = (a b : Row) (p q : cip.Production) → Has a rows → Has b rows → a.state ≡ Established p → b.state ≡ Established q → p.producer ≡ q.producer → (a.produced ≡ b.produced) × (a.state ≡ b.state)

lives_so : (row : Row) (p : cip.Production) → row.state ≡ Established p → is_established row ≡ true
lives_so row p is = rw is refl

same_number : (a b : Row) (p q : cip.Production) → a.state ≡ Established p → b.state ≡ Established q → p.producer ≡ q.producer → producer_of a.state ≡ producer_of b.state
same_number a b p q one two same = rw (one, two) same

share_two : (row : Row) (rest : List Row) (b : Row) (p q : cip.Production) → AllByRecursion (ShareInGroup row) rest → Has b rest → row.state ≡ Established p → b.state ≡ Established q → p.producer ≡ q.producer → (row.produced ≡ b.produced) × (row.state ≡ b.state)
share_two row rest b p q all has one two same =
    let group = all_has (ShareInGroup row) rest b all has (lives_so row p one) (lives_so b q two) (same_number row b p q one two same) in
    (group.input, group.shared.state)

pub share_rows : (rows : List Row) → Two ShareInGroup rows → Share rows
share_rows [] two a b p q has_a has_b one other same = absurd has_a
share_rows (row ∷ rows) two a b p q (inl is) (inl too) one other same = (ap (λ (x : Row). x.produced) (sym is ∙ too), ap (λ (x : Row). x.state) (sym is ∙ too))
share_rows (row ∷ rows) two a b p q (inl is) (inr has) one other same =
    let s = share_two row rows b p q two.0 has (ap (λ (x : Row). x.state) is ∙ one) other same in
    (ap (λ (x : Row). x.produced) (sym is) ∙ s.0, ap (λ (x : Row). x.state) (sym is) ∙ s.1)
share_rows (row ∷ rows) two a b p q (inr has) (inl is) one other same =
    let s = share_two row rows a q p two.0 has (ap (λ (x : Row). x.state) is ∙ other) one (sym same) in
    (sym (ap (λ (x : Row). x.produced) (sym is) ∙ s.0), sym (ap (λ (x : Row). x.state) (sym is) ∙ s.1))
share_rows (row ∷ rows) two a b p q (inr has) (inr too) one other same = share_rows rows two.1 a b p q has too one other same

-- ---- a batch of productions

-- what a producer makes has its number
abbrev AreNumbered : ℕ → (Producer → Made) → Type 0
AreNumbered device make = (x : Producer) → end_at device (make x).number ≡ end_at device x.production.producer

other_end : (device n : ℕ) (m : ℕ) → m ≢ n → end_at device m ≢ end_at device n
other_end device n m ne same = ne (ap (λ (e : End). e.number) same)

made_other : (device n : ℕ) (make : Producer → Made) (x : Producer) → AreNumbered device make → x.production.producer ≢ n → end_at device (make x).number ≢ end_at device n
made_other device n make x named ne same = other_end device n x.production.producer ne (sym (named x) ∙ same)

-- none of them is this producer
abbrev NoneIs : ℕ → List Producer → Type 0
NoneIs n xs = AllByRecursion (λ (x : Producer). x.production.producer ≢ n) xs

books_none : (device n : ℕ) (p : cip.Production) (kept : List ℕ) (make : Producer → Made) (xs : List Producer) → AreNumbered device make → NoneIs n xs → (sent : List Production) → ProducerBooks sent (end_at device n) p kept → ProducerBooks (produced_more device sent (map make xs)) (end_at device n) p kept
books_none device n p kept make [] named others sent ok = ok
books_none device n p kept make (x ∷ xs) named others sent ok =
    books_none device n p kept make xs named others.1 (sent ++ numbered device sent (make x) ∷ []) (books_other sent (end_at device n) p kept device (make x) (made_other device n make x named others.0) ok)

unproduced_none : (device n : ℕ) (make : Producer → Made) (xs : List Producer) → AreNumbered device make → NoneIs n xs → (sent : List Production) → HasNotProduced sent (end_at device n) → HasNotProduced (produced_more device sent (map make xs)) (end_at device n)
unproduced_none device n make [] named others sent ok = ok
unproduced_none device n make (x ∷ xs) named others sent ok =
    unproduced_none device n make xs named others.1 (sent ++ numbered device sent (make x) ∷ []) (unproduced_more sent (end_at device n) device (make x) (made_other device n make x named others.0) ok)

books_one : (device : ℕ) (make : Producer → Made) (clock : Ms) (api : ℕ) (kept : List ℕ) (x : Producer) (xs : List Producer) → AreNumbered device make → IsOwn device (end_at device x.production.producer) x.production kept (make x) → Two Apart xs → Has x xs → (sent : List Production) → ProducerBooks sent (end_at device x.production.producer) x.production kept → ProducerBooks (produced_more device sent (map make xs)) (end_at device x.production.producer) (produced clock api x.production) kept
books_one device make clock api kept x [] named own two has sent ok = absurd has
books_one device make clock api kept x (y ∷ xs) named own two (inl is) sent ok =
    subst (λ (z : Producer). ProducerBooks (produced_more device (sent ++ numbered device sent (make z) ∷ []) (map make xs)) (end_at device x.production.producer) (produced clock api x.production) kept) (sym is)
    (books_none device x.production.producer (produced clock api x.production) kept make xs named
    (all_more (Apart x) (λ (z : Producer). z.production.producer ≢ x.production.producer) (λ z ne same. ne (sym same)) xs (subst (λ (z : Producer). AllByRecursion (Apart z) xs) is two.0))
    (sent ++ numbered device sent (make x) ∷ []) (books_own sent (end_at device x.production.producer) x.production kept device (make x) clock api own ok))
books_one device make clock api kept x (y ∷ xs) named own two (inr has) sent ok =
    books_one device make clock api kept x xs named own two.1 has (sent ++ numbered device sent (make y) ∷ [])
    (books_other sent (end_at device x.production.producer) x.production kept device (make y) (made_other device x.production.producer make y named (all_has (Apart y) xs x two.0 has)) ok)

-- what a producer makes next, where this is what each input holds, and its books
abbrev IsMade : ℕ → (Producer → Made) → (ℕ → List ℕ) → Producer → Type 0
IsMade device make value x = IsOwn device (end_at device x.production.producer) x.production (value x.point) (make x)

abbrev HasBooks : List Production → ℕ → (ℕ → List ℕ) → Producer → Type 0
HasBooks sent device value x = ProducerBooks sent (end_at device x.production.producer) x.production (value x.point)

batch_more : (device : ℕ) (make : Producer → Made) (value : ℕ → List ℕ) (y : Producer) (xs : List Producer) (sent : List Production) → AreNumbered device make → AllByRecursion (Apart y) xs → AllByRecursion (HasBooks sent device value) xs → AllByRecursion (HasBooks (sent ++ numbered device sent (make y) ∷ []) device value) xs
batch_more device make value y [] sent named apart ok = tt
batch_more device make value y (x ∷ xs) sent named apart ok =
    (books_other sent (end_at device x.production.producer) x.production (value x.point) device (make y) (made_other device x.production.producer make y named apart.0) ok.0, batch_more device make value y xs sent named apart.1 ok.1)

well_batch : (device : ℕ) (make : Producer → Made) (value : ℕ → List ℕ) (xs : List Producer) → AreNumbered device make → Two Apart xs → AllByRecursion (IsMade device make value) xs → (sent : List Production) → AllByRecursion (HasBooks sent device value) xs → WellMade sent → WellMade (produced_more device sent (map make xs))
well_batch device make value [] named two made sent ok well = well
well_batch device make value (x ∷ xs) named two made sent ok well =
    well_batch device make value xs named two.1 made.1 (sent ++ numbered device sent (make x) ∷ []) (batch_more device make value x xs sent named two.0 ok.1)
    (well_more sent (end_at device x.production.producer) x.production (value x.point) device (make x) made.0 ok.0 well)

-- ---- rows over a batch

-- what the rows that pass a test do, and what the others do
pub record Phase (test : Row → Bool) (f : Row → Row) : Type 0 where
  pub alike : (a b : Row) → a.produced ≡ b.produced → a.state ≡ b.state → test a ≡ test b
  pub clock : Ms
  pub api : Row → ℕ
  pub input : (row : Row) → (f row).produced ≡ row.produced
  pub yes : (row : Row) (p : cip.Production) → row.state ≡ Established p → test row ≡ true → (f row).state ≡ Established (produced clock (api row) p)
  pub no : (sent : List Production) (device next : ℕ) (kept : List ℕ) (row : Row) (p : cip.Production) → row.state ≡ Established p → test row ≡ false → RowStateBooks sent device next kept (Established p) → RowStateBooks sent device next kept (f row).state
  pub ended : (row : Row) → row.state ≡ TimedOut → (f row).state ≡ TimedOut

state_is : (a b : cip.Production) → Established a ≡ Established b → a ≡ b
state_is a b is = cc

none_of : (test : Row → Bool) (f : Row → Row) (rows : List Row) → Phase test f → Share rows → (row : Row) (p : cip.Production) → Has row rows → row.state ≡ Established p → test row ≡ false → (xs : List Producer) → AllByRecursion (IsFrom test rows) xs → NoneIs p.producer xs
none_of test f rows phase share row p has is not_so [] from = tt
none_of test f rows phase share row p has is not_so (x ∷ xs) from = (
  (λ same. absurd (
      let s = share from.0.row row x.production p from.0.there has from.0.state is same in
      let e : test from.0.row ≡ false = phase.alike from.0.row row s.0 s.1 ∙ not_so in
      let t = from.0.passes in cc)),
  none_of test f rows phase share row p has is not_so xs from.1,
)

-- a batch: the producers of the rows that pass a test, each making what is next by its input
pub record Batch (device : ℕ) (test : Row → Bool) (make : Producer → Made) (value : ℕ → List ℕ) (rows : List Row) : Type 0 where
  pub named : AreNumbered device make
  pub made : (x : Producer) → IsFrom test rows x → IsMade device make value x

row_step : (b : Bool) (test : Row → Bool) (f : Row → Row) (before : Producer → Producer → Bool) (make : Producer → Made) (value : ℕ → List ℕ) (rows : List Row) (sent : List Production) (device next : ℕ) (row : Row) (p : cip.Production) → Phase test f → Share rows → Batch device test make value rows → Has row rows → row.state ≡ Established p → test row ≡ b → RowStateBooks sent device next (value row.produced) (Established p) → RowStateBooks (produced_more device sent (map make (in_order before (producers (filter test rows))))) device next (value row.produced) (f row).state
row_step true test f before make value rows sent device next row p phase share batch has is passes ok =
    let xs = in_order before (producers (filter test rows)) in
    let two = two_ordered before (producers (filter test rows)) (firsts_apart (filter_map producer_in (filter test rows))) in
    let own = has_from test before rows row p has passes is in
    let from = all_has (IsFrom test rows) xs own.producer (all_from test before rows) own.there in
    let s = share from.row row own.producer.production p from.there has from.state is own.is in
    let same : own.producer.production ≡ p = state_is own.producer.production p (sym from.state ∙ s.1 ∙ is) in
    let kept = value row.produced in
    let books : ProducerBooks sent (end_at device own.producer.production.producer) own.producer.production kept = subst (λ (q : cip.Production). ProducerBooks sent (end_at device q.producer) q kept) (sym same) ok.1 in
    let made : IsOwn device (end_at device own.producer.production.producer) own.producer.production kept (make own.producer) =
    subst (λ (n : ℕ). IsOwn device (end_at device own.producer.production.producer) own.producer.production (value n) (make own.producer)) (from.point ∙ s.0) (batch.made own.producer from) in
    let after = books_one device make phase.clock (phase.api row) kept own.producer xs batch.named made two own.there sent books in
    subst (RowStateBooks (produced_more device sent (map make xs)) device next kept) (sym (phase.yes row p is passes))
    (ok.0, subst (λ (q : cip.Production). ProducerBooks (produced_more device sent (map make xs)) (end_at device q.producer) (produced phase.clock (phase.api row) q) kept) same after)
row_step false test f before make value rows sent device next row p phase share batch has is passes ok =
    let xs = in_order before (producers (filter test rows)) in
    phase.no (produced_more device sent (map make xs)) device next (value row.produced) row p is passes
    (ok.0, books_none device p.producer p (value row.produced) make xs batch.named (none_of test f rows phase share row p has is passes xs (all_from test before rows)) sent ok.1)

row_books : (test : Row → Bool) (f : Row → Row) (before : Producer → Producer → Bool) (make : Producer → Made) (value : ℕ → List ℕ) (rows : List Row) (sent : List Production) (device next : ℕ) (row : Row) (state : State) → Phase test f → Share rows → Batch device test make value rows → Has row rows → row.state ≡ state → RowStateBooks sent device next (value row.produced) state → RowStateBooks (produced_more device sent (map make (in_order before (producers (filter test rows))))) device next (value row.produced) (f row).state
row_books test f before make value rows sent device next row TimedOut phase share batch has is ok =
    subst (RowStateBooks (produced_more device sent (map make (in_order before (producers (filter test rows))))) device next (value row.produced)) (sym (phase.ended row is)) tt
row_books test f before make value rows sent device next row (Established p) phase share batch has is ok = row_step (test row) test f before make value rows sent device next row p phase share batch has is refl ok

rows_books : (test : Row → Bool) (f : Row → Row) (before : Producer → Producer → Bool) (make : Producer → Made) (value : ℕ → List ℕ) (all rows : List Row) (sent : List Production) (device next : ℕ) → Phase test f → Share all → Batch device test make value all → ((row : Row) → Has row rows → Has row all) → AllByRecursion (RowBooks sent device next value) rows → AllByRecursion (RowBooks (produced_more device sent (map make (in_order before (producers (filter test all))))) device next value) (map f rows)
rows_books test f before make value all [] sent device next phase share batch more ok = tt
rows_books test f before make value all (row ∷ rows) sent device next phase share batch more ok = (
  subst (λ (n : ℕ). RowStateBooks (produced_more device sent (map make (in_order before (producers (filter test all))))) device next (value n) (f row).state) (sym (phase.input row))
      (row_books test f before make value all sent device next row row.state phase share batch (more row (inl refl)) refl ok.0),
  rows_books test f before make value all rows sent device next phase share batch (λ other has. more other (inr has)) ok.1,
)

from_row : (test : Row → Bool) (rows : List Row) (sent : List Production) (device next : ℕ) (value : ℕ → List ℕ) (x : Producer) → AllByRecursion (RowBooks sent device next value) rows → IsFrom test rows x → RowStateBooks sent device next (value x.point) (Established x.production)
from_row test rows sent device next value x ok from =
    subst (λ (n : ℕ). RowStateBooks sent device next (value n) (Established x.production)) (sym from.point)
    (subst (RowStateBooks sent device next (value from.row.produced)) from.state (all_has (RowBooks sent device next value) rows from.row ok from.there))

late_none : (test : Row → Bool) (rows : List Row) (sent : List Production) (device next n : ℕ) (value : ℕ → List ℕ) → next ≤ n → AllByRecursion (RowBooks sent device next value) rows → (xs : List Producer) → AllByRecursion (IsFrom test rows) xs → NoneIs n xs
late_none test rows sent device next n value up ok [] from = tt
late_none test rows sent device next n value up ok (x ∷ xs) from = (
  (λ same. let less = (from_row test rows sent device next value x ok from.0).0 in absurd (omega (arith, less, same, up))),
  late_none test rows sent device next n value up ok xs from.1,
)

from_books : (test : Row → Bool) (rows : List Row) (sent : List Production) (device next : ℕ) (value : ℕ → List ℕ) → AllByRecursion (RowBooks sent device next value) rows → (xs : List Producer) → AllByRecursion (IsFrom test rows) xs → AllByRecursion (HasBooks sent device value) xs
from_books test rows sent device next value ok [] from = tt
from_books test rows sent device next value ok (x ∷ xs) from = ((from_row test rows sent device next value x ok from.0).1, from_books test rows sent device next value ok xs from.1)

all_made_next : (device : ℕ) (test : Row → Bool) (make : Producer → Made) (value : ℕ → List ℕ) (rows : List Row) → Batch device test make value rows → (xs : List Producer) → AllByRecursion (IsFrom test rows) xs → AllByRecursion (IsMade device make value) xs
all_made_next device test make value rows batch xs from = all_more (IsFrom test rows) (IsMade device make value) batch.made xs from

-- what a batch leaves: the books of the inputs, and the list of productions
pub record InputsAgree (sent : List Production) (device : ℕ) (value : ℕ → List ℕ) (t : AdapterTable) : Type 0 where
  pub books : InputBooks sent device value t
  pub well : WellMade sent

-- the whole of it
pub phase_agrees : (test : Row → Bool) (f : Row → Row) (before : Producer → Producer → Bool) (make : Producer → Made) (value : ℕ → List ℕ) (sent : List Production) (device : ℕ) (t u : AdapterTable) → Phase test f → Share t.rows → Batch device test make value t.rows → u.next_id ≡ t.next_id → u.rows ≡ map f t.rows → InputsAgree sent device value t → InputsAgree (produced_more device sent (map make (in_order before (producers (filter test t.rows))))) device value u
phase_agrees test f before make value sent device t u phase share batch ids rows ok =
    let xs = in_order before (producers (filter test t.rows)) in
    let from = all_from test before t.rows in
    record {
      books = record {
        unproduced = λ n up. let le : t.next_id ≤ n = subst (λ (k : ℕ). k ≤ n) ids up in unproduced_none device n make xs batch.named (late_none test t.rows sent device t.next_id n value le ok.books.rows xs from) sent (ok.books.unproduced n le);
        rows = rw (ids, rows) (rows_books test f before make value t.rows t.rows sent device t.next_id phase share batch (λ row has. has) ok.books.rows);
      };
      well = well_batch device make value xs batch.named (two_ordered before (producers (filter test t.rows)) (firsts_apart (filter_map producer_in (filter test t.rows)))) (all_made_next device test make value t.rows batch xs from) sent (from_books test t.rows sent device t.next_id value ok.books.rows xs from) ok.well;
    }

-- ---- rows that change before

has_unfilter : (test : Row → Bool) (row : Row) (rows : List Row) → Has row (filter test rows) → Has row rows
has_unfilter test row [] has = absurd has
has_unfilter test row (a ∷ rows) has = step (test a) has (has_unfilter test row rows) where
  step : (b : Bool) → Has row (cond b (a ∷ filter test rows) (filter test rows)) → (Has row (filter test rows) → Has row rows) → (a ≡ row) ⊎ Has row rows
  step true (inl is) more = inl is
  step true (inr has) more = inr (more has)
  step false has more = inr (more has)

share_filter : (test : Row → Bool) (rows : List Row) → Share rows → Share (filter test rows)
share_filter test rows share a b p q has_a has_b one two same = share a b p q (has_unfilter test a rows has_a) (has_unfilter test b rows has_b) one two same

pub record Mapped (f : Row → Row) (rows : List Row) (now : Row) : Type 0 where
  pub was : Row
  pub there : Has was rows
  pub is : f was ≡ now

mapped_more : (f : Row → Row) (a now : Row) (rows : List Row) → Mapped f rows now → Mapped f (a ∷ rows) now
mapped_more f a now rows m = record { was = m.was; there = inr m.there; is = m.is }

has_map : (f : Row → Row) (now : Row) (rows : List Row) → Has now (map f rows) → Mapped f rows now
has_map f now [] has = absurd has
has_map f now (a ∷ rows) (inl is) = record { was = a; there = inl refl; is = is }
has_map f now (a ∷ rows) (inr has) = mapped_more f a now rows (has_map f now rows has)

-- the production of an established row that was changed, as it was
pub record Before (row : Row) (p : cip.Production) : Type 0 where
  pub production : cip.Production
  pub state : row.state ≡ Established production
  pub producer : production.producer ≡ p.producer

abbrev AreAlike : Row → Row → Type 0
AreAlike a b = (a.produced ≡ b.produced) × (a.state ≡ b.state)

pub record KeepsShare (f : Row → Row) : Type 0 where
  pub before : (row : Row) (p : cip.Production) → (f row).state ≡ Established p → Before row p
  pub alike : (a b : Row) (p q : cip.Production) → (f a).state ≡ Established p → (f b).state ≡ Established q → AreAlike a b → AreAlike (f a) (f b)

share_map : (f : Row → Row) (rows : List Row) → KeepsShare f → Share rows → Share (map f rows)
share_map f rows keeps share a b p q has_a has_b one two same =
    let x = has_map f a rows has_a in
    let y = has_map f b rows has_b in
    let at_x : (f x.was).state ≡ Established p = ap (λ (r : Row). r.state) x.is ∙ one in
    let at_y : (f y.was).state ≡ Established q = ap (λ (r : Row). r.state) y.is ∙ two in
    let before = keeps.before x.was p at_x in
    let behind = keeps.before y.was q at_y in
    let old = share x.was y.was before.production behind.production x.there y.there before.state behind.state (before.producer ∙ same ∙ sym behind.producer) in
    let new = keeps.alike x.was y.was p q at_x at_y old in
    (ap (λ (r : Row). r.produced) (sym x.is) ∙ new.0 ∙ ap (λ (r : Row). r.produced) y.is, ap (λ (r : Row). r.state) (sym x.is) ∙ new.1 ∙ ap (λ (r : Row). r.state) y.is)

abbrev faded : Bool → Row → Row
faded b row = cond b (record row { state = TimedOut }) row

faded_before : (b : Bool) (row : Row) (p : cip.Production) → (faded b row).state ≡ Established p → Before row p
faded_before true row p is = absurd (let e = is in cc)
faded_before false row p is = record { production = p; state = is; producer = refl }

faded_alike : (x y : Bool) (a b : Row) (p q : cip.Production) → (faded x a).state ≡ Established p → (faded y b).state ≡ Established q → AreAlike a b → AreAlike (faded x a) (faded y b)
faded_alike true y a b p q one two like = absurd (let e = one in cc)
faded_alike false true a b p q one two like = absurd (let e = two in cc)
faded_alike false false a b p q one two like = like

expired_share : (clock : Ms) → KeepsShare (expired_row clock)
expired_share clock = record {
  before = λ row p is. faded_before (has_expired clock row) row p is;
  alike = λ a b p q one two like. faded_alike (has_expired clock a) (has_expired clock b) a b p q one two like;
}

written_before : (row : Row) (state : State) (p : cip.Production) → row.state ≡ state → written_state state ≡ Established p → Before row p
written_before row TimedOut p is at = absurd (let e = at in cc)
written_before row (Established q) p is at = record { production = q; state = is; producer = ap (λ (x : cip.Production). x.producer) (state_is (record q { written = true }) p at) }

write_before : (b : Bool) (row : Row) (p : cip.Production) → (cond b (record row { state = written_state row.state }) row).state ≡ Established p → Before row p
write_before true row p is = written_before row row.state p refl is
write_before false row p is = record { production = p; state = is; producer = refl }

write_alike : (x y : Bool) (a b : Row) → x ≡ y → AreAlike a b → AreAlike (cond x (record a { state = written_state a.state }) a) (cond y (record b { state = written_state b.state }) b)
write_alike true true a b same like = (like.0, ap written_state like.1)
write_alike false false a b same like = like
write_alike true false a b same like = absurd (let e = same in cc)
write_alike false true a b same like = absurd (let e = same in cc)

written_share : (point : ℕ) → KeepsShare (written_row point)
written_share point = record {
  before = λ row p is. write_before (row.produced == point) row p is;
  alike = λ a b p q one two like. write_alike (a.produced == point) (b.produced == point) a b (ap (λ (n : ℕ). n == point) like.0) like;
}

-- ---- a tick

due_yes : (b : Bool) (clock : Ms) (api : ℕ) (p : cip.Production) → is_production_due clock p ≡ b → b ≡ true → cond b (Established (produced clock api p)) (Established p) ≡ Established (produced clock api p)
due_yes true clock api p is so = refl
due_yes false clock api p is so = absurd (let e = so in cc)

due_no : (b : Bool) (clock : Ms) (api : ℕ) (p : cip.Production) → b ≡ false → cond b (Established (produced clock api p)) (Established p) ≡ Established p
due_no true clock api p so = absurd (let e = so in cc)
due_no false clock api p so = refl

due_at : (clock : Ms) (row : Row) (p : cip.Production) (b : Bool) → row.state ≡ Established p → is_due clock row ≡ b → is_production_due clock p ≡ b
due_at clock row p b is at = subst (λ (s : State). state_is_due clock s ≡ b) is at

due_phase : (clock : Ms) → Phase (is_due clock) (produced_row clock)
due_phase clock = record {
  alike = λ a b input state. ap (state_is_due clock) state;
  clock = clock;
  api = λ row. row.t_o_api_ms;
  input = λ row. refl;
  yes = λ row p is passes. ap (produced_state clock row.t_o_api_ms) is ∙ due_yes (is_production_due clock p) clock row.t_o_api_ms p refl (due_at clock row p true is passes);
  no = λ sent device next kept row p is not_so ok. subst (RowStateBooks sent device next kept) (sym (ap (produced_state clock row.t_o_api_ms) is ∙ due_no (is_production_due clock p) clock row.t_o_api_ms p (due_at clock row p false is not_so))) ok;
  ended = λ row is. ap (produced_state clock row.t_o_api_ms) is;
}

due_batch : (device : ℕ) (test : Row → Bool) (values : List PointValue) (rows : List Row) → Batch device test (due_made values) (input_value values) rows
due_batch device test values rows = record {
  named = λ x. refl;
  made = λ x from. record { end = refl; is_new_data = refl; sequence = refl; count = refl; payload = refl };
}

expired_books : (sent : List Production) (device next : ℕ) (value : ℕ → List ℕ) (clock : Ms) (row : Row) → RowBooks sent device next value row → RowBooks sent device next value (expired_row clock row)
expired_books sent device next value clock row ok = either (RowBooks sent device next value) (has_expired clock row) (record row { state = TimedOut }) row tt ok

expired_keeps : (sent : List Production) (device : ℕ) (value : ℕ → List ℕ) (t : AdapterTable) → InputBooks sent device value t → InputBooks sent device value (expired_table t)
unfolding expired_table
expired_keeps sent device value t ok = record {
  unproduced = ok.unproduced;
  rows = all_filtered (RowBooks sent device t.next_id value) (stays (expired_rows t.clock t.rows)) (expired_rows t.clock t.rows) (all_mapped (RowBooks sent device t.next_id value) (RowBooks sent device t.next_id value) (expired_row t.clock) (expired_books sent device t.next_id value t.clock) t.rows ok.rows);
}

expired_shares : (t : AdapterTable) → Share t.rows → Share (expired_table t).rows
unfolding expired_table
expired_shares t share = share_filter (stays (expired_rows t.clock t.rows)) (expired_rows t.clock t.rows) (share_map (expired_row t.clock) t.rows (expired_share t.clock) share)

produced_after : (t : AdapterTable) → ((produced_table t).next_id ≡ t.next_id) × ((produced_table t).rows ≡ map (produced_row t.clock) t.rows)
unfolding produced_table
produced_after t = (refl, refl)

clock_stays : (t : AdapterTable) → (expired_table t).clock ≡ t.clock
unfolding expired_table
clock_stays t = refl

clocked_books : (sent : List Production) (device : ℕ) (t : AdapterTable) (ms : ℕ) → InputBooks sent device (input_value t.values) t → InputBooks sent device (input_value (clocked_table t ms).values) (clocked_table t ms)
unfolding clocked_table
clocked_books sent device t ms ok = record { unproduced = ok.unproduced; rows = ok.rows }

clocked_rows : (t : AdapterTable) (ms : ℕ) → (clocked_table t ms).rows ≡ t.rows
unfolding clocked_table
clocked_rows t ms = refl

pub clocked_values : (t : AdapterTable) (ms : ℕ) → (clocked_table t ms).values ≡ t.values
unfolding clocked_table
clocked_values t ms = refl

advanced_agrees : (sent : List Production) (device : ℕ) (clocked : AdapterTable) → Share clocked.rows → InputsAgree sent device (input_value clocked.values) clocked → InputsAgree (produced_more device sent (advanced_made clocked (expired_table clocked).rows)) device (input_value clocked.values) (advanced clocked).1
advanced_agrees sent device clocked share ok =
    let left = expired_table clocked in
    let after = produced_after left in
    phase_agrees (is_due clocked.clock) (produced_row clocked.clock) by_due (due_made clocked.values) (input_value clocked.values) sent device left (produced_table left) (due_phase clocked.clock) (expired_shares clocked share)
    (due_batch device (is_due clocked.clock) clocked.values left.rows)
    after.0 (after.1 ∙ ap (λ (c : Ms). map (produced_row c) left.rows) (clock_stays clocked)) (record { books = expired_keeps sent device (input_value clocked.values) clocked ok.books; well = ok.well })

-- ---- a write

trigger_yes : (trigger : Trigger) (clock : Ms) (api : ℕ) (p : cip.Production) → (is_on_change trigger && is_free clock p) ≡ true → changed_by trigger clock api p ≡ produced clock api p
trigger_yes Cyclic clock api p is = absurd (let e = is in cc)
trigger_yes ChangeOfState clock api p is = free (is_free clock p) is where
  free : (b : Bool) → b ≡ true → cond b (produced clock api p) (deferred p) ≡ produced clock api p
  free true is = refl
  free false is = absurd (let e = is in cc)

changed_yes : (b : Bool) (clock : Ms) (point : ℕ) (row : Row) (p : cip.Production) → row.state ≡ Established p → (b && state_produces_on_change clock row.state) ≡ true → (cond b (record row { state = changed_state clock row.t_o_api_ms row.state }) row).state ≡ Established (produced clock row.t_o_api_ms p)
changed_yes true clock point row p is passes =
    let on : is_produced_on_change clock p ≡ true = subst (λ (s : State). state_produces_on_change clock s ≡ true) is passes in
    ap (changed_state clock row.t_o_api_ms) is ∙ ap Established (trigger_yes p.trigger clock row.t_o_api_ms p on)
changed_yes false clock point row p is passes = absurd (let e = passes in cc)

deferred_books : (sent : List Production) (device next : ℕ) (kept : List ℕ) (p : cip.Production) → RowStateBooks sent device next kept (Established p) → RowStateBooks sent device next kept (Established (deferred p))
deferred_books sent device next kept p ok = (ok.0, record { sequence = ok.1.sequence; count = ok.1.count; current = ok.1.current })

trigger_no : (trigger : Trigger) (sent : List Production) (device next : ℕ) (kept : List ℕ) (clock : Ms) (api : ℕ) (p : cip.Production) → (is_on_change trigger && is_free clock p) ≡ false → RowStateBooks sent device next kept (Established p) → RowStateBooks sent device next kept (Established (changed_by trigger clock api p))
trigger_no Cyclic sent device next kept clock api p is ok = ok
trigger_no ChangeOfState sent device next kept clock api p is ok = free (is_free clock p) is where
  free : (b : Bool) → b ≡ false → RowStateBooks sent device next kept (Established (cond b (produced clock api p) (deferred p)))
  free true is = absurd (let e = is in cc)
  free false is = deferred_books sent device next kept p ok

changed_no : (b : Bool) (sent : List Production) (device next : ℕ) (kept : List ℕ) (clock : Ms) (row : Row) (p : cip.Production) → row.state ≡ Established p → (b && state_produces_on_change clock row.state) ≡ false → RowStateBooks sent device next kept (Established p) → RowStateBooks sent device next kept (cond b (record row { state = changed_state clock row.t_o_api_ms row.state }) row).state
changed_no true sent device next kept clock row p is not_so ok =
    let on : is_produced_on_change clock p ≡ false = subst (λ (s : State). state_produces_on_change clock s ≡ false) is not_so in
    subst (RowStateBooks sent device next kept) (sym (ap (changed_state clock row.t_o_api_ms) is)) (trigger_no p.trigger sent device next kept clock row.t_o_api_ms p on ok)
changed_no false sent device next kept clock row p is not_so ok = subst (RowStateBooks sent device next kept) (sym is) ok

changed_ended : (b : Bool) (clock : Ms) (row : Row) → row.state ≡ TimedOut → (cond b (record row { state = changed_state clock row.t_o_api_ms row.state }) row).state ≡ TimedOut
changed_ended true clock row is = ap (changed_state clock row.t_o_api_ms) is
changed_ended false clock row is = is

change_alike : (clock : Ms) (point : ℕ) (a b : Row) → a.produced ≡ b.produced → a.state ≡ b.state → produces_on_change clock point a ≡ produces_on_change clock point b
change_alike clock point a b input state = ap (λ (n : ℕ). (n == point) && state_produces_on_change clock a.state) input ∙ ap (λ (s : State). (b.produced == point) && state_produces_on_change clock s) state

change_phase : (clock : Ms) (point : ℕ) → Phase (produces_on_change clock point) (changed_row clock point)
change_phase clock point = record {
  alike = change_alike clock point;
  clock = clock;
  api = λ row. row.t_o_api_ms;
  input = same_changed clock point;
  yes = λ row p is passes. changed_yes (row.produced == point) clock point row p is passes;
  no = λ sent device next kept row p is not_so ok. changed_no (row.produced == point) sent device next kept clock row p is not_so ok;
  ended = λ row is. changed_ended (row.produced == point) clock row is;
}

-- what is produced at a write are the bytes that are written
change_batch : (device : ℕ) (clock : Ms) (point : ℕ) (bytes : List ℕ) (value : ℕ → List ℕ) (rows : List Row) → value point ≡ bytes → Batch device (produces_on_change clock point) (adapter_made bytes) value rows
change_batch device clock point bytes value rows here = record {
  named = λ x. refl;
  made = λ x from.
      let at : from.row.produced ≡ point = eqb-true from.row.produced point (and_parts (from.row.produced == point) _ from.passes).0 in
      record { end = refl; is_new_data = refl; sequence = refl; count = refl; payload = sym here ∙ ap value (sym (from.point ∙ at)) };
}

state_written : (sent : List Production) (device next : ℕ) (kept more : List ℕ) (state : State) → RowStateBooks sent device next kept state → RowStateBooks sent device next more (written_state state)
state_written sent device next kept more TimedOut ok = tt
state_written sent device next kept more (Established p) ok = (ok.0, rewritten sent (end_at device p.producer) p kept more ok.1)

written_step : (b : Bool) (sent : List Production) (device next point : ℕ) (value other : ℕ → List ℕ) (row : Row) → (row.produced == point) ≡ b → (b ≡ false → value row.produced ≡ other row.produced) → RowBooks sent device next value row → RowBooks sent device next other (cond b (record row { state = written_state row.state }) row)
written_step true sent device next point value other row is same ok = state_written sent device next (value row.produced) (other row.produced) row.state ok
written_step false sent device next point value other row is same ok = subst (λ (kept : List ℕ). RowStateBooks sent device next kept row.state) (same refl) ok

-- a value at another input is what it was
abbrev SameBeside : ℕ → (ℕ → List ℕ) → (ℕ → List ℕ) → Profile → Type 0
SameBeside point value other profile = (n : ℕ) → (n == point) ≡ false → is_some (find (is_at n) profile.inputs) ≡ true → value n ≡ other n

written_rows : (sent : List Production) (device next point : ℕ) (value other : ℕ → List ℕ) (profile : Profile) → SameBeside point value other profile → (rows : List Row) → AllByRecursion (ProducesInput profile) rows → AllByRecursion (RowBooks sent device next value) rows → AllByRecursion (RowBooks sent device next other) (map (written_row point) rows)
written_rows sent device next point value other profile same [] inputs ok = tt
written_rows sent device next point value other profile same (row ∷ rows) inputs ok = (
  written_step (row.produced == point) sent device next point value other row refl (λ apart. same row.produced apart inputs.0) ok.0,
  written_rows sent device next point value other profile same rows inputs.1 ok.1,
)

written_keeps : (sent : List Production) (device : ℕ) (value other : ℕ → List ℕ) (t : AdapterTable) (point : ℕ) (bytes : List ℕ) → SameBeside point value other t.profile → RowsProduceInputs t → InputBooks sent device value t → InputBooks sent device other (written_table t point bytes)
unfolding written_table
written_keeps sent device value other t point bytes same inputs ok = record {
  unproduced = ok.unproduced;
  rows = written_rows sent device t.next_id point value other t.profile same t.rows inputs ok.rows;
}

written_shares : (t : AdapterTable) (point : ℕ) (bytes : List ℕ) → Share t.rows → Share (written_table t point bytes).rows
unfolding written_table
written_shares t point bytes share = share_map (written_row point) t.rows (written_share point) share

changed_after : (t : AdapterTable) (point : ℕ) → ((changed_table t point).next_id ≡ t.next_id) × ((changed_table t point).rows ≡ map (changed_row t.clock point) t.rows)
unfolding changed_table
changed_after t point = (refl, refl)

changed_agrees : (sent : List Production) (device : ℕ) (value : ℕ → List ℕ) (t : AdapterTable) (point : ℕ) (bytes : List ℕ) → value point ≡ bytes → Share t.rows → InputsAgree sent device value t → InputsAgree (produced_more device sent (changed_made t point bytes)) device value (changed_table t point)
changed_agrees sent device value t point bytes here share ok =
    let after = changed_after t point in
    phase_agrees (produces_on_change t.clock point) (changed_row t.clock point) by_number (adapter_made bytes) value sent device t (changed_table t point) (change_phase t.clock point) share
    (change_batch device t.clock point bytes value t.rows here) after.0 after.1 ok

-- ---- a step

-- what an adapter and the list of productions say of one another
pub record AdapterAgrees (sent : List Production) (device : ℕ) (t : AdapterTable) : Type 0 where
  pub books : AdapterBooks sent device t
  pub well : WellMade sent

rows_two : (rows : List Row) → RowsTwo ShareInGroup rows → Two ShareInGroup rows
rows_two [] two = tt
rows_two (row ∷ rows) two = (rows_each row rows two.0, rows_two rows two.1) where
  rows_each : (row : Row) (rest : List Row) → RowsEach (ShareInGroup row) rest → AllByRecursion (ShareInGroup row) rest
  rows_each row [] each = tt
  rows_each row (b ∷ rest) each = (each.0, rows_each row rest each.1)

whole_shares : (t : AdapterTable) → IsWhole t → Share t.rows
whole_shares t whole = share_rows t.rows (rows_two t.rows whole.sound.producers.shared)

-- what an input holds after a step
some_found : {X : Type 0} (found : Option X) → is_some found ≡ true → (x : X) × (found ≡ Some x)
some_found None is = absurd (let e = is in cc)
some_found (Some x) is = (x, refl)

abbrev value_or : Option (List ℕ) → List ℕ
value_or found = unwrap_or found []

value_after : StepsWriteInputs → (t : AdapterTable) (event : Event) (next : Next) → adapter_step t event ≡ Ok next → IsWhole t → (point : ℕ) → is_some (find (is_at point) t.profile.inputs) ≡ true → input_value next.1.values point ≡ value_or (or_else (written_at point event) (bytes_at t.values point))
value_after writes t event next is whole point some = let input = some_found (find (is_at point) t.profile.inputs) some in ap value_or (writes t event next is whole point input.0 input.1)

-- the same of an event that writes nothing there
value_stays : (t : AdapterTable) (event : Event) (next : Next) → adapter_step t event ≡ Ok next → IsWhole t → (point : ℕ) → written_at point event ≡ None → is_some (find (is_at point) next.1.profile.inputs) ≡ true → input_value t.values point ≡ input_value next.1.values point
value_stays t event next is whole point none some =
    let same : next.1.profile ≡ t.profile = profile_stays t.profile t event next is refl in
    let was : is_some (find (is_at point) t.profile.inputs) ≡ true = subst (λ (p : Profile). is_some (find (is_at point) p.inputs) ≡ true) same some in
    sym (value_after steps_write t event next is whole point was ∙ ap (λ (o : Option (List ℕ)). value_or (or_else o (bytes_at t.values point))) none)

-- an event that writes nothing
abbrev WritesNothing : Event → Type 0
WritesNothing event = (point : ℕ) → written_at point event ≡ None

stays_agrees : (sent more : List Production) (device : ℕ) (t : AdapterTable) (event : Event) (next : Next) → adapter_step t event ≡ Ok next → IsWhole t → WritesNothing event → AdapterBooks sent device t → InputsAgree more device (input_value t.values) next.1 → AdapterAgrees more device next.1
stays_agrees sent more device t event next is whole none ok agrees =
    let inputs = steps_produce t event next is ok.inputs in
    record {
      books = record { inputs = inputs; books = books_as more device (input_value t.values) (input_value next.1.values) next.1 (λ point some. value_stays t event next is whole point (none point) some) inputs agrees.books };
      well = agrees.well;
    }

quiet_agrees : (sent : List Production) (device : ℕ) (t : AdapterTable) (event : Event) (said : Result Next StepFault) → adapter_step t event ≡ said → IsQuiet event → WritesNothing event → IsWhole t → AdapterAgrees sent device t → IfOk said (λ next. AdapterAgrees sent device next.1)
quiet_agrees sent device t event (Err why) is quiet none whole ok = tt
quiet_agrees sent device t event (Ok next) is quiet none whole ok =
    stays_agrees sent sent device t event next is whole none ok.books (record { books = quiet_keeps sent device (input_value t.values) t event next quiet is ok.books.books; well = ok.well })

messages_agree : (sent : List Production) (device : ℕ) (value : ℕ → List ℕ) (t : AdapterTable) (m : Messaging) → InputsAgree sent device value t → InputsAgree sent device value (with_messages t m)
messages_agree sent device value t m agrees = record { books = messages_keep sent device value t t.next_id m (omega arith) agrees.books; well = agrees.well }

tick_agrees : (sent : List Production) (device : ℕ) (t : AdapterTable) (ms : ℕ) (said : Result Next StepFault) → tick t ms ≡ said → IsWhole t → AdapterAgrees sent device t → IfOk said (λ next. AdapterAgrees (produced_more device sent (advanced_made (clocked_table t ms) (expired_table (clocked_table t ms)).rows)) device next.1)
tick_agrees sent device t ms (Err why) is whole ok = tt
tick_agrees sent device t ms (Ok next) is whole ok =
    let clocked = clocked_table t ms in
    let more = produced_more device sent (advanced_made clocked (expired_table clocked).rows) in
    let agrees = advanced_agrees sent device clocked (subst Share (sym (clocked_rows t ms)) (whole_shares t whole)) (record { books = clocked_books sent device t ms ok.books.books; well = ok.well }) in
    stays_agrees sent more device t (event.Tick ms) next is whole (λ point. refl) ok.books
    (subst (λ (n : Next). InputsAgree more device (input_value t.values) n.1) (tick_is t ms next is).said
    (messages_agree more device (input_value t.values) (advanced clocked).1 _
    (subst (λ (values : List PointValue). InputsAgree more device (input_value values) (advanced clocked).1) (clocked_values t ms) agrees)))

written_here : (point : ℕ) (bytes : List ℕ) → written_at point (event.Write point bytes) ≡ Some bytes
written_here point bytes = rw (eq-eqb point point refl) refl

written_beside : (n point : ℕ) (bytes : List ℕ) → (n == point) ≡ false → written_at n (event.Write point bytes) ≡ None
written_beside n point bytes apart = rw (ne_eqb point n (λ same. eqb-false n point apart (sym same))) refl

write_agrees : (sent : List Production) (device : ℕ) (t : AdapterTable) (point : ℕ) (bytes : List ℕ) (said : Result Next StepFault) → write t point bytes ≡ said → IsWhole t → AdapterAgrees sent device t → IfOk said (λ next. AdapterAgrees (produced_more device sent (changed_made (written_table t point bytes) point bytes)) device next.1)
write_agrees sent device t point bytes (Err why) is whole ok = tt
write_agrees sent device t point bytes (Ok next) is whole ok =
    let one = write_is t point bytes next is in
    let written = written_table t point bytes in
    let value = input_value next.1.values in
    let here : value point ≡ bytes =
    value_after steps_write t (event.Write point bytes) next is whole point (rw one.found refl) ∙ ap (λ (o : Option (List ℕ)). value_or (or_else o (bytes_at t.values point))) (written_here point bytes) in
    let beside : SameBeside point (input_value t.values) value t.profile = λ n apart some.
    sym (value_after steps_write t (event.Write point bytes) next is whole n some ∙ ap (λ (o : Option (List ℕ)). value_or (or_else o (bytes_at t.values n))) (written_beside n point bytes apart)) in
    let agrees = changed_agrees sent device value written point bytes here (written_shares t point bytes (whole_shares t whole))
    (record { books = written_keeps sent device (input_value t.values) value t point bytes beside ok.books.inputs ok.books.books; well = ok.well }) in
    let now = subst (λ (n : Next). InputsAgree (produced_more device sent (changed_made written point bytes)) device value n.1) one.said agrees in
    record { books = record { inputs = steps_produce t (event.Write point bytes) next is ok.books.inputs; books = now.books }; well = now.well }

pub adapters_agree : (sent : List Production) (device : ℕ) (t : AdapterTable) (event : Event) → IsWhole t → AdapterAgrees sent device t → IfOk (adapter_step t event) (λ next. AdapterAgrees (produced_more device sent (adapter_makes t event)) device next.1)
adapters_agree sent device t (event.Write point bytes) whole ok = write_agrees sent device t point bytes (adapter_step t (event.Write point bytes)) refl whole ok
adapters_agree sent device t (event.Tick ms) whole ok = tick_agrees sent device t ms (adapter_step t (event.Tick ms)) refl whole ok
adapters_agree sent device t other whole ok = quiet_agrees sent device t other (adapter_step t other) refl tt (λ point. refl) whole ok
