-- The producers that are due once connections have timed out that alone had theirs.
use Rattle.std.proofs.Common.{◌≡◌, ℕ, Bool, true, false, not, cond, ◌&&◌, ◌||◌, List, [], ◌∷◌, map, filter, refl, sym, ◌∙◌, ap, subst, true≢false}
use Rattle.std.specs.List.{list_any, filter_map, AllByRecursion}
use Rattle.std.proofs.lemmas.Bool.{eqb-true}
use Rattle.base_lemmas.specs.Booleans.{and_none}
use Rattle.cip_types.specs.declared.names.Ms.{Ms}
use Rattle.cip_types.specs.declared.names.Node.{Node}
use Rattle.cip_types.specs.Order.{in_order, inserted, first_of_each, differs}
use Rattle.cip_productions.specs.declared.production.Producer.{Producer}
use Rattle.cip_productions.specs.Productions.{same_producer, by_due, sent, Produced, produced_by}
use Rattle.cip_productions.specs.Kinds.{is_listener}
use Rattle.adapter_table.specs.Connections.{Row}
use Rattle.adapter_table.specs.declared.row.State.{State}
use Rattle.adapter_table.specs.declared.row.State.TheVariants.{Established, TimedOut}
use Rattle.adapter_table.specs.declared.table.PointValue.{PointValue}
use Rattle.adapter_table.specs.Rows.{Each, is_established, is_unsupported}
use Rattle.adapter_table.specs.Closing.{unsupported, staying}
use Rattle.adapter_table.specs.Productions.{producer_in, producers, has_number, is_produced_by, is_due, group, consumers, peer_of, same_node, input_of, due_production, due_productions}
use Rattle.adapter_table.specs.Ticks.{has_expired, by_deadline, expired, expired_rows}
use Rattle.conn_slab.specs.Connections.{is_listening}
use Rattle.indexed_connections.specs.List.Lone.{neither}
use Rattle.indexed_connections.specs.List.Removals.{all_stay}
use Rattle.indexed_connections.specs.Turns.{is_among, state_is_among, is_left, is_due_but, one_production}
use Rattle.indexed_connections.proofs.Logic.{numbered}
use Rattle.indexed_connections.proofs.Dropping.{no_listener, none_dropped}

-- ---- those that time out

or_swap : (a b c : Bool) → (a || (b || c)) ≡ (b || (a || c))
or_swap true true c = refl
or_swap true false c = refl
or_swap false b c = refl

any_put_step : (b : Bool) (test : Row → Bool) (x y : Row) (ys put : List Row) → list_any test put ≡ (test x || list_any test ys) → list_any test (cond b (x ∷ y ∷ ys) (y ∷ put)) ≡ (test x || (test y || list_any test ys))
any_put_step true test x y ys put is = refl
any_put_step false test x y ys put is = ap (λ (b : Bool). test y || b) is ∙ or_swap (test y) (test x) (list_any test ys)

any_put : (test : Row → Bool) (x : Row) (ys : List Row) → list_any test (inserted by_deadline x ys) ≡ (test x || list_any test ys)
any_put test x [] = refl
any_put test x (y ∷ ys) = any_put_step (by_deadline x y) test x y ys (inserted by_deadline x ys) (any_put test x ys)

any_ordered : (test : Row → Bool) (xs : List Row) → list_any test (in_order by_deadline xs) ≡ list_any test xs
any_ordered test [] = refl
any_ordered test (x ∷ xs) = any_put test x (in_order by_deadline xs) ∙ ap (λ (b : Bool). test x || b) (any_ordered test xs)

any_more : (b : Bool) (test : Row → Bool) (x : Row) (xs : List Row) → list_any test xs ≡ true → list_any test (cond b (x ∷ xs) xs) ≡ true
any_more true test x xs is = or_true (test x) (list_any test xs) is where
  or_true : (a b : Bool) → b ≡ true → (a || b) ≡ true
  or_true true b holds = refl
  or_true false b holds = holds
any_more false test x xs is = is

-- a connection that has expired is among those that have, by its producer's number
abbrev IsAmong : Ms → List Row → Row → Type 0
IsAmong clock ends row = has_expired clock row ≡ true → (number : ℕ) → is_produced_by number row ≡ true → list_any (is_produced_by number) ends ≡ true

each_more : (clock : Ms) (b : Bool) (x : Row) (ends rows : List Row) → Each (IsAmong clock ends) rows → Each (IsAmong clock (cond b (x ∷ ends) ends)) rows
each_more clock b x ends [] each = tt
each_more clock b x ends (row ∷ rows) each = (λ has number made. any_more b (is_produced_by number) x ends (each.0 has number made), each_more clock b x ends rows each.1)

own_among : (clock : Ms) (b : Bool) (row : Row) (ends : List Row) → has_expired clock row ≡ b → IsAmong clock (cond b (row ∷ ends) ends) row
own_among clock true row ends is = λ has number made. rw made refl
own_among clock false row ends is = λ has. absurd (true≢false (sym has ∙ is))

each_filtered : (clock : Ms) (rows : List Row) → Each (IsAmong clock (filter (has_expired clock) rows)) rows
each_filtered clock [] = tt
each_filtered clock (row ∷ rows) =
    (own_among clock (has_expired clock row) row (filter (has_expired clock) rows) refl, each_more clock (has_expired clock row) row (filter (has_expired clock) rows) rows (each_filtered clock rows))

each_ordered : (clock : Ms) (ends rows : List Row) → Each (IsAmong clock ends) rows → Each (IsAmong clock (in_order by_deadline ends)) rows
each_ordered clock ends [] each = tt
each_ordered clock ends (row ∷ rows) each = (λ has number made. any_ordered (is_produced_by number) ends ∙ each.0 has number made, each_ordered clock ends rows each.1)

-- ---- a connection's producer is one of theirs exactly if it times out

abbrev Splits : Ms → List Row → Row → Type 0
Splits clock ends row = state_is_among ends row.state ≡ has_expired clock row

split_by : (clock : Ms) (ends : List Row) (row : Row) (state : State) (b : Bool) → row.state ≡ state → has_expired clock row ≡ b → IsAmong clock ends row → is_left clock ends row ≡ false → state_is_among ends row.state ≡ b
split_by clock ends row (Established production) true is has among none = rw is (among has production.producer (rw is (numbered production.producer)))
split_by clock ends row TimedOut true is has among none = absurd (true≢false (sym has ∙ never)) where
  never : has_expired clock row ≡ false
  never = rw is refl
split_by clock ends row state false is has among none = sym (ap (λ (b : Bool). not b && state_is_among ends row.state) has) ∙ none

splits : (clock : Ms) (ends rows : List Row) → Each (IsAmong clock ends) rows → list_any (is_left clock ends) rows ≡ false → Each (Splits clock ends) rows
splits clock ends [] each none = tt
splits clock ends (row ∷ rows) each none =
    let parts = neither (is_left clock ends row) (list_any (is_left clock ends) rows) none in
    (split_by clock ends row row.state (has_expired clock row) refl refl each.0 parts.0, splits clock ends rows each.1 parts.1)

pub all_split : (clock : Ms) (ends rows : List Row) → ends ≡ expired clock rows → list_any (is_left clock ends) rows ≡ false → Each (Splits clock ends) rows
all_split clock ends rows are none =
    splits clock ends rows (subst (λ (l : List Row). Each (IsAmong clock l) rows) (sym are) (each_ordered clock (filter (has_expired clock) rows) rows (each_filtered clock rows))) none

-- ---- who remains

and_true : (b : Bool) → (b && true) ≡ b
and_true true = refl
and_true false = refl

remaining_by : (b : Bool) (clock : Ms) (ends : List Row) (row : Row) (rest left : List Row) → state_is_among ends row.state ≡ b → filter (is_due clock) rest ≡ filter (is_due_but clock ends) left
    → filter (is_due clock) (cond b (record row { state = TimedOut }) row ∷ rest) ≡ filter (is_due_but clock ends) (row ∷ left)
remaining_by true clock ends row rest left among same =
    same
    ∙ sym (ap (λ (c : Bool). cond (is_due clock row && not c) (row ∷ filter (is_due_but clock ends) left) (filter (is_due_but clock ends) left)) among
    ∙ ap (λ (c : Bool). cond c (row ∷ filter (is_due_but clock ends) left) (filter (is_due_but clock ends) left)) (and_none (is_due clock row)))
remaining_by false clock ends row rest left among same =
    ap (λ (l : List Row). cond (is_due clock row) (row ∷ l) l) same
    ∙ sym (ap (λ (c : Bool). cond (is_due clock row && not c) (row ∷ filter (is_due_but clock ends) left) (filter (is_due_but clock ends) left)) among
    ∙ ap (λ (c : Bool). cond c (row ∷ filter (is_due_but clock ends) left) (filter (is_due_but clock ends) left)) (and_true (is_due clock row)))

remaining : (clock : Ms) (ends rows : List Row) → Each (Splits clock ends) rows → filter (is_due clock) (expired_rows clock rows) ≡ filter (is_due_but clock ends) rows
remaining clock ends [] each = refl
remaining clock ends (row ∷ rows) each = remaining_by (has_expired clock row) clock ends row (expired_rows clock rows) rows each.0 (remaining clock ends rows each.1)

-- ---- to whom they send

not_made : (ends : List Row) (row : Row) (number : ℕ) (state : State) (b : Bool) → row.state ≡ state → is_produced_by number row ≡ b → state_is_among ends row.state ≡ true → list_any (is_produced_by number) ends ≡ false → b ≡ false
not_made ends row number state false is made among none = refl
not_made ends row number TimedOut true is made among none = absurd (true≢false (sym made ∙ never)) where
  never : is_produced_by number row ≡ false
  never = rw is refl
not_made ends row number (Established production) true is made among none =
    let same : production.producer ≡ number = eqb-true production.producer number (sym (ap (λ (s : State). has_number number s) is) ∙ made) in
    absurd (true≢false (sym (sym (ap (state_is_among ends) is) ∙ among) ∙ ap (λ (n : ℕ). list_any (is_produced_by n) ends) same ∙ none))

group_by : (b c : Bool) (number : ℕ) (row : Row) (rest left : List Row) → is_produced_by number row ≡ c → (b ≡ true → c ≡ false) → group number rest ≡ group number left → group number (cond b (record row { state = TimedOut }) row ∷ rest) ≡ group number (row ∷ left)
group_by true c number row rest left made none same =
    same ∙ sym (ap (λ (d : Bool). cond d (row ∷ group number left) (group number left)) (made ∙ none refl))
group_by false c number row rest left made none same = ap (λ (l : List Row). cond (is_produced_by number row) (row ∷ l) l) same

group_kept : (clock : Ms) (ends : List Row) (number : ℕ) (rows : List Row) → Each (Splits clock ends) rows → list_any (is_produced_by number) ends ≡ false → group number (expired_rows clock rows) ≡ group number rows
group_kept clock ends number [] each none = refl
group_kept clock ends number (row ∷ rows) each none =
    group_by (has_expired clock row) (is_produced_by number row) number row (expired_rows clock rows) rows refl
    (λ has. not_made ends row number row.state (is_produced_by number row) refl refl (each.0 ∙ has) none) (group_kept clock ends number rows each.1 none)

consumers_kept : (clock : Ms) (ends : List Row) (number : ℕ) (rows : List Row) → Each (Splits clock ends) rows → list_any (is_produced_by number) ends ≡ false → consumers number rows ≡ consumers number (expired_rows clock rows)
consumers_kept clock ends number rows each none = ap (λ (l : List Row). first_of_each same_node (map peer_of l)) (sym (group_kept clock ends number rows each none))

-- ---- what they send

abbrev Remains : List Row → Producer → Type 0
Remains ends producer = is_among ends producer.production ≡ false

put_all : (ends : List Row) (b : Producer → Producer → Bool) (x : Producer) (ys : List Producer) → Remains ends x → AllByRecursion (Remains ends) ys → AllByRecursion (Remains ends) (inserted b x ys)
put_all ends b x [] here all = (here, tt)
put_all ends b x (y ∷ ys) here all =
    elim (b x y) as (λ c. AllByRecursion (Remains ends) (cond c (x ∷ y ∷ ys) (y ∷ inserted b x ys))) [
      | true ↦ (here, all)
      | false ↦ (all.0, put_all ends b x ys here all.1)
    ]

ordered_all : (ends : List Row) (b : Producer → Producer → Bool) (xs : List Producer) → AllByRecursion (Remains ends) xs → AllByRecursion (Remains ends) (in_order b xs)
ordered_all ends b [] all = tt
ordered_all ends b (x ∷ xs) all = put_all ends b x (in_order b xs) all.0 (ordered_all ends b xs all.1)

filtered_all : (ends : List Row) (test : Producer → Bool) (xs : List Producer) → AllByRecursion (Remains ends) xs → AllByRecursion (Remains ends) (filter test xs)
filtered_all ends test [] all = tt
filtered_all ends test (x ∷ xs) all =
    elim (test x) as (λ c. AllByRecursion (Remains ends) (cond c (x ∷ filter test xs) (filter test xs))) [
      | true ↦ (all.0, filtered_all ends test xs all.1)
      | false ↦ filtered_all ends test xs all.1
    ]

first_all : (ends : List Row) (xs : List Producer) → AllByRecursion (Remains ends) xs → AllByRecursion (Remains ends) (first_of_each same_producer xs)
first_all ends [] all = tt
first_all ends (x ∷ xs) all = (all.0, filtered_all ends (differs same_producer x) (first_of_each same_producer xs) (first_all ends xs all.1))

second_holds : (a b : Bool) → (a && not b) ≡ true → b ≡ false
second_holds true false is = refl
second_holds true true is = absurd (true≢false (sym is))
second_holds false b is = absurd (true≢false (sym is))

made_step : (ends : List Row) (row : Row) (state : State) (rest : List Row) → row.state ≡ state → state_is_among ends row.state ≡ false → AllByRecursion (Remains ends) (filter_map producer_in rest) → AllByRecursion (Remains ends) (filter_map producer_in (row ∷ rest))
made_step ends row TimedOut rest is among all = rw is all
made_step ends row (Established production) rest is among all = rw is (sym (ap (state_is_among ends) is) ∙ among, all)

made_by : (b : Bool) (clock : Ms) (ends : List Row) (row : Row) (rest : List Row) → is_due_but clock ends row ≡ b → AllByRecursion (Remains ends) (filter_map producer_in rest) → AllByRecursion (Remains ends) (filter_map producer_in (cond b (row ∷ rest) rest))
made_by true clock ends row rest does all = made_step ends row row.state rest refl (second_holds (is_due clock row) (state_is_among ends row.state) does) all
made_by false clock ends row rest does all = all

made_all : (clock : Ms) (ends rows : List Row) → AllByRecursion (Remains ends) (filter_map producer_in (filter (is_due_but clock ends) rows))
made_all clock ends [] = tt
made_all clock ends (row ∷ rows) = made_by (is_due_but clock ends row) clock ends row (filter (is_due_but clock ends) rows) refl (made_all clock ends rows)

mapped_all : (clock : Ms) (ends rows : List Row) (values : List PointValue) (ps : List Producer) → Each (Splits clock ends) rows → AllByRecursion (Remains ends) ps → map (one_production rows (input_of values)) ps ≡ map (due_production (expired_rows clock rows) values) ps
mapped_all clock ends rows values [] each all = refl
mapped_all clock ends rows values (p ∷ ps) each all =
    ap (λ (l : List Node). produced_by l (input_of values p) p ∷ map (one_production rows (input_of values)) ps) (consumers_kept clock ends p.production.producer rows each all.0)
    ∙ ap (λ (l : List Produced). due_production (expired_rows clock rows) values p ∷ l) (mapped_all clock ends rows values ps each all.1)

pub remaining_sent : (clock : Ms) (ends rows : List Row) (values : List PointValue) → ends ≡ expired clock rows → list_any (is_left clock ends) rows ≡ false
    → map sent (map (one_production rows (input_of values)) (in_order by_due (producers (filter (is_due_but clock ends) rows)))) ≡ map sent (due_productions clock (expired_rows clock rows) values)
remaining_sent clock ends rows values are none =
    let each = all_split clock ends rows are none in
    let all = ordered_all ends by_due _ (first_all ends _ (made_all clock ends rows)) in
    ap (map sent)
    (mapped_all clock ends rows values (in_order by_due (producers (filter (is_due_but clock ends) rows))) each all
    ∙ ap (λ (l : List Row). map (due_production (expired_rows clock rows) values) (in_order by_due (producers l))) (sym (remaining clock ends rows each)))

-- ---- where none listens, all stay

none_unsupported : (all rows : List Row) → list_any is_listening rows ≡ false → list_any (is_unsupported all) rows ≡ false
none_unsupported all [] none = refl
none_unsupported all (row ∷ rows) none =
    let parts = neither (is_listening row) (list_any is_listening rows) none in
    rw (no_listener (is_established row) (is_listener row.kind) _ parts.0, none_unsupported all rows parts.1) refl

listening_by : (b : Bool) (row : Row) → is_listening row ≡ false → is_listening (cond b (record row { state = TimedOut }) row) ≡ false
listening_by true row none = refl
listening_by false row none = none

quiet_expired : (clock : Ms) (rows : List Row) → list_any is_listening rows ≡ false → list_any is_listening (expired_rows clock rows) ≡ false
quiet_expired clock [] none = refl
quiet_expired clock (row ∷ rows) none =
    let parts = neither (is_listening row) (list_any is_listening rows) none in
    rw (listening_by (has_expired clock row) row parts.0, quiet_expired clock rows parts.1) refl

pub all_supported : (clock : Ms) (rows : List Row) → list_any is_listening rows ≡ false → unsupported (expired_rows clock rows) ≡ []
all_supported clock rows none = none_dropped (expired_rows clock rows) (expired_rows clock rows) (quiet_expired clock rows none)

pub all_staying : (clock : Ms) (rows : List Row) → list_any is_listening rows ≡ false → staying (expired_rows clock rows) ≡ expired_rows clock rows
all_staying clock rows none = all_stay (is_unsupported (expired_rows clock rows)) (expired_rows clock rows) (none_unsupported (expired_rows clock rows) (expired_rows clock rows) (quiet_expired clock rows none))
