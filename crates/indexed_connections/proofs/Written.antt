-- Connections whose input is written: their producers, which keep their numbers and consumers.
use Rattle.std.proofs.Common.{◌≡◌, ℕ, Bool, true, false, cond, ◌==◌, ◌||◌, List, [], ◌∷◌, map, find, Option, Some, None, refl, sym, ◌∙◌, ap, true≢false}
use Rattle.std.specs.List.{list_any, filter_map}
use Rattle.std.specs.Option.{option_map}
use Rattle.cip_productions.specs.declared.production.Producer.{Producer}
use Rattle.adapter_table.specs.Connections.{Row}
use Rattle.adapter_table.specs.declared.row.State.{State}
use Rattle.adapter_table.specs.declared.row.State.TheVariants.{Established, TimedOut}
use Rattle.adapter_table.specs.Rows.{Each, is_established, written_state, written_row}
use Rattle.adapter_table.specs.Productions.{producer_in, producer_of, is_produced_by}
use Rattle.adapter_table.specs.Sound.{ShareInGroup, GroupsAloneShare}
use Rattle.conn_slab.specs.Producing.{is_producer, producer_by}
use Rattle.indexed_connections.specs.Turns.{written_if, rows_on, producer_on}
use Rattle.indexed_connections.specs.ConsumerTables.{consumers_by_producer}
use Rattle.indexed_connections.specs.declared.cause.SendCause.{SendCause}
use Rattle.indexed_connections.specs.declared.cause.SendCause.TheVariants.{Due, DueBut, Change}
use Rattle.indexed_connections.proofs.ProducerConsumers.{written_made, written_served}

-- the row, whose producer has new data if the test holds
abbrev with : Bool → Row → Row
with b row = cond b (record row { state = written_state row.state }) row

-- ---- producers by their numbers

any_step : (number point : ℕ) (row : Row) (rows : List Row) → is_produced_by number (written_row point row) ≡ is_produced_by number row → list_any (is_produced_by number) (map (written_row point) rows) ≡ list_any (is_produced_by number) rows → list_any (is_produced_by number) (map (written_row point) (row ∷ rows)) ≡ list_any (is_produced_by number) (row ∷ rows)
any_step number point row rows here rest =
    ap (λ (t : Bool). t || list_any (is_produced_by number) (map (written_row point) rows)) here ∙ ap (λ (t : Bool). is_produced_by number row || t) rest

any_written : (number point : ℕ) (rows : List Row) → list_any (is_produced_by number) (map (written_row point) rows) ≡ list_any (is_produced_by number) rows
any_written number point [] = refl
any_written number point (row ∷ rows) = any_step number point row rows (written_made number point row) (any_written number point rows)

made_step : (b : Bool) (point : ℕ) (row : Row) (state : State) → (row.produced == point) ≡ b → row.state ≡ state → producer_in (with b row) ≡ option_map (written_if point) (producer_in row)
made_step true point row TimedOut is there = rw there refl
made_step false point row TimedOut is there = rw there refl
made_step true point row (Established production) is there = rw (there, is) refl
made_step false point row (Established production) is there = rw (there, is) refl

listed_step : (o : Option Producer) (row changed : Row) (rows more : List Row) (point : ℕ) → producer_in row ≡ o → producer_in changed ≡ option_map (written_if point) o → filter_map producer_in more ≡ map (written_if point) (filter_map producer_in rows) → filter_map producer_in (changed ∷ more) ≡ map (written_if point) (filter_map producer_in (row ∷ rows))
listed_step None row changed rows more point was is rest = rw (was, is) rest
listed_step (Some producer) row changed rows more point was is rest = rw (was, is) (ap (λ (l : List Producer). written_if point producer ∷ l) rest)

listed_written : (point : ℕ) (rows : List Row) → filter_map producer_in (map (written_row point) rows) ≡ map (written_if point) (filter_map producer_in rows)
listed_written point [] = refl
listed_written point (row ∷ rows) =
    listed_step (producer_in row) row (written_row point row) rows (map (written_row point) rows) point refl (made_step (row.produced == point) point row row.state refl refl) (listed_written point rows)

same_number : (b : Bool) (number : ℕ) (producer : Producer) → is_producer number (cond b (record producer { production = record producer.production { written = true } }) producer) ≡ is_producer number producer
same_number true number producer = refl
same_number false number producer = refl

found_step : (c b : Bool) (x y : Producer) (rest : Option Producer) (found : Option Producer) (point : ℕ) → c ≡ b → y ≡ written_if point x → found ≡ option_map (written_if point) rest → cond c (Some y) found ≡ option_map (written_if point) (cond b (Some x) rest)
found_step true true x y rest found point same is all = ap (λ (p : Producer). Some p) is
found_step false false x y rest found point same is all = all
found_step true false x y rest found point same is all = absurd (true≢false same)
found_step false true x y rest found point same is all = absurd (true≢false (sym same))

found_written : (number point : ℕ) (ps : List Producer) → find (is_producer number) (map (written_if point) ps) ≡ option_map (written_if point) (find (is_producer number) ps)
found_written number point [] = refl
found_written number point (p ∷ ps) =
    found_step (is_producer number (written_if point p)) (is_producer number p) p (written_if point p) (find (is_producer number) ps) (find (is_producer number) (map (written_if point) ps)) point
    (same_number (p.point == point) number p) refl (found_written number point ps)

by_written : (number point : ℕ) (rows : List Row) → producer_by number (map (written_row point) rows) ≡ option_map (written_if point) (producer_by number rows)
by_written number point rows = ap (find (is_producer number)) (listed_written point rows) ∙ found_written number point (filter_map producer_in rows)

-- the producer of a number is one of the connections on the cause if it is one of them, and is as on the cause
pub any_on : (o : SendCause) (number : ℕ) (rows : List Row) → list_any (is_produced_by number) (rows_on o rows) ≡ list_any (is_produced_by number) rows
any_on (Due clock) number rows = refl
any_on (DueBut clock ends) number rows = refl
any_on (Change clock point) number rows = any_written number point rows

pub producer_is : (o : SendCause) (number : ℕ) (rows : List Row) (producer : Producer) → Some producer ≡ producer_by number rows → Some (producer_on o producer) ≡ producer_by number (rows_on o rows)
producer_is (Due clock) number rows producer found = found
producer_is (DueBut clock ends) number rows producer found = found
producer_is (Change clock point) number rows producer found = ap (option_map (written_if point)) found ∙ sym (by_written number point rows)

pub consumers_on : (o : SendCause) (rows : List Row) → consumers_by_producer (rows_on o rows) ≡ consumers_by_producer rows
consumers_on (Due clock) rows = refl
consumers_on (DueBut clock ends) rows = refl
consumers_on (Change clock point) rows = written_served point rows

-- ---- those that share a producer

still_lives : (b : Bool) (row : Row) → is_established (with b row) ≡ is_established row
still_lives b row = by_state b row.state refl where
  by_state : (b : Bool) (state : State) → row.state ≡ state → is_established (with b row) ≡ is_established row
  by_state true TimedOut is = rw is refl
  by_state true (Established production) is = rw is refl
  by_state false state is = refl

still_made : (b : Bool) (row : Row) → producer_of (with b row).state ≡ producer_of row.state
still_made b row = by_state b row.state refl where
  by_state : (b : Bool) (state : State) → row.state ≡ state → producer_of (with b row).state ≡ producer_of row.state
  by_state true TimedOut is = rw is refl
  by_state true (Established production) is = rw is refl
  by_state false state is = refl

states_agree : (c d : Bool) (a b : Row) → c ≡ d → a.state ≡ b.state → (with c a).state ≡ (with d b).state
states_agree true true a b same state = ap written_state state
states_agree false false a b same state = state
states_agree true false a b same state = absurd (true≢false same)
states_agree false true a b same state = absurd (true≢false (sym same))

-- what a write keeps
pub record Keeps (row changed : Row) : Type 0 where
  pub multicast : changed.multicast ≡ row.multicast
  pub produced : changed.produced ≡ row.produced
  pub id : changed.t_o_id ≡ row.t_o_id
  pub api : changed.t_o_api_ms ≡ row.t_o_api_ms

keeps : (b : Bool) (row : Row) → Keeps row (with b row)
keeps true row = record { multicast = refl; produced = refl; id = refl; api = refl }
keeps false row = record { multicast = refl; produced = refl; id = refl; api = refl }

share_step : (c d : Bool) (a b : Row) → (a.produced ≡ b.produced → c ≡ d) → ShareInGroup a b → ShareInGroup (with c a) (with d b)
share_step c d a b agree share = λ lives_a lives_b same.
    let s = share (sym (still_lives c a) ∙ lives_a) (sym (still_lives d b) ∙ lives_b) (sym (still_made c a) ∙ same ∙ still_made d b) in
    record {
      first = (keeps c a).multicast ∙ s.first;
      second = (keeps d b).multicast ∙ s.second;
      input = (keeps c a).produced ∙ s.input ∙ sym (keeps d b).produced;
      shared = record {
        id = (keeps c a).id ∙ s.shared.id ∙ sym (keeps d b).id;
        api = (keeps c a).api ∙ s.shared.api ∙ sym (keeps d b).api;
        state = states_agree c d a b (agree s.input) s.shared.state;
      };
    }

shares_with : (point : ℕ) (row : Row) (rows : List Row) → Each (ShareInGroup row) rows → Each (ShareInGroup (written_row point row)) (map (written_row point) rows)
shares_with point row [] share = tt
shares_with point row (other ∷ rows) share =
    (share_step (row.produced == point) (other.produced == point) row other (λ same. ap (λ (n : ℕ). n == point) same) share.0, shares_with point row rows share.1)

pub share_written : (point : ℕ) (rows : List Row) → GroupsAloneShare rows → GroupsAloneShare (map (written_row point) rows)
share_written point [] share = tt
share_written point (row ∷ rows) share = (shares_with point row rows share.0, share_written point rows share.1)
