-- What an adapter produces at an event is what the producer's input holds, or what the event writes there.
use Rattle.std.proofs.Common.{◌≡◌, ◌⊎◌, inl, inr, ℕ, ◌+◌, ◌==◌, Bool, true, false, cond, List, [], ◌∷◌, filter, filter_map, map, unwrap_or, refl, sym, ◌∙◌, ap, eqb-true}
use Rattle.std.specs.List.{AllByRecursion, Contains}
use Rattle.std.specs.Option.{IfSome}
use Rattle.std.proofs.lemmas.Bool.{and_parts}
use Rattle.cip_types.specs.declared.names.Ms.{Ms}
use Rattle.cip_events.specs.declared.event.Event.{Event}
use Rattle.cip_events.specs.declared.event.Event.TheVariants as event
use Rattle.cip_productions.specs.declared.production.Producer.{Producer}
use Rattle.cip_productions.specs.Productions.{same_producer, by_number, by_due}
use Rattle.adapter_table.specs.Connections.{Row}
use Rattle.adapter_table.specs.declared.row.State.{State}
use Rattle.adapter_table.specs.declared.row.State.TheVariants.{Established, TimedOut}
use Rattle.adapter_table.specs.declared.table.AdapterTable.{AdapterTable}
use Rattle.adapter_table.specs.Closing.{stays}
use Rattle.adapter_table.specs.Points.{bytes_at}
use Rattle.adapter_table.specs.Productions.{state_producer, producer_in, producers, producer_of, is_due, due_producers, produces_on_change, producers_on_change, state_produces_on_change}
use Rattle.adapter_table.specs.Rows.{is_established, written_row}
use Rattle.adapter_table.specs.Step.{written_table}
use Rattle.adapter_table.specs.Ticks.{expired_row, expired_rows, clocked_table, expired_table}
use Rattle.device_laws.specs.Lemmas.Lists.{all_filtered, all_firsts, all_made, all_mapped, all_more, all_ordered}
use Rattle.device_laws.specs.Made.{Made, adapter_made, due_made, advanced_made, changed_made, adapter_makes}
use Rattle.device_laws.specs.RowIds.{IsSameRow}
use Rattle.device_laws.specs.Lemmas.RowIds.{all_contained, same_then, written_row_same, expired_row_same}

-- ---- the connection of a producer

-- a connection of the table had the producer
record IsProducerOf (t : AdapterTable) (point number : ℕ) : Type 0 where
  row : Row
  among : Contains t.rows row
  established : is_established row ≡ true
  number_is : producer_of row.state ≡ number
  point_is : row.produced ≡ point

-- a connection of the table, as it is later in the event
record IsRowOf (t : AdapterTable) (row : Row) : Type 0 where
  old : Row
  among : Contains t.rows old
  same : IsSameRow old row

same_itself : (row : Row) → IsSameRow row row
same_itself row = record { opening = refl; peer = refl; kind = refl; consumed = refl; produced = refl; o_t = refl; t_o = refl; established = λ is. is; producer = λ is. refl }

rows_of : (t : AdapterTable) → AllByRecursion (IsRowOf t) t.rows
rows_of t = all_more (Contains t.rows) (IsRowOf t) (λ row there. record { old = row; among = there; same = same_itself row }) t.rows (all_contained t.rows [] t.rows refl)

rows_on : (t : AdapterTable) (f : Row → Row) → ((row : Row) → IsSameRow row (f row)) → (rows : List Row) → AllByRecursion (IsRowOf t) rows → AllByRecursion (IsRowOf t) (map f rows)
rows_on t f same rows all = all_mapped (IsRowOf t) (IsRowOf t) f (λ row of. record { old = of.old; among = of.among; same = same_then of.old row (f row) of.same (same row) }) rows all

abbrev OfTable : AdapterTable → Producer → Type 0
OfTable t x = IsProducerOf t x.point x.production.producer

state_of : (t : AdapterTable) (row : Row) (state : State) → row.state ≡ state → IsRowOf t row → IfSome (state_producer row state) (OfTable t)
state_of t row TimedOut is of = tt
state_of t row (Established p) is of =
    let same = of.same in
    let established : is_established row ≡ true = ap (λ (s : State). is_established (record row { state = s })) is in
    record {
      row = of.old;
      among = of.among;
      established = same.established established;
      number_is = sym (same.producer established) ∙ ap producer_of is;
      point_is = sym same.produced;
    }

producers_of : (t : AdapterTable) (rows : List Row) → AllByRecursion (IsRowOf t) rows → AllByRecursion (OfTable t) (producers rows)
producers_of t rows all =
    all_firsts (OfTable t) same_producer (filter_map producer_in rows)
    (all_made (IsRowOf t) (OfTable t) producer_in (λ row of. state_of t row row.state refl of) rows all)

-- ---- what is made

-- the input of the table holds the bytes, or the event writes them there
abbrev pub HasInput : AdapterTable → Event → ℕ → List ℕ → Type 0
HasInput t happened point bytes = (bytes ≡ unwrap_or (bytes_at t.values point) []) ⊎ (happened ≡ event.Write point bytes)

pub record MadeOf (t : AdapterTable) (happened : Event) (m : Made) : Type 0 where
  pub row : Row
  pub among : Contains t.rows row
  pub established : is_established row ≡ true
  pub number : producer_of row.state ≡ m.number
  pub input : HasInput t happened row.produced m.value

due_of : (t : AdapterTable) (ms : ℕ) (x : Producer) → OfTable t x → MadeOf t (event.Tick ms) (due_made t.values x)
due_of t ms x of = record {
  row = of.row;
  among = of.among;
  established = of.established;
  number = of.number_is;
  input = inl (ap (λ (point : ℕ). unwrap_or (bytes_at t.values point) []) (sym of.point_is));
}

expired_of : (t : AdapterTable) (ms : ℕ) → AllByRecursion (IsRowOf t) (expired_table (clocked_table t ms)).rows
unfolding expired_table clocked_table
expired_of t ms =
    let clock : Ms = record { 0 = t.clock.0 + ms } in
    all_filtered (IsRowOf t) (stays (expired_rows clock t.rows)) (expired_rows clock t.rows)
    (rows_on t (expired_row clock) (expired_row_same clock) t.rows (rows_of t))

tick_of : (t : AdapterTable) (ms : ℕ) → AllByRecursion (MadeOf t (event.Tick ms)) (advanced_made (clocked_table t ms) (expired_table (clocked_table t ms)).rows)
unfolding clocked_table
tick_of t ms =
    let clock : Ms = record { 0 = t.clock.0 + ms } in
    let rows = (expired_table (clocked_table t ms)).rows in
    all_mapped (OfTable t) (MadeOf t (event.Tick ms)) (due_made t.values) (due_of t ms) (due_producers clock rows)
    (all_ordered (OfTable t) by_due (producers (filter (is_due clock) rows))
    (producers_of t (filter (is_due clock) rows) (all_filtered (IsRowOf t) (is_due clock) rows (expired_of t ms))))

-- a producer on the point that is written
record IsOnPoint (t : AdapterTable) (point : ℕ) (x : Producer) : Type 0 where
  of : OfTable t x
  point_is : x.point ≡ point

on_point : (t : AdapterTable) (point : ℕ) (row : Row) (state : State) → row.state ≡ state → row.produced ≡ point → IsRowOf t row → IfSome (state_producer row state) (IsOnPoint t point)
on_point t point row TimedOut is at of = tt
on_point t point row (Established p) is at of = record { of = state_of t row (Established p) is of; point_is = at }

-- a connection of the table on the point
record IsRowOn (t : AdapterTable) (point : ℕ) (row : Row) : Type 0 where
  of : IsRowOf t row
  at : row.produced ≡ point

passes : (clock : Ms) (point : ℕ) (row : Row) → produces_on_change clock point row ≡ true → row.produced ≡ point
passes clock point row is = eqb-true row.produced point (and_parts (row.produced == point) (state_produces_on_change clock row.state) is).0

on_step : (b : Bool) (t : AdapterTable) (point : ℕ) (row : Row) (rest : List Row) → (b ≡ true → row.produced ≡ point) → IsRowOf t row → AllByRecursion (IsRowOn t point) rest → AllByRecursion (IsRowOn t point) (cond b (row ∷ rest) rest)
on_step true t point row rest at of all = (record { of = of; at = at refl }, all)
on_step false t point row rest at of all = all

rows_on_point : (t : AdapterTable) (clock : Ms) (point : ℕ) (rows : List Row) → AllByRecursion (IsRowOf t) rows → AllByRecursion (IsRowOn t point) (filter (produces_on_change clock point) rows)
rows_on_point t clock point [] all = tt
rows_on_point t clock point (row ∷ rows) all = on_step (produces_on_change clock point row) t point row (filter (produces_on_change clock point) rows) (passes clock point row) all.0 (rows_on_point t clock point rows all.1)

written_of : (t : AdapterTable) (point : ℕ) (bytes : List ℕ) (x : Producer) → IsOnPoint t point x → MadeOf t (event.Write point bytes) (adapter_made bytes x)
written_of t point bytes x on =
    let of = on.of in
    record {
      row = of.row;
      among = of.among;
      established = of.established;
      number = of.number_is;
      input = inr (ap (λ (n : ℕ). event.Write n bytes) (sym (of.point_is ∙ on.point_is)));
    }

written_rows_of : (t : AdapterTable) (point : ℕ) (bytes : List ℕ) → AllByRecursion (IsRowOf t) (written_table t point bytes).rows
unfolding written_table
written_rows_of t point bytes = rows_on t (written_row point) (written_row_same point) t.rows (rows_of t)

write_of : (t : AdapterTable) (point : ℕ) (bytes : List ℕ) → AllByRecursion (MadeOf t (event.Write point bytes)) (changed_made (written_table t point bytes) point bytes)
write_of t point bytes =
    let written = written_table t point bytes in
    let rows = filter (produces_on_change written.clock point) written.rows in
    all_mapped (IsOnPoint t point) (MadeOf t (event.Write point bytes)) (adapter_made bytes) (written_of t point bytes) (producers_on_change written.clock point written.rows)
    (all_ordered (IsOnPoint t point) by_number (producers rows)
    (all_firsts (IsOnPoint t point) same_producer (filter_map producer_in rows)
    (all_made (IsRowOn t point) (IsOnPoint t point) producer_in (λ row on. on_point t point row row.state refl on.at on.of) rows
    (rows_on_point t written.clock point written.rows (written_rows_of t point bytes)))))

pub all_made_of : (t : AdapterTable) (happened : Event) → AllByRecursion (MadeOf t happened) (adapter_makes t happened)
all_made_of t (event.Write point bytes) = write_of t point bytes
all_made_of t (event.Tick ms) = tick_of t ms
all_made_of t other = tt
