-- Which connection of an adapter's table each established one of the next table was.
use Rattle.std.proofs.Common.{◌≡◌, ◌<◌, ℕ, ◌+◌, true, List, [], ◌∷◌, map, filter, find, Option, Some, None, Result, Ok, Err, ◌⊎◌, inl, inr, refl, sym, ◌∙◌, ap, subst, arith}
use Rattle.std.specs.List.{AllByRecursion}
use Rattle.cip_types.specs.declared.names.Ms.{Ms}
use Rattle.cip_types.specs.declared.names.Node.{Node}
use Rattle.cip_datagram.specs.declared.datagram.DatagramFault.{DatagramFault}
use Rattle.cip_datagram.specs.Datagram.{DatagramFields}
use Rattle.cip_datagram.specs.Reading.{datagram_reading}
use Rattle.cip_events.specs.declared.event.Event.{Event}
use Rattle.cip_events.specs.declared.event.Event.TheVariants.{Datagram, Write, Tick}
use Rattle.cip_events.specs.Answers.{is_accepted}
use Rattle.cip_fwdopen.specs.Open.{OpenFields}
use Rattle.messaging.specs.declared.table.Messaging.{Messaging}
use Rattle.adapter_table.specs.Connections.{Row}
use Rattle.adapter_table.specs.Messages.{messages_table}
use Rattle.adapter_table.specs.declared.row.State.TheVariants.{TimedOut}
use Rattle.adapter_table.specs.declared.table.AdapterTable.{AdapterTable}
use Rattle.adapter_table.specs.Checks.{Admitted}
use Rattle.adapter_table.specs.Closing.{stays, without_triad, closed_table}
use Rattle.adapter_table.specs.Datagrams.{is_for, row_delivery, accepted_if_for, accepted_table, found_datagram, datagram_of, received}
use Rattle.adapter_table.specs.Opening.{opened_row, opened_table}
use Rattle.adapter_table.specs.Productions.{changed_row, produced_row}
use Rattle.adapter_table.specs.Requests.{Next}
use Rattle.adapter_table.specs.Rows.{is_established, lives, written_row, Each}
use Rattle.adapter_table.specs.Sound.{OpensBefore, OpeningsRise}
use Rattle.adapter_table.specs.Step.{adapter_step, written_table, changed_table}
use Rattle.adapter_table.specs.Streams.{with_stream, without_stream, registered_table}
use Rattle.adapter_table.specs.Ticks.{has_expired, expired_row, expired_rows, clocked_table, expired_table, produced_table, advanced}
use Rattle.adapter_table.specs.Lemmas.EffectLemmas.{write_is, tick_is}
use Rattle.adapter_table.specs.Lemmas.LikeLemmas.{Keeps, written_keeps, changed_keeps, fed_keeps, due_keeps}
use Rattle.adapter_table.specs.Lemmas.RequestLemmas.{RequestsDo, next_is}
use Rattle.device_laws.specs.Lemmas.Lists.{all_both, all_filtered, all_mapped}
use Rattle.device_laws.specs.Lemmas.Texts.{either}
use Rattle.device_laws.specs.Lemmas.ListCounts.{Has}
use Rattle.adapter_table.specs.Lemmas.ControlLemmas.{control_does}

-- the connection was established before, by the same opening, with the same kind and output
pub record WasOpen (t : AdapterTable) (row : Row) : Type 0 where
  pub was : Row
  pub there : Has was t.rows
  pub opening : row.opening ≡ was.opening
  pub kind : row.kind ≡ was.kind
  pub consumed : row.consumed ≡ was.consumed
  pub lives : is_established was ≡ true

-- an established connection is an old one, or has the next opening number
abbrev pub IsOldOrNew : AdapterTable → Row → Type 0
IsOldOrNew t row = is_established row ≡ true → WasOpen t row ⊎ (row.opening ≡ t.next_id)

abbrev pub RowsFrom : AdapterTable → AdapterTable → Type 0
RowsFrom t u = AllByRecursion (IsOldOrNew t) u.rows

pub all_of_has : {X : Type 0} (P : X → Type 0) (xs : List X) → ((x : X) → Has x xs → P x) → AllByRecursion P xs
all_of_has P [] holds = tt
all_of_has P (x ∷ xs) holds = (holds x (inl refl), all_of_has P xs (λ y has. holds y (inr has)))

own_rows : (t : AdapterTable) → RowsFrom t t
own_rows t = all_of_has (IsOldOrNew t) t.rows (λ row has lives. inl (record { was = row; there = has; opening = refl; kind = refl; consumed = refl; lives = lives }))

-- a change of a connection that leaves its opening, kind and output, and establishes none
pub record Leaves (f : Row → Row) : Type 0 where
  pub opening : (row : Row) → (f row).opening ≡ row.opening
  pub kind : (row : Row) → (f row).kind ≡ row.kind
  pub consumed : (row : Row) → (f row).consumed ≡ row.consumed
  pub lives : (row : Row) → is_established (f row) ≡ true → is_established row ≡ true

like_leaves : (f : Row → Row) → Keeps f → Leaves f
like_leaves f keeps = record {
  opening = λ row. (keeps.like row).opening;
  kind = λ row. (keeps.like row).kind;
  consumed = λ row. (keeps.like row).consumed;
  lives = λ row is. sym (keeps.like row).lives ∙ is;
}

pub expired_leaves : (clock : Ms) → Leaves (expired_row clock)
expired_leaves clock = record {
  opening = λ row. either (λ (r : Row). r.opening ≡ row.opening) (has_expired clock row) (record row { state = TimedOut }) row refl refl;
  kind = λ row. either (λ (r : Row). r.kind ≡ row.kind) (has_expired clock row) (record row { state = TimedOut }) row refl refl;
  consumed = λ row. either (λ (r : Row). r.consumed ≡ row.consumed) (has_expired clock row) (record row { state = TimedOut }) row refl refl;
  lives = λ row. either (λ (r : Row). is_established r ≡ true → is_established row ≡ true) (has_expired clock row) (record row { state = TimedOut }) row (λ is. absurd (let e = is in cc)) (λ is. is);
}

left_old : (t : AdapterTable) (f : Row → Row) → Leaves f → (row : Row) → IsOldOrNew t row → IsOldOrNew t (f row)
left_old t f leaves row ok lives = step (ok (leaves.lives row lives)) where
  step : WasOpen t row ⊎ (row.opening ≡ t.next_id) → WasOpen t (f row) ⊎ ((f row).opening ≡ t.next_id)
  step (inl old) = inl (record { was = old.was; there = old.there; opening = leaves.opening row ∙ old.opening; kind = leaves.kind row ∙ old.kind; consumed = leaves.consumed row ∙ old.consumed; lives = old.lives })
  step (inr new) = inr (leaves.opening row ∙ new)

rows_left : (t : AdapterTable) (f : Row → Row) → Leaves f → (rows : List Row) → AllByRecursion (IsOldOrNew t) rows → AllByRecursion (IsOldOrNew t) (map f rows)
rows_left t f leaves rows ok = all_mapped (IsOldOrNew t) (IsOldOrNew t) f (left_old t f leaves) rows ok

opened_from : (t : AdapterTable) (peer : Node) (request : OpenFields) (admitted : Admitted) → RowsFrom t (opened_table t (opened_row t peer request admitted) admitted)
unfolding opened_table opened_row
opened_from t peer request admitted = all_both (IsOldOrNew t) _ _ (all_filtered (IsOldOrNew t) _ t.rows (own_rows t)) ((λ lives. inr refl), tt)

closed_from : (t : AdapterTable) (row : Row) → RowsFrom t (closed_table t row)
unfolding closed_table
closed_from t row = all_filtered (IsOldOrNew t) (stays (without_triad row.triad t.rows)) (without_triad row.triad t.rows) (all_filtered (IsOldOrNew t) _ t.rows (own_rows t))

with_from : (t : AdapterTable) (number : ℕ) (peer : Node) → RowsFrom t (with_stream t number peer)
unfolding with_stream
with_from t number peer = own_rows t

without_from : (t : AdapterTable) (number : ℕ) → RowsFrom t (without_stream t number)
unfolding without_stream
without_from t number = own_rows t

registered_from : (t : AdapterTable) (number : ℕ) → RowsFrom t (registered_table t number)
unfolding registered_table
registered_from t number = own_rows t

messaged_from : (t : AdapterTable) (next_id : ℕ) (m : Messaging) → RowsFrom t (messages_table t next_id m)
unfolding messages_table
messaged_from t next_id m = own_rows t

-- other class 3 connections and requests that wait, after another change
more_from : (t next : AdapterTable) (next_id : ℕ) (m : Messaging) → RowsFrom t next → RowsFrom t (messages_table next next_id m)
unfolding messages_table
more_from t next next_id m from = from

requests_from : RequestsDo RowsFrom
requests_from = record {
  stays = own_rows;
  opened = λ t peer request admitted e. opened_from t peer request admitted;
  closed = λ t triad row found. closed_from t row;
  unstreamed = without_from;
  registered = registered_from;
  messaged = λ t next_id m goes. messaged_from t next_id m;
  counted = λ t next openings from. from;
  tallied = λ t next counters from. from;
  taken = λ t block may. own_rows t;
}

written_from : (t : AdapterTable) (point : ℕ) (bytes : List ℕ) → RowsFrom t (changed_table (written_table t point bytes) point)
unfolding written_table changed_table
written_from t point bytes = rows_left t (changed_row t.clock point) (like_leaves (changed_row t.clock point) (changed_keeps t.clock point)) (map (written_row point) t.rows) (rows_left t (written_row point) (like_leaves (written_row point) (written_keeps point)) t.rows (own_rows t))

advanced_from : (t : AdapterTable) (ms : ℕ) → RowsFrom t (produced_table (expired_table (clocked_table t ms)))
unfolding clocked_table expired_table produced_table
advanced_from t ms =
    let clock : Ms = record { 0 = t.clock.0 + ms } in
    let left = expired_rows clock t.rows in
    rows_left t (produced_row clock) (like_leaves (produced_row clock) (due_keeps clock)) (filter (stays left) left) (all_filtered (IsOldOrNew t) (stays left) left (rows_left t (expired_row clock) (expired_leaves clock) t.rows (own_rows t)))

fed_from : (t : AdapterTable) (peer : Node) (d : DatagramFields) (row : Row) → RowsFrom t (accepted_table t peer d row (row_delivery t.profile t.clock row d))
unfolding accepted_table
fed_from t peer d row = rows_left t (accepted_if_for t.clock peer d) (like_leaves (accepted_if_for t.clock peer d) (fed_keeps t.clock peer d)) t.rows (own_rows t)

found_from : (t : AdapterTable) (peer : Node) (d : DatagramFields) (found : Option Row) → RowsFrom t (found_datagram t peer d found).1
found_from t peer d None = own_rows t
found_from t peer d (Some row) = either (λ (next : Next). RowsFrom t next.1) (is_accepted (row_delivery t.profile t.clock row d)) _ _ (fed_from t peer d row) (own_rows t)

datagram_from : (t : AdapterTable) (peer : Node) (reading : Result DatagramFields DatagramFault) → RowsFrom t (datagram_of t peer reading).1
datagram_from t peer (Err fault) = own_rows t
datagram_from t peer (Ok d) = found_from t peer d (find (is_for peer d.connection) t.rows)

-- each step
pub rows_from : (t : AdapterTable) (event : Event) (next : Next) → adapter_step t event ≡ Ok next → RowsFrom t next.1
unfolding received
rows_from t (Datagram peer bytes) next is = subst (λ (n : Next). RowsFrom t n.1) (next_is _ _ is) (datagram_from t peer (datagram_reading bytes))
rows_from t (Write point bytes) next is = subst (λ (n : Next). RowsFrom t n.1) (write_is t point bytes next is).said (written_from t point bytes)
rows_from t (Tick ms) next is = subst (λ (n : Next). RowsFrom t n.1) (tick_is t ms next is).said (more_from t (advanced (clocked_table t ms)).1 _ _ (advanced_from t ms))
rows_from t other next is = control_does RowsFrom requests_from (λ t number peer free. with_from t number peer) t other next refl is

-- ---- one opening, one connection

later_apart : (row : Row) (rows : List Row) (b : Row) → Each (OpensBefore row) rows → Has b rows → row.opening < b.opening
later_apart row [] b each has = absurd has
later_apart row (x ∷ rows) b each (inl is) = subst (λ (r : Row). row.opening < r.opening) is each.0
later_apart row (x ∷ rows) b each (inr has) = later_apart row rows b each.1 has

-- two connections of a table with one opening number are one
pub one_row : (rows : List Row) (a b : Row) → OpeningsRise rows → Has a rows → Has b rows → a.opening ≡ b.opening → a ≡ b
one_row [] a b rise has_a has_b same = absurd has_a
one_row (row ∷ rows) a b rise (inl is) (inl too) same = sym is ∙ too
one_row (row ∷ rows) a b rise (inl is) (inr has) same = absurd (let less = later_apart row rows b rise.0 has in let one = ap (λ (r : Row). r.opening) is in omega (arith, less, one, same))
one_row (row ∷ rows) a b rise (inr has) (inl is) same = absurd (let less = later_apart row rows a rise.0 has in let one = ap (λ (r : Row). r.opening) is in omega (arith, less, one, same))
one_row (row ∷ rows) a b rise (inr has) (inr too) same = one_row rows a b rise.1 has too same
