-- What holds of each connection of an adapter by its points alone holds after each event, if it holds of the connection that a
-- frame opens.
use Rattle.std.proofs.Common.{◌≡◌, ℕ, ◌+◌, ◌==◌, nat_lt, List, length, map, find, Option, Some, None, Result, Ok, Err, IfOk, refl, subst}
use Rattle.std.specs.List.{AllByRecursion}
use Rattle.cip_types.specs.declared.names.Ms.{Ms}
use Rattle.cip_types.specs.declared.names.Node.{Node}
use Rattle.cip_datagram.specs.declared.datagram.DatagramFault.{DatagramFault}
use Rattle.cip_datagram.specs.Datagram.{DatagramFields}
use Rattle.cip_datagram.specs.Reading.{datagram_reading}
use Rattle.cip_encap.specs.Reading.{message_reading}
use Rattle.cip_events.specs.declared.event.Event.{Event}
use Rattle.cip_events.specs.declared.event.Event.TheVariants as event
use Rattle.cip_events.specs.declared.event.StepFault.{StepFault}
use Rattle.cip_events.specs.declared.event.StepFault.TheVariants.{NotAllowedNow, TickTooLong, ClockEnd, WrongLength}
use Rattle.cip_events.specs.declared.event.Verdict.TheVariants.{Done}
use Rattle.cip_events.specs.Answers.{plain_answer, is_accepted}
use Rattle.cip_events.specs.Clock.{longest_tick, clock_end}
use Rattle.adapter_table.specs.declared.profile.InputPoint.{InputPoint}
use Rattle.adapter_table.specs.declared.row.State.{State}
use Rattle.adapter_table.specs.declared.row.State.TheVariants.{TimedOut}
use Rattle.adapter_table.specs.declared.table.AdapterTable.{AdapterTable}
use Rattle.adapter_table.specs.declared.table.Stream.{Stream}
use Rattle.adapter_table.specs.Closing.{stays}
use Rattle.adapter_table.specs.Connections.{Row}
use Rattle.adapter_table.specs.Datagrams.{is_for, accepted_row, accepted_if_for, row_delivery, accepted_table, delivered, found_datagram, datagram_of, received}
use Rattle.adapter_table.specs.Encapsulation.{frame}
use Rattle.adapter_table.specs.Inquiries.{inquiry_reply, inquired_by, inquired}
use Rattle.adapter_table.specs.Messages.{messages_table}
use Rattle.adapter_table.specs.Productions.{produced_state, produced_row, changed_state, changed_row}
use Rattle.adapter_table.specs.Profiles.{is_at}
use Rattle.adapter_table.specs.Requests.{Next}
use Rattle.adapter_table.specs.Rows.{written_state, written_row}
use Rattle.adapter_table.specs.Step.{written_table, changed_table, written, write_of, write, adapter_step}
use Rattle.adapter_table.specs.Streams.{is_stream, is_taken, with_stream, stream_opened, cut_of, stream_cut}
use Rattle.adapter_table.specs.Ticks.{has_expired, expired_row, expired_rows, clocked_table, expired_table, produced_table, advanced, aged_next, tick}
use Rattle.device_laws.specs.Lemmas.Lists.{all_filtered, all_mapped}
use Rattle.device_laws.specs.Lemmas.MessageSteps.{respond_holds}
use Rattle.device_laws.specs.Lemmas.Texts.{either}
use Rattle.device_laws.specs.Lemmas.OpenedRows.{MessageMakes, NextRows, RowsAre, frame_rows, without_rows}
use Rattle.adapter_table.specs.Lemmas.PassiveLemmas.{passive_holds}
use Rattle.adapter_table.specs.Lemmas.PlainLemmas.{counters_hold, ids_hold}

-- ---- one connection

-- two states of one connection
pub record IsOneConnection (old row : Row) : Type 0 where
  pub opening : row.opening ≡ old.opening
  pub consumed : row.consumed ≡ old.consumed
  pub produced : row.produced ≡ old.produced
  pub multicast : row.multicast ≡ old.multicast
  pub kind : row.kind ≡ old.kind

-- it holds of a connection in each of its states
abbrev pub Lasts : (Row → Type 0) → Type 0
Lasts O = (old row : Row) → IsOneConnection old row → O old → O row

one_itself : (row : Row) → IsOneConnection row row
one_itself row = record { opening = refl; consumed = refl; produced = refl; multicast = refl; kind = refl }

in_state : (row : Row) (state : State) → IsOneConnection row (record row { state = state })
in_state row state = record { opening = refl; consumed = refl; produced = refl; multicast = refl; kind = refl }

written_one : (point : ℕ) (row : Row) → IsOneConnection row (written_row point row)
written_one point row = either (IsOneConnection row) (row.produced == point) (record row { state = written_state row.state }) row (in_state row (written_state row.state)) (one_itself row)

changed_one : (clock : Ms) (point : ℕ) (row : Row) → IsOneConnection row (changed_row clock point row)
changed_one clock point row = either (IsOneConnection row) (row.produced == point) (record row { state = changed_state clock row.t_o_api_ms row.state }) row (in_state row (changed_state clock row.t_o_api_ms row.state)) (one_itself row)

produced_one : (clock : Ms) (row : Row) → IsOneConnection row (produced_row clock row)
produced_one clock row = in_state row (produced_state clock row.t_o_api_ms row.state)

expired_one : (clock : Ms) (row : Row) → IsOneConnection row (expired_row clock row)
expired_one clock row = either (IsOneConnection row) (has_expired clock row) (record row { state = TimedOut }) row (in_state row TimedOut) (one_itself row)

accepted_one : (clock : Ms) (peer : Node) (d : DatagramFields) (row : Row) → IsOneConnection row (accepted_if_for clock peer d row)
accepted_one clock peer d row = either (IsOneConnection row) (is_for peer d.connection row) (accepted_row clock d row) row (record { opening = refl; consumed = refl; produced = refl; multicast = refl; kind = refl }) (one_itself row)

-- ---- the other events

mapped_rows : (O : Row → Type 0) → Lasts O → (f : Row → Row) → ((row : Row) → IsOneConnection row (f row)) → (rows : List Row) → AllByRecursion O rows → AllByRecursion O (map f rows)
mapped_rows O lasts f one rows all = all_mapped O O f (λ row is. lasts row (f row) (one row) is) rows all

abbrev OkRows : (Row → Type 0) → Result Next StepFault → Type 0
OkRows O said = IfOk said (NextRows O)

streamed_rows : (O : Row → Type 0) (t : AdapterTable) (number : ℕ) (peer : Node) → RowsAre O t → RowsAre O (with_stream t number peer)
unfolding with_stream
streamed_rows O t number peer rows = rows

cut_rows : (O : Row → Type 0) (t : AdapterTable) (found : Option Stream) → RowsAre O t → OkRows O (cut_of t found)
cut_rows O t None rows = tt
cut_rows O t (Some stream) rows = without_rows O t stream.number rows

accepted_rows : (O : Row → Type 0) → Lasts O → (t : AdapterTable) (peer : Node) (d : DatagramFields) (found : Option Row) → RowsAre O t → NextRows O (found_datagram t peer d found)
unfolding accepted_table
accepted_rows O lasts t peer d None rows = rows
accepted_rows O lasts t peer d (Some row) rows =
    let delivery = row_delivery t.profile t.clock row d in
    either (NextRows O) (is_accepted (row_delivery t.profile t.clock row d)) (delivered (row_delivery t.profile t.clock row d) (accepted_table t peer d row (row_delivery t.profile t.clock row d))) (delivered (row_delivery t.profile t.clock row d) t)
    (mapped_rows O lasts (accepted_if_for t.clock peer d) (accepted_one t.clock peer d) t.rows rows) rows

datagram_rows : (O : Row → Type 0) → Lasts O → (t : AdapterTable) (peer : Node) (reading : Result DatagramFields DatagramFault) → RowsAre O t → NextRows O (datagram_of t peer reading)
datagram_rows O lasts t peer (Err why) rows = rows
datagram_rows O lasts t peer (Ok d) rows = accepted_rows O lasts t peer d (find (is_for peer d.connection) t.rows) rows

written_rows : (O : Row → Type 0) → Lasts O → (t : AdapterTable) (point : ℕ) (bytes : List ℕ) → RowsAre O t → RowsAre O (changed_table (written_table t point bytes) point)
unfolding written_table changed_table
written_rows O lasts t point bytes rows =
    mapped_rows O lasts (changed_row t.clock point) (changed_one t.clock point) (map (written_row point) t.rows) (mapped_rows O lasts (written_row point) (written_one point) t.rows rows)

write_rows : (O : Row → Type 0) → Lasts O → (t : AdapterTable) (point : ℕ) (bytes : List ℕ) (found : Option InputPoint) → RowsAre O t → OkRows O (write_of t point bytes found)
write_rows O lasts t point bytes None rows = tt
write_rows O lasts t point bytes (Some input) rows =
    either (OkRows O) (length bytes == input.len) (Ok (written (written_table t point bytes) point bytes)) (Err WrongLength) (written_rows O lasts t point bytes rows) tt

advanced_rows : (O : Row → Type 0) → Lasts O → (t : AdapterTable) (ms : ℕ) → RowsAre O t → RowsAre O (advanced (clocked_table t ms)).1
unfolding clocked_table expired_table produced_table
advanced_rows O lasts t ms rows =
    let clock : Ms = record { 0 = t.clock.0 + ms } in
    mapped_rows O lasts (produced_row clock) (produced_one clock) _
    (all_filtered O (stays (expired_rows clock t.rows)) (expired_rows clock t.rows) (mapped_rows O lasts (expired_row clock) (expired_one clock) t.rows rows))

tick_rows : (O : Row → Type 0) → Lasts O → (t : AdapterTable) (ms : ℕ) → RowsAre O t → OkRows O (tick t ms)
unfolding tick messages_table
tick_rows O lasts t ms rows =
    either (OkRows O) (nat_lt longest_tick ms) (Err TickTooLong) _ tt
    (either (OkRows O) (nat_lt clock_end (t.clock.0 + ms)) (Err ClockEnd) (Ok (aged_next (advanced (clocked_table t ms)))) tt (advanced_rows O lasts t ms rows))

inquired_rows : (O : Row → Type 0) (t : AdapterTable) (peer : Node) (reply : Option (List ℕ)) → RowsAre O t → NextRows O (inquired_by t peer reply)
inquired_rows O t peer None rows = rows
inquired_rows O t peer (Some text) rows = rows

-- ---- a step

-- what holds of the connection that the event opens; no request comes but over a stream
abbrev pub EventMakes : (Row → Type 0) → AdapterTable → Event → Type 0
EventMakes O t (event.Request peer bytes) = ⊥
EventMakes O t (event.Frame number bytes) = MessageMakes O t (message_reading bytes)
EventMakes O t other = Unit {0}

all_rows : (O : Row → Type 0) → Lasts O → (t : AdapterTable) (happens : Event) → EventMakes O t happens → RowsAre O t → OkRows O (adapter_step t happens)
unfolding received inquired write frame stream_cut stream_opened messages_table
all_rows O lasts t (event.Request peer bytes) makes rows = absurd makes
all_rows O lasts t (event.StreamOpened number peer) makes rows =
    either (OkRows O) (is_taken t.streams number) (Err NotAllowedNow) (Ok (plain_answer Done, with_stream t number peer)) tt (streamed_rows O t number peer rows)
all_rows O lasts t (event.Frame number bytes) makes rows = frame_rows O t bytes (find (is_stream number) t.streams) makes rows
all_rows O lasts t (event.StreamCut number) makes rows = cut_rows O t (find (is_stream number) t.streams) rows
all_rows O lasts t (event.Datagram peer bytes) makes rows = datagram_rows O lasts t peer (datagram_reading bytes) rows
all_rows O lasts t (event.Inquiry peer bytes) makes rows = inquired_rows O t peer (inquiry_reply t bytes) rows
all_rows O lasts t (event.Write point bytes) makes rows = write_rows O lasts t point bytes (find (is_at point) t.profile.inputs) rows
all_rows O lasts t (event.Tick ms) makes rows = tick_rows O lasts t ms rows
all_rows O lasts t (event.Respond number general bytes) makes rows = respond_holds (OkRows O) t number general bytes (λ why. tt) (λ w found few. rows)
all_rows O lasts t (event.Counters bytes) makes rows = counters_hold (OkRows O) t bytes (λ why. tt) rows
all_rows O lasts t (event.Ids block) makes rows = ids_hold (OkRows O) t block (λ why. tt) (λ may. rows)
all_rows O lasts t other makes rows = passive_holds (OkRows O) t (λ why. tt) (λ verdict. rows) other refl

pub step_rows : (O : Row → Type 0) → Lasts O → (t : AdapterTable) (happens : Event) (next : Next) → adapter_step t happens ≡ Ok next → EventMakes O t happens → AllByRecursion O t.rows → AllByRecursion O next.1.rows
step_rows O lasts t happens next is makes rows = subst (OkRows O) is (all_rows O lasts t happens makes rows)
