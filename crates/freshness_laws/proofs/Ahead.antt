-- No established connection of an adapter has a deadline behind the clock.
use Rattle.std.proofs.Common.{◌≡◌, ◌≤◌, ℕ, ◌+◌, ◌==◌, nat_le, Bool, true, false, cond, not, ◌&&◌, List, map, filter, refl, sym, ◌∙◌, arith}
use Rattle.std.proofs.lemmas.Bool.Decides.{nat_tests}
use Rattle.cip_types.specs.declared.names.Ms.{Ms}
use Rattle.cip_types.specs.declared.names.Node.{Node}
use Rattle.cip_fwdopen.specs.Open.{OpenFields}
use Rattle.cip_datagram.specs.Datagram.{DatagramFields}
use Rattle.cip_events.specs.declared.event.Delivery.{Delivery}
use Rattle.messaging.specs.declared.table.Messaging.{Messaging}
use Rattle.adapter_table.specs.declared.row.State.{State}
use Rattle.adapter_table.specs.declared.row.State.TheVariants.{TimedOut}
use Rattle.adapter_table.specs.declared.table.AdapterTable.{AdapterTable}
use Rattle.adapter_table.specs.Checks.{Admitted}
use Rattle.adapter_table.specs.Closing.{without_triad, stays, closed_table}
use Rattle.adapter_table.specs.Connections.{Row}
use Rattle.adapter_table.specs.Datagrams.{is_for, accepted_row, accepted_if_for, accepted_table}
use Rattle.adapter_table.specs.Laws.{StepsKeep, EffectsKeep}
use Rattle.adapter_table.specs.Messages.{messages_table}
use Rattle.adapter_table.specs.Opening.{opened_row, opened_table, is_replaced}
use Rattle.adapter_table.specs.Productions.{produced_state, produced_row, changed_state, changed_row}
use Rattle.adapter_table.specs.Rows.{lives, is_established, has_triad, Each, written_state, written_row}
use Rattle.adapter_table.specs.Step.{written_table, changed_table}
use Rattle.adapter_table.specs.Streams.{with_stream, without_stream, registered_table}
use Rattle.adapter_table.specs.Ticks.{has_expired, expired_row, expired_rows, clocked_table, expired_table, produced_table}
use Rattle.adapter_table.specs.EachLemmas.{each_filter, each_append, each_map, each_changed}
use Rattle.adapter_table.specs.Lemmas.EffectLemmas.{adapter_keeps}
use Rattle.adapter_table.specs.Lemmas.LikeLemmas.{lives_written, lives_due, lives_changed}

-- the connection's deadline is not behind this time
abbrev pub IsAhead : Ms → Row → Type 0
IsAhead clock row = is_established row ≡ true → clock.0 ≤ row.deadline.0

abbrev pub AreAhead : AdapterTable → Type 0
AreAhead t = Each (IsAhead t.clock) t.rows

ahead_same : (clock : Ms) (row : Row) (state : State) → lives state ≡ lives row.state → IsAhead clock row → IsAhead clock (record row { state = state })
ahead_same clock row state same ahead = λ is. ahead (sym same ∙ is)

ahead_if : (b : Bool) (clock : Ms) (row : Row) (state : State) → lives state ≡ lives row.state → IsAhead clock row → IsAhead clock (cond b (record row { state = state }) row)
ahead_if true clock row state same ahead = ahead_same clock row state same ahead
ahead_if false clock row state same ahead = ahead

ahead_fed : (b : Bool) (clock : Ms) (d : DatagramFields) (row : Row) → IsAhead clock row → IsAhead clock (cond b (accepted_row clock d row) row)
ahead_fed true clock d row ahead = λ is. omega arith
ahead_fed false clock d row ahead = ahead

not_late : (a b : Bool) → (a && b) ≡ false → a ≡ true → b ≡ false
not_late true b none is = none
not_late false b none is = absurd (let e = is in cc)

later : (deadline clock : ℕ) → nat_le deadline clock ≡ false → clock ≤ deadline
later deadline clock none = grind (arith, nat_tests)

ahead_expired : (b : Bool) (clock : Ms) (row : Row) → has_expired clock row ≡ b → IsAhead clock (cond b (record row { state = TimedOut }) row)
ahead_expired true clock row late = λ is. absurd (let e = is in cc)
ahead_expired false clock row late = λ is. later row.deadline.0 clock.0 (not_late (is_established row) (nat_le row.deadline.0 clock.0) late is)

ahead_opened : (t : AdapterTable) (peer : Node) (request : OpenFields) (admitted : Admitted) → AreAhead t → AreAhead (opened_table t (opened_row t peer request admitted) admitted)
unfolding opened_table opened_row
ahead_opened t peer request admitted ahead =
    each_append (IsAhead t.clock) _ _ (each_filter (IsAhead t.clock) (λ (r : Row). not (is_replaced t.rows request.triad r)) t.rows ahead)
    (λ is. omega arith)

ahead_closed : (t : AdapterTable) (row : Row) → AreAhead t → AreAhead (closed_table t row)
unfolding closed_table
ahead_closed t row ahead =
    let left = without_triad row.triad t.rows in
    each_filter (IsAhead t.clock) (stays left) left (each_filter (IsAhead t.clock) (λ (r : Row). not (has_triad row.triad r)) t.rows ahead)

ahead_written : (t : AdapterTable) (point : ℕ) (bytes : List ℕ) → AreAhead t → AreAhead (changed_table (written_table t point bytes) point)
unfolding written_table changed_table
ahead_written t point bytes ahead =
    each_map (IsAhead t.clock) (changed_row t.clock point) (λ row is. ahead_if (row.produced == point) t.clock row (changed_state t.clock row.t_o_api_ms row.state) (lives_changed t.clock row.t_o_api_ms row.state) is) (map (written_row point) t.rows)
    (each_map (IsAhead t.clock) (written_row point) (λ row is. ahead_if (row.produced == point) t.clock row (written_state row.state) (lives_written row.state) is) t.rows ahead)

ahead_accepted : (t : AdapterTable) (peer : Node) (d : DatagramFields) (row : Row) (delivery : Delivery) → AreAhead t → AreAhead (accepted_table t peer d row delivery)
unfolding accepted_table
ahead_accepted t peer d row delivery ahead =
    each_map (IsAhead t.clock) (accepted_if_for t.clock peer d) (λ row is. ahead_fed (is_for peer d.connection row) t.clock d row is) t.rows ahead

ahead_advanced : (t : AdapterTable) (ms : ℕ) → AreAhead t → AreAhead (produced_table (expired_table (clocked_table t ms)))
unfolding clocked_table expired_table produced_table
ahead_advanced t ms ahead =
    let clock : Ms = record { 0 = t.clock.0 + ms } in
    let left = expired_rows clock t.rows in
    each_map (IsAhead clock) (produced_row clock) (λ row is. ahead_same clock row (produced_state clock row.t_o_api_ms row.state) (lives_due clock row.t_o_api_ms row.state) is) (filter (stays left) left)
    (each_filter (IsAhead clock) (stays left) left
    (each_changed (IsAhead t.clock) (IsAhead clock) (expired_row clock) (λ row is. ahead_expired (has_expired clock row) clock row refl) t.rows ahead))

ahead_streamed : (t : AdapterTable) (number : ℕ) (peer : Node) → AreAhead t → AreAhead (with_stream t number peer)
unfolding with_stream
ahead_streamed t number peer ahead = ahead

ahead_unstreamed : (t : AdapterTable) (number : ℕ) → AreAhead t → AreAhead (without_stream t number)
unfolding without_stream
ahead_unstreamed t number ahead = ahead

ahead_registered : (t : AdapterTable) (number : ℕ) → AreAhead t → AreAhead (registered_table t number)
unfolding registered_table
ahead_registered t number ahead = ahead

ahead_messaged : (t : AdapterTable) (next_id : ℕ) (m : Messaging) → AreAhead t → AreAhead (messages_table t next_id m)
unfolding messages_table
ahead_messaged t next_id m ahead = ahead

effects_keep_ahead : EffectsKeep AreAhead
effects_keep_ahead = record {
  opened = λ t peer request admitted is ahead. ahead_opened t peer request admitted ahead;
  closed = ahead_closed;
  written = λ t point bytes input found long ahead. ahead_written t point bytes ahead;
  fed = λ t peer d row delivery is found ahead. ahead_accepted t peer d row delivery ahead;
  advanced = λ t ms in_time ahead. ahead_advanced t ms ahead;
  streamed = λ t number peer free ahead. ahead_streamed t number peer ahead;
  unstreamed = ahead_unstreamed;
  registered = ahead_registered;
  messaged = λ t next_id m goes ahead. ahead_messaged t next_id m ahead;
  counted = λ t openings ahead. ahead;
  tallied = λ t counters ahead. ahead;
  taken = λ t block may ahead. ahead;
}

pub steps_keep_ahead : StepsKeep AreAhead
steps_keep_ahead = adapter_keeps AreAhead effects_keep_ahead
