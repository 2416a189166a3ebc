-- The invariant of the engine, by the effects of the table.
use Rattle.std.proofs.Common.{◌≡◌, ◌<◌, ◌≤◌, ◌+◌, ◌^◌, ℕ, Bool, true, false, cond, not, ◌||◌, ◌&&◌, ◌==◌, List, [], ◌∷◌, map, filter, length, drop, get_or, find, Option, Some, None, refl, sym, ◌∙◌, ap, subst}
use Rattle.std.specs.Prelude.{IsTrue, Result, Ok, Err, OnOk}
use Rattle.std.specs.Result.{result_err}
use Rattle.std.specs.List.{list_any}
use Rattle.std.proofs.lemmas.Bool.{eqb-true}
use Rattle.std.proofs.lemmas.List.{drop_more}
use Rattle.cip_types.specs.declared.names.Node.{Node}
use Rattle.cip_types.specs.declared.names.Ms.{Ms}
use Rattle.cip_datagram.specs.Datagram.{DatagramFields}
use Rattle.cip_datagram.specs.Header.{header_at}
use Rattle.cip_events.specs.declared.event.Delivery.{Delivery}
use Rattle.cip_events.specs.declared.event.Delivery.TheVariants.{Applied, Idle, Heartbeat, Duplicate, Old, UnknownId, WrongSize, Malformed}
use Rattle.cip_events.specs.declared.event.Notice.{Notice}
use Rattle.cip_events.specs.declared.event.Notice.TheVariants.{Dropped}
use Rattle.cip_events.specs.declared.event.OutgoingDatagram.{OutgoingDatagram}
use Rattle.cip_events.specs.declared.event.Verdict.TheVariants.{Done}
use Rattle.cip_events.specs.Answers.{plain_answer, is_accepted}
use Rattle.cip_productions.specs.Productions.{sent}
use Rattle.messaging.specs.Times.{late_class3_connections}
use Rattle.adapter_table.specs.declared.profile.InputPoint.{InputPoint}
use Rattle.adapter_table.specs.declared.profile.Profile.{Profile}
use Rattle.adapter_table.specs.Connections.{Row}
use Rattle.adapter_table.specs.declared.row.State.{State}
use Rattle.adapter_table.specs.declared.row.State.TheVariants.{Established, TimedOut}
use Rattle.adapter_table.specs.declared.table.AdapterTable.{AdapterTable}
use Rattle.adapter_table.specs.declared.table.PointValue.{PointValue}
use Rattle.adapter_table.specs.Closing.{closed_values, dropped_notice}
use Rattle.adapter_table.specs.Opening.{triad_of}
use Rattle.adapter_table.specs.Datagrams.{is_for, row_delivery, run_data, accepted_if_for, accepted_values, accepted_table, found_datagram, delivered}
use Rattle.adapter_table.specs.EachLemmas.{each_found}
use Rattle.adapter_table.specs.declared.acceptance.Judgement.{Judgement}
use Rattle.adapter_table.specs.declared.acceptance.Judgement.TheVariants as judged
use Rattle.adapter_table.specs.Judging.{IsJudged, judged_delivery}
use Rattle.adapter_table.specs.Laws.{AppliedDataHaveOutputs, AppliedDataFit, EffectsKeep}
use Rattle.adapter_table.specs.Productions.{state_produces_on_change, produces_on_change, productions_on_change, is_due, state_is_due, due_productions, produced_state, produced_row}
use Rattle.adapter_table.specs.Profiles.{is_at}
use Rattle.adapter_table.specs.Requests.{Next}
use Rattle.adapter_table.specs.Rows.{is_unsupported, written_state, written_row}
use Rattle.adapter_table.specs.Shapes.{len_of}
use Rattle.adapter_table.specs.Sound.{ListenersAreSupported}
use Rattle.adapter_table.specs.Ticks.{has_expired, expired_rows, expired_values, clocked_table, expired_table, produced_table, advanced}
use Rattle.adapter_table.specs.Whole.{ConsumesOutput, IsWhole}
use Rattle.assembly_set.specs.declared.fault.PointFault.{PointFault}
use Rattle.assembly_set.specs.declared.fault.PointFault.TheVariants.{WrongLength}
use Rattle.assembly_set.specs.Assemblies.{is_output, input_fault, write_fault}
use Rattle.indexed_connections.specs.declared.list.table.ReceivedDatagram.{ReceivedDatagram}
use Rattle.indexed_connections.specs.List.Receiving.{IsReceived, receiving}
use Rattle.indexed_connections.specs.List.Tables.{AreWhole}

-- the connections of a whole table are those of one
pub are_whole : (t : AdapterTable) → IsWhole t → AreWhole t.rows
are_whole t whole = record { table = t; whole = whole; same = refl }

-- ---- a datagram is applied

-- an output is there for the data
pub feeds_output : AppliedDataHaveOutputs → (t : AdapterTable) (peer : Node) (d : DatagramFields) (row : Row) (delivery : Delivery) → find (is_for peer d.connection) t.rows ≡ Some row → row_delivery t.profile t.clock row d ≡ delivery → IsWhole t → delivery ≡ Applied → IsTrue (is_output t.profile row.consumed)
feeds_output have t peer d row delivery found is whole applied =
    have t.profile t.clock row d (each_found (ConsumesOutput t.profile) (is_for peer d.connection) t.rows row found whole.consume) (is ∙ applied)

-- and is as long as they are
pub feeds_len : AppliedDataFit → (t : AdapterTable) (peer : Node) (d : DatagramFields) (row : Row) (delivery : Delivery) → find (is_for peer d.connection) t.rows ≡ Some row → row_delivery t.profile t.clock row d ≡ delivery → IsWhole t → delivery ≡ Applied → len_of t.profile row.consumed ≡ Some (length (run_data (header_at d.payload)))
feeds_len fit t peer d row delivery found is whole applied =
    fit t.profile t.clock row d (each_found (ConsumesOutput t.profile) (is_for peer d.connection) t.rows row found whole.consume) (is ∙ applied)

-- ---- a write that makes no producer produce

or_false : (a b : Bool) → (a || b) ≡ false → (a ≡ false) × (b ≡ false)
or_false true b h = absurd cc
or_false false b h = (refl, h)

-- an input that there is, and bytes as many as it has
pub record IsInput (profile : Profile) (point len : ℕ) : Type 0 where
  pub input : InputPoint
  pub found : find (is_at point) profile.inputs ≡ Some input
  pub long : len ≡ input.len

no_fault : (b : Bool) (input : InputPoint) → cond b None (Some WrongLength) ≡ None → b ≡ true
no_fault true input none = refl
no_fault false input none = absurd cc

input_by : (profile : Profile) (point len : ℕ) (found : Option InputPoint) → find (is_at point) profile.inputs ≡ found → input_fault found len ≡ None → IsInput profile point len
input_by profile point len None is none = absurd cc
input_by profile point len (Some input) is none = record { input = input; found = is; long = eqb-true _ _ (no_fault (len == input.len) input none) }

pub is_input : (profile : Profile) (point len : ℕ) → write_fault profile point len ≡ None → IsInput profile point len
is_input profile point len none = input_by profile point len (find (is_at point) profile.inputs) refl none

-- what holds where there is no fault
pub without_fault : {P : Type 0} (given : Result (Unit {0}) PointFault) → result_err given ≡ None → OnOk given P → P
without_fault (Ok done) none holds = holds
without_fault (Err fault) none holds = absurd cc

-- a write leaves open whether a producer produces at it
changed_written : (clock : Ms) (state : State) → state_produces_on_change clock (written_state state) ≡ state_produces_on_change clock state
changed_written clock (Established production) = refl
changed_written clock TimedOut = refl

changed_step : (b : Bool) (clock : Ms) (point : ℕ) (row : Row) → produces_on_change clock point (cond b (record row { state = written_state row.state }) row) ≡ produces_on_change clock point row
changed_step true clock point row = ap (λ b. row.produced == point && b) (changed_written clock row.state)
changed_step false clock point row = refl

any_written : (clock : Ms) (point : ℕ) (rows : List Row) → list_any (produces_on_change clock point) (map (written_row point) rows) ≡ list_any (produces_on_change clock point) rows
any_written clock point [] = refl
any_written clock point (row ∷ rows) = rw (changed_step (row.produced == point) clock point row) (ap (λ b. produces_on_change clock point row || b) (any_written clock point rows))

none_passes : (q : Row → Bool) (rows : List Row) → list_any q rows ≡ false → filter q rows ≡ []
none_passes q [] none = refl
none_passes q (row ∷ rows) none =
    let parts = or_false (q row) (list_any q rows) none in
    rw parts.0 (none_passes q rows parts.1)

-- so where none would, nothing is sent
pub nothing_on_change : (clock : Ms) (point : ℕ) (bytes : List ℕ) (rows : List Row) → list_any (produces_on_change clock point) rows ≡ false → map sent (productions_on_change clock point bytes (map (written_row point) rows)) ≡ []
nothing_on_change clock point bytes rows none =
    let none_written = any_written clock point rows ∙ none in
    rw (none_passes (produces_on_change clock point) (map (written_row point) rows) none_written) refl

-- ---- a datagram that is for a connection, or for none

-- what is so after the connections have received a datagram that is for one that consumes the point
pub record Fed (t : AdapterTable) (peer : Node) (d : DatagramFields) (point : ℕ) (delivery : Delivery) (new : List Row) : Type 0 where
  pub output : delivery ≡ Applied → IsTrue (is_output t.profile point)
  pub len : delivery ≡ Applied → len_of t.profile point ≡ Some (length (run_data (header_at d.payload)))
  pub whole : IsWhole (record t { rows = new; values = accepted_values t.profile point d delivery t.values })
  pub said : found_datagram t peer d (find (is_for peer d.connection) t.rows) ≡ delivered delivery (record t { rows = new; values = accepted_values t.profile point d delivery t.values })

-- what is not accepted changes no output
not_fed : (profile : Profile) (point : ℕ) (d : DatagramFields) (delivery : Delivery) (values : List PointValue) → is_accepted delivery ≡ false → accepted_values profile point d delivery values ≡ values
not_fed profile point d Applied values no_news = absurd cc
not_fed profile point d Idle values no_news = absurd cc
not_fed profile point d Heartbeat values no_news = refl
not_fed profile point d Duplicate values no_news = refl
not_fed profile point d Old values no_news = refl
not_fed profile point d UnknownId values no_news = refl
not_fed profile point d WrongSize values no_news = refl
not_fed profile point d Malformed values no_news = refl

-- the laws that are drawn on
pub record Laws : Type 0 where
  pub outputs : AppliedDataHaveOutputs
  pub lengths : AppliedDataFit
  pub effects : EffectsKeep IsWhole

fed_step : (b : Bool) → Laws → (t : AdapterTable) (peer : Node) (d : DatagramFields) (row : Row) (new : List Row) → is_accepted (row_delivery t.profile t.clock row d) ≡ b → find (is_for peer d.connection) t.rows ≡ Some row → new ≡ cond b (map (accepted_if_for t.clock peer d) t.rows) t.rows → IsWhole t → Fed t peer d row.consumed (row_delivery t.profile t.clock row d) new
unfolding accepted_table
fed_step true laws t peer d row new accepted found is whole =
    let delivery = row_delivery t.profile t.clock row d in
    record {
      output = feeds_output laws.outputs t peer d row delivery found refl whole;
      len = feeds_len laws.lengths t peer d row delivery found refl whole;
      whole = rw is (laws.effects.fed t peer d row delivery refl found whole);
      said = rw (found, accepted, is) refl;
    }
fed_step false laws t peer d row new accepted found is whole =
    let delivery = row_delivery t.profile t.clock row d in
    record {
      output = feeds_output laws.outputs t peer d row delivery found refl whole;
      len = feeds_len laws.lengths t peer d row delivery found refl whole;
      whole = rw (is, not_fed t.profile row.consumed d delivery t.values accepted) whole;
      said = rw (found, accepted, is, not_fed t.profile row.consumed d delivery t.values accepted) refl;
    }

judged_as : (said : Delivery) (run : List ℕ) (judgement : Judgement) → IsJudged said run judgement → said ≡ judged_delivery judgement
judged_as said run (judged.Applied lent) is = is.0
judged_as said run judged.Idle is = is
judged_as said run judged.Heartbeat is = is
judged_as said run judged.Duplicate is = is
judged_as said run judged.Old is = is
judged_as said run judged.WrongSize is = is

-- data that are applied are those of the datagram
applied_run : (said : Delivery) (run data_run : List ℕ) (judgement : Judgement) → IsJudged Applied run judgement → IsJudged said data_run judgement → (said ≡ Applied) × (data_run ≡ run)
applied_run said run data_run (judged.Applied lent) applied is = (is.0, sym is.1 ∙ applied.1)
applied_run said run data_run judged.Idle applied is = absurd cc
applied_run said run data_run judged.Heartbeat applied is = absurd cc
applied_run said run data_run judged.Duplicate applied is = absurd cc
applied_run said run data_run judged.Old applied is = absurd cc
applied_run said run data_run judged.WrongSize applied is = absurd cc

-- the same of a datagram's judgement
pub record Received (t : AdapterTable) (peer : Node) (d : DatagramFields) (received : ReceivedDatagram) (new : List Row) : Type 0 where
  pub judged : IsJudged (judged_delivery received.judgement) (run_data (header_at d.payload)) received.judgement
  pub fed : Fed t peer d received.consumed (judged_delivery received.judgement) new

pub received_output : (t : AdapterTable) (peer : Node) (d : DatagramFields) (received : ReceivedDatagram) (new : List Row) → Received t peer d received new → (run : List ℕ) → IsJudged Applied run received.judgement → IsTrue (is_output t.profile received.consumed)
received_output t peer d received new is run applied = is.fed.output (applied_run _ run _ received.judgement applied is.judged).0

pub received_len : (t : AdapterTable) (peer : Node) (d : DatagramFields) (received : ReceivedDatagram) (new : List Row) → Received t peer d received new → (run : List ℕ) → IsJudged Applied run received.judgement → len_of t.profile received.consumed ≡ Some (length run)
received_len t peer d received new is run applied =
    let same = applied_run _ run _ received.judgement applied is.judged in
    is.fed.len same.0 ∙ ap (λ (r : List ℕ). Some (length r)) same.1

received_found : Laws → (t : AdapterTable) (peer : Node) (d : DatagramFields) (found : Option Row) (received : ReceivedDatagram) (new : List Row) → find (is_for peer d.connection) t.rows ≡ found → IsReceived t.profile t.clock d found (Some received) → new ≡ receiving t.profile t.clock peer d found t.rows → IsWhole t → Received t peer d received new
received_found laws t peer d None received new is ends rows whole = absurd ends
received_found laws t peer d (Some row) received new is reported rows whole =
    let said = judged_as (row_delivery t.profile t.clock row d) _ received.judgement reported.0 in
    let fed = fed_step (is_accepted (row_delivery t.profile t.clock row d)) laws t peer d row new refl is rows whole in
    record {
      judged = subst (λ (s : Delivery). IsJudged s (run_data (header_at d.payload)) received.judgement) said reported.0;
      fed = subst (λ (p : ℕ). Fed t peer d p (judged_delivery received.judgement) new) (sym reported.1) (subst (λ (s : Delivery). Fed t peer d row.consumed s new) said fed);
    }

pub received_by : Laws → (t : AdapterTable) (peer : Node) (d : DatagramFields) (reported : Option ReceivedDatagram) (received : ReceivedDatagram) (new : List Row) → IsReceived t.profile t.clock d (find (is_for peer d.connection) t.rows) reported → new ≡ receiving t.profile t.clock peer d (find (is_for peer d.connection) t.rows) t.rows → IsWhole t → reported ≡ Some received → Received t peer d received new
received_by laws t peer d reported received new is rows whole some =
    received_found laws t peer d (find (is_for peer d.connection) t.rows) received new refl (subst (IsReceived t.profile t.clock d (find (is_for peer d.connection) t.rows)) some is) rows whole

-- ---- connections that are dropped, and those that time out

-- the notices of dropped connections, by their triads
pub dropped_notices : (rows : List Row) → map Dropped (map triad_of rows) ≡ map dropped_notice rows
dropped_notices [] = refl
dropped_notices (row ∷ rows) = ap (λ (l : List Notice). dropped_notice row ∷ l) (dropped_notices rows)

-- the next one's output is done, and those of the others are left
pub lost_more : (profile : Profile) (timed_out : List Row) (i : ℕ) (d : Row) (values : List PointValue) → i < length timed_out → expired_values profile (drop (i + 1) timed_out) (closed_values profile (get_or timed_out i d) values) ≡ expired_values profile (drop i timed_out) values
lost_more profile timed_out i d values lt = ap (λ (l : List Row). expired_values profile l values) (sym (drop_more timed_out i d lt))

-- ---- a tick in which no connection times out

unpassed : (q : Row → Bool) (rows : List Row) → list_any q rows ≡ false → filter (λ row. not (q row)) rows ≡ rows
unpassed q [] none = refl
unpassed q (row ∷ rows) none =
    let parts = or_false (q row) (list_any q rows) none in
    rw parts.0 (ap (λ (l : List Row). row ∷ l) (unpassed q rows parts.1))

none_expired : (clock : Ms) (rows : List Row) → list_any (has_expired clock) rows ≡ false → expired_rows clock rows ≡ rows
none_expired clock [] none = refl
none_expired clock (row ∷ rows) none =
    let parts = or_false (has_expired clock row) (list_any (has_expired clock) rows) none in
    rw parts.0 (ap (λ (l : List Row). row ∷ l) (none_expired clock rows parts.1))

still_state : (clock : Ms) (api : ℕ) (state : State) → state_is_due clock state ≡ false → produced_state clock api state ≡ state
still_state clock api (Established production) still = rw still refl
still_state clock api TimedOut still = refl

none_produced : (clock : Ms) (rows : List Row) → list_any (is_due clock) rows ≡ false → map (produced_row clock) rows ≡ rows
none_produced clock [] none = refl
none_produced clock (row ∷ rows) none =
    let parts = or_false (is_due clock row) (list_any (is_due clock) rows) none in
    rw (still_state clock row.t_o_api_ms row.state parts.0) (ap (λ (l : List Row). row ∷ l) (none_produced clock rows parts.1))

nothing_due : (clock : Ms) (rows : List Row) (values : List PointValue) → list_any (is_due clock) rows ≡ false → map sent (due_productions clock rows values) ≡ []
nothing_due clock rows values none = rw (none_passes (is_due clock) rows none) refl

-- the producers alone change
unexpired : (t : AdapterTable) → list_any (has_expired t.clock) t.rows ≡ false → late_class3_connections t.clock t.messaging ≡ [] → ListenersAreSupported t.rows → advanced t ≡ (record { frames = []; datagrams = map sent (due_productions t.clock t.rows t.values); verdict = Done; notices = [] }, record t { rows = map (produced_row t.clock) t.rows })
unfolding expired_table produced_table
unexpired t none late supported =
    rw (late, none_expired t.clock t.rows none, none_passes (has_expired t.clock) t.rows none, none_passes (is_unsupported t.rows) t.rows supported, unpassed (is_unsupported t.rows) t.rows supported) refl

-- the answer and the table if the producers alone change
pub produces : (t : AdapterTable) (ms : ℕ) → list_any (has_expired (record { 0 = t.clock.0 + ms })) t.rows ≡ false → late_class3_connections (record { 0 = t.clock.0 + ms }) t.messaging ≡ [] → ListenersAreSupported t.rows → advanced (clocked_table t ms) ≡ (record { frames = []; datagrams = map sent (due_productions (record { 0 = t.clock.0 + ms }) t.rows t.values); verdict = Done; notices = [] }, record t { rows = map (produced_row (record { 0 = t.clock.0 + ms })) t.rows; clock = record { 0 = t.clock.0 + ms } })
unfolding clocked_table
produces t ms none late supported = unexpired (record t { clock = record { 0 = t.clock.0 + ms } }) none late supported

pub produces_whole : EffectsKeep IsWhole → (t : AdapterTable) (ms : ℕ) → t.clock.0 + ms ≤ 2 ^ 48 → list_any (has_expired (record { 0 = t.clock.0 + ms })) t.rows ≡ false → late_class3_connections (record { 0 = t.clock.0 + ms }) t.messaging ≡ [] → IsWhole t → IsWhole (record t { rows = map (produced_row (record { 0 = t.clock.0 + ms })) t.rows; clock = record { 0 = t.clock.0 + ms } })
produces_whole effects t ms time none late whole =
    subst IsWhole (ap (λ (n : Next). n.1) (produces t ms none late whole.sound.listeners_are_supported)) (effects.advanced t ms time whole)

-- and where nothing happens
pub waits : (t : AdapterTable) (ms : ℕ) → list_any (has_expired (record { 0 = t.clock.0 + ms })) t.rows ≡ false → late_class3_connections (record { 0 = t.clock.0 + ms }) t.messaging ≡ [] → list_any (is_due (record { 0 = t.clock.0 + ms })) t.rows ≡ false → ListenersAreSupported t.rows → advanced (clocked_table t ms) ≡ (plain_answer Done, record t { clock = record { 0 = t.clock.0 + ms } })
waits t ms none late rest supported =
    let clock : Ms = record { 0 = t.clock.0 + ms } in
    produces t ms none late supported
    ∙ ap (λ (s : List OutgoingDatagram). let n : Next = (record { frames = []; datagrams = s; verdict = Done; notices = [] }, record t { rows = map (produced_row clock) t.rows; clock = clock }) in n) (nothing_due clock t.rows t.values rest)
    ∙ ap (λ (l : List Row). let n : Next = (plain_answer Done, record t { rows = l; clock = clock }) in n) (none_produced clock t.rows rest)
