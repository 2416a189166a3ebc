-- An adapter's producers and what they produced: requests, frames, streams and datagrams keep that they agree.
use Rattle.std.proofs.Common.{◌≡◌, ◌≤◌, ◌<◌, ℕ, ◌+◌, ◌==◌, Bool, true, false, cond, List, [], ◌∷◌, map, filter, find, is_some, Option, Some, None, Result, Ok, Err, refl, sym, subst, arith, eqb-true}
use Rattle.std.proofs.lemmas.Bool.{and_parts}
use Rattle.std.specs.List.{AllByRecursion}
use Rattle.std.specs.Option.{IfSome, unwrap_or}
use Rattle.std.specs.Result.{result_ok}
use Rattle.cip_types.specs.declared.names.Ms.{Ms}
use Rattle.cip_types.specs.declared.names.Node.{Node}
use Rattle.cip_datagram.specs.declared.datagram.DatagramFault.{DatagramFault}
use Rattle.cip_datagram.specs.Datagram.{DatagramFields}
use Rattle.cip_datagram.specs.Reading.{datagram_reading}
use Rattle.cip_epath.specs.Path.{PathFields}
use Rattle.adapter_table.specs.Paths.{opening_path}
use Rattle.cip_events.specs.declared.event.Event.{Event}
use Rattle.cip_events.specs.declared.event.Event.TheVariants.{Datagram, Write, Tick}
use Rattle.cip_events.specs.Answers.{is_accepted}
use Rattle.cip_fwdopen.specs.Open.{OpenFields}
use Rattle.cip_router.specs.declared.refusal.Refusal.{Refusal}
use Rattle.adapter_table.specs.declared.admission.ConsumedPoint.{ConsumedPoint}
use Rattle.adapter_table.specs.declared.profile.InputPoint.{InputPoint}
use Rattle.adapter_table.specs.declared.profile.Profile.{Profile}
use Rattle.adapter_table.specs.Connections.{Row}
use Rattle.adapter_table.specs.declared.row.State.{State}
use Rattle.adapter_table.specs.declared.row.State.TheVariants.{Established, TimedOut}
use Rattle.adapter_table.specs.declared.table.AdapterTable.{AdapterTable}
use Rattle.adapter_table.specs.declared.table.PointValue.{PointValue}
use Rattle.adapter_table.specs.Checks.{Check, Points, Admitted, admission, drawn_ids, group_of, input_of, joined, judged, named_points, path_check, consumed_point_of, points_of, verdict, view_of, is_multicast}
use Rattle.adapter_table.specs.Closing.{stays, without_triad, closed_table}
use Rattle.adapter_table.specs.Datagrams.{is_for, accepted_row, accepted_if_for, row_delivery, accepted_table, found_datagram, datagram_of, received}
use Rattle.adapter_table.specs.Laws.{EffectsKeep}
use Rattle.adapter_table.specs.Opening.{opened_production, opened_row, opened_state, opened_table}
use Rattle.adapter_table.specs.Points.{bytes_at}
use Rattle.adapter_table.specs.Productions.{changed_row, produced_row}
use Rattle.adapter_table.specs.Profiles.{is_at}
use Rattle.adapter_table.specs.Requests.{Next}
use Rattle.adapter_table.specs.Rows.{is_established, is_member, written_row}
use Rattle.adapter_table.specs.Step.{adapter_step, written_table, changed_table}
use Rattle.adapter_table.specs.Streams.{with_stream, without_stream, registered_table}
use Rattle.adapter_table.specs.Ticks.{has_expired, expired_row, expired_rows, clocked_table, expired_table, produced_table}
use Rattle.messaging.specs.declared.table.Messaging.{Messaging}
use Rattle.adapter_table.specs.Messages.{messages_table}
use Rattle.adapter_table.specs.Lemmas.CheckLemmas.{admitted_is, draws_some}
use Rattle.adapter_table.specs.Lemmas.EffectLemmas.{adapter_keeps}
use Rattle.adapter_table.specs.Lemmas.RequestLemmas.{RequestsDo, next_is}
use Rattle.device_laws.specs.Lemmas.Lists.{all_both, all_more, all_filtered, all_mapped}
use Rattle.device_laws.specs.Lemmas.Texts.{either}
use Rattle.device_laws.specs.Productions.{end_at, Production}
use Rattle.device_laws.specs.Lemmas.Books.{HasNotProduced, ProducerBooks, begun}
use Rattle.adapter_table.specs.Lemmas.ControlLemmas.{control_does}

-- ---- connections produce inputs

-- the connection produces an input of the profile
abbrev pub ProducesInput : Profile → Row → Type 0
ProducesInput profile row = is_some (find (is_at row.produced) profile.inputs) ≡ true

abbrev pub RowsProduceInputs : AdapterTable → Type 0
RowsProduceInputs t = AllByRecursion (ProducesInput t.profile) t.rows

abbrev NamesInput : Profile → Result Points Refusal → Type 0
NamesInput profile (Ok points) = is_some (input_of profile points.path.produced) ≡ true
NamesInput profile (Err why) = Unit {0}

named_input : (profile : Profile) (path : PathFields) (group : Option Row) (said : Check) (consumer : Option ConsumedPoint) (input : Option InputPoint) → input_of profile path.produced ≡ input → NamesInput profile (named_points path group said consumer input)
named_input profile path group (Some why) consumer input is = tt
named_input profile path group None None input is = tt
named_input profile path group None (Some consumer) None is = tt
named_input profile path group None (Some consumer) (Some input) is = rw is refl

points_input : (t : AdapterTable) (request : OpenFields) (path : Option PathFields) → NamesInput t.profile (points_of (view_of t request.triad) request path)
points_input t request None = tt
points_input t request (Some path) =
    named_input t.profile path (joined (is_multicast request.t_o_params.kind) (group_of t.rows path.produced)) (path_check t.profile path) (consumed_point_of t.profile path.consumed) (input_of t.profile path.produced) refl

abbrev AdmitsInput : Profile → Result Admitted Refusal → Type 0
AdmitsInput profile (Ok admitted) = is_some (input_of profile admitted.produced) ≡ true
AdmitsInput profile (Err why) = Unit {0}

judged_input : (profile : Profile) (request : OpenFields) (points : Result Points Refusal) (said : Check) → NamesInput profile points → AdmitsInput profile (judged request points said)
judged_input profile request points (Some why) ok = tt
judged_input profile request (Err why) None ok = tt
judged_input profile request (Ok points) None ok = ok

admission_input : (t : AdapterTable) (request : OpenFields) → AdmitsInput t.profile (admission t request)
unfolding verdict
admission_input t request = judged_input t.profile request (points_of (view_of t request.triad) request (result_ok (opening_path t.profile.description request.path))) _ (points_input t request (result_ok (opening_path t.profile.description request.path)))

opened_produces : (t : AdapterTable) (peer : Node) (request : OpenFields) (admitted : Admitted) → admission t request ≡ Ok admitted → RowsProduceInputs t → RowsProduceInputs (opened_table t (opened_row t peer request admitted) admitted)
unfolding opened_table opened_row
opened_produces t peer request admitted e ok =
    let own : is_some (input_of t.profile admitted.produced) ≡ true = subst (AdmitsInput t.profile) e (admission_input t request) in
    all_both (ProducesInput t.profile) _ _ (all_filtered (ProducesInput t.profile) _ t.rows ok) (own, tt)

closed_produces : (t : AdapterTable) (row : Row) → RowsProduceInputs t → RowsProduceInputs (closed_table t row)
unfolding closed_table
closed_produces t row ok = all_filtered (ProducesInput t.profile) (stays (without_triad row.triad t.rows)) (without_triad row.triad t.rows) (all_filtered (ProducesInput t.profile) _ t.rows ok)

-- a change of a connection that leaves its input
abbrev KeepsInput : (Row → Row) → Type 0
KeepsInput f = (row : Row) → (f row).produced ≡ row.produced

mapped_produces : (profile : Profile) (f : Row → Row) → KeepsInput f → (rows : List Row) → AllByRecursion (ProducesInput profile) rows → AllByRecursion (ProducesInput profile) (map f rows)
mapped_produces profile f same rows ok =
    all_mapped (ProducesInput profile) (ProducesInput profile) f (λ row is. subst (λ (n : ℕ). is_some (find (is_at n) profile.inputs) ≡ true) (sym (same row)) is) rows ok

pub same_written : (point : ℕ) → KeepsInput (written_row point)
same_written point row = either (λ (r : Row). r.produced ≡ row.produced) (row.produced == point) _ row refl refl

pub same_changed : (clock : Ms) (point : ℕ) → KeepsInput (changed_row clock point)
same_changed clock point row = either (λ (r : Row). r.produced ≡ row.produced) (row.produced == point) _ row refl refl

same_fed : (clock : Ms) (peer : Node) (d : DatagramFields) → KeepsInput (accepted_if_for clock peer d)
same_fed clock peer d row = either (λ (r : Row). r.produced ≡ row.produced) (is_for peer d.connection row) (accepted_row clock d row) row refl refl

pub same_expired : (clock : Ms) → KeepsInput (expired_row clock)
same_expired clock row = either (λ (r : Row). r.produced ≡ row.produced) (has_expired clock row) (record row { state = TimedOut }) row refl refl

written_produces : (t : AdapterTable) (point : ℕ) (bytes : List ℕ) → RowsProduceInputs t → RowsProduceInputs (changed_table (written_table t point bytes) point)
unfolding written_table changed_table
written_produces t point bytes ok = mapped_produces t.profile (changed_row t.clock point) (same_changed t.clock point) (map (written_row point) t.rows) (mapped_produces t.profile (written_row point) (same_written point) t.rows ok)

fed_produces : (t : AdapterTable) (peer : Node) (d : DatagramFields) (row : Row) → RowsProduceInputs t → RowsProduceInputs (accepted_table t peer d row (row_delivery t.profile t.clock row d))
unfolding accepted_table
fed_produces t peer d row ok = mapped_produces t.profile (accepted_if_for t.clock peer d) (same_fed t.clock peer d) t.rows ok

advanced_produces : (t : AdapterTable) (ms : ℕ) → RowsProduceInputs t → RowsProduceInputs (produced_table (expired_table (clocked_table t ms)))
unfolding clocked_table expired_table produced_table
advanced_produces t ms ok =
    let clock : Ms = record { 0 = t.clock.0 + ms } in
    let left = expired_rows clock t.rows in
    mapped_produces t.profile (produced_row clock) (λ row. refl) (filter (stays left) left) (all_filtered (ProducesInput t.profile) (stays left) left (mapped_produces t.profile (expired_row clock) (same_expired clock) t.rows ok))

with_produces : (t : AdapterTable) (number : ℕ) (peer : Node) → RowsProduceInputs t → RowsProduceInputs (with_stream t number peer)
unfolding with_stream
with_produces t number peer ok = ok

without_produces : (t : AdapterTable) (number : ℕ) → RowsProduceInputs t → RowsProduceInputs (without_stream t number)
unfolding without_stream
without_produces t number ok = ok

registered_produces : (t : AdapterTable) (number : ℕ) → RowsProduceInputs t → RowsProduceInputs (registered_table t number)
unfolding registered_table
registered_produces t number ok = ok

messages_produce : (t : AdapterTable) (next_id : ℕ) (m : Messaging) → RowsProduceInputs t → RowsProduceInputs (messages_table t next_id m)
unfolding messages_table
messages_produce t next_id m ok = ok

effects_produce : EffectsKeep RowsProduceInputs
effects_produce = record {
  opened = opened_produces;
  closed = closed_produces;
  written = λ t point bytes input is long ok. written_produces t point bytes ok;
  fed = λ t peer d row delivery said found ok. subst (λ delivery. RowsProduceInputs (accepted_table t peer d row delivery)) said (fed_produces t peer d row ok);
  advanced = λ t ms in_time ok. advanced_produces t ms ok;
  streamed = λ t number peer free ok. with_produces t number peer ok;
  unstreamed = without_produces;
  registered = registered_produces;
  messaged = λ t next_id m goes ok. messages_produce t next_id m ok;
  counted = λ t openings ok. ok;
  tallied = λ t counters ok. ok;
  taken = λ t block may ok. ok;
}

-- each step keeps that connections produce inputs
pub steps_produce : (t : AdapterTable) (event : Event) (next : Next) → adapter_step t event ≡ Ok next → RowsProduceInputs t → RowsProduceInputs next.1
steps_produce t event next is ok = adapter_keeps RowsProduceInputs effects_produce t event next is ok

-- ---- the books of producers

-- the producer of an established connection has its books, where its input holds these bytes
abbrev pub RowStateBooks : List Production → ℕ → ℕ → List ℕ → State → Type 0
RowStateBooks sent device next kept TimedOut = Unit {0}
RowStateBooks sent device next kept (Established p) = (p.producer < next) × ProducerBooks sent (end_at device p.producer) p kept

-- the same, where this is what each input holds
abbrev pub RowBooks : List Production → ℕ → ℕ → (ℕ → List ℕ) → Row → Type 0
RowBooks sent device next value row = RowStateBooks sent device next (value row.produced) row.state

-- no number from the next one on has produced; the producers have their books
pub record InputBooks (sent : List Production) (device : ℕ) (value : ℕ → List ℕ) (t : AdapterTable) : Type 0 where
  pub unproduced : (n : ℕ) → t.next_id ≤ n → HasNotProduced sent (end_at device n)
  pub rows : AllByRecursion (RowBooks sent device t.next_id value) t.rows

-- what an input holds
abbrev pub input_value : List PointValue → ℕ → List ℕ
input_value values point = unwrap_or (bytes_at values point) []

pub record AdapterBooks (sent : List Production) (device : ℕ) (t : AdapterTable) : Type 0 where
  pub inputs : RowsProduceInputs t
  pub books : InputBooks sent device (input_value t.values) t

-- ---- more ids are drawn

row_on : (sent : List Production) (device next more : ℕ) (kept : List ℕ) (state : State) → next ≤ more → RowStateBooks sent device next kept state → RowStateBooks sent device more kept state
row_on sent device next more kept TimedOut up ok = tt
row_on sent device next more kept (Established p) up ok = (omega (arith, ok.0, up), ok.1)

rows_on : (sent : List Production) (device next more : ℕ) (value : ℕ → List ℕ) (rows : List Row) → next ≤ more → AllByRecursion (RowBooks sent device next value) rows → AllByRecursion (RowBooks sent device more value) rows
rows_on sent device next more value rows up ok = all_more (RowBooks sent device next value) (RowBooks sent device more value) (λ row. row_on sent device next more (value row.produced) row.state up) rows ok

-- ---- what events do but for writes and ticks

-- where the inputs hold what they held
abbrev pub Keeps : List Production → ℕ → (ℕ → List ℕ) → AdapterTable → AdapterTable → Type 0
Keeps sent device value t u = InputBooks sent device value t → InputBooks sent device value u

-- the first connection of a group, whose producer has its books
abbrev GroupBooks : List Production → ℕ → ℕ → List ℕ → Option Row → Type 0
GroupBooks sent device next kept group = IfSome group (λ member. RowStateBooks sent device next kept member.state)

found_step : (b : Bool) (sent : List Production) (device next point : ℕ) (value : ℕ → List ℕ) (row : Row) (rest : Option Row) → is_member point row ≡ b → RowBooks sent device next value row → GroupBooks sent device next (value point) rest → GroupBooks sent device next (value point) (cond b (Some row) rest)
found_step true sent device next point value row rest is own more =
    let parts = and_parts (is_established row) _ is in
    let same : row.produced ≡ point = eqb-true row.produced point (and_parts row.multicast _ parts.1).1 in
    subst (λ (n : ℕ). RowStateBooks sent device next (value n) row.state) same own
found_step false sent device next point value row rest is own more = more

member_books : (sent : List Production) (device next point : ℕ) (value : ℕ → List ℕ) (rows : List Row) → AllByRecursion (RowBooks sent device next value) rows → GroupBooks sent device next (value point) (group_of rows point)
member_books sent device next point value [] ok = tt
member_books sent device next point value (row ∷ rows) ok =
    found_step (is_member point row) sent device next point value row (group_of rows point) refl ok.0 (member_books sent device next point value rows ok.1)

joined_books : (sent : List Production) (device next : ℕ) (kept : List ℕ) (b : Bool) (group : Option Row) → GroupBooks sent device next kept group → GroupBooks sent device next kept (joined b group)
joined_books sent device next kept true group ok = ok
joined_books sent device next kept false group ok = tt

begun_books : (sent : List Production) (device more : ℕ) (kept : List ℕ) (t : AdapterTable) (peer : Node) (admitted : Admitted) (group : Option Row) → t.next_id < more → HasNotProduced sent (end_at device t.next_id) → GroupBooks sent device t.next_id kept group → RowStateBooks sent device more kept (opened_state t peer admitted group)
begun_books sent device more kept t peer admitted None up unproduced ok = (up, begun sent (end_at device t.next_id) (opened_production t peer admitted) kept refl refl unproduced)
begun_books sent device more kept t peer admitted (Some member) up unproduced ok = row_on sent device t.next_id more kept member.state (omega (arith, up)) ok

opened_keeps : (sent : List Production) (device : ℕ) (value : ℕ → List ℕ) (t : AdapterTable) (peer : Node) (request : OpenFields) (admitted : Admitted) → admission t request ≡ Ok admitted → Keeps sent device value t (opened_table t (opened_row t peer request admitted) admitted)
unfolding opened_table opened_row
opened_keeps sent device value t peer request admitted e ok =
    let one = draws_some admitted.multicast admitted.group in
    let more = t.next_id + drawn_ids admitted.multicast admitted.group in
    let up : t.next_id ≤ more = omega arith in
    let group : GroupBooks sent device t.next_id (value admitted.produced) admitted.group =
    subst (GroupBooks sent device t.next_id (value admitted.produced)) (sym (admitted_is t request admitted e).group_is)
    (joined_books sent device t.next_id (value admitted.produced) admitted.multicast (group_of t.rows admitted.produced) (member_books sent device t.next_id admitted.produced value t.rows ok.rows)) in
    record {
      unproduced = λ n le. ok.unproduced n (omega (arith, le));
      rows = all_both (RowBooks sent device more value) _ _ (all_filtered (RowBooks sent device more value) _ t.rows (rows_on sent device t.next_id more value t.rows up ok.rows))
          (begun_books sent device more (value admitted.produced) t peer admitted admitted.group (omega (arith, one)) (ok.unproduced t.next_id (omega arith)) group, tt);
    }

closed_keeps : (sent : List Production) (device : ℕ) (value : ℕ → List ℕ) (t : AdapterTable) (row : Row) → Keeps sent device value t (closed_table t row)
unfolding closed_table
closed_keeps sent device value t row ok =
    record { unproduced = ok.unproduced; rows = all_filtered (RowBooks sent device t.next_id value) (stays (without_triad row.triad t.rows)) (without_triad row.triad t.rows) (all_filtered (RowBooks sent device t.next_id value) _ t.rows ok.rows) }

with_keeps : (sent : List Production) (device : ℕ) (value : ℕ → List ℕ) (t : AdapterTable) (number : ℕ) (peer : Node) → Keeps sent device value t (with_stream t number peer)
unfolding with_stream
with_keeps sent device value t number peer ok = record { unproduced = ok.unproduced; rows = ok.rows }

without_keeps : (sent : List Production) (device : ℕ) (value : ℕ → List ℕ) (t : AdapterTable) (number : ℕ) → Keeps sent device value t (without_stream t number)
unfolding without_stream
without_keeps sent device value t number ok = record { unproduced = ok.unproduced; rows = ok.rows }

registered_keeps : (sent : List Production) (device : ℕ) (value : ℕ → List ℕ) (t : AdapterTable) (number : ℕ) → Keeps sent device value t (registered_table t number)
unfolding registered_table
registered_keeps sent device value t number ok = record { unproduced = ok.unproduced; rows = ok.rows }

-- more ids may be drawn
pub messages_keep : (sent : List Production) (device : ℕ) (value : ℕ → List ℕ) (t : AdapterTable) (next_id : ℕ) (m : Messaging) → t.next_id ≤ next_id → Keeps sent device value t (messages_table t next_id m)
unfolding messages_table
messages_keep sent device value t next_id m later ok =
    record { unproduced = λ n le. ok.unproduced n (omega (arith, later, le)); rows = rows_on sent device t.next_id next_id value t.rows later ok.rows }

requests_keep : (sent : List Production) (device : ℕ) (value : ℕ → List ℕ) → RequestsDo (Keeps sent device value)
requests_keep sent device value = record {
  stays = λ t ok. ok;
  opened = opened_keeps sent device value;
  closed = λ t triad row found. closed_keeps sent device value t row;
  unstreamed = without_keeps sent device value;
  registered = registered_keeps sent device value;
  messaged = λ t next_id m goes. messages_keep sent device value t next_id m goes.later;
  counted = λ t next openings keeps ok. let kept = keeps ok in record { unproduced = kept.unproduced; rows = kept.rows };
  tallied = λ t next counters keeps ok. let kept = keeps ok in record { unproduced = kept.unproduced; rows = kept.rows };
  taken = λ t block may ok. record { unproduced = ok.unproduced; rows = ok.rows };
}

accepted_books : (sent : List Production) (device next : ℕ) (value : ℕ → List ℕ) (clock : Ms) (peer : Node) (d : DatagramFields) (row : Row) → RowBooks sent device next value row → RowBooks sent device next value (accepted_if_for clock peer d row)
accepted_books sent device next value clock peer d row ok = either (RowBooks sent device next value) (is_for peer d.connection row) (accepted_row clock d row) row ok ok

fed_keeps : (sent : List Production) (device : ℕ) (value : ℕ → List ℕ) (t : AdapterTable) (peer : Node) (d : DatagramFields) (row : Row) → Keeps sent device value t (accepted_table t peer d row (row_delivery t.profile t.clock row d))
unfolding accepted_table
fed_keeps sent device value t peer d row ok =
    record { unproduced = ok.unproduced; rows = all_mapped (RowBooks sent device t.next_id value) (RowBooks sent device t.next_id value) (accepted_if_for t.clock peer d) (accepted_books sent device t.next_id value t.clock peer d) t.rows ok.rows }

found_keeps : (sent : List Production) (device : ℕ) (value : ℕ → List ℕ) (t : AdapterTable) (peer : Node) (d : DatagramFields) (found : Option Row) → Keeps sent device value t (found_datagram t peer d found).1
found_keeps sent device value t peer d None = λ ok. ok
found_keeps sent device value t peer d (Some row) =
    either (λ (next : Next). Keeps sent device value t next.1) (is_accepted (row_delivery t.profile t.clock row d)) _ _ (fed_keeps sent device value t peer d row) (λ ok. ok)

datagram_keeps : (sent : List Production) (device : ℕ) (value : ℕ → List ℕ) (t : AdapterTable) (peer : Node) (reading : Result DatagramFields DatagramFault) → Keeps sent device value t (datagram_of t peer reading).1
datagram_keeps sent device value t peer (Err fault) = λ ok. ok
datagram_keeps sent device value t peer (Ok d) = found_keeps sent device value t peer d (find (is_for peer d.connection) t.rows)

-- an event at which an adapter produces nothing
abbrev pub IsQuiet : Event → Type 0
IsQuiet (Write point bytes) = ⊥
IsQuiet (Tick ms) = ⊥
IsQuiet other = Unit {0}

pub quiet_keeps : (sent : List Production) (device : ℕ) (value : ℕ → List ℕ) (t : AdapterTable) (event : Event) (next : Next) → IsQuiet event → adapter_step t event ≡ Ok next → Keeps sent device value t next.1
unfolding received
quiet_keeps sent device value t (Datagram peer bytes) next quiet is = subst (λ (n : Next). Keeps sent device value t n.1) (next_is _ _ is) (datagram_keeps sent device value t peer (datagram_reading bytes))
quiet_keeps sent device value t (Write point bytes) next quiet is = absurd quiet
quiet_keeps sent device value t (Tick ms) next quiet is = absurd quiet
quiet_keeps sent device value t other next quiet is = control_does (Keeps sent device value) (requests_keep sent device value) (λ t number peer free. with_keeps sent device value t number peer) t other next refl is

-- ---- inputs that hold other bytes

state_as : (sent : List Production) (device next : ℕ) (kept more : List ℕ) (state : State) → kept ≡ more → RowStateBooks sent device next kept state → RowStateBooks sent device next more state
state_as sent device next kept more state same ok = subst (λ (bytes : List ℕ). RowStateBooks sent device next bytes state) same ok

rows_as : (sent : List Production) (device next : ℕ) (profile : Profile) (value other : ℕ → List ℕ) → ((point : ℕ) → is_some (find (is_at point) profile.inputs) ≡ true → value point ≡ other point) → (rows : List Row) → AllByRecursion (ProducesInput profile) rows → AllByRecursion (RowBooks sent device next value) rows → AllByRecursion (RowBooks sent device next other) rows
rows_as sent device next profile value other same [] inputs ok = tt
rows_as sent device next profile value other same (row ∷ rows) inputs ok =
    (state_as sent device next (value row.produced) (other row.produced) row.state (same row.produced inputs.0) ok.0, rows_as sent device next profile value other same rows inputs.1 ok.1)

-- the books are those of other values that are the same at each input
pub books_as : (sent : List Production) (device : ℕ) (value other : ℕ → List ℕ) (t : AdapterTable) → ((point : ℕ) → is_some (find (is_at point) t.profile.inputs) ≡ true → value point ≡ other point) → RowsProduceInputs t → InputBooks sent device value t → InputBooks sent device other t
books_as sent device value other t same inputs ok = record { unproduced = ok.unproduced; rows = rows_as sent device t.next_id t.profile value other same t.rows inputs ok.rows }
