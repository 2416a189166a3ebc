-- An event after which no owner in run mode drives an output had an action done at the output, or none drove it before and the
-- event left nothing there.
use Rattle.std.proofs.Common.{◌≡◌, ◌⊎◌, inl, inr, ◌≤◌, ℕ, ◌+◌, ◌==◌, Bool, true, false, cond, not, ◌&&◌, List, [], ◌∷◌, length, map, filter, find, Option, Some, None, Result, Ok, Err, refl, sym, ◌∙◌, ap, subst, eq-eqb}
use Rattle.std.specs.List.{list_any}
use Rattle.std.proofs.lemmas.Bool.{and_parts, or_left}
use Rattle.std.proofs.lemmas.List.Folds.{list_any-append}
use Rattle.base_lemmas.specs.Lists.{found_passes}
use Rattle.cip_types.specs.declared.names.Ms.{Ms}
use Rattle.cip_types.specs.declared.names.Node.{Node}
use Rattle.cip_datagram.specs.declared.datagram.DatagramFault.{DatagramFault}
use Rattle.cip_datagram.specs.Datagram.{DatagramFields}
use Rattle.cip_datagram.specs.Header.{header_at}
use Rattle.cip_datagram.specs.Reading.{datagram_reading}
use Rattle.cip_events.specs.declared.event.Delivery.{Delivery}
use Rattle.cip_events.specs.declared.event.Delivery.TheVariants.{Applied, Idle, Heartbeat, Duplicate, Old, UnknownId, WrongSize, Malformed}
use Rattle.cip_events.specs.declared.event.Event.{Event}
use Rattle.cip_events.specs.declared.event.Event.TheVariants.{Datagram, Write, Tick}
use Rattle.cip_events.specs.Answers.{is_accepted}
use Rattle.cip_fwdopen.specs.Open.{OpenFields}
use Rattle.cip_productions.specs.Acceptance.{is_duplicate}
use Rattle.cip_productions.specs.Kinds.{is_owner}
use Rattle.messaging.specs.declared.table.Messaging.{Messaging}
use Rattle.adapter_table.specs.declared.profile.Profile.{Profile}
use Rattle.adapter_table.specs.declared.row.State.{State}
use Rattle.adapter_table.specs.declared.row.State.TheVariants.{TimedOut}
use Rattle.adapter_table.specs.declared.table.AdapterTable.{AdapterTable}
use Rattle.adapter_table.specs.Checks.{Admitted, admission}
use Rattle.adapter_table.specs.Closing.{without_triad, stays, closed_table}
use Rattle.adapter_table.specs.Connections.{Row}
use Rattle.adapter_table.specs.Datagrams.{is_for, expected_len, run_bit, accepted_delivery, row_delivery, mode_after, accepted_row, accepted_if_for, accepted_table, delivered, judged_datagram, found_datagram, datagram_of, received}
use Rattle.adapter_table.specs.Messages.{messages_table}
use Rattle.adapter_table.specs.Opening.{opened_row, opened_table, is_replaced}
use Rattle.adapter_table.specs.Productions.{produced_state, produced_row, changed_state, changed_row}
use Rattle.adapter_table.specs.Profiles.{is_output_at}
use Rattle.adapter_table.specs.Requests.{Next}
use Rattle.adapter_table.specs.Rows.{lives, is_established, has_triad, drives, drivers, written_state, written_row}
use Rattle.adapter_table.specs.Scratch.{or_else, left_idle, left_lost, left_accepted, accepted_by, read_accepted, is_lost, lost, left_at}
use Rattle.adapter_table.specs.Sound.{IsSound}
use Rattle.adapter_table.specs.StatedLimits.{accepts_at}
use Rattle.adapter_table.specs.Step.{adapter_step, written_table, changed_table}
use Rattle.adapter_table.specs.Streams.{with_stream, without_stream, registered_table}
use Rattle.adapter_table.specs.Ticks.{has_expired, expired_row, expired_rows, clocked_table, expired_table, produced_table, advanced}
use Rattle.adapter_table.specs.Lemmas.CheckLemmas.{admitted_is}
use Rattle.adapter_table.specs.Lemmas.ControlLemmas.{control_does}
use Rattle.adapter_table.specs.Lemmas.DriverLemmas.{same_owner}
use Rattle.adapter_table.specs.Lemmas.EffectLemmas.{IsWrite, write_is, IsTick, tick_is}
use Rattle.adapter_table.specs.Lemmas.LikeLemmas.{lives_written, lives_due, lives_changed, any_driver_kept, fed_keeps}
use Rattle.adapter_table.specs.Lemmas.RequestLemmas.{RequestsDo, next_is}
use Rattle.adapter_table.specs.Lemmas.SoundLemmas.{any_filter}
use Rattle.adapter_table.specs.Lemmas.SupportLemmas.{removed_replaced, any_kept}
use Rattle.device_laws.specs.OwnerData.{delivered_at}
use Rattle.freshness_laws.specs.Outputs.{is_run, runs}
use Rattle.adapter_table.specs.Lemmas.MessageLemmas.{found_any}
use Rattle.messaging.specs.Times.{aged}
use Rattle.freshness_laws.proofs.Lists.{none_mapped, any_mapped, any_found, any_weak, same_found}
use Rattle.freshness_laws.proofs.WatchSteps.{for_alone}

-- ---- drivers in run mode, and others

abbrev pub has_runner : ℕ → AdapterTable → Bool
has_runner point t = list_any (runs point) t.rows

-- the connection drives the output, and not in run mode
abbrev parks : ℕ → Row → Bool
parks point row = drives point row && not (is_run row.mode)

runs_drives : (point : ℕ) (row : Row) → runs point row ≡ true → drives point row ≡ true
runs_drives point row is = (and_parts (drives point row) _ is).0

runs_lives : (point : ℕ) (row : Row) → runs point row ≡ true → is_established row ≡ true
runs_lives point row is = (and_parts (is_established row) _ (runs_drives point row is)).0

not_both : (b : Bool) → b ≡ true → not b ≡ true → ⊥
not_both true is other = absurd (let e = other in cc)
not_both false is other = absurd (let e = is in cc)

-- beside the only driver, which is in run mode, there is none
none_parks : (point : ℕ) (rows : List Row) → length (drivers point rows) ≤ 1 → list_any (runs point) rows ≡ true → list_any (parks point) rows ≡ false
none_parks point rows one is = by_any (list_any (parks point) rows) refl where
  by_any : (b : Bool) → list_any (parks point) rows ≡ b → b ≡ false
  by_any false any = refl
  by_any true any =
      let runner = any_found (runs point) rows is in
      let parker = any_found (parks point) rows any in
      let driver = any_found (drives point) rows (any_weak (runs point) (drives point) (runs_drives point) rows is) in
      let runner_is = found_passes (runs point) rows runner.0 runner.1 in
      let parker_is = found_passes (parks point) rows parker.0 parker.1 in
      let first : runner.0 ≡ driver.0 = same_found (runs point) (drives point) rows runner.0 driver.0 one runner.1 (runs_drives point runner.0 runner_is) driver.1 in
      let second : parker.0 ≡ driver.0 = same_found (parks point) (drives point) rows parker.0 driver.0 one parker.1 (and_parts (drives point parker.0) _ parker_is).0 driver.1 in
      let same : parker.0 ≡ runner.0 = second ∙ sym first in
      absurd (not_both (is_run runner.0.mode) (and_parts (drives point runner.0) _ runner_is).1
      (subst (λ (r : Row). not (is_run r.mode) ≡ true) same (and_parts (drives point parker.0) _ parker_is).1))

still_drives : (a b : Bool) → a ≡ true → (a && not b) ≡ false → b ≡ true
still_drives true true is lost = refl
still_drives true false is lost = absurd (let e = lost in cc)
still_drives false b is lost = absurd (let e = is in cc)

runs_or_parks : (a b : Bool) → a ≡ true → (a && not b) ≡ false → (a && b) ≡ true
runs_or_parks true true is none = refl
runs_or_parks true false is none = absurd (let e = none in cc)
runs_or_parks false b is none = absurd (let e = is in cc)

none_step : (b : Bool) → (b ≡ true → ⊥) → b ≡ false
none_step true never = absurd (never refl)
none_step false never = refl

-- where none that drives leaves run mode, and the output is not lost, one still drives it in run mode
abbrev Keeps : ℕ → AdapterTable → AdapterTable → Type 0
Keeps point t next = IsSound t → has_runner point t ≡ true → is_lost point t.rows next.rows ≡ false → has_runner point next ≡ true

keeps_by : (point : ℕ) (t next : AdapterTable) → (list_any (parks point) t.rows ≡ false → list_any (parks point) next.rows ≡ false) → Keeps point t next
keeps_by point t next calm sound is lost_none =
    let none = calm (none_parks point t.rows (sound.one_owner point) is) in
    let drives_then = still_drives (list_any (drives point) t.rows) (list_any (drives point) next.rows) (any_weak (runs point) (drives point) (runs_drives point) t.rows is) lost_none in
    let driver = any_found (drives point) next.rows drives_then in
    let driver_is = found_passes (drives point) next.rows driver.0 driver.1 in
    let parks_not : parks point driver.0 ≡ false = none_step (parks point driver.0) (λ parked. absurd (let e = sym none ∙ found_any (drives point) (parks point) next.rows driver.0 driver.1 parked in cc)) in
    found_any (drives point) (runs point) next.rows driver.0 driver.1 (runs_or_parks (drives point driver.0) (is_run driver.0.mode) driver_is parks_not)

-- ---- all but datagrams and openings

parks_same : (point : ℕ) (row : Row) (state : State) → lives state ≡ lives row.state → parks point row ≡ false → parks point (record row { state = state }) ≡ false
parks_same point row state same none =
    ap (λ (b : Bool). (b && (is_owner row.kind && row.consumed == point)) && not (is_run row.mode)) same ∙ none

parks_if : (b : Bool) (point : ℕ) (row : Row) (state : State) → lives state ≡ lives row.state → parks point row ≡ false → parks point (cond b (record row { state = state }) row) ≡ false
parks_if true point row state same none = parks_same point row state same none
parks_if false point row state same none = none

parks_expired : (b : Bool) (point : ℕ) (row : Row) → parks point row ≡ false → parks point (cond b (record row { state = TimedOut }) row) ≡ false
parks_expired true point row none = refl
parks_expired false point row none = none

keeps_closed : (point : ℕ) (t : AdapterTable) (row : Row) → Keeps point t (closed_table t row)
unfolding closed_table
keeps_closed point t row =
    let s = parks point in
    let left = without_triad row.triad t.rows in
    keeps_by point t (closed_table t row) (λ none. any_filter (stays left) s left (any_filter (λ (r : Row). not (has_triad row.triad r)) s t.rows none))

keeps_written : (point : ℕ) (t : AdapterTable) (other : ℕ) (bytes : List ℕ) → Keeps point t (changed_table (written_table t other bytes) other)
unfolding written_table changed_table
keeps_written point t other bytes =
    let s = parks point in
    keeps_by point t (changed_table (written_table t other bytes) other) (λ none.
    none_mapped s (changed_row t.clock other) (λ row. parks_if (row.produced == other) point row (changed_state t.clock row.t_o_api_ms row.state) (lives_changed t.clock row.t_o_api_ms row.state)) (map (written_row other) t.rows)
    (none_mapped s (written_row other) (λ row. parks_if (row.produced == other) point row (written_state row.state) (lives_written row.state)) t.rows none))

parks_advanced : (point : ℕ) (t : AdapterTable) (ms : ℕ) → list_any (parks point) t.rows ≡ false → list_any (parks point) (produced_table (expired_table (clocked_table t ms))).rows ≡ false
unfolding clocked_table expired_table produced_table
parks_advanced point t ms none =
    let s = parks point in
    let clock : Ms = record { 0 = t.clock.0 + ms } in
    let left = expired_rows clock t.rows in
    none_mapped s (produced_row clock) (λ row. parks_same point row (produced_state clock row.t_o_api_ms row.state) (lives_due clock row.t_o_api_ms row.state)) (filter (stays left) left)
    (any_filter (stays left) s left
    (none_mapped s (expired_row clock) (λ row. parks_expired (has_expired clock row) point row) t.rows none))

keeps_with : (point : ℕ) (t : AdapterTable) (number : ℕ) (peer : Node) → Keeps point t (with_stream t number peer)
unfolding with_stream
keeps_with point t number peer sound is lost_none = is

keeps_without : (point : ℕ) (t : AdapterTable) (number : ℕ) → Keeps point t (without_stream t number)
unfolding without_stream
keeps_without point t number sound is lost_none = is

keeps_registered : (point : ℕ) (t : AdapterTable) (number : ℕ) → Keeps point t (registered_table t number)
unfolding registered_table
keeps_registered point t number sound is lost_none = is

keeps_messaged : (point : ℕ) (t : AdapterTable) (next_id : ℕ) (m : Messaging) → Keeps point t (messages_table t next_id m)
unfolding messages_table
keeps_messaged point t next_id m sound is lost_none = is

keeps_opened : (point : ℕ) (t : AdapterTable) (peer : Node) (request : OpenFields) (admitted : Admitted) → admission t request ≡ Ok admitted → Keeps point t (opened_table t (opened_row t peer request admitted) admitted)
unfolding opened_table opened_row
keeps_opened point t peer request admitted admits sound is lost_none =
    let row = opened_row t peer request admitted in
    let s = runs point in
    let left = filter (λ (r : Row). not (is_replaced t.rows request.triad r)) t.rows in
    let free = (admitted_is t request admitted admits).triad_is_free in
    let kept : list_any s left ≡ list_any s t.rows = any_kept (is_replaced t.rows request.triad) s t.rows (runs_lives point) (removed_replaced _ _ request.triad t.rows free sound.producers.openings_rise) in
    list_any-append s left (row ∷ []) ∙ or_left _ _ (kept ∙ is)

requests_keep : (point : ℕ) → RequestsDo (Keeps point)
requests_keep point = record {
  stays = λ t sound is lost_none. is;
  opened = λ t peer request admitted is. keeps_opened point t peer request admitted is;
  closed = λ t triad row found. keeps_closed point t row;
  unstreamed = keeps_without point;
  registered = keeps_registered point;
  messaged = λ t next_id m goes. keeps_messaged point t next_id m;
  counted = λ t next openings keeps. keeps;
  tallied = λ t next counters keeps. keeps;
  taken = λ t block may sound is lost_none. is;
}

-- ---- what an event does

-- a datagram turned the owner of the output idle
pub record Idled (point : ℕ) (t : AdapterTable) (event : Event) (left : Option (List ℕ)) : Type 0 where
  pub owner : Row
  pub owns : find (drives point) t.rows ≡ Some owner
  pub d : DatagramFields
  pub is : delivered_at owner.opening t event ≡ Some (d, Idle)
  pub leaves : left ≡ left_idle (find (is_output_at point) t.profile.outputs)

-- the output lost its owner
pub record Loses (point : ℕ) (t next : AdapterTable) (left : Option (List ℕ)) : Type 0 where
  pub is : is_lost point t.rows next.rows ≡ true
  pub leaves : left ≡ left_lost (find (is_output_at point) t.profile.outputs)

-- none drove it in run mode before, and the event left nothing there
pub record Rests (point : ℕ) (t : AdapterTable) (left : Option (List ℕ)) : Type 0 where
  pub none : has_runner point t ≡ false
  pub untouched : left ≡ None

abbrev pub Goes : ℕ → AdapterTable → Event → AdapterTable → Option (List ℕ) → Type 0
Goes point t event next left = Rests point t left ⊎ (Idled point t event left ⊎ Loses point t next left)

-- an event that brings no data
loses_or_rests : (b : Bool) (point : ℕ) (t : AdapterTable) (event : Event) (next : AdapterTable) → is_lost point t.rows next.rows ≡ b → IsSound t → Keeps point t next → has_runner point next ≡ false → Goes point t event next (cond b (left_lost (find (is_output_at point) t.profile.outputs)) None)
loses_or_rests true point t event next is sound keeps none = inr (inr (record { is = is; leaves = refl }))
loses_or_rests false point t event next is sound keeps none = inl (record {
  none = none_step (has_runner point t) (λ runs_before. absurd (let e = sym none ∙ keeps sound runs_before is in cc));
  untouched = refl;
})

control_goes : (point : ℕ) (t : AdapterTable) (event : Event) (next : AdapterTable) → IsSound t → Keeps point t next → has_runner point next ≡ false → Goes point t event next (lost point t next)
control_goes point t event next sound keeps none = loses_or_rests (is_lost point t.rows next.rows) point t event next refl sound keeps none

-- ---- a datagram

-- the delivery of an accepted datagram, by its connection
delivers : (profile : Profile) (clock : Ms) (row : Row) (d : DatagramFields) (what : Delivery) → row_delivery profile clock row d ≡ what → is_accepted what ≡ true → accepted_delivery row d ≡ what
delivers profile clock row d what is accepted =
    same (length d.payload == expected_len profile row) (accepts_at profile.limits.newer clock row d.sequence) (accepted_delivery row d) (ap is_accepted is ∙ accepted) ∙ is where
      same : (sized newer : Bool) (what : Delivery) → is_accepted (cond sized (cond newer what Old) WrongSize) ≡ true → what ≡ cond sized (cond newer what Old) WrongSize
      same true true what is = refl
      same true false what is = absurd (let e = is in cc)
      same false newer what is = absurd (let e = is in cc)

abbrev is_new : Delivery → Bool
is_new Applied = true
is_new Idle = true
is_new other = false

-- new data come to an owner alone
new_owns : (row : Row) (d : DatagramFields) (what : Delivery) → accepted_delivery row d ≡ what → is_new what ≡ true → is_owner row.kind ≡ true
new_owns row d what is new = by_owner (is_owner row.kind) (is_duplicate row.last d.count) (run_bit (header_at d.payload)) (ap is_new is ∙ new) where
  by_owner : (owner duplicate run : Bool) → is_new (cond owner (cond duplicate Duplicate (cond run Applied Idle)) Heartbeat) ≡ true → owner ≡ true
  by_owner true duplicate run new = refl
  by_owner false duplicate run new = absurd (let e = new in cc)

-- the datagram of a connection that is found
record Finds (t : AdapterTable) (peer : Node) (d : DatagramFields) (row : Row) (what : Delivery) : Type 0 where
  found : find (is_for peer d.connection) t.rows ≡ Some row
  sound : IsSound t
  delivery : accepted_delivery row d ≡ what
  row_is : row_delivery t.profile t.clock row d ≡ what

for_row : (t : AdapterTable) (peer : Node) (d : DatagramFields) (row : Row) (what : Delivery) → Finds t peer d row what → is_for peer d.connection row ≡ true
for_row t peer d row what finds = found_passes (is_for peer d.connection) t.rows row finds.found

-- the connection drives the output, if an owner's data came for it
drives_here : (point : ℕ) (t : AdapterTable) (peer : Node) (d : DatagramFields) (row : Row) (what : Delivery) → Finds t peer d row what → is_owner row.kind ≡ true → (row.consumed == point) ≡ true → drives point row ≡ true
drives_here point t peer d row what finds owner here =
    let lives : is_established row ≡ true = (and_parts (is_established row) _ (for_row t peer d row what finds)).0 in
    rw (lives, owner, here) refl

runs_if_for : (b : Bool) (point : ℕ) (clock : Ms) (d : DatagramFields) (row : Row) → (b ≡ true → runs point (accepted_row clock d row) ≡ true) → runs point row ≡ true → runs point (cond b (accepted_row clock d row) row) ≡ true
runs_if_for true point clock d row accepted is = accepted refl
runs_if_for false point clock d row accepted is = is

-- a connection in run mode stays so, if the datagram leaves its own connection in run mode
keeps_fed : (point : ℕ) (t : AdapterTable) (peer : Node) (d : DatagramFields) (row : Row) (what : Delivery) → Finds t peer d row what → (runs point row ≡ true → runs point (accepted_row t.clock d row) ≡ true) → has_runner point t ≡ true → list_any (runs point) (map (accepted_if_for t.clock peer d) t.rows) ≡ true
keeps_fed point t peer d row what finds own is =
    let runner = any_found (runs point) t.rows is in
    let runner_is = found_passes (runs point) t.rows runner.0 runner.1 in
    let same = λ (for_it : is_for peer d.connection runner.0 ≡ true). for_alone t finds.sound peer d.connection (runs point) row runner.0 finds.found runner.1 for_it in
    let then : runs point (accepted_if_for t.clock peer d runner.0) ≡ true = runs_if_for (is_for peer d.connection runner.0) point t.clock d runner.0
    (λ for_it. subst (λ (r : Row). runs point (accepted_row t.clock d r) ≡ true) (sym (same for_it)) (own (subst (λ (r : Row). runs point r ≡ true) (same for_it) runner_is))) runner_is in
    any_mapped (runs point) (accepted_if_for t.clock peer d) t.rows ∙ found_any (runs point) (λ r. runs point (accepted_if_for t.clock peer d r)) t.rows runner.0 runner.1 then

-- the mode after it
moded_runs : (point : ℕ) (clock : Ms) (d : DatagramFields) (row : Row) (what : Delivery) → accepted_delivery row d ≡ what → drives point row ≡ true → is_run (mode_after what row.mode) ≡ true → runs point (accepted_row clock d row) ≡ true
moded_runs point clock d row what is driver moded =
    let run : is_run (mode_after (accepted_delivery row d) row.mode) ≡ true = subst (λ (x : Delivery). is_run (mode_after x row.mode) ≡ true) (sym is) moded in
    both (drives point row) (is_run (mode_after (accepted_delivery row d) row.mode)) driver run where
      both : (a b : Bool) → a ≡ true → b ≡ true → (a && b) ≡ true
      both a b first second = rw (first, second) refl

fed_for : (b : Bool) (point : ℕ) (clock : Ms) (d : DatagramFields) (row : Row) → b ≡ true → runs point (accepted_row clock d row) ≡ true → runs point (cond b (accepted_row clock d row) row) ≡ true
fed_for true point clock d row is passes = passes
fed_for false point clock d row is passes = absurd (let e = is in cc)

-- run-mode data leave a driver in run mode
applied_runs : (point : ℕ) (t : AdapterTable) (peer : Node) (d : DatagramFields) (row : Row) → Finds t peer d row Applied → drives point row ≡ true → list_any (runs point) (map (accepted_if_for t.clock peer d) t.rows) ≡ true
applied_runs point t peer d row finds driver =
    any_mapped (runs point) (accepted_if_for t.clock peer d) t.rows
    ∙ found_any (is_for peer d.connection) (λ r. runs point (accepted_if_for t.clock peer d r)) t.rows row finds.found
    (fed_for (is_for peer d.connection row) point t.clock d row (for_row t peer d row Applied finds) (moded_runs point t.clock d row Applied finds.delivery driver refl))

abbrev DatagramGoes : ℕ → AdapterTable → Node → List ℕ → AdapterTable → Option (List ℕ) → Type 0
DatagramGoes point t peer bytes next left = Goes point t (Datagram peer bytes) next left

still_none : (b : Bool) → ◌≡◌ {A = Option (List ℕ)} (cond b None None) None
still_none true = refl
still_none false = refl

rests_fed : (point : ℕ) (t : AdapterTable) (left : Option (List ℕ)) (then : Bool) → then ≡ false → (has_runner point t ≡ true → then ≡ true) → left ≡ None → Rests point t left
rests_fed point t left then none keeps untouched = record {
  none = none_step (has_runner point t) (λ is. absurd (let e = sym none ∙ keeps is in cc));
  untouched = untouched;
}

applied_goes : (here : Bool) (point : ℕ) (t : AdapterTable) (peer : Node) (bytes : List ℕ) (d : DatagramFields) (row : Row) (next : AdapterTable) → (row.consumed == point) ≡ here → Finds t peer d row Applied → list_any (runs point) (map (accepted_if_for t.clock peer d) t.rows) ≡ false → DatagramGoes point t peer bytes next (cond here (left_accepted (find (is_output_at point) t.profile.outputs) d Applied) None)
applied_goes true point t peer bytes d row next here finds none =
    let owner = new_owns row d Applied finds.delivery refl in
    absurd (let e = sym none ∙ applied_runs point t peer d row finds (drives_here point t peer d row Applied finds owner here) in cc)
applied_goes false point t peer bytes d row next here finds none =
    inl (rests_fed point t None _ none (keeps_fed point t peer d row Applied finds (λ is. moded_runs point t.clock d row Applied finds.delivery (runs_drives point row is) refl)) refl)

found_delivered : (opening : ℕ) (t : AdapterTable) (peer : Node) (bytes : List ℕ) (d : DatagramFields) (row : Row) (what : Delivery) → datagram_reading bytes ≡ Ok d → Finds t peer d row what → row.opening ≡ opening → delivered_at opening t (Datagram peer bytes) ≡ Some (d, what)
found_delivered opening t peer bytes d row what reads finds own =
    rw (reads, finds.found, eq-eqb row.opening opening own, finds.row_is) refl

consumes : (point : ℕ) (row : Row) → drives point row ≡ true → (row.consumed == point) ≡ true
consumes point row is = (and_parts (is_owner row.kind) _ (and_parts (is_established row) _ is).1).1

idle_goes : (here : Bool) (point : ℕ) (t : AdapterTable) (peer : Node) (bytes : List ℕ) (d : DatagramFields) (row : Row) (next : AdapterTable) → datagram_reading bytes ≡ Ok d → (row.consumed == point) ≡ here → Finds t peer d row Idle → list_any (runs point) (map (accepted_if_for t.clock peer d) t.rows) ≡ false → DatagramGoes point t peer bytes next (cond here (left_accepted (find (is_output_at point) t.profile.outputs) d Idle) None)
idle_goes true point t peer bytes d row next reads here finds none =
    let owner = new_owns row d Idle finds.delivery refl in
    let driver = drives_here point t peer d row Idle finds owner here in
    let found = any_found (drives point) t.rows (found_any (is_for peer d.connection) (drives point) t.rows row finds.found driver) in
    let same : row ≡ found.0 = same_found (is_for peer d.connection) (drives point) t.rows row found.0 (finds.sound.one_owner point) finds.found driver found.1 in
    inr (inl (record {
      owner = row;
      owns = subst (λ (r : Row). find (drives point) t.rows ≡ Some r) (sym same) found.1;
      d = d;
      is = found_delivered row.opening t peer bytes d row Idle reads finds refl;
      leaves = refl;
    }))
idle_goes false point t peer bytes d row next reads here finds none =
    inl (rests_fed point t None _ none (keeps_fed point t peer d row Idle finds (λ is. absurd (let e = sym (consumes point row (runs_drives point row is)) ∙ here in cc))) refl)

-- an accepted datagram without new data
same_goes : (point : ℕ) (t : AdapterTable) (peer : Node) (bytes : List ℕ) (d : DatagramFields) (row : Row) (what : Delivery) (next : AdapterTable) → Finds t peer d row what → mode_after what row.mode ≡ row.mode → list_any (runs point) (map (accepted_if_for t.clock peer d) t.rows) ≡ false → DatagramGoes point t peer bytes next (cond (row.consumed == point) None None)
same_goes point t peer bytes d row what next finds moded none =
    inl (rests_fed point t _ _ none (keeps_fed point t peer d row what finds (λ is. moded_runs point t.clock d row what finds.delivery (runs_drives point row is) (ap is_run moded ∙ (and_parts (drives point row) _ is).1))) (still_none (row.consumed == point)))

-- one that is not accepted
unfed_goes : (point : ℕ) (t : AdapterTable) (peer : Node) (bytes : List ℕ) (next : AdapterTable) (here : Bool) → has_runner point t ≡ false → DatagramGoes point t peer bytes next (cond here None None)
unfed_goes point t peer bytes next here none = inl (record { none = none; untouched = still_none here })

record Row_is (t : AdapterTable) (peer : Node) (bytes : List ℕ) (d : DatagramFields) (row : Row) : Type 0 where
  reads : datagram_reading bytes ≡ Ok d
  found : find (is_for peer d.connection) t.rows ≡ Some row
  sound : IsSound t

finds_by : (t : AdapterTable) (peer : Node) (bytes : List ℕ) (d : DatagramFields) (row : Row) (what : Delivery) → Row_is t peer bytes d row → row_delivery t.profile t.clock row d ≡ what → is_accepted what ≡ true → Finds t peer d row what
finds_by t peer bytes d row what row_is is accepted = record { found = row_is.found; sound = row_is.sound; delivery = delivers t.profile t.clock row d what is accepted; row_is = is }

judged_goes : (point : ℕ) (t : AdapterTable) (peer : Node) (bytes : List ℕ) (d : DatagramFields) (row : Row) (what : Delivery) (next : AdapterTable) → Row_is t peer bytes d row → row_delivery t.profile t.clock row d ≡ what → has_runner point (judged_datagram t peer d row what).1 ≡ false → DatagramGoes point t peer bytes next (cond (row.consumed == point) (left_accepted (find (is_output_at point) t.profile.outputs) d what) None)
unfolding accepted_table
judged_goes point t peer bytes d row Applied next row_is is none = applied_goes (row.consumed == point) point t peer bytes d row next refl (finds_by t peer bytes d row Applied row_is is refl) none
judged_goes point t peer bytes d row Idle next row_is is none = idle_goes (row.consumed == point) point t peer bytes d row next row_is.reads refl (finds_by t peer bytes d row Idle row_is is refl) none
judged_goes point t peer bytes d row Heartbeat next row_is is none = same_goes point t peer bytes d row Heartbeat next (finds_by t peer bytes d row Heartbeat row_is is refl) refl none
judged_goes point t peer bytes d row Duplicate next row_is is none = same_goes point t peer bytes d row Duplicate next (finds_by t peer bytes d row Duplicate row_is is refl) refl none
judged_goes point t peer bytes d row Old next row_is is none = unfed_goes point t peer bytes next (row.consumed == point) none
judged_goes point t peer bytes d row UnknownId next row_is is none = unfed_goes point t peer bytes next (row.consumed == point) none
judged_goes point t peer bytes d row WrongSize next row_is is none = unfed_goes point t peer bytes next (row.consumed == point) none
judged_goes point t peer bytes d row Malformed next row_is is none = unfed_goes point t peer bytes next (row.consumed == point) none

found_goes : (point : ℕ) (t : AdapterTable) (peer : Node) (bytes : List ℕ) (d : DatagramFields) (found : Option Row) (next : AdapterTable) → datagram_reading bytes ≡ Ok d → find (is_for peer d.connection) t.rows ≡ found → IsSound t → has_runner point (found_datagram t peer d found).1 ≡ false → DatagramGoes point t peer bytes next (accepted_by point t.profile t.clock d found)
found_goes point t peer bytes d None next reads is sound none = inl (record { none = none; untouched = refl })
found_goes point t peer bytes d (Some row) next reads is sound none = judged_goes point t peer bytes d row (row_delivery t.profile t.clock row d) next (record { reads = reads; found = is; sound = sound }) refl none

read_goes : (point : ℕ) (t : AdapterTable) (peer : Node) (bytes : List ℕ) (reading : Result DatagramFields DatagramFault) (next : AdapterTable) → datagram_reading bytes ≡ reading → IsSound t → has_runner point (datagram_of t peer reading).1 ≡ false → DatagramGoes point t peer bytes next (read_accepted point t peer reading)
read_goes point t peer bytes (Err fault) next reads sound none = inl (record { none = none; untouched = refl })
read_goes point t peer bytes (Ok d) next reads sound none = found_goes point t peer bytes d (find (is_for peer d.connection) t.rows) next reads refl sound none

-- a datagram takes no owner
fed_owner : (b : Bool) (point : ℕ) (t : AdapterTable) (peer : Node) (d : DatagramFields) (row : Row) (what : Delivery) → list_any (drives point) (cond b (delivered what (accepted_table t peer d row what)) (delivered what t)).1.rows ≡ list_any (drives point) t.rows
unfolding accepted_table
fed_owner true point t peer d row what = any_driver_kept (accepted_if_for t.clock peer d) (fed_keeps t.clock peer d) point t.rows
fed_owner false point t peer d row what = refl

found_owner : (point : ℕ) (t : AdapterTable) (peer : Node) (d : DatagramFields) (found : Option Row) → list_any (drives point) (found_datagram t peer d found).1.rows ≡ list_any (drives point) t.rows
found_owner point t peer d None = refl
found_owner point t peer d (Some row) = let what = row_delivery t.profile t.clock row d in fed_owner (is_accepted what) point t peer d row what

read_owner : (point : ℕ) (t : AdapterTable) (peer : Node) (reading : Result DatagramFields DatagramFault) → list_any (drives point) (datagram_of t peer reading).1.rows ≡ list_any (drives point) t.rows
read_owner point t peer (Err fault) = refl
read_owner point t peer (Ok d) = found_owner point t peer d (find (is_for peer d.connection) t.rows)

lost_none : (b : Bool) (left : Option (List ℕ)) → b ≡ false → cond b left None ≡ None
lost_none true left is = absurd (let e = is in cc)
lost_none false left is = refl

datagram_goes : (point : ℕ) (t : AdapterTable) (peer : Node) (bytes : List ℕ) → IsSound t → has_runner point (datagram_of t peer (datagram_reading bytes)).1 ≡ false → DatagramGoes point t peer bytes (datagram_of t peer (datagram_reading bytes)).1 (left_at point t (Datagram peer bytes) (datagram_of t peer (datagram_reading bytes)).1)
datagram_goes point t peer bytes sound none =
    let next = (datagram_of t peer (datagram_reading bytes)).1 in
    let nothing_lost : lost point t next ≡ None = lost_none (is_lost point t.rows next.rows) _ (same_owner point t.rows next.rows (read_owner point t peer (datagram_reading bytes))) in
    subst (DatagramGoes point t peer bytes next) (sym (alone (read_accepted point t peer (datagram_reading bytes)) (lost point t next) nothing_lost))
    (read_goes point t peer bytes (datagram_reading bytes) next refl sound none) where
      alone : (first second : Option (List ℕ)) → second ≡ None → or_else first second ≡ first
      alone None second is = is
      alone (Some left) second is = refl

-- ---- an event

write_keeps : (point : ℕ) (t : AdapterTable) (other : ℕ) (bytes : List ℕ) (next : Next) → IsWrite t other bytes next → Keeps point t next.1
write_keeps point t other bytes next is = subst (λ (n : Next). Keeps point t n.1) is.said (keeps_written point t other bytes)

parks_messaged : (point : ℕ) (t : AdapterTable) (next_id : ℕ) (m : Messaging) → list_any (parks point) t.rows ≡ false → list_any (parks point) (messages_table t next_id m).rows ≡ false
unfolding messages_table
parks_messaged point t next_id m none = none

tick_keeps : (point : ℕ) (t : AdapterTable) (ms : ℕ) (next : Next) → IsTick t ms next → Keeps point t next.1
tick_keeps point t ms next is =
    let later = (advanced (clocked_table t ms)).1 in
    subst (λ (n : Next). Keeps point t n.1) is.said (keeps_by point t (messages_table later later.next_id (aged later.clock later.messaging)) (λ none. parks_messaged point later later.next_id (aged later.clock later.messaging) (parks_advanced point t ms none)))

pub step_goes : (point : ℕ) (t : AdapterTable) (event : Event) (next : Next) → adapter_step t event ≡ Ok next → IsSound t → has_runner point next.1 ≡ false → Goes point t event next.1 (left_at point t event next.1)
unfolding received
step_goes point t (Datagram peer bytes) next is sound none =
    subst (λ (n : Next). has_runner point n.1 ≡ false → DatagramGoes point t peer bytes n.1 (left_at point t (Datagram peer bytes) n.1)) (next_is _ _ is) (datagram_goes point t peer bytes sound) none
step_goes point t (Write other bytes) next is sound none = control_goes point t (Write other bytes) next.1 sound (write_keeps point t other bytes next (write_is t other bytes next is)) none
step_goes point t (Tick ms) next is sound none = control_goes point t (Tick ms) next.1 sound (tick_keeps point t ms next (tick_is t ms next is)) none
step_goes point t other next is sound none =
    control_goes point t other next.1 sound (control_does (Keeps point) (requests_keep point) (λ t number peer free. keeps_with point t number peer) t other next refl is) none
