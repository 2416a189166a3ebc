-- What each effect on a table keeps, each step keeps, and so each run.
use Rattle.std.proofs.Common.{◌≡◌, ◌≤◌, ℕ, ◌+◌, ◌^◌, ◌==◌, nat_lt, Bool, true, false, cond, List, length, find, Option, Some, None, Result, Ok, Err, refl, subst, ltb-false}
use Rattle.std.proofs.lemmas.Bool.{eqb-true}
use Rattle.cip_types.specs.declared.names.Node.{Node}
use Rattle.cip_datagram.specs.declared.datagram.DatagramFault.{DatagramFault}
use Rattle.cip_datagram.specs.Datagram.{DatagramFields}
use Rattle.cip_datagram.specs.Reading.{datagram_reading}
use Rattle.cip_events.specs.declared.event.Delivery.{Delivery}
use Rattle.cip_events.specs.declared.event.Event.{Event}
use Rattle.cip_events.specs.declared.event.Event.TheVariants.{Datagram, Write, Tick}
use Rattle.cip_events.specs.declared.event.StepFault.{StepFault}
use Rattle.cip_events.specs.declared.event.StepFault.TheVariants.{TickTooLong, ClockEnd, WrongLength}
use Rattle.adapter_table.specs.declared.profile.InputPoint.{InputPoint}
use Rattle.adapter_table.specs.Connections.{Row}
use Rattle.adapter_table.specs.declared.table.AdapterTable.{AdapterTable}
use Rattle.adapter_table.specs.Profiles.{is_at}
use Rattle.adapter_table.specs.Requests.{Next}
use Rattle.adapter_table.specs.Datagrams.{delivered, found_datagram, datagram_of, received, row_delivery, accepted_table, is_for}
use Rattle.cip_events.specs.Answers.{is_accepted}
use Rattle.cip_events.specs.Clock.{longest_tick, clock_end}
use Rattle.adapter_table.specs.Ticks.{clocked_table, advanced, aged_next, tick}
use Rattle.adapter_table.specs.Step.{adapter_step, write, write_of, written_table, written}
use Rattle.adapter_table.specs.Laws.{EffectsKeep}
use Rattle.adapter_table.specs.Lemmas.RequestLemmas.{RequestsDo, next_is}
use Rattle.adapter_table.specs.Lemmas.ControlLemmas.{control_does}
use Rattle.adapter_table.specs.Lemmas.MessageLemmas.{goes_aged}

-- ---- a step that gives an answer

-- a write that is done is one of an input, of its length
pub record IsWrite (t : AdapterTable) (point : ℕ) (bytes : List ℕ) (next : Next) : Type 0 where
  pub input : InputPoint
  pub found : find (is_at point) t.profile.inputs ≡ Some input
  pub long : length bytes ≡ input.len
  pub said : written (written_table t point bytes) point bytes ≡ next

write_by : (t : AdapterTable) (point : ℕ) (bytes : List ℕ) (found : Option InputPoint) (next : Next) → find (is_at point) t.profile.inputs ≡ found → write_of t point bytes found ≡ Ok next → IsWrite t point bytes next
write_by t point bytes None next there is = absurd cc
write_by t point bytes (Some input) next there is = write_step (length bytes == input.len) refl is where
  write_step : (b : Bool) → (length bytes == input.len) ≡ b → ◌≡◌ {A = Result Next StepFault} (cond b (Ok (written (written_table t point bytes) point bytes)) (Err WrongLength)) (Ok next) → IsWrite t point bytes next
  write_step true long is = record { input = input; found = there; long = eqb-true _ _ long; said = next_is _ _ is }
  write_step false long is = absurd cc

pub write_is : (t : AdapterTable) (point : ℕ) (bytes : List ℕ) (next : Next) → write t point bytes ≡ Ok next → IsWrite t point bytes next
unfolding write
write_is t point bytes next is = write_by t point bytes (find (is_at point) t.profile.inputs) next refl is

-- a tick that is done does not pass the end of the clock
pub record IsTick (t : AdapterTable) (ms : ℕ) (next : Next) : Type 0 where
  pub in_time : t.clock.0 + ms ≤ 2 ^ 48
  pub said : aged_next (advanced (clocked_table t ms)) ≡ next

tick_step : (a b : Bool) (t : AdapterTable) (ms : ℕ) (next : Next) → nat_lt clock_end (t.clock.0 + ms) ≡ b → ◌≡◌ {A = Result Next StepFault} (cond a (Err TickTooLong) (cond b (Err ClockEnd) (Ok (aged_next (advanced (clocked_table t ms)))))) (Ok next) → IsTick t ms next
tick_step true b t ms next late is = absurd cc
tick_step false true t ms next late is = absurd cc
tick_step false false t ms next late is = record { in_time = ltb-false clock_end (t.clock.0 + ms) late; said = next_is _ _ is }

pub tick_is : (t : AdapterTable) (ms : ℕ) (next : Next) → tick t ms ≡ Ok next → IsTick t ms next
unfolding tick
tick_is t ms next is = tick_step (nat_lt longest_tick ms) (nat_lt clock_end (t.clock.0 + ms)) t ms next refl is

-- ---- what each effect keeps

requests_keep : (P : AdapterTable → Type 0) → EffectsKeep P → RequestsDo (λ t next. P t → P next)
requests_keep P keep = record {
  stays = λ t holds. holds;
  opened = keep.opened;
  closed = λ t triad row found holds. keep.closed t row holds;
  unstreamed = keep.unstreamed;
  registered = keep.registered;
  messaged = keep.messaged;
  counted = λ t next openings kept holds. keep.counted next openings (kept holds);
  tallied = λ t next counters kept holds. keep.tallied next counters (kept holds);
  taken = keep.taken;
}

keeps_judged : (P : AdapterTable → Type 0) (b : Bool) (t fed : AdapterTable) (delivery : Delivery) → P t → P fed → P (cond b (delivered delivery fed) (delivered delivery t)).1
keeps_judged P true t fed delivery holds fed_holds = fed_holds
keeps_judged P false t fed delivery holds fed_holds = holds

keeps_found : (P : AdapterTable → Type 0) → EffectsKeep P → (t : AdapterTable) (peer : Node) (d : DatagramFields) (found : Option Row) → find (is_for peer d.connection) t.rows ≡ found → P t → P (found_datagram t peer d found).1
keeps_found P keep t peer d None is holds = holds
keeps_found P keep t peer d (Some row) is holds =
    let delivery = row_delivery t.profile t.clock row d in
    keeps_judged P (is_accepted delivery) t (accepted_table t peer d row delivery) delivery holds (keep.fed t peer d row delivery refl is holds)

keeps_datagram : (P : AdapterTable → Type 0) → EffectsKeep P → (t : AdapterTable) (peer : Node) (reading : Result DatagramFields DatagramFault) → P t → P (datagram_of t peer reading).1
keeps_datagram P keep t peer (Err fault) holds = holds
keeps_datagram P keep t peer (Ok d) holds = keeps_found P keep t peer d (find (is_for peer d.connection) t.rows) refl holds

keeps_write : (P : AdapterTable → Type 0) → EffectsKeep P → (t : AdapterTable) (point : ℕ) (bytes : List ℕ) (next : Next) → IsWrite t point bytes next → P t → P next.1
keeps_write P keep t point bytes next is holds = subst (λ (n : Next). P n.1) is.said (keep.written t point bytes is.input is.found is.long holds)

keeps_tick : (P : AdapterTable → Type 0) → EffectsKeep P → (t : AdapterTable) (ms : ℕ) (next : Next) → IsTick t ms next → P t → P next.1
keeps_tick P keep t ms next is holds =
    let later = (advanced (clocked_table t ms)).1 in
    subst (λ (n : Next). P n.1) is.said (keep.messaged later later.next_id _ (goes_aged later) (keep.advanced t ms is.in_time holds))

pub adapter_keeps : (P : AdapterTable → Type 0) → EffectsKeep P → (t : AdapterTable) (event : Event) (next : Next) → adapter_step t event ≡ Ok next → P t → P next.1
unfolding received
adapter_keeps P keep t (Datagram peer bytes) next is holds = subst (λ (n : Next). P n.1) (next_is _ _ is) (keeps_datagram P keep t peer (datagram_reading bytes) holds)
adapter_keeps P keep t (Write point bytes) next is holds = keeps_write P keep t point bytes next (write_is t point bytes next is) holds
adapter_keeps P keep t (Tick ms) next is holds = keeps_tick P keep t ms next (tick_is t ms next is) holds
adapter_keeps P keep t other next is holds = control_does (λ t next. P t → P next) (requests_keep P keep) keep.streamed t other next refl is holds
