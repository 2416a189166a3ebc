-- The clock of a scanner moves by the time that passes, at least.
use Rattle.std.proofs.Common.{◌≡◌, ◌≤◌, ℕ, ◌+◌, nat_lt, Bool, true, false, cond, List, ◌∷◌, Result, Ok, Err, refl, ap, subst, arith}
use Rattle.cip_events.specs.declared.event.Event.{Event}
use Rattle.cip_events.specs.declared.event.Event.TheVariants.{Tick}
use Rattle.cip_events.specs.declared.event.StepFault.{StepFault}
use Rattle.cip_events.specs.declared.event.StepFault.TheVariants as fault
use Rattle.cip_events.specs.Clock.{longest_tick, clock_end}
use Rattle.scanner_table.specs.declared.table.ScannerTable.{ScannerTable}
use Rattle.scanner_table.specs.Effects.{Next}
use Rattle.scanner_table.specs.Explicit.{explicit_timed_out}
use Rattle.scanner_table.specs.Productions.{produced_table}
use Rattle.scanner_table.specs.Runs.{left_by}
use Rattle.scanner_table.specs.Step.{scanner_step}
use Rattle.scanner_table.specs.Ticks.{clocked_table, advanced, moved_on, ticked as tick_next, tick}
use Rattle.scanner_table.specs.Lemmas.Events.{leads_next}
use Rattle.scanner_table.specs.Lemmas.Moves.{Kept, KeptWidely, KeptAlways, advanced_leads, timed_out_leads, step_leads}
use Rattle.cip_tables.specs.declared.table.DeviceTable.{DeviceTable}
use Rattle.cip_tables.specs.declared.table.DeviceTable.TheVariants.{Scanner}
use Rattle.cip_tables.specs.Run.{table_of}
use Rattle.cip_tables.specs.Step.{as_scanner, step}
use Rattle.device_laws.specs.Lemmas.Folds.{step_leaves}
use Rattle.freshness_laws.specs.Passing.{milliseconds, ticked, passed}

abbrev Later : ScannerTable → ScannerTable → Type 0
Later t u = t.clock.0 ≤ u.clock.0

produced_later : (t : ScannerTable) → Later t (produced_table t)
unfolding produced_table
produced_later t = omega arith

later_slots : Kept Later
later_slots = record {
  same = λ t. omega arith;
  after = λ t u v first next. omega (arith, first, next);
  opening = λ t indexed stands closed_before in_turn left. omega arith;
  idling = λ t indexed slot stands idle. omega arith;
  timing_out = λ t indexed link slot stands is becomes. omega arith;
  closing = λ t indexed link desired_up stands is. omega arith;
}

later_widely : KeptWidely Later
later_widely = record {
  slots = later_slots;
  streams = λ t streams. omega arith;
  clocked = λ t ms. omega arith;
  producing = produced_later;
  moding = λ t run. omega arith;
  explicit = λ t pending request later. omega arith;
}

later_always : KeptAlways Later
later_always = record {
  widely = later_widely;
  taken = λ t block may. omega arith;
  establishing = λ t indexed o success stands is requested. omega arith;
  writing = λ t indexed bytes stands. omega arith;
  accepting = λ t indexed d c bytes stands is. omega arith;
}

moved_later : (t : ScannerTable) (ms : ℕ) → t.clock.0 + ms ≤ (tick_next (moved_on (clocked_table t ms))).1.clock.0
moved_later t ms =
    let now = clocked_table t ms in
    let moved = (advanced now).table in
    let left = (explicit_timed_out moved).table in
    let first : now.clock.0 ≤ moved.clock.0 = advanced_leads Later later_slots now in
    let second : moved.clock.0 ≤ left.clock.0 = timed_out_leads Later later_widely moved in
    let third : left.clock.0 ≤ (produced_table left).clock.0 = produced_later left in
    omega (arith, first, second, third)

tick_step : (a b : Bool) (t : ScannerTable) (ms : ℕ) (next : Next) → ◌≡◌ {A = Result Next StepFault} (cond a (Err fault.TickTooLong) (cond b (Err fault.ClockEnd) (Ok (tick_next (moved_on (clocked_table t ms)))))) (Ok next) → t.clock.0 + ms ≤ next.1.clock.0
tick_step true b t ms next is = absurd (let e = is in cc)
tick_step false true t ms next is = absurd (let e = is in cc)
tick_step false false t ms next is = subst (λ (n : Next). t.clock.0 + ms ≤ n.1.clock.0) (answered is) (moved_later t ms) where
  answered : {x : Next} → ◌≡◌ {A = Result Next StepFault} (Ok x) (Ok next) → x ≡ next
  answered is = cc

ticks : (t : ScannerTable) (ms : ℕ) (next : Next) → tick t ms ≡ Ok next → t.clock.0 + ms ≤ next.1.clock.0
unfolding tick
ticks t ms next is = tick_step (nat_lt longest_tick ms) (nat_lt clock_end (t.clock.0 + ms)) t ms next is

no_time : (t u : ScannerTable) → Later t u → t.clock.0 + 0 ≤ u.clock.0
no_time t u later = omega (arith, later)

pub step_moves : (t : ScannerTable) (event : Event) (next : Next) → scanner_step t event ≡ Ok next → t.clock.0 + milliseconds event ≤ next.1.clock.0
step_moves t (Tick ms) next is = ticks t ms next is
step_moves t other next is = no_time t next.1 (leads_next Later t (scanner_step t other) next is (step_leads Later later_always t other))

-- ---- at a device that is a scanner

abbrev pub is_ok : Result Next StepFault → Bool
is_ok (Ok next) = true
is_ok (Err why) = false

ticked_as : (said : Result Next StepFault) (event : Event) → ticked (as_scanner said) event ≡ cond (is_ok said) (milliseconds event) 0
ticked_as (Ok next) event = refl
ticked_as (Err why) event = refl

-- the time that an event takes, and what follows it
pub passed_more : (t : ScannerTable) (event : Event) (events : List Event) → passed (Scanner t) (event ∷ events) ≡ cond (is_ok (scanner_step t event)) (milliseconds event) 0 + passed (Scanner (left_by t (scanner_step t event))) events
unfolding step
passed_more t event events =
    let first = ticked_as (scanner_step t event) event in
    let second : passed (table_of (Scanner t) (as_scanner (scanner_step t event))) events ≡ passed (Scanner (left_by t (scanner_step t event))) events = ap (λ (d : DeviceTable). passed d events) (step_leaves t event) in
    omega (arith, first, second)
