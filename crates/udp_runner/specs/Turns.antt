-- Runs of a device over a port and a clock: the events of the turns, the outputs of their answers, and the state after
-- a fault.
use Rattle.std.specs.Prelude.{◌≡◌, ◌⊎◌, ℕ, zero, suc, ◌+◌, nat_lt, min, List, [], ◌∷◌, ◌++◌, length, Option, Some, None, Result, Ok, Err, if◌then◌else◌}
use Rattle.cip_events.specs.declared.arrival.Arrival.{Arrival}
use Rattle.cip_events.specs.declared.event.Answer.{Answer}
use Rattle.cip_events.specs.declared.event.Event.{Event}
use Rattle.cip_events.specs.declared.event.Event.TheVariants as event
use Rattle.cip_events.specs.declared.event.StepFault.{StepFault}
use Rattle.cip_events.specs.Arrivals.{arrival_event}
use Rattle.cip_events.specs.Clock.{longest_tick}
use Rattle.cip_events.specs.Outcomes.{Follows}
use Rattle.cip_tables.specs.declared.table.DeviceTable.{DeviceTable}
use Rattle.cip_tables.specs.Run.{table_of, table_after}
use Rattle.cip_tables.specs.Step.{step}
use Rattle.udp_runner.specs.declared.fault.RunFault.{RunFault}
use Rattle.udp_runner.specs.declared.fault.RunFault.TheVariants as run
use Rattle.udp_runner.specs.declared.output.SentOutput.{SentOutput}
use Rattle.udp_runner.specs.Outputs.{answer_sent, SendsSome}
use Rattle.udp_runner.specs.Tape.{Tape, first_or, rest_of}

-- THE EVENTS

-- the tick of a turn, if time passed: the time above the longest tick is dropped
abbrev pub ticks_of : ℕ → List Event
ticks_of ms = if nat_lt 0 ms then event.Tick (min ms longest_tick) ∷ [] else []

-- the event of a receive, if something arrived
abbrev pub arrivals_of : Option Arrival → List Event
arrivals_of None = []
arrivals_of (Some arrival) = arrival_event arrival ∷ []

-- the events of one turn: the tick, then what arrived
abbrev pub turn_of : List ℕ → List (Option Arrival) → List Event
turn_of times_ms coming = ticks_of (first_or 0 times_ms) ++ arrivals_of (first_or None coming)

-- turn by turn, the tick and the arrival that the clock and the port give
abbrev pub events_of : ℕ → List ℕ → List (Option Arrival) → List Event
events_of zero times_ms coming = []
events_of (suc turns) times_ms coming = turn_of times_ms coming ++ events_of turns (rest_of times_ms) (rest_of coming)

-- WHAT IS SENT

-- the outputs of a step: a refused step has none
abbrev pub step_sent : Result (Answer × DeviceTable) StepFault → List SentOutput
step_sent (Ok next) = answer_sent next.0
step_sent (Err fault) = []

-- the outputs of the answers to the events, in order
abbrev pub all_sent : DeviceTable → List Event → List SentOutput
all_sent table [] = []
all_sent table (e ∷ es) = step_sent (step table e) ++ all_sent (table_of table (step table e)) es

-- RUNS

-- The device took these events, whose number is the count, and all outputs of their answers were sent.
pub record Drives (events : List Event) (count : ℕ) (old new : Tape) (before after : DeviceTable) : Type 0 where
  pub sends : new.sent ≡ old.sent ++ all_sent before events
  pub table : after ≡ table_after before events
  pub counts : count ≡ length events

-- The device took the next of these events, and not all outputs of its answer were sent.
pub record StopsOutput (events : List Event) (old new : Tape) (before after : DeviceTable) : Type 0 where
  pub taken : Event
  pub left : List Event
  pub parts : events ≡ taken ∷ left
  pub sends : SendsSome old new (step_sent (step before taken))
  pub table : after ≡ table_of before (step before taken)

-- The device took none of these events, and nothing was sent.
pub record StopsReceiving (old new : Tape) (before after : DeviceTable) : Type 0 where
  pub sends : new ≡ old
  pub table : after ≡ before

-- The device refused the next of these events, and nothing was sent. It is as it was.
pub record StopsStepping (fault : StepFault) (events : List Event) (old new : Tape) (before after : DeviceTable) : Type 0 where
  pub refused : Event
  pub left : List Event
  pub parts : events ≡ refused ∷ left
  pub follows : Follows (step before refused) before (Err fault) after
  pub sends : new ≡ old

-- how a run ends at a fault, with these events left
abbrev pub Halts : RunFault → List Event → Tape → Tape → DeviceTable → DeviceTable → Type 0
Halts (run.Port fault) events old new before after = StopsReceiving old new before after ⊎ StopsOutput events old new before after
Halts (run.Step fault) events old new before after = StopsStepping fault events old new before after

-- A fault ended a run of these events: the device took the first ones, all outputs of their answers were sent, and the
-- fault concerns the next one.
pub record Stops (fault : RunFault) (events : List Event) (old new : Tape) (before after : DeviceTable) : Type 0 where
  pub done : List Event
  pub left : List Event
  pub parts : events ≡ done ++ left
  pub middle : Tape
  pub sends : middle.sent ≡ old.sent ++ all_sent before done
  pub halts : Halts fault left middle new (table_after before done) after

-- the port is blamed exactly where its count of failures rose
abbrev pub Blames : ℕ → ℕ → RunFault → Type 0
Blames before after (run.Port fault) = after ≡ before + 1
Blames before after (run.Step fault) = after ≡ before
