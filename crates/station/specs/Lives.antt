-- A life of a station's device: what is done as it begins, for each step of its source, and as it ends.
use Rattle.std.specs.Prelude.{◌≡◌, ℕ, ◌≤◌, ◌<◌, zero, suc, Bool, true, false, List, [], ◌∷◌, ◌++◌, Option, Some, None}
use Rattle.std.specs.List.{list_any}
use Rattle.station_lines.specs.Attributes.Calls.{call_event}
use Rattle.station_lines.specs.Attributes.Requested.{next_number}
use Rattle.cip_events.specs.Clock.{longest_tick}
use Rattle.cip_events.specs.declared.event.Event.{Event}
use Rattle.cip_events.specs.declared.event.Event.TheVariants as event
use Rattle.cip_tables.specs.declared.table.DeviceTable.{DeviceTable}
use Rattle.station.specs.declared.step.LifeEnd.{LifeEnd}
use Rattle.station.specs.declared.step.LifeEnd.TheVariants.{Restart}
use Rattle.station.specs.declared.step.StationStep.{StationStep}
use Rattle.station.specs.declared.step.StationStep.TheVariants as step
use Rattle.station_lines.specs.Points.{is_owned}
use Rattle.station.specs.declared.serving.Station.{Station}
use Rattle.station.specs.Ended.{Ended}
use Rattle.station.specs.Recorded.{Task, Does}
use Rattle.station.specs.Recorded.Task.{Turn, Call, Rest}
use Rattle.station.specs.Rests.{Unstepped}
use Rattle.udp_runner.specs.Tape.{Tape}

-- STEPS

-- a call, and the lines that are printed behind it
abbrev pub called : Event → List Task
called call = Call call ∷ Rest ∷ []

-- the number of the next explicit request
abbrev pub number_of : {P C D W O E : Type 0} → Station P C D W O E → ℕ
number_of station = next_number station.observer.requested.last

-- what is done for a step, but for the turn behind it; the number is that of the next explicit request
abbrev pub tasks_of : ℕ → StationStep → List Task
tasks_of number (step.Call call) = called call
tasks_of number (step.Ask call) = called (call_event number call)
tasks_of number other = Rest ∷ []

-- how a life ends with a step, if it ends with it
abbrev pub end_of : StationStep → Option LifeEnd
end_of (step.End end) = Some end
end_of other = None

-- the milliseconds that the turn behind a step waits at most
abbrev pub wait_behind : StationStep → ℕ
wait_behind (step.Wait ms) = ms
wait_behind other = 0

-- how a life ends behind a turn, if it ends with it: a reset that a peer has requested is as a loss of power
abbrev pub reset_end : (reset : Bool) → Option LifeEnd
reset_end false = None
reset_end true = Some (Restart false)

-- how a life ends with a step, or with the turn behind it
abbrev pub ended_by : (reset : Bool) → Option LifeEnd → Option LifeEnd
ended_by reset (Some end) = Some end
ended_by reset None = reset_end reset

-- behind each step that is no end is a turn
abbrev pub turn_unless : Option LifeEnd → List Task
turn_unless None = Turn ∷ []
turn_unless (Some end) = []

-- The source gave a step at the time of the station's clock, and it was taken: what the step says was done, and a turn was made
-- behind it. The answer says how the life ends, if it ends with the step or with that turn: nothing is done behind a turn in which a
-- peer has requested a reset.
pub record Took {S P C D W O E : Type 0} (contents : W → Option (List ℕ)) (scripted timed : Bool) (coming : C → List ℕ) (tape : P → Tape) (failed : P → ℕ) (table : D → DeviceTable) (gives : S → ℕ → DeviceTable → StationStep → S → Type 0) (end : Option LifeEnd) (from : S) (old : Station P C D W O E) (to : S) (new : Station P C D W O E) : Type 0 where
  pub taken : StationStep
  pub comes : gives from old.observer.now_ms (table old.device) taken to
  pub ends : end ≡ ended_by new.observer.reset (end_of taken)
  pub does : Does contents scripted timed coming tape failed table (tasks_of (number_of old) taken ++ turn_unless (end_of taken)) old new

-- So many steps were taken, one behind another, and none of them ends the life.
abbrev pub TookMany : {S P C D W O E : Type 0} (contents : W → Option (List ℕ)) (scripted timed : Bool) (coming : C → List ℕ) (tape : P → Tape) (failed : P → ℕ) (table : D → DeviceTable) (gives : S → ℕ → DeviceTable → StationStep → S → Type 0) (count : ℕ) → S → Station P C D W O E → S → Station P C D W O E → Type 0
TookMany contents scripted timed coming tape failed table gives zero from old to new = (to ≡ from) × (new ≡ old)
TookMany {S} {P} {C} {D} {W} {O} {E} contents scripted timed coming tape failed table gives (suc count) from old to new =
    (at : S) × (mid : Station P C D W O E) × TookMany contents scripted timed coming tape failed table gives count from old at mid × Took contents scripted timed coming tape failed table gives None at mid to new

-- Steps were taken, one behind another, and the last one ends the life so.
pub record Takes {S P C D W O E : Type 0} (contents : W → Option (List ℕ)) (scripted timed : Bool) (coming : C → List ℕ) (tape : P → Tape) (failed : P → ℕ) (table : D → DeviceTable) (gives : S → ℕ → DeviceTable → StationStep → S → Type 0) (end : LifeEnd) (from : S) (old : Station P C D W O E) (to : S) (new : Station P C D W O E) : Type 0 where
  pub count : ℕ
  pub at : S
  pub mid : Station P C D W O E
  pub many : TookMany contents scripted timed coming tape failed table gives count from old at mid
  pub last : Took contents scripted timed coming tape failed table gives (Some end) at mid to new

-- THE BEGINNING AND THE END

-- a scanner is asked to open each of so many slots, and to close each of them
abbrev pub starts_of : ℕ → List Task
starts_of zero = []
starts_of (suc slots) = starts_of slots ++ called (event.Start slots)

abbrev pub stops_of : ℕ → List Task
stops_of zero = []
stops_of (suc slots) = stops_of slots ++ called (event.Stop slots)

-- so many of the longest ticks
abbrev pub ticks_of : ℕ → List Task
ticks_of zero = []
ticks_of (suc count) = ticks_of count ++ called (event.Tick longest_tick)

-- so many turns
abbrev pub turns_of : ℕ → List Task
turns_of zero = []
turns_of (suc count) = turns_of count ++ Turn ∷ []

-- Time passes at the device until no connection owns one of its outputs: at most 86 of the longest ticks, behind which each
-- connection has timed out.
pub record Aged {P C D W O E : Type 0} (contents : W → Option (List ℕ)) (scripted timed : Bool) (coming : C → List ℕ) (tape : P → Tape) (failed : P → ℕ) (table : D → DeviceTable) (old new : Station P C D W O E) : Type 0 where
  pub count : ℕ
  pub few : count ≤ 86
  pub does : Does contents scripted timed coming tape failed table (ticks_of count) old new
  pub disowned : count < 86 → list_any (is_owned (table new.device)) new.points.points.items ≡ false

-- Turns were made, and nothing else.
pub record TurnsMade {P C D W O E : Type 0} (contents : W → Option (List ℕ)) (scripted timed : Bool) (coming : C → List ℕ) (tape : P → Tape) (failed : P → ℕ) (table : D → DeviceTable) (old new : Station P C D W O E) : Type 0 where
  pub count : ℕ
  pub does : Does contents scripted timed coming tape failed table (turns_of count) old new

-- What is open was closed: the outputs took their fault actions, each of so many slots was asked to close, turns waited for
-- the replies, and the sessions ended.
pub record Closed {P C D W O E : Type 0} (contents : W → Option (List ℕ)) (scripted timed : Bool) (coming : C → List ℕ) (tape : P → Tape) (failed : P → ℕ) (table : D → DeviceTable) (slots : ℕ) (old new : Station P C D W O E) : Type 0 where
  pub aged : Station P C D W O E
  pub ages : Aged contents scripted timed coming tape failed table old aged
  pub stopped : Station P C D W O E
  pub stops : Does contents scripted timed coming tape failed table (stops_of slots) aged stopped
  pub waited : Station P C D W O E
  pub waits : TurnsMade contents scripted timed coming tape failed table stopped waited
  pub ends : Ended scripted tape failed table waited new
  pub rests : Unstepped waited new

-- A life ended so: a device that loses its power closes nothing.
abbrev pub EndsSo : {P C D W O E : Type 0} (contents : W → Option (List ℕ)) (scripted timed : Bool) (coming : C → List ℕ) (tape : P → Tape) (failed : P → ℕ) (table : D → DeviceTable) (slots : ℕ) → LifeEnd → Station P C D W O E → Station P C D W O E → Type 0
EndsSo contents scripted timed coming tape failed table slots (Restart same) old new = new ≡ old
EndsSo contents scripted timed coming tape failed table slots other old new = Closed contents scripted timed coming tape failed table slots old new

pub record EndsLife {P C D W O E : Type 0} (contents : W → Option (List ℕ)) (scripted timed : Bool) (coming : C → List ℕ) (tape : P → Tape) (failed : P → ℕ) (table : D → DeviceTable) (slots : ℕ) (end ended : LifeEnd) (old new : Station P C D W O E) : Type 0 where
  pub same : ended ≡ end
  pub closes : EndsSo contents scripted timed coming tape failed table slots end old new

-- A life up to its end: each of so many slots was asked to open, and the steps of the source were taken.
pub record TookAll {S P C D W O E : Type 0} (contents : W → Option (List ℕ)) (scripted timed : Bool) (coming : C → List ℕ) (tape : P → Tape) (failed : P → ℕ) (table : D → DeviceTable) (gives : S → ℕ → DeviceTable → StationStep → S → Type 0) (slots : ℕ) (end : LifeEnd) (from : S) (old : Station P C D W O E) (to : S) (new : Station P C D W O E) : Type 0 where
  pub begun : Station P C D W O E
  pub begins : Does contents scripted timed coming tape failed table (Rest ∷ starts_of slots) old begun
  pub takes : Takes contents scripted timed coming tape failed table gives end from begun to new

-- A whole life, which ended so.
pub record Lived {S P C D W O E : Type 0} (contents : W → Option (List ℕ)) (scripted timed : Bool) (coming : C → List ℕ) (tape : P → Tape) (failed : P → ℕ) (table : D → DeviceTable) (gives : S → ℕ → DeviceTable → StationStep → S → Type 0) (slots : ℕ) (end : LifeEnd) (from : S) (old : Station P C D W O E) (to : S) (new : Station P C D W O E) : Type 0 where
  pub last : Station P C D W O E
  pub takes : TookAll contents scripted timed coming tape failed table gives slots end from old to last
  pub closes : EndsSo contents scripted timed coming tape failed table slots end last new
