-- What a station did, one thing behind another, and what its recorder noted meanwhile.
use Rattle.std.specs.Prelude.{◌≡◌, ℕ, Bool, true, false, List, [], ◌∷◌, Option, Result, Err}
use Rattle.cip_events.specs.declared.event.Event.{Event}
use Rattle.cip_events.specs.declared.event.StepFault.TheVariants as step
use Rattle.cip_events.specs.Outcomes.{Outcome}
use Rattle.cip_tables.specs.declared.table.DeviceTable.{DeviceTable}
use Rattle.cip_tables.specs.Run.{Runs}
use Rattle.station.specs.declared.serving.Station.{Station}
use Rattle.station.specs.Ended.{Ended}
use Rattle.station.specs.Noted.{NotesStep, noted}
use Rattle.station.specs.Rests.{Rests, Unstepped}
use Rattle.station.specs.Turned.{Turned, Went, station_seen}
use Rattle.udp_runner.specs.declared.fault.RunFault.{RunFault}
use Rattle.udp_runner.specs.declared.fault.RunFault.TheVariants as run
use Rattle.udp_runner.specs.Driving.{Drove, IsQuiet, Stepped, once}
use Rattle.udp_runner.specs.Handing.{Watches}
use Rattle.udp_runner.specs.Tape.{Tape}

-- ONE CALL

-- An event of the application was taken with this result: the device was driven by it, as `Drove` says, and the recorder noted
-- the step, and no other. What the device refuses sends and receives nothing.
pub record Called {P C D W O E : Type 0} (contents : W → Option (List ℕ)) (scripted : Bool) (tape : P → Tape) (failed : P → ℕ) (table : D → DeviceTable) (event : Event) (old new : Station P C D W O E) : Type 0 where
  pub made : Result Unit RunFault
  pub drove : Drove (NotesStep contents) scripted true (event ∷ []) 0 1 (station_seen tape failed table old) (station_seen tape failed table new) (once made)
  pub stepped : Stepped (NotesStep contents) event (noted old.observer) (noted new.observer) (table old.device) (table new.device)
  pub quiet : IsQuiet scripted (tape old.port) (tape new.port) made
  pub clock : new.clock ≡ old.clock

-- the station goes on behind a call of this result: there was memory for it
abbrev pub calls_on : Result Unit RunFault → Bool
calls_on (Err (run.Step step.OutOfMemory)) = false
calls_on other = true

-- What a call did behind which the station goes on.
pub record CalledOn {P C D W O E : Type 0} (contents : W → Option (List ℕ)) (scripted : Bool) (tape : P → Tape) (failed : P → ℕ) (table : D → DeviceTable) (event : Event) (old new : Station P C D W O E) : Type 0 where
  pub call : Called contents scripted tape failed table event old new
  pub goes : calls_on call.made ≡ true

-- ONE THING BEHIND ANOTHER

-- what a station does: a turn; a call of its application, a start or a stop of a slot, or a tick at its end; the end of all sessions; what neither
-- the device nor the port nor the clock sees. And a turn, a call or the end of the sessions of which it is not said that the station goes on behind it.
pub data Task : Type 0 where
  Turn : Task
  Call : Event → Task
  End : Task
  Rest : Task
  AnyTurn : Task
  AnyCall : Event → Task
  BrokenEnd : Task

abbrev pub Did : {P C D W O E : Type 0} (contents : W → Option (List ℕ)) (scripted timed : Bool) (coming : C → List ℕ) (tape : P → Tape) (failed : P → ℕ) (table : D → DeviceTable) → Task → Station P C D W O E → Station P C D W O E → Type 0
Did contents scripted timed coming tape failed table Turn old new = Went contents scripted timed coming tape failed table old new
Did contents scripted timed coming tape failed table (Call event) old new = CalledOn contents scripted tape failed table event old new
Did contents scripted timed coming tape failed table End old new = Ended scripted tape failed table old new × Unstepped old new
Did contents scripted timed coming tape failed table Rest old new = Rests scripted tape failed old new
Did contents scripted timed coming tape failed table AnyTurn old new = Turned contents scripted timed coming tape failed table old new
Did contents scripted timed coming tape failed table (AnyCall event) old new = Called contents scripted tape failed table event old new
Did contents scripted timed coming tape failed table BrokenEnd old new = Unstepped old new

abbrev pub Does : {P C D W O E : Type 0} (contents : W → Option (List ℕ)) (scripted timed : Bool) (coming : C → List ℕ) (tape : P → Tape) (failed : P → ℕ) (table : D → DeviceTable) → List Task → Station P C D W O E → Station P C D W O E → Type 0
Does contents scripted timed coming tape failed table [] old new = new ≡ old
Does {P} {C} {D} {W} {O} {E} contents scripted timed coming tape failed table (task ∷ tasks) old new = (mid : Station P C D W O E) × Did contents scripted timed coming tape failed table task old mid × Does contents scripted timed coming tape failed table tasks mid new

-- The station did these things, one behind another, and nothing else; so what a scripted port sent and which of its arrivals
-- were taken is what its turns and calls say. The device of it ran by some events, and the recorder noted each of them with
-- its outcome, in this order, and nothing else; and a reset that an outcome grants was noted.
pub record Recorded {P C D W O E : Type 0} (contents : W → Option (List ℕ)) (scripted timed : Bool) (coming : C → List ℕ) (tape : P → Tape) (failed : P → ℕ) (table : D → DeviceTable) (old new : Station P C D W O E) : Type 0 where
  pub tasks : List Task
  pub does : Does contents scripted timed coming tape failed table tasks old new
  pub events : List Event
  pub outcomes : List Outcome
  pub runs : Runs (table old.device) events outcomes (table new.device)
  pub notes : Watches (NotesStep contents) (noted old.observer) events outcomes (noted new.observer)
