-- What a turn of a station did to its device and its port, whatever became of its outputs.
use Rattle.std.specs.Prelude.{◌≡◌, ℕ, ◌-◌, ◌^◌, Bool, true, false, List, drop, Option, Some, None, Result, Ok, Err, OnOk}
use Rattle.cip_tables.specs.declared.table.DeviceTable.{DeviceTable}
use Rattle.station.specs.declared.serving.Station.{Station}
use Rattle.station.specs.Noted.{Noted, NotesStep, noted}
use Rattle.udp_runner.specs.declared.fault.PortFault.TheVariants as port
use Rattle.udp_runner.specs.declared.fault.RunFault.{RunFault}
use Rattle.udp_runner.specs.declared.fault.RunFault.TheVariants as run
use Rattle.udp_runner.specs.Driving.{Drove, Seen}
use Rattle.udp_runner.specs.Tape.{Tape}
use Rattle.udp_runner.specs.Turns.{turn_of}

-- A turn was made with this result: the device was driven by what the clock and the port gave, as `Drove` says, and the
-- recorder noted each step.
pub record Made {W : Type 0} (contents : W → Option (List ℕ)) (scripted timed : Bool) (times later : List ℕ) (old new : Seen (Noted W)) (made : Result ℕ RunFault) : Type 0 where
  pub drove : Drove (NotesStep contents) scripted timed (turn_of times old.tape.coming) 1 131 old new made
  pub times_ms : OnOk made (timed ≡ true → later ≡ drop 1 times)

-- No turn was made: the count of the port's failures is at its end.
pub record NotMade {W : Type 0} (scripted timed : Bool) (times later : List ℕ) (old new : Seen (Noted W)) : Type 0 where
  pub full : old.failed ≡ 2 ^ 64 - 1
  pub times_ms : timed ≡ true → later ≡ times
  pub tape : scripted ≡ true → new.tape ≡ old.tape
  pub worked : new.failed ≡ old.failed
  pub table : new.table ≡ old.table
  pub unnoted : new.observer ≡ old.observer

abbrev pub MadeOrNot : {W : Type 0} (contents : W → Option (List ℕ)) (scripted timed : Bool) (times later : List ℕ) (old new : Seen (Noted W)) → Option (Result ℕ RunFault) → Type 0
MadeOrNot contents scripted timed times later old new None = NotMade scripted timed times later old new
MadeOrNot contents scripted timed times later old new (Some made) = Made contents scripted timed times later old new made

-- a station, as the contracts of turns see it
abbrev pub station_seen : {P C D W O E : Type 0} → (P → Tape) → (P → ℕ) → (D → DeviceTable) → Station P C D W O E → Seen (Noted W)
station_seen tape failed table station = record { tape = tape station.port; failed = failed station.port; table = table station.device; observer = noted station.observer }

-- What a turn did.
pub record Turned {P C D W O E : Type 0} (contents : W → Option (List ℕ)) (scripted timed : Bool) (coming : C → List ℕ) (tape : P → Tape) (failed : P → ℕ) (table : D → DeviceTable) (old new : Station P C D W O E) : Type 0 where
  pub made : Option (Result ℕ RunFault)
  pub did : MadeOrNot contents scripted timed (coming old.clock) (coming new.clock) (station_seen tape failed table old) (station_seen tape failed table new) made

-- the station goes on behind a turn of this result: it was made, and at most the port failed
abbrev pub goes_on : Option (Result ℕ RunFault) → Bool
goes_on (Some (Ok events)) = true
goes_on (Some (Err (run.Port port.Receive))) = true
goes_on (Some (Err (run.Port port.Send))) = true
goes_on other = false

-- What a turn did behind which the station goes on.
pub record Went {P C D W O E : Type 0} (contents : W → Option (List ℕ)) (scripted timed : Bool) (coming : C → List ℕ) (tape : P → Tape) (failed : P → ℕ) (table : D → DeviceTable) (old new : Station P C D W O E) : Type 0 where
  pub turn : Turned contents scripted timed coming tape failed table old new
  pub goes : goes_on turn.made ≡ true
