-- What a turn did, and what is done behind it, which changes neither the device nor what is known of the port.
use Rattle.std.proofs.Common.{◌≡◌, ℕ, ◌-◌, ◌^◌, Bool, true, List, [], ◌∷◌, drop, Option, Some, None, Result, Ok, Err, OnOk, refl, sym, ap, subst, ◌∙◌}
use Rattle.cip_events.specs.declared.event.Event.{Event}
use Rattle.cip_events.specs.declared.event.StepFault.TheVariants as fault
use Rattle.cip_events.specs.Outcomes.{Follows, Outcome}
use Rattle.cip_tables.specs.declared.table.DeviceTable.{DeviceTable}
use Rattle.cip_tables.specs.Run.{Runs}
use Rattle.cip_tables.specs.Step.{step}
use Rattle.station.specs.declared.fault.EarlyEnd.{EarlyEnd}
use Rattle.station.specs.declared.observer.StationObserver.{StationObserver}
use Rattle.station.specs.declared.serving.Station.{Station}
use Rattle.station.specs.Recorded.{Called, CalledOn, Recorded, calls_on}
use Rattle.station.specs.Recorded.Task.{AnyCall, AnyTurn}
use Rattle.station.specs.Noted.{NotesStep, Noted, noted}
use Rattle.station.specs.Rests.{Rests}
use Rattle.station.specs.Faults.{failures_after_call, failures_after_turn}
use Rattle.station.specs.Turned.{MadeOrNot, Turned, Went, goes_on, station_seen}
use Rattle.station.proofs.Noting.{notes_kept, watched}
use Rattle.udp_runner.specs.declared.fault.PortFault.TheVariants as port
use Rattle.udp_runner.specs.declared.fault.RunFault.{RunFault}
use Rattle.udp_runner.specs.declared.fault.RunFault.TheVariants as run
use Rattle.udp_runner.specs.Driving.{Drove, IsQuiet, Seen, Stepped, once, seen}
use Rattle.udp_runner.specs.Handing.{Watches}
use Rattle.udp_runner.specs.Tape.{Tape}
use Rattle.udp_runner.specs.Turns.{Blames, Drives, Stops, turn_of}

-- what was driven before an observer, seen at its notes
abbrev pub at_notes : {W O E : Type 0} → Seen (StationObserver W O E) → Seen (Noted W)
at_notes seen = record { tape = seen.tape; failed = seen.failed; table = seen.table; observer = noted seen.observer }

pub drove_recorded : {W O E : Type 0} (contents : W → Option (List ℕ)) (s t : Bool) (events : List Event) (receives most : ℕ) (old new : Seen (StationObserver W O E)) (made : Result ℕ RunFault)
    → Drove (λ one event outcome other. NotesStep contents (noted one) event outcome (noted other)) s t events receives most old new made
    → Drove (NotesStep contents) s t events receives most (at_notes old) (at_notes new) made
drove_recorded contents s t events receives most old new (Ok count) drove = record {
  run = drove.run;
  received = drove.received;
  few = drove.few;
  stopped = tt;
  worked = drove.worked;
  blamed = tt;
  handed = let hands = drove.handed in
      record { events = hands.events; outcomes = hands.outcomes; required = hands.required; counts = hands.counts; runs = hands.runs; watches = watched contents old.observer new.observer hands.events hands.outcomes hands.watches };
  handed_some = tt;
}
drove_recorded contents s t events receives most old new (Err fault) drove = record {
  run = tt;
  received = tt;
  few = tt;
  stopped = drove.stopped;
  worked = tt;
  blamed = drove.blamed;
  handed = tt;
  handed_some = let hands = drove.handed_some in
      record { events = hands.events; outcomes = hands.outcomes; runs = hands.runs; watches = watched contents old.observer new.observer hands.events hands.outcomes hands.watches };
}

-- nothing more behind it
pub drove_then : {O : Type 0} (notes : O → Event → Outcome → O → Type 0) (s t : Bool) (events : List Event) (receives most : ℕ) (old middle new : Seen O) (made : Result ℕ RunFault)
    → Drove notes s t events receives most old middle made → (s ≡ true → new.tape ≡ middle.tape) → new.failed ≡ middle.failed → new.table ≡ middle.table → new.observer ≡ middle.observer
    → Drove notes s t events receives most old new made
drove_then {O} notes s t events receives most old middle new (Ok count) drove tape failed table observer = record {
  run = λ sc ti.
      subst (λ x. Drives events count old.tape new.tape old.table x) (sym table)
      (subst (λ x. Drives events count old.tape x old.table middle.table) (sym (tape sc)) (drove.run sc ti));
  received = λ sc. ap (λ x. x.coming) (tape sc) ∙ drove.received sc;
  few = drove.few;
  stopped = tt;
  worked = failed ∙ drove.worked;
  blamed = tt;
  handed = let hands = drove.handed in record {
    events = hands.events;
    outcomes = hands.outcomes;
    required = hands.required;
    counts = hands.counts;
    runs = subst (λ x. Runs old.table hands.events hands.outcomes x) (sym table) hands.runs;
    watches = let At : O → Type 0 = λ x. Watches notes old.observer hands.events hands.outcomes x in subst At (sym observer) hands.watches;
  };
  handed_some = tt;
}
drove_then {O} notes s t events receives most old middle new (Err fault) drove tape failed table observer = record {
  run = tt;
  received = tt;
  few = tt;
  stopped = λ sc ti.
      subst (λ x. Stops fault events old.tape new.tape old.table x) (sym table)
      (subst (λ x. Stops fault events old.tape x old.table middle.table) (sym (tape sc)) (drove.stopped sc ti));
  worked = tt;
  blamed = subst (λ x. Blames old.failed x fault) (sym failed) drove.blamed;
  handed = tt;
  handed_some = let hands = drove.handed_some in record {
    events = hands.events;
    outcomes = hands.outcomes;
    runs = subst (λ x. Runs old.table hands.events hands.outcomes x) (sym table) hands.runs;
    watches = let At : O → Type 0 = λ x. Watches notes old.observer hands.events hands.outcomes x in subst At (sym observer) hands.watches;
  };
}

pub later_then : (t : Bool) (made : Result ℕ RunFault) (later last times : List ℕ) → last ≡ later → OnOk made (t ≡ true → later ≡ times) → OnOk made (t ≡ true → last ≡ times)
later_then t (Ok count) later last times same is = λ ti. same ∙ is ti
later_then t (Err fault) later last times same is = tt

pub did_then : {W : Type 0} (contents : W → Option (List ℕ)) (s t : Bool) (times later last : List ℕ) (old middle new : Seen (Noted W)) (made : Option (Result ℕ RunFault))
    → MadeOrNot contents s t times later old middle made → last ≡ later → (s ≡ true → new.tape ≡ middle.tape) → new.failed ≡ middle.failed → new.table ≡ middle.table → new.observer ≡ middle.observer
    → MadeOrNot contents s t times last old new made
did_then contents s t times later last old middle new None did clock tape failed table recorder = record {
  full = did.full;
  times_ms = λ ti. clock ∙ did.times_ms ti;
  tape = λ sc. tape sc ∙ did.tape sc;
  worked = failed ∙ did.worked;
  table = table ∙ did.table;
  unnoted = recorder ∙ did.unnoted;
}
did_then contents s t times later last old middle new (Some made) did clock tape failed table recorder = record {
  drove = drove_then (NotesStep contents) s t _ 1 131 old middle new made did.drove tape failed table recorder;
  times_ms = later_then t made later last _ clock did.times_ms;
}

-- a turn, and what is done behind it
abbrev pub turned_then : {P C D W O E : Type 0} (contents : W → Option (List ℕ)) (s t : Bool) (coming : C → List ℕ) (tape : P → Tape) (failed : P → ℕ) (table : D → DeviceTable) (old middle new : Station P C D W O E)
    → Turned contents s t coming tape failed table old middle → Rests s tape failed middle new → Turned contents s t coming tape failed table old new
turned_then contents s t coming tape failed table old middle new turn rests = record {
  made = turn.made;
  did =
      did_then contents s t (coming old.clock) (coming middle.clock) (coming new.clock) (station_seen tape failed table old) (station_seen tape failed table middle) (station_seen tape failed table new)
      turn.made turn.did (ap coming rests.clock) rests.kept rests.worked (ap table rests.device) (notes_kept middle.observer new.observer rests.recorder rests.reset);
}

-- a turn that was made, and what is done behind it
abbrev pub turn_made : {P C D W O E : Type 0} (contents : W → Option (List ℕ)) (s t : Bool) (coming : C → List ℕ) (tape : P → Tape) (failed : P → ℕ) (table : D → DeviceTable) (old middle new : Station P C D W O E) (made : Result ℕ RunFault)
    → Rests s tape failed middle new
    → Drove (λ one event outcome other. NotesStep contents (noted one) event outcome (noted other)) s t (turn_of (coming old.clock) (tape old.port).coming) 1 131 (seen tape failed table old.port old.device old.observer) (seen tape failed table middle.port middle.device middle.observer) made
    → OnOk made (t ≡ true → coming middle.clock ≡ drop 1 (coming old.clock))
    → Turned contents s t coming tape failed table old new
turn_made contents s t coming tape failed table old middle new made rests drove times =
    turned_then contents s t coming tape failed table old middle new
    (record { made = Some made; did = record { drove = drove_recorded contents s t _ 1 131 _ _ made drove; times_ms = times } })
    rests

-- no turn was made
pub not_turned : {P C D W O E : Type 0} (contents : W → Option (List ℕ)) (s t : Bool) (coming : C → List ℕ) (tape : P → Tape) (failed : P → ℕ) (table : D → DeviceTable) (station : Station P C D W O E)
    → failed station.port ≡ 2 ^ 64 - 1 → Turned contents s t coming tape failed table station station
not_turned contents s t coming tape failed table station full = record { made = None; did = record { full = full; times_ms = λ ti. refl; tape = λ sc. refl; worked = refl; table = refl; unnoted = refl } }

-- what a turn did, the recorder noted
did_record : {P C D W O E : Type 0} (contents : W → Option (List ℕ)) (s t : Bool) (coming : C → List ℕ) (tape : P → Tape) (failed : P → ℕ) (table : D → DeviceTable) (old new : Station P C D W O E) (made : Option (Result ℕ RunFault))
    → Turned contents s t coming tape failed table old new
    → MadeOrNot contents s t (coming old.clock) (coming new.clock) (station_seen tape failed table old) (station_seen tape failed table new) made → Recorded contents s t coming tape failed table old new
did_record contents s t coming tape failed table old new None turn did = record { tasks = AnyTurn ∷ []; does = (new, turn, refl); events = []; outcomes = []; runs = did.table; notes = did.unnoted }
did_record contents s t coming tape failed table old new (Some (Ok count)) turn did =
    let hands = did.drove.handed in record { tasks = AnyTurn ∷ []; does = (new, turn, refl); events = hands.events; outcomes = hands.outcomes; runs = hands.runs; notes = hands.watches }
did_record contents s t coming tape failed table old new (Some (Err fault)) turn did =
    let hands = did.drove.handed_some in record { tasks = AnyTurn ∷ []; does = (new, turn, refl); events = hands.events; outcomes = hands.outcomes; runs = hands.runs; notes = hands.watches }

pub turn_records : {P C D W O E : Type 0} (contents : W → Option (List ℕ)) (s t : Bool) (coming : C → List ℕ) (tape : P → Tape) (failed : P → ℕ) (table : D → DeviceTable) (old new : Station P C D W O E)
    → Turned contents s t coming tape failed table old new → Recorded contents s t coming tape failed table old new
turn_records contents s t coming tape failed table old new turn = did_record contents s t coming tape failed table old new turn.made turn turn.did

-- what a call did, the recorder noted
called_record : {P C D W O E : Type 0} (contents : W → Option (List ℕ)) (s t : Bool) (coming : C → List ℕ) (tape : P → Tape) (failed : P → ℕ) (table : D → DeviceTable) (event : Event) (old new : Station P C D W O E) (made : Result Unit RunFault)
    → Called contents s tape failed table event old new
    → Drove (NotesStep contents) s true (event ∷ []) 0 1 (station_seen tape failed table old) (station_seen tape failed table new) (once made) → Recorded contents s t coming tape failed table old new
called_record contents s t coming tape failed table event old new (Ok done) call drove =
    let hands = drove.handed in record { tasks = AnyCall event ∷ []; does = (new, call, refl); events = hands.events; outcomes = hands.outcomes; runs = hands.runs; notes = hands.watches }
called_record contents s t coming tape failed table event old new (Err fault) call drove =
    let hands = drove.handed_some in record { tasks = AnyCall event ∷ []; does = (new, call, refl); events = hands.events; outcomes = hands.outcomes; runs = hands.runs; notes = hands.watches }

-- the step of a call, and what is done behind it
pub step_then : {P C D W O E : Type 0} (contents : W → Option (List ℕ)) (event : Event) (old middle new : Station P C D W O E) (table : D → DeviceTable)
    → noted new.observer ≡ noted middle.observer → new.device ≡ middle.device
    → Stepped (λ one given outcome other. NotesStep contents (noted one) given outcome (noted other)) event old.observer middle.observer (table old.device) (table middle.device)
    → Stepped (NotesStep contents) event (noted old.observer) (noted new.observer) (table old.device) (table new.device)
step_then {P} {C} {D} {W} {O} {E} contents event old middle new table recorder device stepped = record {
  outcome = stepped.outcome;
  follows = subst (λ (d : D). Follows (step (table old.device) event) (table old.device) stepped.outcome (table d)) (sym device) stepped.follows;
  noted = subst (λ (r : Noted W). NotesStep contents (noted old.observer) event stepped.outcome r) (sym recorder) stepped.noted;
}

pub quiet_then : (s : Bool) (old middle new : Tape) (made : Result Unit RunFault) → (s ≡ true → new ≡ middle) → IsQuiet s old middle made → IsQuiet s old new made
quiet_then s old middle new (Ok done) same quiet = tt
quiet_then s old middle new (Err (run.Port fault)) same quiet = tt
quiet_then s old middle new (Err (run.Step fault)) same quiet = λ sc. same sc ∙ quiet sc

-- a call, and what is done behind it, of which the device sees nothing
abbrev pub call_made : {P C D W O E : Type 0} (contents : W → Option (List ℕ)) (s : Bool) (tape : P → Tape) (failed : P → ℕ) (table : D → DeviceTable) (event : Event) (old middle new : Station P C D W O E) (made : Result Unit RunFault)
    → Rests s tape failed middle new
    → Drove (λ one given outcome other. NotesStep contents (noted one) given outcome (noted other)) s true (event ∷ []) 0 1 (seen tape failed table old.port old.device old.observer) (seen tape failed table middle.port middle.device middle.observer) (once made)
    → Stepped (λ one given outcome other. NotesStep contents (noted one) given outcome (noted other)) event old.observer middle.observer (table old.device) (table middle.device)
    → IsQuiet s (tape old.port) (tape middle.port) made
    → middle.clock ≡ old.clock
    → Called contents s tape failed table event old new
call_made contents s tape failed table event old middle new made rests drove stepped quiet clock = record {
  made = made;
  drove =
      drove_then (NotesStep contents) s true (event ∷ []) 0 1 (station_seen tape failed table old) (station_seen tape failed table middle) (station_seen tape failed table new) (once made)
      (drove_recorded contents s true (event ∷ []) 0 1 _ _ (once made) drove)
      rests.kept rests.worked (ap table rests.device) (notes_kept middle.observer new.observer rests.recorder rests.reset);
  stepped = step_then contents event old middle new table (notes_kept middle.observer new.observer rests.recorder rests.reset) rests.device stepped;
  quiet = quiet_then s (tape old.port) (tape middle.port) (tape new.port) made rests.kept quiet;
  clock = rests.clock ∙ clock;
}

pub call_records : {P C D W O E : Type 0} (contents : W → Option (List ℕ)) (s t : Bool) (coming : C → List ℕ) (tape : P → Tape) (failed : P → ℕ) (table : D → DeviceTable) (event : Event) (old new : Station P C D W O E)
    → Called contents s tape failed table event old new → Recorded contents s t coming tape failed table old new
call_records contents s t coming tape failed table event old new call = called_record contents s t coming tape failed table event old new call.made call call.drove

-- THE STATION GOES ON

turn_goes : (failures more : ℕ) (made : Result ℕ RunFault) → failures_after_turn failures made ≡ Ok more → goes_on (Some made) ≡ true
turn_goes failures more (Ok count) is = refl
turn_goes failures more (Err (run.Port port.Memory)) is = absurd (cc)
turn_goes failures more (Err (run.Port port.Receive)) is = refl
turn_goes failures more (Err (run.Port port.Send)) is = refl
turn_goes failures more (Err (run.Step fault.OutOfMemory)) is = absurd (cc)
turn_goes failures more (Err (run.Step fault.TickTooLong)) is = absurd (cc)
turn_goes failures more (Err (run.Step fault.ClockEnd)) is = absurd (cc)
turn_goes failures more (Err (run.Step fault.NoSuchPoint)) is = absurd (cc)
turn_goes failures more (Err (run.Step fault.WrongLength)) is = absurd (cc)
turn_goes failures more (Err (run.Step fault.NoSuchSlot)) is = absurd (cc)
turn_goes failures more (Err (run.Step fault.NotAllowedNow)) is = absurd (cc)

call_goes : (failures more : ℕ) (made : Result Unit RunFault) → failures_after_call failures made ≡ Ok more → calls_on made ≡ true
call_goes failures more (Ok done) is = refl
call_goes failures more (Err (run.Port fault)) is = refl
call_goes failures more (Err (run.Step fault.OutOfMemory)) is = absurd (cc)
call_goes failures more (Err (run.Step fault.TickTooLong)) is = refl
call_goes failures more (Err (run.Step fault.ClockEnd)) is = refl
call_goes failures more (Err (run.Step fault.NoSuchPoint)) is = refl
call_goes failures more (Err (run.Step fault.WrongLength)) is = refl
call_goes failures more (Err (run.Step fault.NoSuchSlot)) is = refl
call_goes failures more (Err (run.Step fault.NotAllowedNow)) is = refl

-- .. behind a turn
pub went_made : {P C D W O E X : Type 0} (contents : W → Option (List ℕ)) (s t : Bool) (coming : C → List ℕ) (tape : P → Tape) (failed : P → ℕ) (table : D → DeviceTable) (old new : Station P C D W O E) (result : Result X EarlyEnd) (failures more : ℕ) (made : Result ℕ RunFault)
    → (turn : Turned contents s t coming tape failed table old new) → turn.made ≡ Some made
    → OnOk result (failures_after_turn failures made ≡ Ok more)
    → OnOk result (Went contents s t coming tape failed table old new)
went_made contents s t coming tape failed table old new (Ok done) failures more made turn is counted = record { turn = turn; goes = ap goes_on is ∙ turn_goes failures more made counted }
went_made contents s t coming tape failed table old new (Err fault) failures more made turn is counted = tt

pub went_then : {P C D W O E : Type 0} (contents : W → Option (List ℕ)) (s t : Bool) (coming : C → List ℕ) (tape : P → Tape) (failed : P → ℕ) (table : D → DeviceTable) (old middle new : Station P C D W O E)
    → Went contents s t coming tape failed table old middle → Rests s tape failed middle new → Went contents s t coming tape failed table old new
went_then contents s t coming tape failed table old middle new went rests = record { turn = turned_then contents s t coming tape failed table old middle new went.turn rests; goes = went.goes }

-- .. and behind a call
pub called_made : {P C D W O E X : Type 0} (contents : W → Option (List ℕ)) (s : Bool) (tape : P → Tape) (failed : P → ℕ) (table : D → DeviceTable) (event : Event) (old new : Station P C D W O E) (result : Result X EarlyEnd) (failures more : ℕ) (made : Result Unit RunFault)
    → (call : Called contents s tape failed table event old new) → call.made ≡ made
    → OnOk result (failures_after_call failures made ≡ Ok more)
    → OnOk result (CalledOn contents s tape failed table event old new)
called_made contents s tape failed table event old new (Ok done) failures more made call is counted = record { call = call; goes = ap calls_on is ∙ call_goes failures more made counted }
called_made contents s tape failed table event old new (Err fault) failures more made call is counted = tt
