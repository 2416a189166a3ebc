-- Runs whose events a recorder notes, one behind another.
use Rattle.std.proofs.Common.{◌≡◌, ℕ, List, [], ◌∷◌, ◌++◌, Bool, Option, Result, Ok, Err, OnOk, refl, ap, subst, ◌∙◌}
use Rattle.cip_events.specs.declared.event.Event.{Event}
use Rattle.cip_events.specs.Outcomes.{Outcome}
use Rattle.cip_tables.specs.declared.table.DeviceTable.{DeviceTable}
use Rattle.cip_tables.specs.Run.{Runs}
use Rattle.station_record.specs.declared.recorder.Recorder.{Recorder}
use Rattle.station.specs.declared.observer.StationObserver.{StationObserver}
use Rattle.station.specs.declared.serving.Station.{Station}
use Rattle.station.specs.declared.fault.EarlyEnd.{EarlyEnd}
use Rattle.station.specs.Ended.{Ended}
use Rattle.station.specs.Recorded.{Task, Does, Recorded}
use Rattle.station.specs.Recorded.Task.{End, BrokenEnd, Rest}
use Rattle.station.specs.Noted.{NotesStep, Noted, noted}
use Rattle.station.specs.Rests.{Rests, Unstepped}
use Rattle.udp_runner.specs.Handing.{Watches}
use Rattle.udp_runner.specs.Tape.{Tape}

-- two runs, one behind the other
pub runs_on : (first second third : DeviceTable) (events more : List Event) (outcomes others : List Outcome) → Runs first events outcomes second → Runs second more others third → Runs first (events ++ more) (outcomes ++ others) third
runs_on first second third [] more [] others one two = subst (λ t. Runs t more others third) one two
runs_on first second third [] more (outcome ∷ outcomes) others one two = absurd one
runs_on first second third (event ∷ events) more [] others one two = absurd one
runs_on first second third (event ∷ events) more (outcome ∷ outcomes) others (mid, step, rest) two = (mid, step, runs_on mid second third events more outcomes others rest two)

pub watches_on : {O : Type 0} (notes : O → Event → Outcome → O → Type 0) (first second third : O) (events more : List Event) (outcomes others : List Outcome) → Watches notes first events outcomes second → Watches notes second more others third → Watches notes first (events ++ more) (outcomes ++ others) third
watches_on notes first second third [] more [] others one two = subst (λ o. Watches notes o more others third) one two
watches_on notes first second third [] more (outcome ∷ outcomes) others one two = absurd one
watches_on notes first second third (event ∷ events) more [] others one two = absurd one
watches_on notes first second third (event ∷ events) more (outcome ∷ outcomes) others (mid, noted, rest) two = (mid, noted, watches_on notes mid second third events more outcomes others rest two)

-- two lists of things that a station did, one behind the other
pub does_on : {P C D W O E : Type 0} (contents : W → Option (List ℕ)) (s t : Bool) (coming : C → List ℕ) (tape : P → Tape) (failed : P → ℕ) (table : D → DeviceTable) (first second third : Station P C D W O E) (tasks more : List Task) → Does contents s t coming tape failed table tasks first second → Does contents s t coming tape failed table more second third → Does contents s t coming tape failed table (tasks ++ more) first third
does_on {P} {C} {D} {W} {O} {E} contents s t coming tape failed table first second third [] more one two = let At : Station P C D W O E → Type 0 = λ x. Does contents s t coming tape failed table more x third in subst At one two
does_on contents s t coming tape failed table first second third (task ∷ tasks) more (mid, did, rest) two = (mid, did, does_on contents s t coming tape failed table mid second third tasks more rest two)

abbrev made_notes : {W : Type 0} → Recorder W → Bool → Noted W
made_notes recorder reset = record { recorder = recorder; reset = reset }

-- the same notes
same_notes : {W : Type 0} (one other : Recorder W) (reset set : Bool) → one ≡ other → reset ≡ set → made_notes one reset ≡ made_notes other set
same_notes one other reset set recorder granted = ap (λ r. made_notes r reset) recorder ∙ ap (made_notes other) granted

pub notes_kept : {W O E : Type 0} (old new : StationObserver W O E) → new.recorder ≡ old.recorder → new.reset ≡ old.reset → noted new ≡ noted old
notes_kept old new recorder reset = same_notes new.recorder old.recorder new.reset old.reset recorder reset

-- nothing
pub at_rest : {P C D W O E : Type 0} (contents : W → Option (List ℕ)) (s t : Bool) (coming : C → List ℕ) (tape : P → Tape) (failed : P → ℕ) (table : D → DeviceTable) (old new : Station P C D W O E) → Rests s tape failed old new → Recorded contents s t coming tape failed table old new
at_rest contents s t coming tape failed table old new rests = record { tasks = Rest ∷ []; does = (new, rests, refl); events = []; outcomes = []; runs = ap table rests.device; notes = notes_kept old.observer new.observer rests.recorder rests.reset }

pub unmoved : {P C D W O E : Type 0} (contents : W → Option (List ℕ)) (s t : Bool) (coming : C → List ℕ) (tape : P → Tape) (failed : P → ℕ) (table : D → DeviceTable) (old new : Station P C D W O E) → new.observer.recorder ≡ old.observer.recorder → new.observer.reset ≡ old.observer.reset → new.device ≡ old.device → new.clock ≡ old.clock → new.port ≡ old.port → Recorded contents s t coming tape failed table old new
unmoved contents s t coming tape failed table old new recorder reset device clock port = at_rest contents s t coming tape failed table old new (record { recorder = recorder; reset = reset; device = device; clock = clock; kept = λ sc. ap tape port; worked = ap failed port })

-- the end of the sessions
pub ended : {P C D W O E : Type 0} (contents : W → Option (List ℕ)) (s t : Bool) (coming : C → List ℕ) (tape : P → Tape) (failed : P → ℕ) (table : D → DeviceTable) (old new : Station P C D W O E) → Unstepped old new → Ended s tape failed table old new → Recorded contents s t coming tape failed table old new
ended contents s t coming tape failed table old new rests ends = record { tasks = End ∷ []; does = (new, (ends, rests), refl); events = []; outcomes = []; runs = ap table rests.device; notes = notes_kept old.observer new.observer rests.recorder rests.reset }

pub broken : {P C D W O E : Type 0} (contents : W → Option (List ℕ)) (s t : Bool) (coming : C → List ℕ) (tape : P → Tape) (failed : P → ℕ) (table : D → DeviceTable) (old new : Station P C D W O E) → Unstepped old new → Recorded contents s t coming tape failed table old new
broken contents s t coming tape failed table old new rests = record { tasks = BrokenEnd ∷ []; does = (new, rests, refl); events = []; outcomes = []; runs = ap table rests.device; notes = notes_kept old.observer new.observer rests.recorder rests.reset }

pub ended_or_broken : {P C D W O E : Type 0} (contents : W → Option (List ℕ)) (s t : Bool) (coming : C → List ℕ) (tape : P → Tape) (failed : P → ℕ) (table : D → DeviceTable) (old new : Station P C D W O E) (result : Result Unit EarlyEnd) → Unstepped old new → OnOk result (Ended s tape failed table old new) → Recorded contents s t coming tape failed table old new
ended_or_broken contents s t coming tape failed table old new (Ok done) rests ends = ended contents s t coming tape failed table old new rests ends
ended_or_broken contents s t coming tape failed table old new (Err fault) rests ends = broken contents s t coming tape failed table old new rests

-- one run behind another
pub recorded_on : {P C D W O E : Type 0} (contents : W → Option (List ℕ)) (s t : Bool) (coming : C → List ℕ) (tape : P → Tape) (failed : P → ℕ) (table : D → DeviceTable) (old middle new : Station P C D W O E) → Recorded contents s t coming tape failed table old middle → Recorded contents s t coming tape failed table middle new → Recorded contents s t coming tape failed table old new
recorded_on contents s t coming tape failed table old middle new one two = record {
  tasks = one.tasks ++ two.tasks;
  does = does_on contents s t coming tape failed table old middle new one.tasks two.tasks one.does two.does;
  events = one.events ++ two.events;
  outcomes = one.outcomes ++ two.outcomes;
  runs = runs_on _ _ _ one.events two.events one.outcomes two.outcomes one.runs two.runs;
  notes = watches_on (NotesStep contents) _ _ _ one.events two.events one.outcomes two.outcomes one.notes two.notes;
}

-- nothing more behind a run
pub recorded_then : {P C D W O E : Type 0} (contents : W → Option (List ℕ)) (s t : Bool) (coming : C → List ℕ) (tape : P → Tape) (failed : P → ℕ) (table : D → DeviceTable) (old middle new : Station P C D W O E) → Recorded contents s t coming tape failed table old middle → Rests s tape failed middle new → Recorded contents s t coming tape failed table old new
recorded_then contents s t coming tape failed table old middle new one rests = recorded_on contents s t coming tape failed table old middle new one (at_rest contents s t coming tape failed table middle new rests)

-- what a station's observer is handed, it notes
pub watched : {W O E : Type 0} (contents : W → Option (List ℕ)) (old new : StationObserver W O E) (events : List Event) (outcomes : List Outcome) → Watches (λ one event outcome other. NotesStep contents (noted one) event outcome (noted other)) old events outcomes new → Watches (NotesStep contents) (noted old) events outcomes (noted new)
watched contents old new [] [] is = ap noted is
watched contents old new [] (outcome ∷ outcomes) is = absurd is
watched contents old new (event ∷ events) [] is = absurd is
watched contents old new (event ∷ events) (outcome ∷ outcomes) (mid, one, rest) = (noted mid, one, watched contents mid new events outcomes rest)
