-- What is done in a life, one thing behind another.
use Rattle.std.proofs.Common.{◌≡◌, ℕ, zero, suc, ◌+◌, Bool, List, [], ◌∷◌, ◌++◌, Option, Some, None, Result, Ok, Err, IfOk, OnOk, refl, sym, ap, subst, arith}
use Rattle.cip_events.specs.Clock.{longest_tick}
use Rattle.cip_events.specs.declared.event.Event.{Event}
use Rattle.cip_events.specs.declared.event.Event.TheVariants as event
use Rattle.cip_tables.specs.declared.table.DeviceTable.{DeviceTable}
use Rattle.station.specs.declared.step.LifeEnd.{LifeEnd}
use Rattle.station.specs.declared.step.StationStep.{StationStep}
use Rattle.station.specs.declared.serving.Station.{Station}
use Rattle.station.specs.Ended.{Ended}
use Rattle.station.specs.Lives.{Aged, Closed, EndsLife, Lived, Takes, Took, TookAll, TookMany, TurnsMade, called, end_of, ended_by, number_of, reset_end, starts_of, stops_of, tasks_of, ticks_of, turn_unless, turns_of}
use Rattle.station.specs.Recorded.{CalledOn, Does, Task}
use Rattle.station.specs.Recorded.Task.{Rest, Turn}
use Rattle.station.specs.Rests.{Rests, Unstepped}
use Rattle.station.specs.Turned.{Went}
use Rattle.station.proofs.Noting.{does_on}
use Rattle.udp_runner.specs.Tape.{Tape}

-- what holds anyway
pub always : {X E : Type 0} (result : Result X E) (Q : Type 0) → Q → OnOk result Q
always (Ok x) Q q = q
always (Err fault) Q q = tt

-- what follows if it was done
pub on_ok : {X E : Type 0} (r : Result X E) (Q R : Type 0) → (Q → R) → OnOk r Q → OnOk r R
on_ok (Ok x) Q R then q = then q
on_ok (Err fault) Q R then q = tt

-- nothing, a turn, and nothing that the device sees
pub rested : {P C D W O E : Type 0} (contents : W → Option (List ℕ)) (s t : Bool) (coming : C → List ℕ) (tape : P → Tape) (failed : P → ℕ) (table : D → DeviceTable) (old new : Station P C D W O E) → Rests s tape failed old new → Does contents s t coming tape failed table (Rest ∷ []) old new
rested contents s t coming tape failed table old new rests = (new, rests, refl)

pub turned : {P C D W O E : Type 0} (contents : W → Option (List ℕ)) (s t : Bool) (coming : C → List ℕ) (tape : P → Tape) (failed : P → ℕ) (table : D → DeviceTable) (old new : Station P C D W O E) → Went contents s t coming tape failed table old new → Does contents s t coming tape failed table (Turn ∷ []) old new
turned contents s t coming tape failed table old new turn = (new, turn, refl)

-- a call, and what is printed behind it
pub called_then : {P C D W O E : Type 0} (contents : W → Option (List ℕ)) (s t : Bool) (coming : C → List ℕ) (tape : P → Tape) (failed : P → ℕ) (table : D → DeviceTable) (call : Event) (old middle new : Station P C D W O E) → CalledOn contents s tape failed table call old middle → Rests s tape failed middle new → Does contents s t coming tape failed table (called call) old new
called_then contents s t coming tape failed table call old middle new did rests = (middle, did, (new, rests, refl))

-- nothing, and what is done behind it
pub rested_then : {P C D W O E : Type 0} (contents : W → Option (List ℕ)) (s t : Bool) (coming : C → List ℕ) (tape : P → Tape) (failed : P → ℕ) (table : D → DeviceTable) (tasks : List Task) (old middle new : Station P C D W O E) → Rests s tape failed old middle → Does contents s t coming tape failed table tasks middle new → Does contents s t coming tape failed table (Rest ∷ tasks) old new
rested_then contents s t coming tape failed table tasks old middle new rests did = (middle, rests, did)

-- the same tasks
pub done_as : {P C D W O E : Type 0} (contents : W → Option (List ℕ)) (s t : Bool) (coming : C → List ℕ) (tape : P → Tape) (failed : P → ℕ) (table : D → DeviceTable) (tasks other : List Task) (old new : Station P C D W O E) → other ≡ tasks → Does contents s t coming tape failed table tasks old new → Does contents s t coming tape failed table other old new
done_as {P} {C} {D} {W} {O} {E} contents s t coming tape failed table tasks other old new same did = subst (λ (l : List Task). Does contents s t coming tape failed table l old new) (sym same) did

-- one more of each
pub one_start : (slots : ℕ) → starts_of (slots + 1) ≡ starts_of slots ++ called (event.Start slots)
one_start slots = let next : slots + 1 ≡ suc slots = omega arith in ap starts_of next

pub one_stop : (slots : ℕ) → stops_of (slots + 1) ≡ stops_of slots ++ called (event.Stop slots)
one_stop slots = let next : slots + 1 ≡ suc slots = omega arith in ap stops_of next

pub one_tick : (count : ℕ) → ticks_of (count + 1) ≡ ticks_of count ++ called (event.Tick longest_tick)
one_tick count = let next : count + 1 ≡ suc count = omega arith in ap ticks_of next

pub one_turn : (count : ℕ) → turns_of (count + 1) ≡ turns_of count ++ Turn ∷ []
one_turn count = let next : count + 1 ≡ suc count = omega arith in ap turns_of next

-- a value that was answered
pub ok_of : {X E : Type 0} (r : Result X E) (Q : X → Type 0) (x : X) → r ≡ Ok x → IfOk r Q → Q x
ok_of {X} {E} r Q x is q = let At : Result X E → Type 0 = λ y. IfOk y Q in subst At is q

pub if_ok : {X E : Type 0} (r : Result X E) (Q R : X → Type 0) → ((x : X) → Q x → R x) → IfOk r Q → IfOk r R
if_ok (Ok x) Q R then q = then x q
if_ok (Err fault) Q R then q = tt

-- a step that is an end
pub took_last : {S P C D W O E : Type 0} (contents : W → Option (List ℕ)) (s t : Bool) (coming : C → List ℕ) (tape : P → Tape) (failed : P → ℕ) (table : D → DeviceTable) (gives : S → ℕ → DeviceTable → StationStep → S → Type 0) (taken : StationStep) (end : LifeEnd) (ms : ℕ) (from : S) (old : Station P C D W O E) (to : S) (new : Station P C D W O E)
    → ms ≡ old.observer.now_ms → gives from ms (table old.device) taken to → Some end ≡ end_of taken → Does contents s t coming tape failed table (tasks_of (number_of old) taken) old new
    → Took contents s t coming tape failed table gives (Some end) from old to new
took_last contents s t coming tape failed table gives taken end ms from old to new at came ends work = record {
  taken = taken;
  comes = subst (λ (n : ℕ). gives from n (table old.device) taken to) at came;
  ends = ap (ended_by new.observer.reset) ends;
  does = subst (λ (x : Option LifeEnd). Does contents s t coming tape failed table (tasks_of (number_of old) taken ++ turn_unless x) old new) ends
      (does_on contents s t coming tape failed table old new new (tasks_of (number_of old) taken) [] work refl);
}

-- a step that is no end, and the turn behind it
pub took_one : {S P C D W O E : Type 0} (contents : W → Option (List ℕ)) (s t : Bool) (coming : C → List ℕ) (tape : P → Tape) (failed : P → ℕ) (table : D → DeviceTable) (gives : S → ℕ → DeviceTable → StationStep → S → Type 0) (taken : StationStep) (ms : ℕ) (from : S) (old middle : Station P C D W O E) (to : S) (new : Station P C D W O E)
    → ms ≡ old.observer.now_ms → gives from ms (table old.device) taken to → None ≡ end_of taken → Does contents s t coming tape failed table (tasks_of (number_of old) taken) old middle → Went contents s t coming tape failed table middle new
    → Took contents s t coming tape failed table gives (reset_end new.observer.reset) from old to new
took_one contents s t coming tape failed table gives taken ms from old middle to new at came ends work turn = record {
  taken = taken;
  comes = subst (λ (n : ℕ). gives from n (table old.device) taken to) at came;
  ends = ap (ended_by new.observer.reset) ends;
  does = subst (λ (x : Option LifeEnd). Does contents s t coming tape failed table (tasks_of (number_of old) taken ++ turn_unless x) old new) ends
      (does_on contents s t coming tape failed table old middle new (tasks_of (number_of old) taken) (Turn ∷ []) work (turned contents s t coming tape failed table middle new turn));
}

pub took_as : {S P C D W O E : Type 0} (contents : W → Option (List ℕ)) (s t : Bool) (coming : C → List ℕ) (tape : P → Tape) (failed : P → ℕ) (table : D → DeviceTable) (gives : S → ℕ → DeviceTable → StationStep → S → Type 0) (end other : Option LifeEnd) (from : S) (old : Station P C D W O E) (to : S) (new : Station P C D W O E)
    → end ≡ other → Took contents s t coming tape failed table gives end from old to new → Took contents s t coming tape failed table gives other from old to new
took_as contents s t coming tape failed table gives end other from old to new same took = subst (λ (x : Option LifeEnd). Took contents s t coming tape failed table gives x from old to new) same took

pub took_none : {S P C D W O E : Type 0} (contents : W → Option (List ℕ)) (s t : Bool) (coming : C → List ℕ) (tape : P → Tape) (failed : P → ℕ) (table : D → DeviceTable) (gives : S → ℕ → DeviceTable → StationStep → S → Type 0) (from : S) (old : Station P C D W O E) → TookMany contents s t coming tape failed table gives zero from old from old
took_none contents s t coming tape failed table gives from old = (refl, refl)

pub took_more : {S P C D W O E : Type 0} (contents : W → Option (List ℕ)) (s t : Bool) (coming : C → List ℕ) (tape : P → Tape) (failed : P → ℕ) (table : D → DeviceTable) (gives : S → ℕ → DeviceTable → StationStep → S → Type 0) (count : ℕ) (from : S) (old : Station P C D W O E) (at : S) (mid : Station P C D W O E) (to : S) (new : Station P C D W O E)
    → TookMany contents s t coming tape failed table gives count from old at mid → Took contents s t coming tape failed table gives None at mid to new → TookMany contents s t coming tape failed table gives (count + 1) from old to new
took_more contents s t coming tape failed table gives count from old at mid to new many one =
    let next : suc count ≡ count + 1 = omega arith in
    let all : TookMany contents s t coming tape failed table gives (suc count) from old to new = (at, mid, many, one) in
    subst (λ (n : ℕ). TookMany contents s t coming tape failed table gives n from old to new) next all

pub takes_all : {S P C D W O E : Type 0} (contents : W → Option (List ℕ)) (s t : Bool) (coming : C → List ℕ) (tape : P → Tape) (failed : P → ℕ) (table : D → DeviceTable) (gives : S → ℕ → DeviceTable → StationStep → S → Type 0) (count : ℕ) (end : LifeEnd) (from : S) (old : Station P C D W O E) (at : S) (mid : Station P C D W O E) (to : S) (new : Station P C D W O E)
    → TookMany contents s t coming tape failed table gives count from old at mid → Took contents s t coming tape failed table gives (Some end) at mid to new → Takes contents s t coming tape failed table gives end from old to new
takes_all contents s t coming tape failed table gives count end from old at mid to new many last = record { count = count; at = at; mid = mid; many = many; last = last }

pub took_all : {S P C D W O E : Type 0} (contents : W → Option (List ℕ)) (s t : Bool) (coming : C → List ℕ) (tape : P → Tape) (failed : P → ℕ) (table : D → DeviceTable) (gives : S → ℕ → DeviceTable → StationStep → S → Type 0) (slots : ℕ) (end : LifeEnd) (from : S) (old begun : Station P C D W O E) (to : S) (new : Station P C D W O E)
    → Does contents s t coming tape failed table (Rest ∷ starts_of slots) old begun → Takes contents s t coming tape failed table gives end from begun to new → TookAll contents s t coming tape failed table gives slots end from old to new
took_all contents s t coming tape failed table gives slots end from old begun to new begins takes = record { begun = begun; begins = begins; takes = takes }

pub lived_so : {S P C D W O E : Type 0} (contents : W → Option (List ℕ)) (s t : Bool) (coming : C → List ℕ) (tape : P → Tape) (failed : P → ℕ) (table : D → DeviceTable) (gives : S → ℕ → DeviceTable → StationStep → S → Type 0) (slots : ℕ) (end ended : LifeEnd) (from : S) (old last : Station P C D W O E) (to : S) (new : Station P C D W O E)
    → TookAll contents s t coming tape failed table gives slots end from old to last → EndsLife contents s t coming tape failed table slots end ended last new → Lived contents s t coming tape failed table gives slots ended from old to new
lived_so contents s t coming tape failed table gives slots end ended from old last to new takes ends =
    let all : Lived contents s t coming tape failed table gives slots end from old to new = record { last = last; takes = takes; closes = ends.closes } in
    subst (λ (x : LifeEnd). Lived contents s t coming tape failed table gives slots x from old to new) (sym ends.same) all

pub all_closed : {P C D W O E : Type 0} (contents : W → Option (List ℕ)) (s t : Bool) (coming : C → List ℕ) (tape : P → Tape) (failed : P → ℕ) (table : D → DeviceTable) (slots : ℕ) (old aged stopped waited new : Station P C D W O E)
    → Aged contents s t coming tape failed table old aged → Does contents s t coming tape failed table (stops_of slots) aged stopped → TurnsMade contents s t coming tape failed table stopped waited → Unstepped waited new → Ended s tape failed table waited new
    → Closed contents s t coming tape failed table slots old new
all_closed contents s t coming tape failed table slots old aged stopped waited new ages stops waits rests ends = record { aged = aged; ages = ages; stopped = stopped; stops = stops; waited = waited; waits = waits; ends = ends; rests = rests }
