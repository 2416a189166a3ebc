-- Tasks at a scripted port and a scripted clock are exact.
use Rattle.std.proofs.Common.{◌≡◌, ℕ, ◌+◌, ◌≤◌, Bool, true, List, [], ◌∷◌, ◌++◌, drop, Option, Some, None, Result, Ok, Err, refl, sym, ap, subst, ◌∙◌, append-nil, append_assoc, arith}
use Rattle.cip_events.specs.declared.arrival.Arrival.{Arrival}
use Rattle.cip_events.specs.declared.event.Answer.{Answer}
use Rattle.cip_events.specs.declared.event.Event.{Event}
use Rattle.cip_events.specs.declared.event.StepFault.{StepFault}
use Rattle.cip_events.specs.declared.event.StepFault.TheVariants as fault
use Rattle.cip_events.specs.Outcomes.{Follows, Outcome}
use Rattle.cip_tables.specs.declared.table.DeviceTable.{DeviceTable}
use Rattle.cip_tables.specs.Run.{Runs, table_after, table_of}
use Rattle.cip_tables.specs.Step.{step}
use Rattle.scanner_table.specs.declared.table.Session.{Session}
use Rattle.station.specs.declared.serving.Station.{Station}
use Rattle.station.specs.Ended.{Ended, with_ends}
use Rattle.station.specs.Exact.{Exactly, IsExact, TasksAreExact, are_whole, events_of, left_of, sent_of}
use Rattle.station.specs.Recorded.{Called, Does, Task, calls_on}
use Rattle.station.specs.Recorded.Task.{AnyCall, AnyTurn, BrokenEnd, Call, End, Rest, Turn}
use Rattle.station.specs.Noted.{NotesStep, Noted, noted}
use Rattle.station.specs.Rests.{Rests, Unstepped}
use Rattle.station.specs.Sessions.{ends_of, sessions_of}
use Rattle.station.specs.Turned.{MadeOrNot, Turned, goes_on, station_seen}
use Rattle.station.proofs.Noting.{notes_kept, runs_on, watches_on}
use Rattle.udp_runner.specs.declared.fault.PortFault.TheVariants as port
use Rattle.udp_runner.specs.declared.fault.RunFault.{RunFault}
use Rattle.udp_runner.specs.declared.fault.RunFault.TheVariants as run
use Rattle.udp_runner.specs.declared.output.SentOutput.{SentOutput}
use Rattle.udp_runner.specs.Driving.{Drove, IsQuiet, Seen, once}
use Rattle.udp_runner.specs.Handing.{Watches}
use Rattle.udp_runner.specs.Tape.{Tape, with_sent}
use Rattle.udp_runner.specs.Turns.{Drives, Stops, StopsStepping, all_sent, step_sent, turn_of}

-- ONE TASK

-- nothing but some outputs
quiet_exact : {P C D W O E : Type 0} (contents : W → Option (List ℕ)) (coming : C → List ℕ) (tape : P → Tape) (table : D → DeviceTable) (sent : List SentOutput) (old new : Station P C D W O E)
    → noted new.observer ≡ noted old.observer → new.device ≡ old.device → new.clock ≡ old.clock → (tape new.port).coming ≡ (tape old.port).coming → (tape new.port).sent ≡ (tape old.port).sent ++ sent
    → Exactly contents coming tape table [] sent (coming old.clock) (tape old.port).coming old new
quiet_exact contents coming tape table sent old new recorder device clock arrivals sends = record {
  leads = ap table device;
  times_left = ap coming clock;
  arrivals_left = arrivals;
  sends = sends;
  outcomes = [];
  runs = ap table device;
  notes = recorder;
}

rest_exact : {P C D W O E : Type 0} (contents : W → Option (List ℕ)) (s t : Bool) (coming : C → List ℕ) (tape : P → Tape) (failed : P → ℕ) (table : D → DeviceTable) (old new : Station P C D W O E)
    → s ≡ true → Rests s tape failed old new → Exactly contents coming tape table [] [] (coming old.clock) (tape old.port).coming old new
rest_exact contents s t coming tape failed table old new es rests =
    let same : tape new.port ≡ tape old.port = rests.kept es in
    quiet_exact contents coming tape table [] old new (notes_kept old.observer new.observer rests.recorder rests.reset) rests.device rests.clock (ap (λ (x : Tape). x.coming) same) (ap (λ (x : Tape). x.sent) same ∙ sym (append-nil (tape old.port).sent))

-- the end of sessions
ends_come : (one : Tape) (sessions : List Session) → (with_ends one sessions).coming ≡ one.coming
ends_come one [] = refl
ends_come one (session ∷ sessions) = ends_come (with_sent one (ends_of (session ∷ []))) sessions

ends_sent : (one : Tape) (sessions : List Session) → (with_ends one sessions).sent ≡ one.sent ++ ends_of sessions
ends_sent one [] = sym (append-nil one.sent)
ends_sent one (session ∷ sessions) = ends_sent (with_sent one (ends_of (session ∷ []))) sessions ∙ append_assoc one.sent (ends_of (session ∷ [])) (ends_of sessions)

end_exact : {P C D W O E : Type 0} (contents : W → Option (List ℕ)) (s t : Bool) (coming : C → List ℕ) (tape : P → Tape) (failed : P → ℕ) (table : D → DeviceTable) (old new : Station P C D W O E)
    → s ≡ true → failed new.port ≡ failed old.port → Ended s tape failed table old new → Unstepped old new
    → Exactly contents coming tape table [] (ends_of (sessions_of (table old.device))) (coming old.clock) (tape old.port).coming old new
end_exact contents s t coming tape failed table old new es same ends rests =
    let left : tape new.port ≡ with_ends (tape old.port) (sessions_of (table old.device)) = ends.sends es same in
    quiet_exact contents coming tape table (ends_of (sessions_of (table old.device))) old new (notes_kept old.observer new.observer rests.recorder rests.reset) rests.device ends.clock
    (ap (λ (x : Tape). x.coming) left ∙ ends_come (tape old.port) (sessions_of (table old.device)))
    (ap (λ (x : Tape). x.sent) left ∙ ends_sent (tape old.port) (sessions_of (table old.device)))

-- a turn
made_exact : {P C D W O E : Type 0} (contents : W → Option (List ℕ)) (s t : Bool) (coming : C → List ℕ) (tape : P → Tape) (failed : P → ℕ) (table : D → DeviceTable) (old new : Station P C D W O E) (made : Option (Result ℕ RunFault))
    → s ≡ true → t ≡ true → failed new.port ≡ failed old.port → goes_on made ≡ true
    → MadeOrNot contents s t (coming old.clock) (coming new.clock) (station_seen tape failed table old) (station_seen tape failed table new) made
    → Exactly contents coming tape table (turn_of (coming old.clock) (tape old.port).coming) (all_sent (table old.device) (turn_of (coming old.clock) (tape old.port).coming)) (drop 1 (coming old.clock)) (drop 1 (tape old.port).coming) old new
made_exact contents s t coming tape failed table old new None es et same goes did = absurd (cc)
made_exact contents s t coming tape failed table old new (Some (Err (run.Port port.Memory))) es et same goes did = absurd (cc)
made_exact contents s t coming tape failed table old new (Some (Err (run.Port port.Receive))) es et same goes did = let blamed : failed new.port ≡ failed old.port + 1 = did.drove.blamed in absurd (omega (arith, blamed, same))
made_exact contents s t coming tape failed table old new (Some (Err (run.Port port.Send))) es et same goes did = let blamed : failed new.port ≡ failed old.port + 1 = did.drove.blamed in absurd (omega (arith, blamed, same))
made_exact contents s t coming tape failed table old new (Some (Err (run.Step fault))) es et same goes did = absurd (cc)
made_exact {P} {C} {D} {W} {O} {E} contents s t coming tape failed table old new (Some (Ok count)) es et same goes did =
    let events : List Event = turn_of (coming old.clock) (tape old.port).coming in
    let drives : Drives events count (tape old.port) (tape new.port) (table old.device) (table new.device) = did.drove.run es et in
    let hands = did.drove.handed in
    let given : hands.events ≡ events = hands.required es et in
    record {
      leads = drives.table;
      times_left = did.times_ms et;
      arrivals_left = did.drove.received es;
      sends = drives.sends;
      outcomes = hands.outcomes;
      runs = subst (λ (l : List Event). Runs (table old.device) l hands.outcomes (table new.device)) given hands.runs;
      notes = subst (λ (l : List Event). Watches (NotesStep contents) (noted old.observer) l hands.outcomes (noted new.observer)) given hands.watches;
    }

-- a call that the device takes, or refuses
known_refusal : (f : StepFault) (said : Result (Answer × DeviceTable) StepFault) (old new : DeviceTable) → calls_on (Err (run.Step f)) ≡ true → Follows said old (Err f) new → (said ≡ Err f) × (new ≡ old)
known_refusal fault.OutOfMemory said old new goes follows = absurd (cc)
known_refusal fault.TickTooLong said old new goes follows = follows
known_refusal fault.ClockEnd said old new goes follows = follows
known_refusal fault.NoSuchPoint said old new goes follows = follows
known_refusal fault.WrongLength said old new goes follows = follows
known_refusal fault.NoSuchSlot said old new goes follows = follows
known_refusal fault.NotAllowedNow said old new goes follows = follows

alone : (event refused : Event) (done left rest : List Event) → event ∷ [] ≡ done ++ left → left ≡ refused ∷ rest → (done ≡ []) × (refused ≡ event)
alone event refused [] left rest parts next = (refl, cc)
alone event refused (one ∷ []) left rest parts next = let none : [] ≡ left = cc in absurd (cc)
alone event refused (one ∷ (two ∷ done)) left rest parts next = let none : [] ≡ two ∷ (done ++ left) = cc in absurd (cc)

refused_so : (f : StepFault) (event : Event) (old new : Tape) (before after : DeviceTable) → calls_on (Err (run.Step f)) ≡ true → Stops (run.Step f) (event ∷ []) old new before after → (step before event ≡ Err f) × (after ≡ before)
refused_so f event old new before after goes stops =
    let halts : StopsStepping f stops.left stops.middle new (table_after before stops.done) after = stops.halts in
    let parts = alone event halts.refused stops.done stops.left halts.left stops.parts halts.parts in
    let at_done : Follows (step (table_after before []) halts.refused) (table_after before []) (Err f) after = subst (λ (l : List Event). Follows (step (table_after before l) halts.refused) (table_after before l) (Err f) after) parts.0 halts.follows in
    known_refusal f (step before event) before after goes (subst (λ (e : Event). Follows (step before e) before (Err f) after) parts.1 at_done)

call_exact : {P C D W O E : Type 0} (contents : W → Option (List ℕ)) (s t : Bool) (coming : C → List ℕ) (tape : P → Tape) (failed : P → ℕ) (table : D → DeviceTable) (event : Event) (old new : Station P C D W O E) (made : Result Unit RunFault) (call : Called contents s tape failed table event old new)
    → s ≡ true → failed new.port ≡ failed old.port → calls_on made ≡ true
    → Drove (NotesStep contents) s true (event ∷ []) 0 1 (station_seen tape failed table old) (station_seen tape failed table new) (once made) → IsQuiet s (tape old.port) (tape new.port) made
    → Exactly contents coming tape table (event ∷ []) (all_sent (table old.device) (event ∷ [])) (coming old.clock) (tape old.port).coming old new
call_exact contents s t coming tape failed table event old new (Err (run.Port fault)) call es same goes drove quiet = let blamed : failed new.port ≡ failed old.port + 1 = drove.blamed in absurd (omega (arith, blamed, same))
call_exact contents s t coming tape failed table event old new (Ok done) call es same goes drove quiet =
    let drives : Drives (event ∷ []) 1 (tape old.port) (tape new.port) (table old.device) (table new.device) = drove.run es refl in
    record {
      leads = drives.table;
      times_left = ap coming call.clock;
      arrivals_left = drove.received es;
      sends = drives.sends;
      outcomes = call.stepped.outcome ∷ [];
      runs = (table new.device, call.stepped.follows, refl);
      notes = (noted new.observer, call.stepped.noted, refl);
    }
call_exact contents s t coming tape failed table event old new (Err (run.Step f)) call es same goes drove quiet =
    let refused = refused_so f event (tape old.port) (tape new.port) (table old.device) (table new.device) goes (drove.stopped es refl) in
    let kept : tape new.port ≡ tape old.port = quiet es in
    let nothing : all_sent (table old.device) (event ∷ []) ≡ [] = ap (λ (x : Result (Answer × DeviceTable) StepFault). step_sent x ++ []) refused.0 in
    record {
      leads = refused.1 ∙ sym (ap (table_of (table old.device)) refused.0);
      times_left = ap coming call.clock;
      arrivals_left = ap (λ (x : Tape). x.coming) kept;
      sends = ap (λ (x : Tape). x.sent) kept ∙ (sym (append-nil (tape old.port).sent) ∙ ap (λ (l : List SentOutput). (tape old.port).sent ++ l) (sym nothing));
      outcomes = call.stepped.outcome ∷ [];
      runs = (table new.device, call.stepped.follows, refl);
      notes = (noted new.observer, call.stepped.noted, refl);
    }

-- ONE BEHIND ANOTHER

after_on : (one : DeviceTable) (events more : List Event) → table_after one (events ++ more) ≡ table_after (table_after one events) more
after_on one [] more = refl
after_on one (event ∷ events) more = after_on (table_of one (step one event)) events more

join : {P C D W O E : Type 0} (contents : W → Option (List ℕ)) (coming : C → List ℕ) (tape : P → Tape) (table : D → DeviceTable) (events more : List Event) (sent others : List SentOutput) (times later : List ℕ) (arrivals left : List (Option Arrival)) (old middle new : Station P C D W O E)
    → Exactly contents coming tape table events sent times arrivals old middle → Exactly contents coming tape table more others later left middle new → Exactly contents coming tape table (events ++ more) (sent ++ others) later left old new
join contents coming tape table events more sent others times later arrivals left old middle new one two = record {
  leads = two.leads ∙ (ap (λ (d : DeviceTable). table_after d more) one.leads ∙ sym (after_on (table old.device) events more));
  times_left = two.times_left;
  arrivals_left = two.arrivals_left;
  sends = two.sends ∙ (ap (λ (l : List SentOutput). l ++ others) one.sends ∙ append_assoc (tape old.port).sent sent others);
  outcomes = one.outcomes ++ two.outcomes;
  runs = runs_on _ _ _ events more one.outcomes two.outcomes one.runs two.runs;
  notes = watches_on (NotesStep contents) _ _ _ events more one.outcomes two.outcomes one.notes two.notes;
}

-- the tasks behind one, of what it leaves
ahead : {P C D W O E : Type 0} (contents : W → Option (List ℕ)) (coming : C → List ℕ) (tape : P → Tape) (table : D → DeviceTable) (tasks : List Task) (times : List ℕ) (arrivals : List (Option Arrival)) (at : DeviceTable) (middle new : Station P C D W O E)
    → coming middle.clock ≡ times → (tape middle.port).coming ≡ arrivals → table middle.device ≡ at → IsExact contents coming tape table tasks middle new
    → Exactly contents coming tape table (events_of tasks times arrivals) (sent_of tasks at times arrivals) (left_of tasks times) (left_of tasks arrivals) middle new
ahead contents coming tape table tasks times arrivals at middle new et ea ed exact =
    subst (λ (d : DeviceTable). Exactly contents coming tape table (events_of tasks times arrivals) (sent_of tasks d times arrivals) (left_of tasks times) (left_of tasks arrivals) middle new) ed
    (subst (λ (a : List (Option Arrival)). Exactly contents coming tape table (events_of tasks times a) (sent_of tasks (table middle.device) times a) (left_of tasks times) (left_of tasks a) middle new) ea
    (subst (λ (l : List ℕ). Exactly contents coming tape table (events_of tasks l (tape middle.port).coming) (sent_of tasks (table middle.device) l (tape middle.port).coming) (left_of tasks l) (left_of tasks (tape middle.port).coming) middle new) et exact))

one_ahead : {P C D W O E : Type 0} (contents : W → Option (List ℕ)) (coming : C → List ℕ) (tape : P → Tape) (table : D → DeviceTable) (tasks : List Task) (events : List Event) (sent : List SentOutput) (times : List ℕ) (arrivals : List (Option Arrival)) (old middle new : Station P C D W O E)
    → Exactly contents coming tape table events sent times arrivals old middle → IsExact contents coming tape table tasks middle new
    → Exactly contents coming tape table (events ++ events_of tasks times arrivals) (sent ++ sent_of tasks (table_after (table old.device) events) times arrivals) (left_of tasks times) (left_of tasks arrivals) old new
one_ahead contents coming tape table tasks events sent times arrivals old middle new one exact =
    join contents coming tape table events (events_of tasks times arrivals) sent (sent_of tasks (table_after (table old.device) events) times arrivals) times (left_of tasks times) arrivals (left_of tasks arrivals) old middle new one
    (ahead contents coming tape table tasks times arrivals (table_after (table old.device) events) middle new one.times_left one.arrivals_left one.leads exact)

-- FAILURES NEVER FALL

drove_rises : {O : Type 0} (notes : O → Event → Outcome → O → Type 0) (s t : Bool) (events : List Event) (receives most : ℕ) (old new : Seen O) (made : Result ℕ RunFault) → Drove notes s t events receives most old new made → old.failed ≤ new.failed
drove_rises notes s t events receives most old new (Ok count) drove = let worked : new.failed ≡ old.failed = drove.worked in omega (arith, worked)
drove_rises notes s t events receives most old new (Err (run.Port fault)) drove = let blamed : new.failed ≡ old.failed + 1 = drove.blamed in omega (arith, blamed)
drove_rises notes s t events receives most old new (Err (run.Step fault)) drove = let blamed : new.failed ≡ old.failed = drove.blamed in omega (arith, blamed)

made_rises : {W : Type 0} (contents : W → Option (List ℕ)) (s t : Bool) (times later : List ℕ) (old new : Seen (Noted W)) (made : Option (Result ℕ RunFault)) → MadeOrNot contents s t times later old new made → old.failed ≤ new.failed
made_rises contents s t times later old new None did = omega (arith, did.worked)
made_rises contents s t times later old new (Some made) did = drove_rises (NotesStep contents) s t _ 1 131 old new made did.drove

turn_rises : {P C D W O E : Type 0} (contents : W → Option (List ℕ)) (s t : Bool) (coming : C → List ℕ) (tape : P → Tape) (failed : P → ℕ) (table : D → DeviceTable) (old new : Station P C D W O E) → Turned contents s t coming tape failed table old new → failed old.port ≤ failed new.port
turn_rises contents s t coming tape failed table old new turn = made_rises contents s t (coming old.clock) (coming new.clock) (station_seen tape failed table old) (station_seen tape failed table new) turn.made turn.did

call_rises : {P C D W O E : Type 0} (contents : W → Option (List ℕ)) (s : Bool) (tape : P → Tape) (failed : P → ℕ) (table : D → DeviceTable) (event : Event) (old new : Station P C D W O E) → Called contents s tape failed table event old new → failed old.port ≤ failed new.port
call_rises contents s tape failed table event old new call = drove_rises (NotesStep contents) s true (event ∷ []) 0 1 (station_seen tape failed table old) (station_seen tape failed table new) (once call.made) call.drove

higher : (one two three : ℕ) → one ≤ two → two ≤ three → one ≤ three
higher one two three less more = omega (arith, less, more)

does_rises : {P C D W O E : Type 0} (contents : W → Option (List ℕ)) (s t : Bool) (coming : C → List ℕ) (tape : P → Tape) (failed : P → ℕ) (table : D → DeviceTable) (tasks : List Task) (old new : Station P C D W O E) → are_whole tasks ≡ true → Does contents s t coming tape failed table tasks old new → failed old.port ≤ failed new.port
does_rises contents s t coming tape failed table [] old new whole is = let same : failed new.port ≡ failed old.port = ap (λ x. failed x.port) is in omega (arith, same)
does_rises contents s t coming tape failed table (Turn ∷ tasks) old new whole (mid, did, rest) = higher _ _ _ (turn_rises contents s t coming tape failed table old mid did.turn) (does_rises contents s t coming tape failed table tasks mid new whole rest)
does_rises contents s t coming tape failed table (Call event ∷ tasks) old new whole (mid, did, rest) = higher _ _ _ (call_rises contents s tape failed table event old mid did.call) (does_rises contents s t coming tape failed table tasks mid new whole rest)
does_rises contents s t coming tape failed table (End ∷ tasks) old new whole (mid, did, rest) = higher _ _ _ did.0.rises (does_rises contents s t coming tape failed table tasks mid new whole rest)
does_rises contents s t coming tape failed table (Rest ∷ tasks) old new whole (mid, did, rest) = let same : failed mid.port ≡ failed old.port = did.worked in higher _ _ _ (omega (arith, same)) (does_rises contents s t coming tape failed table tasks mid new whole rest)
does_rises contents s t coming tape failed table (AnyTurn ∷ tasks) old new whole does = absurd (cc)
does_rises contents s t coming tape failed table (AnyCall event ∷ tasks) old new whole does = absurd (cc)
does_rises contents s t coming tape failed table (BrokenEnd ∷ tasks) old new whole does = absurd (cc)

early : (one two three : ℕ) → one ≤ two → two ≤ three → three ≡ one → two ≡ one
early one two three less more same = omega (arith, less, more, same)

late : (one two three : ℕ) → one ≤ two → two ≤ three → three ≡ one → three ≡ two
late one two three less more same = omega (arith, less, more, same)

-- ALL TASKS

does_exact : {P C D W O E : Type 0} (contents : W → Option (List ℕ)) (s t : Bool) (coming : C → List ℕ) (tape : P → Tape) (failed : P → ℕ) (table : D → DeviceTable) (tasks : List Task) (old new : Station P C D W O E)
    → s ≡ true → t ≡ true → are_whole tasks ≡ true → failed new.port ≡ failed old.port → Does contents s t coming tape failed table tasks old new → IsExact contents coming tape table tasks old new
does_exact contents s t coming tape failed table [] old new es et whole same is =
    quiet_exact contents coming tape table [] old new (ap (λ x. noted x.observer) is) (ap (λ x. x.device) is) (ap (λ x. x.clock) is) (ap (λ x. (tape x.port).coming) is) (ap (λ x. (tape x.port).sent) is ∙ sym (append-nil (tape old.port).sent))
does_exact contents s t coming tape failed table (Turn ∷ tasks) old new es et whole same (mid, did, rest) =
    let less = turn_rises contents s t coming tape failed table old mid did.turn in
    let more = does_rises contents s t coming tape failed table tasks mid new whole rest in
    one_ahead contents coming tape table tasks _ _ _ _ old mid new
    (made_exact contents s t coming tape failed table old mid did.turn.made es et (early _ _ _ less more same) did.goes did.turn.did)
    (does_exact contents s t coming tape failed table tasks mid new es et whole (late _ _ _ less more same) rest)
does_exact contents s t coming tape failed table (Call event ∷ tasks) old new es et whole same (mid, did, rest) =
    let less = call_rises contents s tape failed table event old mid did.call in
    let more = does_rises contents s t coming tape failed table tasks mid new whole rest in
    one_ahead contents coming tape table tasks (event ∷ []) _ _ _ old mid new
    (call_exact contents s t coming tape failed table event old mid did.call.made did.call es (early _ _ _ less more same) did.goes did.call.drove did.call.quiet)
    (does_exact contents s t coming tape failed table tasks mid new es et whole (late _ _ _ less more same) rest)
does_exact contents s t coming tape failed table (End ∷ tasks) old new es et whole same (mid, did, rest) =
    let more = does_rises contents s t coming tape failed table tasks mid new whole rest in
    one_ahead contents coming tape table tasks [] _ _ _ old mid new
    (end_exact contents s t coming tape failed table old mid es (early _ _ _ did.0.rises more same) did.0 did.1)
    (does_exact contents s t coming tape failed table tasks mid new es et whole (late _ _ _ did.0.rises more same) rest)
does_exact contents s t coming tape failed table (Rest ∷ tasks) old new es et whole same (mid, did, rest) =
    let kept : failed mid.port ≡ failed old.port = did.worked in
    one_ahead contents coming tape table tasks [] [] _ _ old mid new
    (rest_exact contents s t coming tape failed table old mid es did)
    (does_exact contents s t coming tape failed table tasks mid new es et whole (same ∙ sym kept) rest)
does_exact contents s t coming tape failed table (AnyTurn ∷ tasks) old new es et whole same does = absurd (cc)
does_exact contents s t coming tape failed table (AnyCall event ∷ tasks) old new es et whole same does = absurd (cc)
does_exact contents s t coming tape failed table (BrokenEnd ∷ tasks) old new es et whole same does = absurd (cc)

pub all_exact : {P C D W O E : Type 0} (contents : W → Option (List ℕ)) (s t : Bool) (coming : C → List ℕ) (tape : P → Tape) (failed : P → ℕ) (table : D → DeviceTable) (old new : Station P C D W O E) → TasksAreExact contents s t coming tape failed table old new
all_exact contents s t coming tape failed table old new tasks es et whole same does = does_exact contents s t coming tape failed table tasks old new es et whole same does
