-- If each step relates what a connection accepts to what it accepted before, then each run does.
use Rattle.std.proofs.Common.{◌≡◌, ◌≤◌, ◌<◌, ℕ, ◌==◌, Bool, true, false, cond, List, [], ◌∷◌, ◌++◌, find, Option, Some, None, Result, Ok, Err, refl, subst, arith}
use Rattle.std.proofs.lemmas.Bool.Decides.{nat_tests}
use Rattle.cip_events.specs.declared.event.Event.{Event}
use Rattle.cip_events.specs.declared.event.StepFault.{StepFault}
use Rattle.cip_events.specs.declared.event.StepFault.TheVariants.{OutOfMemory, TickTooLong, ClockEnd, NoSuchPoint, WrongLength, NoSuchSlot, NotAllowedNow}
use Rattle.cip_events.specs.Outcomes.{Outcome, Follows}
use Rattle.cip_productions.specs.declared.acceptance.Accepted.{Accepted}
use Rattle.cip_types.specs.declared.ids.IdBlock.{IdBlock}
use Rattle.adapter_table.specs.Connections.{Row}
use Rattle.adapter_table.specs.Rows.{Each}
use Rattle.adapter_table.specs.Requests.{Next}
use Rattle.adapter_table.specs.Step.{adapter_step}
use Rattle.adapter_table.specs.Sound.{IsSound, IdsAreDrawn, OpensBefore, OpeningsRise}
use Rattle.adapter_table.specs.Newest.{Acceptance, EachAfter, last_accepted, accepted_at, was_opened_as, RemembersLast, TableRemembers}
use Rattle.adapter_table.specs.Laws.{StepsKeep, StepsAcceptAfter, RefusalsAcceptNothing}
use Rattle.scanner_table.specs.Step.{scanner_step}
use Rattle.cip_tables.specs.declared.table.DeviceTable.{DeviceTable}
use Rattle.cip_tables.specs.declared.table.DeviceTable.TheVariants.{Adapter, Scanner}
use Rattle.cip_tables.specs.Step.{DeviceNext, as_adapter, step}
use Rattle.cip_tables.specs.Run.{Runs, performed}
use Rattle.cip_tables.specs.Newest.{accepted_in, acceptances, last_of, last_in, OverEveryConnection}
use Rattle.cip_tables.proofs.RunKeeps.{IfAdapter, ok_is, all_keep, any_ok, scanner_keeps, follows_keeps, whole_adapter}
use Rattle.cip_tables.proofs.ScratchLemmas.{fault_is}

-- ---- what the opening table remembers

-- the connections of an opening number, if all behind one have later ones
none_later : (opening : ℕ) (last : Option Accepted) (row : Row) (rows : List Row) → row.opening ≡ opening → Each (OpensBefore row) rows → Each (RemembersLast opening last) rows
none_later opening last row [] same later = tt
none_later opening last row (other ∷ rows) same later =
    let before : row.opening < other.opening = later.0 in
    ((λ is. absurd (omega arith)), none_later opening last row rows same later.1)

remembers_step : (b : Bool) (opening : ℕ) (row : Row) (rows : List Row) (found : Option Row) → (row.opening == opening) ≡ b → Each (OpensBefore row) rows → Each (RemembersLast opening (last_of found)) rows → Each (RemembersLast opening (last_of (cond b (Some row) found))) (row ∷ rows)
remembers_step true opening row rows found is later rest =
    let same : row.opening ≡ opening = grind (arith, nat_tests) in
    ((λ _. refl), none_later opening row.last row rows same later)
remembers_step false opening row rows found is later rest = ((λ same. absurd (grind (arith, nat_tests))), rest)

remembers_found : (opening : ℕ) (rows : List Row) → OpeningsRise rows → Each (RemembersLast opening (last_of (find (was_opened_as opening) rows))) rows
remembers_found opening [] rise = tt
remembers_found opening (row ∷ rows) rise =
    remembers_step (row.opening == opening) opening row rows (find (was_opened_as opening) rows) refl rise.0 (remembers_found opening rows rise.1)

none_step : (b : Bool) (opening next_id : ℕ) (row : Row) (found : Option Row) → (row.opening == opening) ≡ b → row.opening < next_id → next_id ≤ opening → last_of found ≡ None → last_of (cond b (Some row) found) ≡ None
none_step true opening next_id row found is below later rest = let same : row.opening ≡ opening = grind (arith, nat_tests) in absurd (omega arith)
none_step false opening next_id row found is below later rest = rest

none_found : (opening : ℕ) (ids : List IdBlock) (next_id : ℕ) (rows : List Row) → next_id ≤ opening → IdsAreDrawn ids next_id rows → last_of (find (was_opened_as opening) rows) ≡ None
none_found opening ids next_id [] later drawn = refl
none_found opening ids next_id (row ∷ rows) later drawn =
    none_step (row.opening == opening) opening next_id row (find (was_opened_as opening) rows) refl drawn.0.below later (none_found opening ids next_id rows later drawn.1)

remembers_opening : (opening : ℕ) (t : DeviceTable) → IfAdapter IsSound t → IfAdapter (TableRemembers opening (last_in opening t)) t
remembers_opening opening (Adapter t) sound = record {
  there = remembers_found opening t.rows sound.producers.openings_rise;
  unopened = λ later. none_found opening t.ids t.next_id t.rows later sound.ids_are_drawn;
}
remembers_opening opening (Scanner t) sound = tt

-- ---- one event after another

after_more : (R : Option Accepted → Acceptance → Type 0) (last : Option Accepted) (first rest : List Acceptance) → EachAfter R last first → EachAfter R (last_accepted last first) rest → EachAfter R last (first ++ rest)
after_more R last [] rest done more = more
after_more R last (next ∷ first) rest done more = (done.0, after_more R (Some next.datagram) first rest done.1 more)

-- what a step accepts, and what the next table remembers
abbrev Goes : (Option Accepted → Acceptance → Type 0) → ℕ → Option Accepted → List Acceptance → DeviceTable → Type 0
Goes R opening last accepted next = EachAfter R last accepted × IfAdapter (TableRemembers opening (last_accepted last accepted)) next

device_goes : (R : Option Accepted → Acceptance → Type 0) (opening : ℕ) (last : Option Accepted) (accepted : List Acceptance) (said : Result Next StepFault) (next : DeviceNext) → as_adapter said ≡ Ok next → ((n : Next) → said ≡ Ok n → Goes R opening last accepted (Adapter n.1)) → Goes R opening last accepted next.1
device_goes R opening last accepted (Ok n) next is goes = subst (λ (d : DeviceNext). Goes R opening last accepted d.1) (ok_is _ _ is) (goes n refl)
device_goes R opening last accepted (Err fault) next is goes = absurd cc

step_goes : (R : Option Accepted → Acceptance → Type 0) → StepsAcceptAfter R → (opening : ℕ) (last : Option Accepted) (old : DeviceTable) (event : Event) (next : DeviceNext) → step old event ≡ Ok next → IfAdapter IsSound old → IfAdapter (TableRemembers opening last) old → Goes R opening last (accepted_in opening old event) next.1
unfolding step
step_goes R steps opening last (Adapter t) event next is sound remembers =
    device_goes R opening last (accepted_at opening t event) (adapter_step t event) next is (λ n said. steps opening last t event n said sound remembers)
step_goes R steps opening last (Scanner t) event next is sound remembers =
    (tt, scanner_keeps (TableRemembers opening last) (λ t. Unit {0}) (scanner_step t event) next is (any_ok (scanner_step t event)))

fault_none : RefusalsAcceptNothing → (opening : ℕ) (old : DeviceTable) (event : Event) (fault : StepFault) → step old event ≡ Err fault → accepted_in opening old event ≡ []
unfolding step
fault_none refused opening (Adapter t) event fault is = refused opening t event fault (fault_is (adapter_step t event) fault is)
fault_none refused opening (Scanner t) event fault is = refl

-- ---- a run

-- the same over the events, from each table that remembers the last one
abbrev Accepts : (Option Accepted → Acceptance → Type 0) → ℕ → DeviceTable → List Event → Type 0
Accepts R opening t events = (last : Option Accepted) → IfAdapter (TableRemembers opening last) t → EachAfter R last (acceptances opening t events)

accepts_more : (R : Option Accepted → Acceptance → Type 0) → StepsAcceptAfter R → (opening : ℕ) (old : DeviceTable) (event : Event) (events : List Event) (next : DeviceNext) → step old event ≡ Ok next → IfAdapter IsSound old → Accepts R opening next.1 events → Accepts R opening old (event ∷ events)
accepts_more R steps opening old event events next is sound rest = λ last remembers.
    let goes = step_goes R steps opening last old event next is sound remembers in
    rw is (after_more R last (accepted_in opening old event) (acceptances opening next.1 events) goes.0 (rest (last_accepted last (accepted_in opening old event)) goes.1))

accepts_stay : (R : Option Accepted → Acceptance → Type 0) (opening : ℕ) (old mid : DeviceTable) (events : List Event) → mid ≡ old → Accepts R opening mid events → Accepts R opening old events
accepts_stay R opening old mid events stays rest = subst (λ (t : DeviceTable). Accepts R opening t events) stays rest

accepts_fault : (R : Option Accepted → Acceptance → Type 0) → RefusalsAcceptNothing → (opening : ℕ) (old mid : DeviceTable) (event : Event) (events : List Event) (fault : StepFault) → (step old event ≡ Err fault) × (mid ≡ old) → Accepts R opening mid events → Accepts R opening old (event ∷ events)
accepts_fault R refused opening old mid event events fault follows rest = λ last remembers.
    rw (fault_none refused opening old event fault follows.0, follows.0) (accepts_stay R opening old mid events follows.1 rest last remembers)

accepts_by : (R : Option Accepted → Acceptance → Type 0) → StepsAcceptAfter R → RefusalsAcceptNothing → (opening : ℕ) (old mid : DeviceTable) (event : Event) (events : List Event) (outcome : Outcome) (outcomes : List Outcome) → Follows (step old event) old outcome mid → IfAdapter IsSound old → Accepts R opening mid (performed events outcomes) → Accepts R opening old (performed (event ∷ events) (outcome ∷ outcomes))
accepts_by R steps refused opening old mid event events (Ok answer) outcomes follows sound rest = accepts_more R steps opening old event (performed events outcomes) (answer, mid) follows sound rest
accepts_by R steps refused opening old mid event events (Err OutOfMemory) outcomes follows sound rest = accepts_stay R opening old mid (performed events outcomes) follows.1 rest
accepts_by R steps refused opening old mid event events (Err TickTooLong) outcomes follows sound rest = accepts_fault R refused opening old mid event (performed events outcomes) TickTooLong follows rest
accepts_by R steps refused opening old mid event events (Err ClockEnd) outcomes follows sound rest = accepts_fault R refused opening old mid event (performed events outcomes) ClockEnd follows rest
accepts_by R steps refused opening old mid event events (Err NoSuchPoint) outcomes follows sound rest = accepts_fault R refused opening old mid event (performed events outcomes) NoSuchPoint follows rest
accepts_by R steps refused opening old mid event events (Err WrongLength) outcomes follows sound rest = accepts_fault R refused opening old mid event (performed events outcomes) WrongLength follows rest
accepts_by R steps refused opening old mid event events (Err NoSuchSlot) outcomes follows sound rest = accepts_fault R refused opening old mid event (performed events outcomes) NoSuchSlot follows rest
accepts_by R steps refused opening old mid event events (Err NotAllowedNow) outcomes follows sound rest = accepts_fault R refused opening old mid event (performed events outcomes) NotAllowedNow follows rest

run_accepts : (R : Option Accepted → Acceptance → Type 0) → StepsAcceptAfter R → RefusalsAcceptNothing → StepsKeep IsSound → (opening : ℕ) (old : DeviceTable) (events : List Event) (outcomes : List Outcome) (new : DeviceTable) → Runs old events outcomes new → IfAdapter IsSound old → Accepts R opening old (performed events outcomes)
run_accepts R steps refused keeps opening old [] [] new ran sound = λ last remembers. tt
run_accepts R steps refused keeps opening old [] (outcome ∷ outcomes) new ran sound = absurd ran
run_accepts R steps refused keeps opening old (event ∷ events) [] new ran sound = absurd ran
run_accepts R steps refused keeps opening old (event ∷ events) (outcome ∷ outcomes) new ran sound =
    accepts_by R steps refused opening old ran.0 event events outcome outcomes ran.1 sound
    (run_accepts R steps refused keeps opening ran.0 events outcomes new ran.2 (follows_keeps IsSound (λ t. Unit {0}) keeps all_keep old event outcome ran.0 ran.1 sound))

pub over_connections : (R : Option Accepted → Acceptance → Type 0) → StepsAcceptAfter R → RefusalsAcceptNothing → StepsKeep IsSound → OverEveryConnection R
over_connections R steps refused keeps opening old new events outcomes whole ran =
    let sound = whole_adapter old whole in
    run_accepts R steps refused keeps opening old events outcomes new ran sound (last_in opening old) (remembers_opening opening old sound)
