-- After each run the image of an established slot holds the newest data of its connection, which accepted its newest datagram within its time-out.
use Rattle.std.proofs.Common.{◌≡◌, ◌⊎◌, inl, inr, ◌≤◌, ◌<◌, ℕ, ◌+◌, true, false, cond, List, [], ◌∷◌, ◌++◌, replicate, Option, Some, None, Result, Ok, Err, refl, sym, ◌∙◌, ap, subst, eq-eqb, arith}
use Rattle.std.specs.List.{AllByRecursion}
use Rattle.cip_events.specs.declared.event.Event.{Event}
use Rattle.cip_events.specs.declared.event.Event.TheVariants.{Tick}
use Rattle.cip_events.specs.declared.event.StepFault.{StepFault}
use Rattle.cip_datagram.specs.Datagram.{DatagramFields}
use Rattle.cip_productions.specs.declared.acceptance.Accepted.{Accepted}
use Rattle.scanner_table.specs.declared.profile.ScannerProfile.{ScannerProfile}
use Rattle.scanner_table.specs.declared.profile.SlotConfig.{SlotConfig}
use Rattle.scanner_table.specs.declared.slot.SlotConnection.{SlotConnection}
use Rattle.scanner_table.specs.declared.slot.SlotState.{SlotState}
use Rattle.scanner_table.specs.declared.slot.SlotState.TheVariants.{Idle, Established}
use Rattle.scanner_table.specs.declared.table.ScannerTable.{ScannerTable}
use Rattle.scanner_table.specs.Profiles.{profile_fault}
use Rattle.scanner_table.specs.Slots.{IndexedSlot, slot_at}
use Rattle.scanner_table.specs.Effects.{Next}
use Rattle.scanner_table.specs.Runs.{left_by, table_after}
use Rattle.scanner_table.specs.Step.{scanner_step, scanner_table}
use Rattle.scanner_table.specs.Lemmas.FreshSlots.{fresh_rests}
use Rattle.scanner_table.specs.Lemmas.SlotLookups.{slot_is}
use Rattle.cip_tables.specs.declared.table.DeviceTable.TheVariants.{Scanner}
use Rattle.cip_tables.specs.Run.{performed}
use Rattle.device_laws.specs.Lemmas.Folds.{scanner_is}
use Rattle.device_laws.specs.Lemmas.Lists.{all_both}
use Rattle.device_laws.specs.Newest.{Acceptance, accepted_at, acceptances, last_accepted, HasNewerNumber, TableRemembers, StateRemembers, OpeningsAreNumbered, StepsAcceptAfter, RefusalsAcceptNothing}
use Rattle.device_laws.specs.ScannerDeadlines.{StateIsAhead, TicksLeaveNoneLate}
use Rattle.device_laws.specs.ScannerRuns.{RunsFoldEvents}
use Rattle.freshness_laws.specs.Passing.{milliseconds, passed}
use Rattle.freshness_laws.specs.InTime.{first_timeout}
use Rattle.freshness_laws.specs.Images.{taken_at, Repeats, HoldsNewest, HoldsNoData, AcceptedWithin, is_open, OpenedWithin, OfEstablishedSlots, ImagesHoldNewestData, SlotsAcceptInTime}
use Rattle.freshness_laws.proofs.ImageSteps.{Renews, Again, SlotGoes, step_goes}
use Rattle.freshness_laws.proofs.ScannerClocks.{is_ok, step_moves, passed_more}

-- ---- the datagram that a connection accepted last

-- the laws of a scanner's steps
pub record KnowsSteps : Type 0 where
  pub accept : StepsAcceptAfter HasNewerNumber
  pub refuse : RefusalsAcceptNothing
  pub numbered : (t : ScannerTable) (event : Event) (next : Next) → scanner_step t event ≡ Ok next → OpeningsAreNumbered t → OpeningsAreNumbered next.1
  pub fresh : (profile : ScannerProfile) → OpeningsAreNumbered (scanner_table profile)
  pub ticks : TicksLeaveNoneLate
  pub profile : (profile : ScannerProfile) (t : ScannerTable) (event : Event) (next : Next) → scanner_step t event ≡ Ok next → t.profile ≡ profile → next.1.profile ≡ profile

last_both : (last : Option Accepted) (first rest : List Acceptance) → last_accepted last (first ++ rest) ≡ last_accepted (last_accepted last first) rest
last_both last [] rest = refl
last_both last (next ∷ first) rest = last_both (Some next.datagram) first rest

record Remembers (number opening : ℕ) (last : Option Accepted) (t : ScannerTable) : Type 0 where
  all : OpeningsAreNumbered t
  table : TableRemembers number opening last t

remembers_by : KnowsSteps → (number opening : ℕ) (last : Option Accepted) (t : ScannerTable) (event : Event) (said : Result Next StepFault) → scanner_step t event ≡ said → Remembers number opening last t → Remembers number opening (last_accepted last (accepted_at number opening t event)) (left_by t said)
remembers_by knows number opening last t event (Ok next) is remembers = record {
  all = knows.numbered t event next is remembers.all;
  table = (knows.accept number opening last t event next is remembers.all remembers.table).1;
}
remembers_by knows number opening last t event (Err why) is remembers = rw (knows.refuse number opening t event why is) remembers

run_remembers : KnowsSteps → (number opening : ℕ) (last : Option Accepted) (t : ScannerTable) (events : List Event) → Remembers number opening last t → Remembers number opening (last_accepted last (acceptances number opening t events)) (table_after t events)
run_remembers knows number opening last t [] remembers = remembers
run_remembers knows number opening last t (event ∷ events) remembers =
    let next = left_by t (scanner_step t event) in
    let more = accepted_at number opening t event in
    subst (λ (l : Option Accepted). Remembers number opening l (table_after next events)) (sym (last_both last more (acceptances number opening next events)))
    (run_remembers knows number opening (last_accepted last more) next events (remembers_by knows number opening last t event (scanner_step t event) refl remembers))

fresh_remembers : KnowsSteps → (number opening : ℕ) (profile : ScannerProfile) → Remembers number opening None (scanner_table profile)
fresh_remembers knows number opening profile = record {
  all = knows.fresh profile;
  table = record {
    there = λ indexed is. idle (fresh_rests profile number indexed is);
    unopened = λ more. refl;
  };
} where
  idle : {state : SlotState} → state ≡ Idle → StateRemembers opening None state
  idle is = rw is tt

remembered : (opening : ℕ) (last : Option Accepted) (state : SlotState) (c : SlotConnection) → state ≡ Established c → c.opening ≡ opening → StateRemembers opening last state → c.last ≡ last
remembered opening last state c is same remembers = (subst (StateRemembers opening last) is remembers) same

-- what an established connection remembers is the last datagram of the run
last_is : KnowsSteps → (profile : ScannerProfile) (events : List Event) (number : ℕ) (now : IndexedSlot) (c : SlotConnection) → slot_at (table_after (scanner_table profile) events) number ≡ Some now → now.slot.state ≡ Established c → c.last ≡ last_accepted None (acceptances number c.opening (scanner_table profile) events)
last_is knows profile events number now c stands opens =
    let end = run_remembers knows number c.opening None (scanner_table profile) events (fresh_remembers knows number c.opening profile) in
    remembered c.opening _ now.slot.state c opens refl (end.table.there now stands)

some_last : (last : Accepted) (more : List Acceptance) → last_accepted (Some last) more ≡ None → ⊥
some_last last [] is = absurd (let e = is in cc)
some_last last (next ∷ more) is = some_last next.datagram more is

none_accepted : (more : List Acceptance) → last_accepted None more ≡ None → more ≡ []
none_accepted [] is = refl
none_accepted (next ∷ more) is = absurd (some_last next.datagram more is)

-- ---- a connection that a slot has

-- what is known of the slot of a number at the end of a run
record Watch : Type 0 where
  number : ℕ
  opening : ℕ
  timeout : ℕ
  deadline : ℕ
  image : List ℕ
  len : ℕ
  last : Option Accepted

-- the slot has the connection
record Has (w : Watch) (t : ScannerTable) : Type 0 where
  slot : IndexedSlot
  c : SlotConnection
  stands : slot_at t w.number ≡ Some slot
  is : slot.slot.state ≡ Established c
  opening : c.opening ≡ w.opening
  timeout : c.watchdog.0 ≡ w.timeout
  len : slot.config.in_len ≡ w.len

-- with this deadline
record HasDeadline (w : Watch) (t : ScannerTable) : Type 0 where
  has : Has w t
  deadline : has.c.deadline.0 ≡ w.deadline
  last : has.c.last ≡ w.last

-- a count that is known
abbrev count_of : Option Accepted → Option ℕ
count_of None = None
count_of (Some last) = Some last.count

-- with this image, and this count of its last datagram
record HasImage (w : Watch) (t : ScannerTable) : Type 0 where
  has : Has w t
  image : has.slot.slot.image ≡ w.image
  count : count_of has.c.last ≡ count_of w.last

-- ---- one event, and its deadline

open_before : (w : Watch) (t : ScannerTable) → Has w t → is_open w.number w.opening t ≡ true
open_before w t has = rw (has.stands, has.is, eq-eqb has.c.opening w.opening has.opening) refl

abbrev Accepts : Watch → ScannerTable → Event → List Acceptance
Accepts w t event = accepted_at w.number w.opening t event

-- it accepted nothing, or a datagram that set the deadline, or was established by the event
record SetsDeadline (w : Watch) (t : ScannerTable) (event : Event) : Type 0 where
  one : Acceptance
  is : Accepts w t event ≡ one ∷ []
  deadline : w.deadline ≡ t.clock.0 + w.timeout

record Opens (w : Watch) (t : ScannerTable) (event : Event) : Type 0 where
  closed_before : is_open w.number w.opening t ≡ false
  silent : Accepts w t event ≡ []
  last : w.last ≡ None
  deadline : w.deadline ≡ t.clock.0 + first_timeout w.timeout

abbrev DeadlineGoes : Watch → ScannerTable → Event → Type 0
DeadlineGoes w t event = (HasDeadline w t × (Accepts w t event ≡ [])) ⊎ (SetsDeadline w t event ⊎ Opens w t event)

deadline_by : (w : Watch) (t : ScannerTable) (event : Event) (was now : IndexedSlot) (c : SlotConnection) → slot_at t w.number ≡ Some was → was.config ≡ now.config → now.config.in_len ≡ w.len → c.opening ≡ w.opening → c.watchdog.0 ≡ w.timeout → c.deadline.0 ≡ w.deadline → c.last ≡ w.last → SlotGoes (Accepts w t event) (taken_at w.number w.opening t event) t now.config was.slot now.slot c → DeadlineGoes w t event
deadline_by w t event was now c stood config len opening timeout deadline last (inl kept) =
    let k = kept.0 in
    inl (
      record {
        has = record { slot = was; c = k.old; stands = stood; is = k.is; opening = k.opening ∙ opening; timeout = ap (λ m. m.0) k.watchdog ∙ timeout; len = ap (λ (x : SlotConfig). x.in_len) config ∙ len };
        deadline = ap (λ m. m.0) k.deadline ∙ deadline;
        last = k.last ∙ last;
      },
      kept.1,
    )
deadline_by w t event was now c stood config len opening timeout deadline last (inr (inl takes)) =
    inr (inl (record { one = takes.one; is = takes.accepts; deadline = sym deadline ∙ takes.deadline ∙ ap (λ (n : ℕ). t.clock.0 + n) timeout }))
deadline_by w t event was now c stood config len opening timeout deadline last (inr (inr begins)) =
    inr (inr (record {
      closed_before = rw (stood, begins.is) refl;
      silent = begins.silent;
      last = sym last ∙ begins.last;
      deadline = sym deadline ∙ begins.deadline ∙ ap (λ (n : ℕ). t.clock.0 + first_timeout n) timeout;
    }))

deadline_next : (w : Watch) (t : ScannerTable) (event : Event) (next : Next) → scanner_step t event ≡ Ok next → HasDeadline w next.1 → DeadlineGoes w t event
deadline_next w t event next is holds =
    let has = holds.has in
    let on = step_goes w.number t event next has.slot has.c is has.stands has.is in
    deadline_by w t event on.was has.slot has.c on.stood on.config has.len has.opening has.timeout holds.deadline holds.last
    (subst (λ (o : ℕ). SlotGoes (accepted_at w.number o t event) (taken_at w.number o t event) t has.slot.config on.was.slot has.slot.slot has.c) has.opening on.goes)

deadline_of_step : KnowsSteps → (w : Watch) (t : ScannerTable) (event : Event) (said : Result Next StepFault) → scanner_step t event ≡ said → HasDeadline w (left_by t said) → DeadlineGoes w t event
deadline_of_step knows w t event (Ok next) is holds = deadline_next w t event next is holds
deadline_of_step knows w t event (Err why) is holds = inl (holds, knows.refuse w.number w.opening t event why is)

-- ---- time

ahead_is : (time : ℕ) (state : SlotState) (c : SlotConnection) → state ≡ Established c → StateIsAhead time state → time < c.deadline.0
ahead_is time state c is ahead = subst (StateIsAhead time) is ahead

-- a tick leaves the deadline ahead
late_not : KnowsSteps → (w : Watch) (t : ScannerTable) (event : Event) (next : Next) → profile_fault t.profile ≡ None → scanner_step t event ≡ Ok next → HasDeadline w next.1 → (milliseconds event ≡ 0) ⊎ (next.1.clock.0 ≤ w.deadline)
late_not knows w t (Tick ms) next none is holds =
    let ahead = ahead_is next.1.clock.0 holds.has.slot.slot.state holds.has.c holds.has.is (knows.ticks t ms next none is w.number holds.has.slot holds.has.stands) in
    inr (omega (arith, ahead, holds.deadline))
late_not knows w t other next none is holds = inl refl

-- the time that passes over the events ends before the deadline, if any passes
abbrev InTime : Watch → ScannerTable → List Event → Type 0
InTime w t events = (passed (Scanner t) events ≡ 0) ⊎ (t.clock.0 + passed (Scanner t) events ≤ w.deadline)

in_time_by : (w : Watch) (t u : ScannerTable) (ms all rest : ℕ) → all ≡ ms + rest → t.clock.0 + ms ≤ u.clock.0 → (ms ≡ 0) ⊎ (u.clock.0 ≤ w.deadline) → (rest ≡ 0) ⊎ (u.clock.0 + rest ≤ w.deadline) → (all ≡ 0) ⊎ (t.clock.0 + all ≤ w.deadline)
in_time_by w t u ms all rest is moves now (inr later) = inr (omega (arith, is, moves, later))
in_time_by w t u ms all rest is moves (inl none) (inl later) = inl (omega (arith, is, none, later))
in_time_by w t u ms all rest is moves (inr now) (inl later) = inr (omega (arith, is, moves, now, later))

in_time_more : KnowsSteps → (w : Watch) (t : ScannerTable) (event : Event) (events : List Event) (said : Result Next StepFault) → scanner_step t event ≡ said → profile_fault t.profile ≡ None → passed (Scanner t) (event ∷ events) ≡ cond (is_ok said) (milliseconds event) 0 + passed (Scanner (left_by t said)) events → HasDeadline w (left_by t said) → InTime w (left_by t said) events → InTime w t (event ∷ events)
in_time_more knows w t event events (Ok next) is none all holds rest =
    in_time_by w t next.1 (milliseconds event) (passed (Scanner t) (event ∷ events)) (passed (Scanner next.1) events) all (step_moves t event next is) (late_not knows w t event next none is holds) rest
in_time_more knows w t event events (Err why) is none all holds rest =
    in_time_by w t t 0 (passed (Scanner t) (event ∷ events)) (passed (Scanner t) events) all (omega arith) (inl refl) rest

later_by : (t : ScannerTable) (event : Event) (said : Result Next StepFault) → scanner_step t event ≡ said → t.clock.0 ≤ (left_by t said).clock.0
later_by t event (Ok next) is = omega (arith, step_moves t event next is)
later_by t event (Err why) is = omega arith

-- the time that passes behind an event which set the deadline
passes : (w : Watch) (limit : ℕ) (t u : ScannerTable) (events : List Event) → t.clock.0 ≤ u.clock.0 → w.deadline ≡ t.clock.0 + limit → InTime w u events → passed (Scanner u) events ≤ limit
passes w limit t u events later deadline (inl none) = omega (arith, none)
passes w limit t u events later deadline (inr ends) = omega (arith, later, deadline, ends)

-- ---- a run, and deadlines

record DeadlineStays (w : Watch) (t : ScannerTable) (events : List Event) : Type 0 where
  has : HasDeadline w t
  silent : acceptances w.number w.opening t events ≡ []
  in_time : InTime w t events

-- the connection was established by one of the events, behind which it accepted nothing
record OpenedIn (w : Watch) (t : ScannerTable) (events : List Event) : Type 0 where
  before : List Event
  event : Event
  after : List Event
  split : events ≡ before ++ event ∷ after
  closed_before : is_open w.number w.opening (table_after t before) ≡ false
  opened : is_open w.number w.opening (table_after t (before ++ event ∷ [])) ≡ true
  last : w.last ≡ None
  in_time : passed (Scanner (table_after t (before ++ event ∷ []))) after ≤ first_timeout w.timeout

abbrev DeadlineRun : Watch → ScannerTable → List Event → Type 0
DeadlineRun w t events = DeadlineStays w t events ⊎ (AcceptedWithin w.number w.opening w.timeout t events ⊎ OpenedIn w t events)

accepted_later : (w : Watch) (t : ScannerTable) (event : Event) (events : List Event) → AcceptedWithin w.number w.opening w.timeout (left_by t (scanner_step t event)) events → AcceptedWithin w.number w.opening w.timeout t (event ∷ events)
accepted_later w t event events recent = record {
  before = event ∷ recent.before;
  event = recent.event;
  after = recent.after;
  accepted = recent.accepted;
  split = ap (λ (es : List Event). event ∷ es) recent.split;
  accepts = recent.accepts;
  silent = recent.silent;
  in_time = recent.in_time;
}

opened_later : (w : Watch) (t : ScannerTable) (event : Event) (events : List Event) → OpenedIn w (left_by t (scanner_step t event)) events → OpenedIn w t (event ∷ events)
opened_later w t event events opened = record {
  before = event ∷ opened.before;
  event = opened.event;
  after = opened.after;
  split = ap (λ (es : List Event). event ∷ es) opened.split;
  closed_before = opened.closed_before;
  opened = opened.opened;
  last = opened.last;
  in_time = opened.in_time;
}

both_empty : (first second : List Acceptance) → first ≡ [] → second ≡ [] → first ++ second ≡ []
both_empty first second first_is second_is = rw (first_is, second_is) refl

deadline_more : KnowsSteps → (w : Watch) (t : ScannerTable) (event : Event) (events : List Event) → profile_fault t.profile ≡ None → DeadlineRun w (left_by t (scanner_step t event)) events → DeadlineRun w t (event ∷ events)
deadline_more knows w t event events none (inr (inl recent)) = inr (inl (accepted_later w t event events recent))
deadline_more knows w t event events none (inr (inr opened)) = inr (inr (opened_later w t event events opened))
deadline_more knows w t event events none (inl stays) = by_step (deadline_of_step knows w t event (scanner_step t event) refl stays.has) where
  later : t.clock.0 ≤ (left_by t (scanner_step t event)).clock.0
  later = later_by t event (scanner_step t event) refl

  by_step : DeadlineGoes w t event → DeadlineRun w t (event ∷ events)
  by_step (inl stayed) = inl (record {
    has = stayed.0;
    silent = both_empty (accepted_at w.number w.opening t event) _ stayed.1 stays.silent;
    in_time = in_time_more knows w t event events (scanner_step t event) refl none (passed_more t event events) stays.has stays.in_time;
  })
  by_step (inr (inl sets)) = inr (inl (record {
    before = [];
    event = event;
    after = events;
    accepted = sets.one;
    split = refl;
    accepts = sets.is;
    silent = stays.silent;
    in_time = passes w w.timeout t (left_by t (scanner_step t event)) events later sets.deadline stays.in_time;
  }))
  by_step (inr (inr opens)) = inr (inr (record {
    before = [];
    event = event;
    after = events;
    split = refl;
    closed_before = opens.closed_before;
    opened = open_before w (left_by t (scanner_step t event)) stays.has.has;
    last = opens.last;
    in_time = passes w (first_timeout w.timeout) t (left_by t (scanner_step t event)) events later opens.deadline stays.in_time;
  }))

faultless_by : KnowsSteps → (t : ScannerTable) (event : Event) (said : Result Next StepFault) → scanner_step t event ≡ said → profile_fault t.profile ≡ None → profile_fault (left_by t said).profile ≡ None
faultless_by knows t event (Ok next) is none = ap profile_fault (knows.profile t.profile t event next is refl) ∙ none
faultless_by knows t event (Err why) is none = none

deadline_run : KnowsSteps → (w : Watch) (t : ScannerTable) (events : List Event) → profile_fault t.profile ≡ None → HasDeadline w (table_after t events) → DeadlineRun w t events
deadline_run knows w t [] none has = inl (record { has = has; silent = refl; in_time = inl refl })
deadline_run knows w t (event ∷ events) none has =
    deadline_more knows w t event events none
    (deadline_run knows w (left_by t (scanner_step t event)) events (faultless_by knows t event (scanner_step t event) refl none) has)

idle_not : (state : SlotState) (c : SlotConnection) → state ≡ Idle → state ≡ Established c → ⊥
idle_not state c idle is = cc

fresh_has_not : (w : Watch) (profile : ScannerProfile) → Has w (scanner_table profile) → ⊥
fresh_has_not w profile has = idle_not has.slot.slot.state has.c (fresh_rests profile w.number has.slot has.stands) has.is

abbrev watch_of : ℕ → IndexedSlot → SlotConnection → Watch
watch_of number now c = record {
  number = number;
  opening = c.opening;
  timeout = c.watchdog.0;
  deadline = c.deadline.0;
  image = now.slot.image;
  len = now.config.in_len;
  last = c.last;
}

abbrev has_now : (t : ScannerTable) (number : ℕ) (now : IndexedSlot) (c : SlotConnection) → slot_at t number ≡ Some now → now.slot.state ≡ Established c → Has (watch_of number now c) t
has_now t number now c stands is = record { slot = now; c = c; stands = stands; is = is; opening = refl; timeout = refl; len = refl }

fresh_in_time : KnowsSteps → (profile : ScannerProfile) (events : List Event) (number : ℕ) (now : IndexedSlot) (c : SlotConnection) → slot_at (table_after (scanner_table profile) events) number ≡ Some now → now.slot.state ≡ Established c → DeadlineRun (watch_of number now c) (scanner_table profile) events → AcceptedWithin number c.opening c.watchdog.0 (scanner_table profile) events ⊎ OpenedWithin number c.opening (first_timeout c.watchdog.0) (scanner_table profile) events
fresh_in_time knows profile events number now c stands opens (inl stays) = absurd (fresh_has_not (watch_of number now c) profile stays.has.has)
fresh_in_time knows profile events number now c stands opens (inr (inl recent)) = inl recent
fresh_in_time knows profile events number now c stands opens (inr (inr opened)) = inr (record {
  before = opened.before;
  event = opened.event;
  after = opened.after;
  split = opened.split;
  closed_before = opened.closed_before;
  opened = opened.opened;
  silent = none_accepted _ (sym (last_is knows profile events number now c stands opens) ∙ opened.last);
  in_time = opened.in_time;
})

pub slot_in_time : KnowsSteps → (profile : ScannerProfile) (events : List Event) → profile_fault profile ≡ None → (number : ℕ) (now : IndexedSlot) (c : SlotConnection) → slot_at (table_after (scanner_table profile) events) number ≡ Some now → now.slot.state ≡ Established c → AcceptedWithin now.number c.opening c.watchdog.0 (scanner_table profile) events ⊎ OpenedWithin now.number c.opening (first_timeout c.watchdog.0) (scanner_table profile) events
slot_in_time knows profile events none number now c stands opens =
    let t = table_after (scanner_table profile) events in
    let w = watch_of number now c in
    subst (λ (n : ℕ). AcceptedWithin n c.opening c.watchdog.0 (scanner_table profile) events ⊎ OpenedWithin n c.opening (first_timeout c.watchdog.0) (scanner_table profile) events) (sym (slot_is t number now stands).number_is)
    (fresh_in_time knows profile events number now c stands opens
    (deadline_run knows w (scanner_table profile) events none (record { has = has_now t number now c stands opens; deadline = refl; last = refl })))

-- ---- one event, and the image

abbrev RepeatsKnown : Option ℕ → Acceptance → Type 0
RepeatsKnown known accepted = known ≡ Some accepted.datagram.count

-- the event brought the data that are the image
record Brings (w : Watch) (t : ScannerTable) (event : Event) : Type 0 where
  d : DatagramFields
  is : taken_at w.number w.opening t event ≡ Some d
  count : count_of w.last ≡ Some d.count
  image : w.image ≡ d.payload

record Clears (w : Watch) : Type 0 where
  last : w.last ≡ None
  image : w.image ≡ replicate w.len 0

abbrev ImageGoes : Watch → ScannerTable → Event → Type 0
ImageGoes w t event = (HasImage w t × AllByRecursion (RepeatsKnown (count_of w.last)) (Accepts w t event)) ⊎ (Brings w t event ⊎ Clears w)

no_count : (last : Option Accepted) → count_of last ≡ None → last ≡ None
no_count None is = refl
no_count (Some last) is = absurd (let e = is in cc)

all_none : (P : Acceptance → Type 0) (accepted : List Acceptance) → accepted ≡ [] → AllByRecursion P accepted
all_none P accepted is = rw is tt

all_one : (P : Acceptance → Type 0) (accepted : List Acceptance) (one : Acceptance) → accepted ≡ one ∷ [] → P one → AllByRecursion P accepted
all_one P accepted one is holds = rw is (holds, tt)

image_by : (w : Watch) (t : ScannerTable) (event : Event) (was now : IndexedSlot) (c : SlotConnection) → slot_at t w.number ≡ Some was → was.config ≡ now.config → c.opening ≡ w.opening → c.watchdog.0 ≡ w.timeout → now.config.in_len ≡ w.len → now.slot.image ≡ w.image → count_of c.last ≡ count_of w.last → SlotGoes (Accepts w t event) (taken_at w.number w.opening t event) t now.config was.slot now.slot c → ImageGoes w t event
image_by w t event was now c stood config opening timeout len image count (inl kept) =
    let k = kept.0 in
    inl (
      record {
        has = record { slot = was; c = k.old; stands = stood; is = k.is; opening = k.opening ∙ opening; timeout = ap (λ m. m.0) k.watchdog ∙ timeout; len = ap (λ (x : SlotConfig). x.in_len) config ∙ len };
        image = sym k.image ∙ image;
        count = ap count_of k.last ∙ count;
      },
      all_none (RepeatsKnown (count_of w.last)) _ kept.1,
    )
image_by w t event was now c stood config opening timeout len image count (inr (inl takes)) = by_data takes.data_is where
  known : count_of w.last ≡ Some takes.one.datagram.count
  known = sym count ∙ ap count_of takes.last

  by_data : Renews takes.one (taken_at w.number w.opening t event) now.slot ⊎ Again takes.one takes.old.last was.slot now.slot → ImageGoes w t event
  by_data (inl renews) = inr (inl (record {
    d = renews.d;
    is = renews.is;
    count = known ∙ ap (λ (n : ℕ). Some n) renews.count;
    image = sym image ∙ renews.image;
  }))
  by_data (inr again) = inl (
    record {
      has = record { slot = was; c = takes.old; stands = stood; is = takes.is; opening = takes.opening ∙ opening; timeout = ap (λ m. m.0) takes.watchdog ∙ timeout; len = ap (λ (x : SlotConfig). x.in_len) config ∙ len };
      image = sym again.image ∙ image;
      count = ap count_of again.is ∙ ap (λ (n : ℕ). Some n) (sym again.count) ∙ sym known;
    },
    all_one (RepeatsKnown (count_of w.last)) _ takes.one takes.accepts known,
  )
image_by w t event was now c stood config opening timeout len image count (inr (inr begins)) = inr (inr (record {
  last = no_count w.last (sym count ∙ ap count_of begins.last);
  image = sym image ∙ begins.image ∙ ap (λ (n : ℕ). replicate n 0) len;
}))

image_next : (w : Watch) (t : ScannerTable) (event : Event) (next : Next) → scanner_step t event ≡ Ok next → HasImage w next.1 → ImageGoes w t event
image_next w t event next is holds =
    let has = holds.has in
    let on = step_goes w.number t event next has.slot has.c is has.stands has.is in
    image_by w t event on.was has.slot has.c on.stood on.config has.opening has.timeout has.len holds.image holds.count
    (subst (λ (o : ℕ). SlotGoes (accepted_at w.number o t event) (taken_at w.number o t event) t has.slot.config on.was.slot has.slot.slot has.c) has.opening on.goes)

image_of_step : KnowsSteps → (w : Watch) (t : ScannerTable) (event : Event) (said : Result Next StepFault) → scanner_step t event ≡ said → HasImage w (left_by t said) → ImageGoes w t event
image_of_step knows w t event (Ok next) is holds = image_next w t event next is holds
image_of_step knows w t event (Err why) is holds = inl (holds, all_none (RepeatsKnown (count_of w.last)) _ (knows.refuse w.number w.opening t event why is))

-- ---- a run, and images

record ImageStays (w : Watch) (t : ScannerTable) (events : List Event) : Type 0 where
  has : HasImage w t
  repeated : AllByRecursion (RepeatsKnown (count_of w.last)) (acceptances w.number w.opening t events)

abbrev ImageRun : Watch → ScannerTable → List Event → Type 0
ImageRun w t events = ImageStays w t events ⊎ (HoldsNewest w.number w.opening t events w.image ⊎ Clears w)

newest_later : (w : Watch) (t : ScannerTable) (event : Event) (events : List Event) → HoldsNewest w.number w.opening (left_by t (scanner_step t event)) events w.image → HoldsNewest w.number w.opening t (event ∷ events) w.image
newest_later w t event events held =
    let newest = held.newest in
    record {
      newest = record {
        before = event ∷ newest.before;
        event = newest.event;
        after = newest.after;
        d = newest.d;
        split = ap (λ (es : List Event). event ∷ es) newest.split;
        taken = newest.taken;
        repeated = newest.repeated;
      };
      holds = held.holds;
    }

some_is : (a b : ℕ) → ◌≡◌ {A = Option ℕ} (Some a) (Some b) → a ≡ b
some_is a b is = cc

all_repeat : (known : Option ℕ) (count : ℕ) (accepted : List Acceptance) → known ≡ Some count → AllByRecursion (RepeatsKnown known) accepted → AllByRecursion (Repeats count) accepted
all_repeat known count [] is all = tt
all_repeat known count (a ∷ accepted) is all = (some_is a.datagram.count count (sym all.0 ∙ is), all_repeat known count accepted is all.1)

image_more : KnowsSteps → (w : Watch) (t : ScannerTable) (event : Event) (events : List Event) → ImageRun w (left_by t (scanner_step t event)) events → ImageRun w t (event ∷ events)
image_more knows w t event events (inr (inl held)) = inr (inl (newest_later w t event events held))
image_more knows w t event events (inr (inr clears)) = inr (inr clears)
image_more knows w t event events (inl stays) = by_step (image_of_step knows w t event (scanner_step t event) refl stays.has) where
  by_step : ImageGoes w t event → ImageRun w t (event ∷ events)
  by_step (inl stayed) = inl (record {
    has = stayed.0;
    repeated = all_both (RepeatsKnown (count_of w.last)) (accepted_at w.number w.opening t event) _ stayed.1 stays.repeated;
  })
  by_step (inr (inl brings)) = inr (inl (record {
    newest = record {
      before = [];
      event = event;
      after = events;
      d = brings.d;
      split = refl;
      taken = brings.is;
      repeated = all_repeat (count_of w.last) brings.d.count _ brings.count stays.repeated;
    };
    holds = brings.image;
  }))
  by_step (inr (inr clears)) = inr (inr clears)

image_run : KnowsSteps → (w : Watch) (t : ScannerTable) (events : List Event) → HasImage w (table_after t events) → ImageRun w t events
image_run knows w t [] has = inl (record { has = has; repeated = tt })
image_run knows w t (event ∷ events) has = image_more knows w t event events (image_run knows w (left_by t (scanner_step t event)) events has)

fresh_image : KnowsSteps → (profile : ScannerProfile) (events : List Event) (number : ℕ) (now : IndexedSlot) (c : SlotConnection) → slot_at (table_after (scanner_table profile) events) number ≡ Some now → now.slot.state ≡ Established c → ImageRun (watch_of number now c) (scanner_table profile) events → HoldsNewest number c.opening (scanner_table profile) events now.slot.image ⊎ HoldsNoData number c.opening (scanner_table profile) events now.config.in_len now.slot.image
fresh_image knows profile events number now c stands opens (inl stays) = absurd (fresh_has_not (watch_of number now c) profile stays.has.has)
fresh_image knows profile events number now c stands opens (inr (inl held)) = inl held
fresh_image knows profile events number now c stands opens (inr (inr clears)) = inr (record {
  silent = none_accepted _ (sym (last_is knows profile events number now c stands opens) ∙ clears.last);
  holds = clears.image;
})

pub slot_image : KnowsSteps → (profile : ScannerProfile) (events : List Event) (number : ℕ) (now : IndexedSlot) (c : SlotConnection) → slot_at (table_after (scanner_table profile) events) number ≡ Some now → now.slot.state ≡ Established c → HoldsNewest now.number c.opening (scanner_table profile) events now.slot.image ⊎ HoldsNoData now.number c.opening (scanner_table profile) events now.config.in_len now.slot.image
slot_image knows profile events number now c stands opens =
    let t = table_after (scanner_table profile) events in
    let w = watch_of number now c in
    subst (λ (n : ℕ). HoldsNewest n c.opening (scanner_table profile) events now.slot.image ⊎ HoldsNoData n c.opening (scanner_table profile) events now.config.in_len now.slot.image) (sym (slot_is t number now stands).number_is)
    (fresh_image knows profile events number now c stands opens
    (image_run knows w (scanner_table profile) events (record { has = has_now t number now c stands opens; image = refl; count = refl })))

-- ---- the laws

established_slots : (Holds : ScannerTable → List Event → IndexedSlot → SlotConnection → Type 0) → RunsFoldEvents → ((profile : ScannerProfile) (events : List Event) → profile_fault profile ≡ None → (number : ℕ) (now : IndexedSlot) (c : SlotConnection) → slot_at (table_after (scanner_table profile) events) number ≡ Some now → now.slot.state ≡ Established c → Holds (scanner_table profile) events now c) → OfEstablishedSlots Holds
established_slots Holds fold law profile new events outcomes none ran number now c stands opens =
    let ends : new ≡ table_after (scanner_table profile) (performed events outcomes) = scanner_is new _ (fold (scanner_table profile) events outcomes (Scanner new) ran) in
    law profile (performed events outcomes) none number now c (subst (λ (t : ScannerTable). slot_at t number ≡ Some now) ends stands) opens

pub images_newest : RunsFoldEvents → KnowsSteps → ImagesHoldNewestData
images_newest fold knows = established_slots (λ old events now c. HoldsNewest now.number c.opening old events now.slot.image ⊎ HoldsNoData now.number c.opening old events now.config.in_len now.slot.image) fold
    (λ profile events none number now c stands opens. slot_image knows profile events number now c stands opens)

pub slots_in_time : RunsFoldEvents → KnowsSteps → SlotsAcceptInTime
slots_in_time fold knows = established_slots (λ old events now c. AcceptedWithin now.number c.opening c.watchdog.0 old events ⊎ OpenedWithin now.number c.opening (first_timeout c.watchdog.0) old events) fold (slot_in_time knows)
