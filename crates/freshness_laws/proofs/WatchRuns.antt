-- After each run an established connection accepted its newest datagram within its time-out.
use Rattle.std.proofs.Common.{◌≡◌, ◌⊎◌, inl, inr, ◌≤◌, ℕ, ◌+◌, ◌==◌, Bool, true, false, List, [], ◌∷◌, ◌++◌, None, Result, Ok, Err, refl, sym, ◌∙◌, ap, subst, eq-eqb, arith}
use Rattle.std.proofs.lemmas.Bool.{and_parts}
use Rattle.cip_events.specs.declared.event.Event.{Event}
use Rattle.cip_events.specs.declared.event.StepFault.{StepFault}
use Rattle.adapter_table.specs.declared.profile.Profile.{Profile}
use Rattle.adapter_table.specs.declared.table.AdapterTable.{AdapterTable}
use Rattle.adapter_table.specs.Connections.{Row}
use Rattle.adapter_table.specs.Laws.{StepsKeep}
use Rattle.adapter_table.specs.Newest.{Acceptance, was_opened_as}
use Rattle.adapter_table.specs.Profiles.{profile_fault}
use Rattle.adapter_table.specs.Requests.{Next}
use Rattle.adapter_table.specs.Rows.{is_established, Each}
use Rattle.adapter_table.specs.Step.{adapter_step, adapter_table}
use Rattle.adapter_table.specs.Whole.{IsWhole}
use Rattle.adapter_table.specs.EachLemmas.{each_both}
use Rattle.scanner_table.specs.declared.table.ScannerTable.{ScannerTable}
use Rattle.scanner_table.specs.Step.{scanner_table}
use Rattle.cip_tables.specs.declared.table.Config.TheVariants as config
use Rattle.cip_tables.specs.declared.table.DeviceTable.{DeviceTable}
use Rattle.cip_tables.specs.declared.table.DeviceTable.TheVariants.{Adapter, Scanner}
use Rattle.cip_tables.specs.Newest.{accepted_in, acceptances}
use Rattle.cip_tables.specs.Run.{table_of, table_after, performed}
use Rattle.cip_tables.specs.RunLaws.{run_folds}
use Rattle.cip_tables.specs.Step.{as_adapter, step}
use Rattle.cip_tables.specs.Wakes.{clock_of}
use Rattle.cip_tables.specs.Whole.{next_id_of}
use Rattle.device_laws.specs.Lemmas.Folds.{fold_of}
use Rattle.freshness_laws.specs.Passing.{ticked, passed}
use Rattle.freshness_laws.specs.InTime.{AcceptedWithin, has_opened, OpenedWithin, first_timeout, AcceptsInTime, ConnectionsAcceptInTime}
use Rattle.freshness_laws.proofs.Lists.{any_weak, IsAmong, each_among}
use Rattle.freshness_laws.proofs.Clocks.{IsAdapter, clock_moves, run_moves}
use Rattle.freshness_laws.proofs.Ahead.{IsAhead, AreAhead, steps_keep_ahead}
use Rattle.freshness_laws.proofs.WatchSteps.{Watch, is_watched, is_kept, Goes, step_goes, below_next, unopened_accepts, refused_accepts}

-- the laws of an adapter's steps
pub record KnowsSteps : Type 0 where
  pub whole : StepsKeep IsWhole
  pub opening : (profile : Profile) → profile_fault profile ≡ None → IsWhole (adapter_table profile)
  pub counts : (counter : ℕ) → StepsKeep (λ t. counter ≤ t.next_id)

-- ---- one event at a device

abbrev device_kept : Watch → DeviceTable → Bool
device_kept w (Adapter t) = is_kept w t
device_kept w (Scanner t) = false

-- a whole adapter, no connection of which is late
abbrev WholeInTime : DeviceTable → Type 0
WholeInTime (Adapter t) = IsWhole t × AreAhead t
WholeInTime (Scanner t) = ⊥

abbrev DeviceStays : Watch → DeviceTable → List Acceptance → Type 0
DeviceStays w old accepted = (device_kept w old ≡ true) × (accepted ≡ [])

record DeviceAccepts (w : Watch) (old : DeviceTable) (accepted : List Acceptance) : Type 0 where
  one : Acceptance
  is : accepted ≡ one ∷ []
  deadline : w.deadline ≡ clock_of old + w.timeout

record DeviceBegins (w : Watch) (old : DeviceTable) (accepted : List Acceptance) : Type 0 where
  silent : accepted ≡ []
  opening : w.opening ≡ next_id_of old
  deadline : w.deadline ≡ clock_of old + first_timeout w.timeout

abbrev DeviceGoes : Watch → DeviceTable → List Acceptance → Type 0
DeviceGoes w old accepted = DeviceStays w old accepted ⊎ (DeviceAccepts w old accepted ⊎ DeviceBegins w old accepted)

-- what one event does
record StepGoes (w : Watch) (old : DeviceTable) (event : Event) (next : DeviceTable) : Type 0 where
  whole : WholeInTime next
  later : clock_of old ≤ clock_of next
  counts : next_id_of old ≤ next_id_of next
  goes : device_kept w next ≡ true → DeviceGoes w old (accepted_in w.opening old event)

adapter_goes : (w : Watch) (t : AdapterTable) (accepted : List Acceptance) → Goes w t accepted → DeviceGoes w (Adapter t) accepted
adapter_goes w t accepted (inl stays) = inl (stays.kept, stays.silent)
adapter_goes w t accepted (inr (inl sets)) = inr (inl (record { one = sets.one; is = sets.is; deadline = sets.deadline }))
adapter_goes w t accepted (inr (inr begins)) = inr (inr (record { silent = begins.silent; opening = begins.opening; deadline = begins.deadline }))

step_by : KnowsSteps → (w : Watch) (t : AdapterTable) (event : Event) (said : Result Next StepFault) → adapter_step t event ≡ said → WholeInTime (Adapter t) → clock_of (table_of (Adapter t) (as_adapter said)) ≡ t.clock.0 + ticked (as_adapter said) event → StepGoes w (Adapter t) event (table_of (Adapter t) (as_adapter said))
step_by knows w t event (Ok next) is whole moves = record {
  whole = (knows.whole t event next is whole.0, steps_keep_ahead t event next is whole.1);
  later = omega (arith, moves);
  counts = knows.counts t.next_id t event next is (omega arith);
  goes = λ kept. adapter_goes w t _ (step_goes w t event next is whole.0.sound kept);
}
step_by knows w t event (Err fault) is whole moves = record {
  whole = whole;
  later = omega arith;
  counts = omega arith;
  goes = λ kept. inl (kept, refused_accepts w.opening t event fault is);
}

device_goes : KnowsSteps → (w : Watch) (old : DeviceTable) (event : Event) → WholeInTime old → StepGoes w old event (table_of old (step old event))
unfolding step
device_goes knows w (Adapter t) event whole = step_by knows w t event (adapter_step t event) refl whole (clock_moves t event)
device_goes knows w (Scanner t) event whole = absurd whole

is_adapter : (old : DeviceTable) → WholeInTime old → IsAdapter old
is_adapter (Adapter t) whole = tt
is_adapter (Scanner t) whole = absurd whole

-- ---- openings to come

device_unopened : (opening : ℕ) (old : DeviceTable) → WholeInTime old → next_id_of old ≤ opening → has_opened opening old ≡ false
device_unopened opening (Adapter t) whole more = below_next t.ids t.next_id opening t.rows whole.0.sound.ids_are_drawn more
device_unopened opening (Scanner t) whole more = refl

device_silent : (opening : ℕ) (old : DeviceTable) (event : Event) → has_opened opening old ≡ false → accepted_in opening old event ≡ []
device_silent opening (Adapter t) event none = unopened_accepts opening t event none
device_silent opening (Scanner t) event none = refl

device_opened : (w : Watch) (t : DeviceTable) → device_kept w t ≡ true → has_opened w.opening t ≡ true
device_opened w (Adapter t) kept = any_weak (is_watched w) (was_opened_as w.opening) (λ row is. (and_parts (row.opening == w.opening) _ (and_parts (is_established row) _ is).1).0) t.rows kept
device_opened w (Scanner t) kept = absurd (let e = kept in cc)

-- ---- a run

-- the connection was opened by one of the events, none of which it accepted, nor was it there before them
record OpenedIn (w : Watch) (old : DeviceTable) (events : List Event) : Type 0 where
  opened : OpenedWithin w.opening (first_timeout w.timeout) old events
  unopened : next_id_of old ≤ w.opening

abbrev StaysOver : Watch → DeviceTable → List Event → Type 0
StaysOver w old events = DeviceStays w old (acceptances w.opening old events)

abbrev RunGoes : Watch → DeviceTable → List Event → Type 0
RunGoes w old events = StaysOver w old events ⊎ (AcceptedWithin w.opening w.timeout old events ⊎ OpenedIn w old events)

accepted_later : (w : Watch) (old : DeviceTable) (event : Event) (events : List Event) → AcceptedWithin w.opening w.timeout (table_of old (step old event)) events → AcceptedWithin w.opening w.timeout old (event ∷ events)
accepted_later w old event events recent = record {
  before = event ∷ recent.before;
  event = recent.event;
  after = recent.after;
  accepted = recent.accepted;
  split = ap (λ (es : List Event). event ∷ es) recent.split;
  accepts = recent.accepts;
  silent = recent.silent;
  in_time = recent.in_time;
}

both_empty : (first second : List Acceptance) → first ≡ [] → second ≡ [] → first ++ second ≡ []
both_empty first second first_is second_is = rw (first_is, second_is) refl

opened_later : (w : Watch) (old : DeviceTable) (event : Event) (events : List Event) → WholeInTime old → StepGoes w old event (table_of old (step old event)) → OpenedIn w (table_of old (step old event)) events → OpenedIn w old (event ∷ events)
opened_later w old event events whole goes rest =
    let opened = rest.opened in
    let unopened : next_id_of old ≤ w.opening = omega (arith, goes.counts, rest.unopened) in
    record {
      opened = record {
        before = event ∷ opened.before;
        event = opened.event;
        after = opened.after;
        split = ap (λ (es : List Event). event ∷ es) opened.split;
        closed_before = opened.closed_before;
        opened = opened.opened;
        silent = both_empty (accepted_in w.opening old event) _ (device_silent w.opening old event (device_unopened w.opening old whole unopened)) opened.silent;
        in_time = opened.in_time;
      };
      unopened = unopened;
    }

-- the time that passes behind an event which set the deadline
passes : (w : Watch) (limit : ℕ) (old : DeviceTable) (event : Event) (events : List Event) → WholeInTime old → StepGoes w old event (table_of old (step old event)) → clock_of (table_after old (event ∷ events)) ≤ w.deadline → w.deadline ≡ clock_of old + limit → passed (table_of old (step old event)) events ≤ limit
passes w limit old event events whole goes ahead deadline =
    let next = table_of old (step old event) in
    omega (arith, goes.later, run_moves next events (is_adapter next goes.whole), ahead, deadline)

goes_more : (w : Watch) (old : DeviceTable) (event : Event) (events : List Event) → WholeInTime old → StepGoes w old event (table_of old (step old event)) → clock_of (table_after old (event ∷ events)) ≤ w.deadline → RunGoes w (table_of old (step old event)) events → RunGoes w old (event ∷ events)
goes_more w old event events whole goes ahead (inr (inl recent)) = inr (inl (accepted_later w old event events recent))
goes_more w old event events whole goes ahead (inr (inr opened)) = inr (inr (opened_later w old event events whole goes opened))
goes_more w old event events whole goes ahead (inl stays) = by_step (goes.goes stays.0) where
  by_step : DeviceGoes w old (accepted_in w.opening old event) → RunGoes w old (event ∷ events)
  by_step (inl stayed) = inl (stayed.0, both_empty (accepted_in w.opening old event) _ stayed.1 stays.1)
  by_step (inr (inl sets)) = inr (inl (record {
    before = [];
    event = event;
    after = events;
    accepted = sets.one;
    split = refl;
    accepts = sets.is;
    silent = stays.1;
    in_time = passes w w.timeout old event events whole goes ahead sets.deadline;
  }))
  by_step (inr (inr begins)) = inr (inr (record {
    opened = record {
      before = [];
      event = event;
      after = events;
      split = refl;
      closed_before = device_unopened w.opening old whole (omega (arith, begins.opening));
      opened = device_opened w (table_of old (step old event)) stays.0;
      silent = both_empty (accepted_in w.opening old event) _ begins.silent stays.1;
      in_time = passes w (first_timeout w.timeout) old event events whole goes ahead begins.deadline;
    };
    unopened = omega (arith, begins.opening);
  }))

run_goes : KnowsSteps → (w : Watch) (old : DeviceTable) (events : List Event) → WholeInTime old → clock_of (table_after old events) ≤ w.deadline → device_kept w (table_after old events) ≡ true → RunGoes w old events
run_goes knows w old [] whole ahead kept = inl (kept, refl)
run_goes knows w old (event ∷ events) whole ahead kept =
    let goes = device_goes knows w old event whole in
    goes_more w old event events whole goes ahead (run_goes knows w (table_of old (step old event)) events goes.whole ahead kept)

run_whole : KnowsSteps → (old : DeviceTable) (events : List Event) → WholeInTime old → WholeInTime (table_after old events)
run_whole knows old [] whole = whole
run_whole knows old (event ∷ events) whole = run_whole knows (table_of old (step old event)) events (device_goes knows (record { opening = 0; timeout = 0; deadline = 0 }) old event whole).whole

-- ---- a run from a fresh adapter

abbrev watch_of : Row → Watch
watch_of row = record { opening = row.opening; timeout = row.watchdog.0; deadline = row.deadline.0 }

watches : (row : Row) → is_established row ≡ true → is_watched (watch_of row) row ≡ true
watches row lives = rw (lives, eq-eqb row.opening row.opening refl, eq-eqb row.watchdog.0 row.watchdog.0 refl, eq-eqb row.deadline.0 row.deadline.0 refl) refl

-- a fresh adapter has no connection
fresh_goes : (w : Watch) (profile : Profile) (events : List Event) → RunGoes w (Adapter (adapter_table profile)) events → AcceptedWithin w.opening w.timeout (Adapter (adapter_table profile)) events ⊎ OpenedWithin w.opening (first_timeout w.timeout) (Adapter (adapter_table profile)) events
fresh_goes w profile events (inl stays) = absurd (let e = stays.0 in cc)
fresh_goes w profile events (inr (inl recent)) = inl recent
fresh_goes w profile events (inr (inr opened)) = inr opened.opened

row_in_time : KnowsSteps → (profile : Profile) (events : List Event) (t : AdapterTable) (row : Row) → profile_fault profile ≡ None → Adapter t ≡ table_after (Adapter (adapter_table profile)) events → IsAmong t.rows row → IsAhead t.clock row → AcceptsInTime (Adapter (adapter_table profile)) events row
row_in_time knows profile events t row none ends among ahead lives =
    let old = Adapter (adapter_table profile) in
    let w = watch_of row in
    fresh_goes w profile events (run_goes knows w old events (knows.opening profile none, tt)
    (subst (λ (d : DeviceTable). clock_of d ≤ row.deadline.0) ends (ahead lives))
    (subst (λ (d : DeviceTable). device_kept w d ≡ true) ends (among (is_watched w) (watches row lives))))

pub fresh_in_time : KnowsSteps → (profile : Profile) (events : List Event) (t : AdapterTable) → profile_fault profile ≡ None → Adapter t ≡ table_after (Adapter (adapter_table profile)) events → Each (AcceptsInTime (Adapter (adapter_table profile)) events) t.rows
fresh_in_time knows profile events t none ends =
    let old = Adapter (adapter_table profile) in
    let whole : WholeInTime (Adapter t) = subst WholeInTime (sym ends) (run_whole knows old events (knows.opening profile none, tt)) in
    each_both (IsAhead t.clock) (IsAmong t.rows) (AcceptsInTime old events) (λ row ahead among. row_in_time knows profile events t row none ends among ahead) t.rows whole.1 (each_among t.rows)

pub connections_in_time : KnowsSteps → ConnectionsAcceptInTime
connections_in_time knows (config.Adapter profile) events outcomes t none ran =
    fresh_in_time knows profile (performed events outcomes) t none (run_folds (Adapter (adapter_table profile)) events outcomes (Adapter t) ran).table
connections_in_time knows (config.Scanner profile) events outcomes t none ran =
    let start = scanner_table profile in
    absurd (apart ((run_folds (Scanner start) events outcomes (Adapter t) ran).table ∙ fold_of start (performed events outcomes))) where
      apart : {s : ScannerTable} → Adapter t ≡ Scanner s → ⊥
      apart is = cc
