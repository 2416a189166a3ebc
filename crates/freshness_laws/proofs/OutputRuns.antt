-- After each run an output under an owner in run mode holds data that were sent or repeated within the owner's time-out, and every
-- other output what an action left, or zeros.
use Rattle.std.proofs.Common.{◌≡◌, ◌⊎◌, inl, inr, ℕ, Bool, true, false, cond, ◌&&◌, List, [], ◌∷◌, ◌++◌, find, Option, Some, None, Result, Ok, Err, refl, sym, ◌∙◌, ap, subst}
use Rattle.std.specs.List.{AllByRecursion, list_any}
use Rattle.std.specs.Option.{option_map}
use Rattle.std.proofs.lemmas.Bool.{and_parts}
use Rattle.std.proofs.lemmas.Option.{same_Some}
use Rattle.base_lemmas.specs.Lists.{found_passes}
use Rattle.cip_types.specs.declared.names.Ms.{Ms}
use Rattle.cip_types.specs.declared.names.Node.{Node}
use Rattle.cip_datagram.specs.declared.datagram.DatagramFault.{DatagramFault}
use Rattle.cip_datagram.specs.Datagram.{DatagramFields}
use Rattle.cip_datagram.specs.Reading.{datagram_reading}
use Rattle.cip_events.specs.declared.event.Delivery.{Delivery}
use Rattle.cip_events.specs.declared.event.Delivery.TheVariants.{Applied}
use Rattle.cip_events.specs.declared.event.Event.{Event}
use Rattle.cip_events.specs.declared.event.Event.TheVariants.{Datagram}
use Rattle.cip_events.specs.declared.event.StepFault.{StepFault}
use Rattle.cip_events.specs.Answers.{is_accepted}
use Rattle.adapter_table.specs.declared.profile.Action.{Action}
use Rattle.adapter_table.specs.declared.profile.OutputPoint.{OutputPoint}
use Rattle.adapter_table.specs.declared.profile.Profile.{Profile}
use Rattle.adapter_table.specs.declared.row.Mode.{Mode}
use Rattle.adapter_table.specs.declared.row.Mode.TheVariants as mode
use Rattle.adapter_table.specs.declared.table.AdapterTable.{AdapterTable}
use Rattle.adapter_table.specs.Connections.{Row}
use Rattle.adapter_table.specs.Datagrams.{is_for, row_delivery}
use Rattle.adapter_table.specs.Laws.{StepsKeep, StepsLeave, RefusalsTouchNothing, FreshOutputsAreZeros}
use Rattle.adapter_table.specs.Newest.{Acceptance, acceptance_of, was_opened_as, accepted_found, accepted_read, accepted_at}
use Rattle.adapter_table.specs.Profiles.{is_output_at, profile_fault}
use Rattle.adapter_table.specs.Requests.{Next}
use Rattle.adapter_table.specs.Rows.{is_established, drives}
use Rattle.adapter_table.specs.Scratch.{or_else, left_by, left_idle, left_lost, left_at}
use Rattle.adapter_table.specs.Sound.{HasOneOwner}
use Rattle.adapter_table.specs.States.{report_of}
use Rattle.adapter_table.specs.Step.{adapter_step, adapter_table}
use Rattle.adapter_table.specs.Whole.{IsWhole}
use Rattle.adapter_table.specs.EachLemmas.{each_found}
use Rattle.scanner_table.specs.declared.table.ScannerTable.{ScannerTable}
use Rattle.scanner_table.specs.Step.{scanner_table}
use Rattle.cip_tables.specs.declared.table.Config.TheVariants as config
use Rattle.cip_tables.specs.declared.table.DeviceTable.{DeviceTable}
use Rattle.cip_tables.specs.declared.table.DeviceTable.TheVariants.{Adapter, Scanner}
use Rattle.cip_tables.specs.Newest.{accepted_in, acceptances}
use Rattle.cip_tables.specs.Run.{table_of, table_after, performed}
use Rattle.cip_tables.specs.RunLaws.{run_folds}
use Rattle.cip_tables.specs.Scratch.{touched, last_touched}
use Rattle.cip_tables.specs.Sound.{OverEveryRun}
use Rattle.cip_tables.specs.Step.{as_adapter, step, opening_table, bytes_in}
use Rattle.device_laws.specs.OwnerData.{delivered_found, delivered_read, delivered_at, delivered_in, Repeats, HasNewest, HoldsRunData, RunOwnersHoldData}
use Rattle.device_laws.specs.Lemmas.Folds.{fold_of}
use Rattle.freshness_laws.specs.InTime.{AcceptedWithin, OpenedWithin, first_timeout, AcceptsInTime, ConnectionsAcceptInTime}
use Rattle.freshness_laws.specs.Outputs.{is_run, runs, HoldsFreshData, rows_in, Acts, HoldsActed, HoldsZeros, RunOutputsAreFresh, OtherOutputsAreActed}
use Rattle.freshness_laws.proofs.Lists.{any_found, any_weak, same_found}
use Rattle.freshness_laws.proofs.OutputSteps as steps

-- ---- two places in one list

-- the one is the other, or one of them is behind the other
data Places {X : Type 0} (b : List X) (e : X) (a : List X) (b' : List X) (e' : X) (a' : List X) : Type 0 where
  same : b' ≡ b → e' ≡ e → Places b e a b' e' a'
  behind : (m : List X) → b' ≡ b ++ e ∷ m → a ≡ m ++ e' ∷ a' → Places b e a b' e' a'
  ahead : (m : List X) → b ≡ b' ++ e' ∷ m → a' ≡ m ++ e ∷ a → Places b e a b' e' a'

head_is : {X : Type 0} → (x y : X) (xs ys : List X) → x ∷ xs ≡ y ∷ ys → x ≡ y
head_is x y xs ys is = cc

tail_is : {X : Type 0} → (x y : X) (xs ys : List X) → x ∷ xs ≡ y ∷ ys → xs ≡ ys
tail_is x y xs ys is = cc

further : {X : Type 0} → (x x' : X) (b : List X) (e : X) (a : List X) (b' : List X) (e' : X) (a' : List X) → x' ≡ x → Places b e a b' e' a' → Places (x ∷ b) e a (x' ∷ b') e' a'
further x x' b e a b' e' a' one (same first second) = same (rw (one, first) refl) second
further x x' b e a b' e' a' one (behind m first second) = behind m (rw (one, first) refl) second
further x x' b e a b' e' a' one (ahead m first second) = ahead m (rw (one, first) refl) second

places : {X : Type 0} → (b : List X) (e : X) (a : List X) (b' : List X) (e' : X) (a' : List X) → b ++ e ∷ a ≡ b' ++ e' ∷ a' → Places b e a b' e' a'
places [] e a [] e' a' is = same refl (sym (head_is e e' a a' is))
places [] e a (x ∷ b') e' a' is = behind b' (ap (λ y. y ∷ b') (sym (head_is e x a (b' ++ e' ∷ a') is))) (tail_is e x a (b' ++ e' ∷ a') is)
places (x ∷ b) e a [] e' a' is = ahead b (ap (λ y. y ∷ b) (head_is x e' (b ++ e ∷ a) a' is)) (sym (tail_is x e' (b ++ e ∷ a) a' is))
places (x ∷ b) e a (x' ∷ b') e' a' is = further x x' b e a b' e' a' (sym (head_is x x' _ _ is)) (places b e a b' e' a' (tail_is x x' _ _ is))

-- ---- runs, part by part

after_more : (old : DeviceTable) (b : List Event) (e : Event) (m : List Event) → table_after (table_after old (b ++ e ∷ [])) m ≡ table_after old (b ++ e ∷ m)
after_more old [] e m = refl
after_more old (x ∷ b) e m = after_more (table_of old (step old x)) b e m

all_first : (P : Acceptance → Type 0) (first rest : List Acceptance) → AllByRecursion P (first ++ rest) → AllByRecursion P first
all_first P [] rest all = tt
all_first P (a ∷ first) rest all = (all.0, all_first P first rest all.1)

all_rest : (P : Acceptance → Type 0) (first rest : List Acceptance) → AllByRecursion P (first ++ rest) → AllByRecursion P rest
all_rest P [] rest all = all
all_rest P (a ∷ first) rest all = all_rest P first rest all.1

-- what holds of all that a connection accepts holds of what it accepts at one of the events
all_at : (P : Acceptance → Type 0) (opening : ℕ) (old : DeviceTable) (m : List Event) (e : Event) (a : List Event) → AllByRecursion P (acceptances opening old (m ++ e ∷ a)) → AllByRecursion P (accepted_in opening (table_after old m) e)
all_at P opening old [] e a all = all_first P (accepted_in opening old e) _ all
all_at P opening old (x ∷ m) e a all =
    all_at P opening (table_of old (step old x)) m e a (all_rest P (accepted_in opening old x) _ all)

-- ---- what is delivered and accepted

accepts_by : (own : Bool) (d d' : DatagramFields) (what : Delivery) (delivery : Delivery) → is_accepted what ≡ true → ◌≡◌ {A = Option (DatagramFields × Delivery)} (cond own (Some (d, delivery)) None) (Some (d', what)) → cond (own && is_accepted delivery) (acceptance_of d delivery ∷ []) [] ≡ acceptance_of d' what ∷ []
accepts_by true d d' what delivery accepted is =
    let one : ◌≡◌ {A = DatagramFields × Delivery} (d, delivery) (d', what) = same_Some (d, delivery) (d', what) is in
    let first : d ≡ d' = ap (λ (p : DatagramFields × Delivery). p.0) one in
    let second : delivery ≡ what = ap (λ (p : DatagramFields × Delivery). p.1) one in
    rw (first, second, accepted) refl
accepts_by false d d' what delivery accepted is = absurd (let e = is in cc)

accepts_found : (opening : ℕ) (profile : Profile) (clock : Ms) (d d' : DatagramFields) (what : Delivery) (found : Option Row) → is_accepted what ≡ true → delivered_found opening profile clock d found ≡ Some (d', what) → accepted_found opening profile clock d found ≡ acceptance_of d' what ∷ []
accepts_found opening profile clock d d' what None accepted is = absurd (let e = is in cc)
accepts_found opening profile clock d d' what (Some row) accepted is = accepts_by (was_opened_as opening row) d d' what (row_delivery profile clock row d) accepted is

accepts_read : (opening : ℕ) (t : AdapterTable) (peer : Node) (reading : Result DatagramFields DatagramFault) (d : DatagramFields) (what : Delivery) → is_accepted what ≡ true → delivered_read opening t peer reading ≡ Some (d, what) → accepted_read opening t peer reading ≡ acceptance_of d what ∷ []
accepts_read opening t peer (Err fault) d what accepted is = absurd (let e = is in cc)
accepts_read opening t peer (Ok found) d what accepted is = accepts_found opening t.profile t.clock found d what (find (is_for peer found.connection) t.rows) accepted is

accepts_at : (opening : ℕ) (t : AdapterTable) (event : Event) (d : DatagramFields) (what : Delivery) → is_accepted what ≡ true → delivered_at opening t event ≡ Some (d, what) → accepted_at opening t event ≡ acceptance_of d what ∷ []
accepts_at opening t (Datagram peer bytes) d what accepted is = accepts_read opening t peer (datagram_reading bytes) d what accepted is
accepts_at opening t other d what accepted is = absurd (let e = is in cc)

-- a datagram that is delivered so is accepted
accepts : (opening : ℕ) (old : DeviceTable) (event : Event) (d : DatagramFields) (what : Delivery) → is_accepted what ≡ true → delivered_in opening old event ≡ Some (d, what) → accepted_in opening old event ≡ acceptance_of d what ∷ []
accepts opening (Adapter t) event d what accepted is = accepts_at opening t event d what accepted is
accepts opening (Scanner t) event d what accepted is = absurd (let e = is in cc)

-- ---- an owner in run mode

abbrev NoneAt : Acceptance → Type 0
NoneAt accepted = ⊥

none_all : (opening : ℕ) (old : DeviceTable) (events : List Event) → acceptances opening old events ≡ [] → AllByRecursion NoneAt (acceptances opening old events)
none_all opening old events is = rw is tt

one_not : (P : Acceptance → Type 0) (accepted : List Acceptance) (one : Acceptance) → accepted ≡ one ∷ [] → AllByRecursion P accepted → P one
one_not P accepted one is all = let some : AllByRecursion P (one ∷ []) = subst (AllByRecursion P) is all in some.0

-- the newest accepted datagram has the count of the newest data
repeated : (point opening timeout : ℕ) (old : DeviceTable) (events : List Event) (newest : HasNewest point opening Applied old events) (recent : AcceptedWithin opening timeout old events) → recent.accepted.datagram.count ≡ newest.d.count
repeated point opening timeout old events newest recent =
    by_place (places newest.before newest.event newest.after recent.before recent.event recent.after (sym newest.split ∙ recent.split)) where
      taken : accepted_in opening (table_after old newest.before) newest.event ≡ acceptance_of newest.d Applied ∷ []
      taken = accepts opening (table_after old newest.before) newest.event newest.d Applied refl newest.delivered

      head_only : (x y : Acceptance) → x ∷ [] ≡ y ∷ [] → x ≡ y
      head_only x y is = cc

      by_place : Places newest.before newest.event newest.after recent.before recent.event recent.after → recent.accepted.datagram.count ≡ newest.d.count
      by_place (same first second) =
          let at : accepted_in opening (table_after old newest.before) newest.event ≡ recent.accepted ∷ [] = subst (λ (e : Event). accepted_in opening (table_after old newest.before) e ≡ recent.accepted ∷ []) second (subst (λ (b : List Event). accepted_in opening (table_after old b) recent.event ≡ recent.accepted ∷ []) first recent.accepts) in
          ap (λ (a : Acceptance). a.datagram.count) (head_only recent.accepted (acceptance_of newest.d Applied) (sym at ∙ taken))
      by_place (behind m first second) =
          let all = all_at (Repeats newest.d.count) opening (table_after old (newest.before ++ newest.event ∷ [])) m recent.event recent.after
          (subst (λ (a : List Event). AllByRecursion (Repeats newest.d.count) (acceptances opening (table_after old (newest.before ++ newest.event ∷ [])) a)) second newest.repeated) in
          let there : table_after (table_after old (newest.before ++ newest.event ∷ [])) m ≡ table_after old recent.before = after_more old newest.before newest.event m ∙ ap (table_after old) (sym first) in
          one_not (Repeats newest.d.count) _ recent.accepted recent.accepts
          (subst (λ (t : DeviceTable). AllByRecursion (Repeats newest.d.count) (accepted_in opening t recent.event)) there all)
      by_place (ahead m first second) =
          let all = all_at NoneAt opening (table_after old (recent.before ++ recent.event ∷ [])) m newest.event newest.after
          (subst (λ (a : List Event). AllByRecursion NoneAt (acceptances opening (table_after old (recent.before ++ recent.event ∷ [])) a)) second (none_all opening (table_after old (recent.before ++ recent.event ∷ [])) recent.after recent.silent)) in
          let there : table_after (table_after old (recent.before ++ recent.event ∷ [])) m ≡ table_after old newest.before = after_more old recent.before recent.event m ∙ ap (table_after old) (sym first) in
          absurd (one_not NoneAt _ (acceptance_of newest.d Applied) taken
          (subst (λ (t : DeviceTable). AllByRecursion NoneAt (accepted_in opening t newest.event)) there all))

-- a connection that brought data has accepted a datagram
not_opened : (point opening limit : ℕ) (old : DeviceTable) (events : List Event) → HasNewest point opening Applied old events → OpenedWithin opening limit old events → ⊥
not_opened point opening limit old events newest opened =
    let all = all_at NoneAt opening old newest.before newest.event newest.after
    (subst (λ (es : List Event). AllByRecursion NoneAt (acceptances opening old es)) newest.split (none_all opening old events opened.silent)) in
    one_not NoneAt _ (acceptance_of newest.d Applied) (accepts opening (table_after old newest.before) newest.event newest.d Applied refl newest.delivered) all

run_mode : (known : Option Mode) → is_run known ≡ true → known ≡ Some mode.Run
run_mode None is = absurd (let e = is in cc)
run_mode (Some mode.Run) is = refl
run_mode (Some mode.Idle) is = absurd (let e = is in cc)

owner_lives : (point : ℕ) (t : AdapterTable) (owner : Row) → find (drives point) t.rows ≡ Some owner → is_established owner ≡ true
owner_lives point t owner found = (and_parts (is_established owner) _ (found_passes (drives point) t.rows owner found)).0

held_fresh : (point : ℕ) (old : DeviceTable) (events : List Event) (t : AdapterTable) (held : HoldsRunData point old events t) → AcceptedWithin held.owner.opening held.owner.watchdog.0 old events ⊎ OpenedWithin held.owner.opening (first_timeout held.owner.watchdog.0) old events → HoldsFreshData point old events t
held_fresh point old events t held (inl recent) = record {
  owner = held.owner;
  owns = held.owns;
  newest = held.newest;
  holds = held.holds;
  recent = recent;
  repeats = repeated point held.owner.opening held.owner.watchdog.0 old events held.newest recent;
}
held_fresh point old events t held (inr opened) = absurd (not_opened point held.owner.opening (first_timeout held.owner.watchdog.0) old events held.newest opened)

pub run_fresh : RunOwnersHoldData → ConnectionsAcceptInTime → OverEveryRun (λ t. HasOneOwner t.rows) → RunOutputsAreFresh
run_fresh hold in_time one made events outcomes t output none ran found running =
    let point = output.instance in
    let runner = any_found (runs point) t.rows running in
    let runner_is = and_parts (drives point runner.0) _ (found_passes (runs point) t.rows runner.0 runner.1) in
    let driver = any_found (drives point) t.rows (any_weak (runs point) (drives point) (λ row is. (and_parts (drives point row) _ is).0) t.rows running) in
    let same : runner.0 ≡ driver.0 = same_found (runs point) (drives point) t.rows runner.0 driver.0 (one.fresh made events outcomes t none ran point) runner.1 runner_is.0 driver.1 in
    let moded : driver.0.mode ≡ Some mode.Run = run_mode driver.0.mode (subst (λ (r : Row). is_run r.mode ≡ true) same runner_is.1) in
    let held = hold made events outcomes t output (report_of t.clock driver.0) none ran found (ap (option_map (report_of t.clock)) driver.1) moded in
    held_fresh point (opening_table made) (performed events outcomes) t held
    (each_found (AcceptsInTime (opening_table made) (performed events outcomes)) (drives point) t.rows held.owner held.owns (in_time made events outcomes t none ran) (owner_lives point t held.owner held.owns))

-- ---- otherwise

-- the laws of an adapter's steps
pub record KnowsSteps : Type 0 where
  pub leave : StepsLeave
  pub refuse : RefusalsTouchNothing
  pub zeros : FreshOutputsAreZeros
  pub profile : (profile : Profile) → StepsKeep (λ t. t.profile ≡ profile)
  pub whole : StepsKeep IsWhole
  pub opening : (profile : Profile) → profile_fault profile ≡ None → IsWhole (adapter_table profile)

abbrev device_runs : ℕ → DeviceTable → Bool
device_runs point old = list_any (runs point) (rows_in old)

-- a whole adapter of this profile
abbrev WholeOf : Profile → DeviceTable → Type 0
WholeOf profile (Adapter t) = IsWhole t × (t.profile ≡ profile)
WholeOf profile (Scanner t) = ⊥

whole_after : KnowsSteps → (profile : Profile) (old : DeviceTable) (event : Event) → WholeOf profile old → WholeOf profile (table_of old (step old event))
unfolding step
whole_after knows profile (Adapter t) event whole = by_said (adapter_step t event) refl where
  by_said : (said : Result Next StepFault) → adapter_step t event ≡ said → WholeOf profile (table_of (Adapter t) (as_adapter said))
  by_said (Ok next) is = (knows.whole t event next is whole.0, knows.profile profile t event next is whole.1)
  by_said (Err fault) is = whole
whole_after knows profile (Scanner t) event whole = absurd whole

run_whole : KnowsSteps → (profile : Profile) (old : DeviceTable) (events : List Event) → WholeOf profile old → WholeOf profile (table_after old events)
run_whole knows profile old [] whole = whole
run_whole knows profile old (event ∷ events) whole = run_whole knows profile (table_of old (step old event)) events (whole_after knows profile old event whole)

-- an action was done at the output
record ActsNow (output : OutputPoint) (old : DeviceTable) (event : Event) (next : DeviceTable) : Type 0 where
  action : Action
  acts : Acts output old event next action
  leaves : touched output.instance old event next ≡ left_by action output.len

-- no owner drove it in run mode before the event, which did not touch it
record RestsNow (output : OutputPoint) (old : DeviceTable) (event : Event) (next : DeviceTable) : Type 0 where
  none : device_runs output.instance old ≡ false
  untouched : touched output.instance old event next ≡ None

record StepGoes (output : OutputPoint) (old : DeviceTable) (event : Event) (next : DeviceTable) : Type 0 where
  value : bytes_in next output.instance ≡ or_else (touched output.instance old event next) (bytes_in old output.instance)
  goes : device_runs output.instance next ≡ false → RestsNow output old event next ⊎ ActsNow output old event next

acts_now : (output : OutputPoint) (t : AdapterTable) (event : Event) (next : AdapterTable) → find (is_output_at output.instance) t.profile.outputs ≡ Some output → steps.Goes output.instance t event next (left_at output.instance t event next) → RestsNow output (Adapter t) event (Adapter next) ⊎ ActsNow output (Adapter t) event (Adapter next)
acts_now output t event next found (inl rests) = inl (record { none = rests.none; untouched = rests.untouched })
acts_now output t event next found (inr (inl idled)) = inr (record {
  action = output.idle;
  acts = inl (refl, record { owner = idled.owner; owns = idled.owns; d = idled.d; delivered = idled.is });
  leaves = idled.leaves ∙ ap left_idle found;
})
acts_now output t event next found (inr (inr lost)) = inr (record {
  action = output.fault;
  acts = inr (refl, lost.is);
  leaves = lost.leaves ∙ ap left_lost found;
})

goes_by : KnowsSteps → (output : OutputPoint) (profile : Profile) → find (is_output_at output.instance) profile.outputs ≡ Some output → (t : AdapterTable) (event : Event) (said : Result Next StepFault) → adapter_step t event ≡ said → WholeOf profile (Adapter t) → StepGoes output (Adapter t) event (table_of (Adapter t) (as_adapter said))
goes_by knows output profile found t event (Ok next) is whole =
    let there : find (is_output_at output.instance) t.profile.outputs ≡ Some output = ap (λ (p : Profile). find (is_output_at output.instance) p.outputs) whole.1 ∙ found in
    record {
      value = knows.leave t event next is whole.0 output.instance output there;
      goes = λ none. acts_now output t event next.1 there (steps.step_goes output.instance t event next is whole.0.sound none);
    }
goes_by knows output profile found t event (Err fault) is whole =
    let none = knows.refuse output.instance t event fault is in
    record {
      value = rw none refl;
      goes = λ stays. inl (record { none = stays; untouched = none });
    }

step_goes : KnowsSteps → (output : OutputPoint) (profile : Profile) → find (is_output_at output.instance) profile.outputs ≡ Some output → (old : DeviceTable) (event : Event) → WholeOf profile old → StepGoes output old event (table_of old (step old event))
unfolding step
step_goes knows output profile found (Adapter t) event whole = goes_by knows output profile found t event (adapter_step t event) refl whole
step_goes knows output profile found (Scanner t) event whole = absurd whole

-- one of the events had an action done at the output, and none touched it after that
record ActsOnce (output : OutputPoint) (old : DeviceTable) (events : List Event) (new : DeviceTable) : Type 0 where
  before : List Event
  event : Event
  after : List Event
  action : Action
  split : events ≡ before ++ event ∷ after
  acts : Acts output (table_after old before) event (table_after old (before ++ event ∷ [])) action
  untouched : last_touched output.instance (table_after old (before ++ event ∷ [])) after ≡ None
  holds : bytes_in new output.instance ≡ or_else (left_by action output.len) (bytes_in (table_after old before) output.instance)

-- none of the events touched the output
record RestsOver (output : OutputPoint) (old : DeviceTable) (events : List Event) (new : DeviceTable) : Type 0 where
  none : device_runs output.instance old ≡ false
  untouched : last_touched output.instance old events ≡ None
  same : bytes_in new output.instance ≡ bytes_in old output.instance

abbrev RunGoes : OutputPoint → DeviceTable → List Event → DeviceTable → Type 0
RunGoes output old events new = RestsOver output old events new ⊎ ActsOnce output old events new

acts_later : (output : OutputPoint) (old : DeviceTable) (event : Event) (events : List Event) (new : DeviceTable) → ActsOnce output (table_of old (step old event)) events new → ActsOnce output old (event ∷ events) new
acts_later output old event events new acts = record {
  before = event ∷ acts.before;
  event = acts.event;
  after = acts.after;
  action = acts.action;
  split = ap (λ (es : List Event). event ∷ es) acts.split;
  acts = acts.acts;
  untouched = acts.untouched;
  holds = acts.holds;
}

goes_more : (output : OutputPoint) (old : DeviceTable) (event : Event) (events : List Event) (new : DeviceTable) → StepGoes output old event (table_of old (step old event)) → RunGoes output (table_of old (step old event)) events new → RunGoes output old (event ∷ events) new
goes_more output old event events new goes (inr acts) = inr (acts_later output old event events new acts)
goes_more output old event events new goes (inl rests) = by_step (goes.goes rests.none) where
  by_step : RestsNow output old event (table_of old (step old event)) ⊎ ActsNow output old event (table_of old (step old event)) → RunGoes output old (event ∷ events) new
  by_step (inl now) = inl (record {
    none = now.none;
    untouched = ap (λ (left : Option (List ℕ)). or_else left (touched output.instance old event (table_of old (step old event)))) rests.untouched ∙ now.untouched;
    same = rests.same ∙ goes.value ∙ ap (λ (left : Option (List ℕ)). or_else left (bytes_in old output.instance)) now.untouched;
  })
  by_step (inr now) = inr (record {
    before = [];
    event = event;
    after = events;
    action = now.action;
    split = refl;
    acts = now.acts;
    untouched = rests.untouched;
    holds = rests.same ∙ goes.value ∙ ap (λ (left : Option (List ℕ)). or_else left (bytes_in old output.instance)) now.leaves;
  })

run_goes : KnowsSteps → (output : OutputPoint) (profile : Profile) → find (is_output_at output.instance) profile.outputs ≡ Some output → (old : DeviceTable) (events : List Event) → WholeOf profile old → device_runs output.instance (table_after old events) ≡ false → RunGoes output old events (table_after old events)
run_goes knows output profile found old [] whole none = inl (record { none = none; untouched = refl; same = refl })
run_goes knows output profile found old (event ∷ events) whole none =
    let next = table_of old (step old event) in
    goes_more output old event events (table_after next events) (step_goes knows output profile found old event whole)
    (run_goes knows output profile found next events (whole_after knows profile old event whole) none)

-- ---- a run from a fresh adapter

fresh_goes : KnowsSteps → (output : OutputPoint) (profile : Profile) → find (is_output_at output.instance) profile.outputs ≡ Some output → (events : List Event) (t : AdapterTable) → RunGoes output (Adapter (adapter_table profile)) events (Adapter t) → HoldsActed output (Adapter (adapter_table profile)) events t ⊎ HoldsZeros output (Adapter (adapter_table profile)) events t
fresh_goes knows output profile found events t (inl rests) = inr (record { untouched = rests.untouched; holds = rests.same ∙ knows.zeros profile output.instance output found })
fresh_goes knows output profile found events t (inr acts) = inl (record {
  before = acts.before;
  event = acts.event;
  after = acts.after;
  action = acts.action;
  split = acts.split;
  acts = acts.acts;
  untouched = acts.untouched;
  holds = acts.holds;
})

fresh_acted : KnowsSteps → (profile : Profile) (events : List Event) (t : AdapterTable) (output : OutputPoint) → profile_fault profile ≡ None → Adapter t ≡ table_after (Adapter (adapter_table profile)) events → find (is_output_at output.instance) t.profile.outputs ≡ Some output → list_any (runs output.instance) t.rows ≡ false → HoldsActed output (Adapter (adapter_table profile)) events t ⊎ HoldsZeros output (Adapter (adapter_table profile)) events t
fresh_acted knows profile events t output none ends found stopped =
    let old = Adapter (adapter_table profile) in
    let whole : WholeOf profile old = (knows.opening profile none, refl) in
    let whole_then : WholeOf profile (Adapter t) = subst (WholeOf profile) (sym ends) (run_whole knows profile old events whole) in
    let there : find (is_output_at output.instance) profile.outputs ≡ Some output = ap (λ (p : Profile). find (is_output_at output.instance) p.outputs) (sym whole_then.1) ∙ found in
    fresh_goes knows output profile there events t
    (subst (RunGoes output old events) (sym ends) (run_goes knows output profile there old events whole (subst (λ (d : DeviceTable). device_runs output.instance d ≡ false) ends stopped)))

pub others_acted : KnowsSteps → OtherOutputsAreActed
others_acted knows (config.Adapter profile) events outcomes t output none ran found stopped =
    fresh_acted knows profile (performed events outcomes) t output none (run_folds (Adapter (adapter_table profile)) events outcomes (Adapter t) ran).table found stopped
others_acted knows (config.Scanner profile) events outcomes t output none ran found stopped =
    let start = scanner_table profile in
    absurd (apart ((run_folds (Scanner start) events outcomes (Adapter t) ran).table ∙ fold_of start (performed events outcomes))) where
      apart : {s : ScannerTable} → Adapter t ≡ Scanner s → ⊥
      apart is = cc
