-- After each run an output with an owner holds the newest data of the owner in run mode, or what the idle action left for them.
use Rattle.std.proofs.Common.{◌≡◌, ◌⊎◌, inl, inr, ℕ, Bool, true, false, List, [], ◌∷◌, find, Option, Some, None, Result, Ok, Err, refl, sym, ◌∙◌, ap, subst, eq-eqb}
use Rattle.std.specs.List.{AllByRecursion}
use Rattle.std.specs.Option.{option_map}
use Rattle.std.proofs.lemmas.Option.{same_Some}
use Rattle.cip_types.specs.declared.names.Ms.{Ms}
use Rattle.cip_events.specs.declared.event.Event.{Event}
use Rattle.cip_events.specs.declared.event.StepFault.{StepFault}
use Rattle.cip_events.specs.Outcomes.{Outcome}
use Rattle.cip_productions.specs.declared.acceptance.Accepted.{Accepted}
use Rattle.adapter_table.specs.declared.profile.OutputPoint.{OutputPoint}
use Rattle.adapter_table.specs.declared.profile.Profile.{Profile}
use Rattle.adapter_table.specs.declared.report.ConnectionReport.{ConnectionReport}
use Rattle.adapter_table.specs.declared.row.Mode.{Mode}
use Rattle.adapter_table.specs.declared.row.Mode.TheVariants as mode
use Rattle.adapter_table.specs.declared.table.AdapterTable.{AdapterTable}
use Rattle.adapter_table.specs.Connections.{Row}
use Rattle.adapter_table.specs.Laws.{StepsKeep, StepsLeave, RefusalsTouchNothing, RefusalsAcceptNothing}
use Rattle.adapter_table.specs.Newest.{Acceptance, was_opened_as}
use Rattle.adapter_table.specs.Profiles.{is_output_at, profile_fault}
use Rattle.adapter_table.specs.Requests.{Next}
use Rattle.adapter_table.specs.Rows.{drives}
use Rattle.adapter_table.specs.Scratch.{or_else, left_accepted}
use Rattle.adapter_table.specs.States.{report_of, owner_of}
use Rattle.adapter_table.specs.Step.{adapter_step, adapter_table}
use Rattle.adapter_table.specs.Whole.{IsWhole}
use Rattle.base_lemmas.specs.Lists.{found_passes}
use Rattle.scanner_table.specs.declared.table.ScannerTable.{ScannerTable}
use Rattle.scanner_table.specs.Step.{scanner_table}
use Rattle.scanner_table.specs.Runs.{table_after as scanner_after}
use Rattle.cip_tables.specs.declared.table.Config.TheVariants as config
use Rattle.cip_tables.specs.declared.table.DeviceTable.{DeviceTable}
use Rattle.cip_tables.specs.declared.table.DeviceTable.TheVariants.{Adapter, Scanner}
use Rattle.cip_tables.specs.Newest.{accepted_in, acceptances}
use Rattle.cip_tables.specs.Run.{table_of, table_after, performed}
use Rattle.cip_tables.specs.RunLaws.{run_folds}
use Rattle.cip_tables.specs.Scratch.{touched, last_touched}
use Rattle.cip_tables.specs.Step.{as_adapter, step, bytes_in}
use Rattle.device_laws.specs.OwnerData.{delivered_in, Repeats, HasNewest, OfOwnersIn, RunOwnersHoldData, IdleOwnersHoldData}
use Rattle.device_laws.specs.Lemmas.Folds.{fold_of}
use Rattle.device_laws.specs.Lemmas.Lists.{all_both}
use Rattle.device_laws.proofs.OwnerDataSteps.{Ownership, owns, is_owned, same_mode, has_mode, has_count, found_any, all_four, brings, RepeatsKnown, Brings, EventGoes, event_goes}

-- the laws of an adapter's steps
pub record KnowsSteps : Type 0 where
  pub leave : StepsLeave
  pub refuse : RefusalsTouchNothing
  pub accept : RefusalsAcceptNothing
  pub profile : (profile : Profile) → StepsKeep (λ t. t.profile ≡ profile)
  pub whole : StepsKeep IsWhole
  pub opening : (profile : Profile) → profile_fault profile ≡ None → IsWhole (adapter_table profile)

-- ---- one event at a device

abbrev device_owned : Ownership → DeviceTable → Bool
device_owned o (Adapter t) = is_owned o t
device_owned o (Scanner t) = false

-- a whole adapter of this profile
abbrev WholeOf : Profile → DeviceTable → Type 0
WholeOf profile (Adapter t) = IsWhole t × (t.profile ≡ profile)
WholeOf profile (Scanner t) = ⊥

whole_by : KnowsSteps → (profile : Profile) (t : AdapterTable) (event : Event) (said : Result Next StepFault) → adapter_step t event ≡ said → WholeOf profile (Adapter t) → WholeOf profile (table_of (Adapter t) (as_adapter said))
whole_by knows profile t event (Ok next) is whole = (knows.whole t event next is whole.0, knows.profile profile t event next is whole.1)
whole_by knows profile t event (Err fault) is whole = whole

whole_after : KnowsSteps → (profile : Profile) (old : DeviceTable) (event : Event) → WholeOf profile old → WholeOf profile (table_of old (step old event))
unfolding step
whole_after knows profile (Adapter t) event whole = whole_by knows profile t event (adapter_step t event) refl whole
whole_after knows profile (Scanner t) event whole = absurd whole

run_whole : KnowsSteps → (profile : Profile) (old : DeviceTable) (events : List Event) → WholeOf profile old → WholeOf profile (table_after old events)
run_whole knows profile old [] whole = whole
run_whole knows profile old (event ∷ events) whole = run_whole knows profile (table_of old (step old event)) events (whole_after knows profile old event whole)

-- the owner was there before the event, accepted no new data, and the event left nothing at the output
record StaysOver (o : Ownership) (old : DeviceTable) (event : Event) (next : DeviceTable) : Type 0 where
  owned : device_owned o old ≡ true
  repeated : AllByRecursion (RepeatsKnown o.known) (accepted_in o.opening old event)
  untouched : touched o.point old event next ≡ None

record StepGoes (o : Ownership) (profile : Profile) (old : DeviceTable) (event : Event) (next : DeviceTable) : Type 0 where
  value : bytes_in next o.point ≡ or_else (touched o.point old event next) (bytes_in old o.point)
  goes : device_owned o next ≡ true → Brings o profile (delivered_in o.opening old event) (touched o.point old event next) ⊎ StaysOver o old event next

device_goes : (o : Ownership) (profile : Profile) (t : AdapterTable) (event : Event) (next : AdapterTable) → t.profile ≡ profile → EventGoes o t event next → Brings o profile (delivered_in o.opening (Adapter t) event) (touched o.point (Adapter t) event (Adapter next)) ⊎ StaysOver o (Adapter t) event (Adapter next)
device_goes o profile t event next same (inl brought) = inl (subst (λ (p : Profile). Brings o p (delivered_in o.opening (Adapter t) event) (touched o.point (Adapter t) event (Adapter next))) same brought)
device_goes o profile t event next same (inr remains) = inr (record { owned = remains.owned; repeated = remains.repeated; untouched = remains.untouched })

goes_by : KnowsSteps → (o : Ownership) (profile : Profile) (output : OutputPoint) → find (is_output_at o.point) profile.outputs ≡ Some output → (t : AdapterTable) (event : Event) (said : Result Next StepFault) → adapter_step t event ≡ said → WholeOf profile (Adapter t) → StepGoes o profile (Adapter t) event (table_of (Adapter t) (as_adapter said))
goes_by knows o profile output found t event (Ok next) is whole = record {
  value = knows.leave t event next is whole.0 o.point output (ap (λ (p : Profile). find (is_output_at o.point) p.outputs) whole.1 ∙ found);
  goes = λ owned. device_goes o profile t event next.1 whole.1 (event_goes o t event next is whole.0.sound owned);
}
goes_by knows o profile output found t event (Err fault) is whole =
    let none = knows.refuse o.point t event fault is in
    record {
      value = rw none refl;
      goes = λ owned. inr (record {
        owned = owned;
        repeated = subst (AllByRecursion (RepeatsKnown o.known)) (sym (knows.accept o.opening t event fault is)) tt;
        untouched = none;
      });
    }

step_goes : KnowsSteps → (o : Ownership) (profile : Profile) (output : OutputPoint) → find (is_output_at o.point) profile.outputs ≡ Some output → (old : DeviceTable) (event : Event) → WholeOf profile old → StepGoes o profile old event (table_of old (step old event))
unfolding step
step_goes knows o profile output found (Adapter t) event whole = goes_by knows o profile output found t event (adapter_step t event) refl whole
step_goes knows o profile output found (Scanner t) event whole = absurd whole

-- ---- a run

-- the owner was there before the events, accepted no new data, and no event touched the output
record StaysOverAll (o : Ownership) (old : DeviceTable) (events : List Event) (new : DeviceTable) : Type 0 where
  owned : device_owned o old ≡ true
  repeated : AllByRecursion (RepeatsKnown o.known) (acceptances o.opening old events)
  untouched : last_touched o.point old events ≡ None
  same : bytes_in new o.point ≡ bytes_in old o.point

-- one of the events brought the newest data
record BringsOnce (o : Ownership) (profile : Profile) (old : DeviceTable) (events : List Event) (new : DeviceTable) : Type 0 where
  newest : HasNewest o.point o.opening (brings o.moded) old events
  holds : bytes_in new o.point ≡ or_else (left_accepted (find (is_output_at o.point) profile.outputs) newest.d (brings o.moded)) (bytes_in (table_after old newest.before) o.point)

all_weak : (P Q : Acceptance → Type 0) → ((a : Acceptance) → P a → Q a) → (all : List Acceptance) → AllByRecursion P all → AllByRecursion Q all
all_weak P Q weak [] holds = tt
all_weak P Q weak (a ∷ all) holds = (weak a holds.0, all_weak P Q weak all holds.1)

brings_later : (o : Ownership) (profile : Profile) (old : DeviceTable) (event : Event) (events : List Event) (new : DeviceTable) → BringsOnce o profile (table_of old (step old event)) events new → BringsOnce o profile old (event ∷ events) new
brings_later o profile old event events new brought =
    let newest = brought.newest in
    record {
      newest = record {
        before = event ∷ newest.before;
        event = newest.event;
        after = newest.after;
        d = newest.d;
        split = ap (λ (es : List Event). event ∷ es) newest.split;
        delivered = newest.delivered;
        repeated = newest.repeated;
        untouched = newest.untouched;
      };
      holds = brought.holds;
    }

brings_now : (o : Ownership) (profile : Profile) (old : DeviceTable) (event : Event) (events : List Event) (new : DeviceTable) → StepGoes o profile old event (table_of old (step old event)) → StaysOverAll o (table_of old (step old event)) events new → Brings o profile (delivered_in o.opening old event) (touched o.point old event (table_of old (step old event))) → BringsOnce o profile old (event ∷ events) new
brings_now o profile old event events new goes stays brought = record {
  newest = record {
    before = [];
    event = event;
    after = events;
    d = brought.d;
    split = refl;
    delivered = brought.is;
    repeated = all_weak (RepeatsKnown o.known) (Repeats brought.d.count) (λ a is. same_Some a.datagram.count brought.d.count (sym is ∙ brought.counted)) (acceptances o.opening (table_of old (step old event)) events) stays.repeated;
    untouched = stays.untouched;
  };
  holds = stays.same ∙ goes.value ∙ ap (λ (left : Option (List ℕ)). or_else left (bytes_in old o.point)) brought.leaves;
}

both_none : (first second : Option (List ℕ)) → first ≡ None → second ≡ None → or_else first second ≡ None
both_none None second first_none none = none
both_none (Some left) second first_none none = first_none

stays_more : (o : Ownership) (profile : Profile) (old : DeviceTable) (event : Event) (events : List Event) (new : DeviceTable) → StepGoes o profile old event (table_of old (step old event)) → StaysOverAll o (table_of old (step old event)) events new → StaysOver o old event (table_of old (step old event)) → StaysOverAll o old (event ∷ events) new
stays_more o profile old event events new goes stays over =
    let next = table_of old (step old event) in
    record {
      owned = over.owned;
      repeated = all_both (RepeatsKnown o.known) (accepted_in o.opening old event) (acceptances o.opening next events) over.repeated stays.repeated;
      untouched = both_none (last_touched o.point next events) (touched o.point old event next) stays.untouched over.untouched;
      same = stays.same ∙ goes.value ∙ ap (λ (left : Option (List ℕ)). or_else left (bytes_in old o.point)) over.untouched;
    }

abbrev RunGoes : Ownership → Profile → DeviceTable → List Event → DeviceTable → Type 0
RunGoes o profile old events new = BringsOnce o profile old events new ⊎ StaysOverAll o old events new

goes_more : (o : Ownership) (profile : Profile) (old : DeviceTable) (event : Event) (events : List Event) (new : DeviceTable) → StepGoes o profile old event (table_of old (step old event)) → RunGoes o profile (table_of old (step old event)) events new → RunGoes o profile old (event ∷ events) new
goes_more o profile old event events new goes (inl brought) = inl (brings_later o profile old event events new brought)
goes_more o profile old event events new goes (inr stays) = by_step (goes.goes stays.owned) where
  by_step : Brings o profile (delivered_in o.opening old event) (touched o.point old event (table_of old (step old event))) ⊎ StaysOver o old event (table_of old (step old event)) → RunGoes o profile old (event ∷ events) new
  by_step (inl brought) = inl (brings_now o profile old event events new goes stays brought)
  by_step (inr over) = inr (stays_more o profile old event events new goes stays over)

run_goes : KnowsSteps → (o : Ownership) (profile : Profile) (output : OutputPoint) → find (is_output_at o.point) profile.outputs ≡ Some output → (old : DeviceTable) (events : List Event) → WholeOf profile old → device_owned o (table_after old events) ≡ true → RunGoes o profile old events (table_after old events)
run_goes knows o profile output found old [] whole owned = inr (record { owned = owned; repeated = tt; untouched = refl; same = refl })
run_goes knows o profile output found old (event ∷ events) whole owned =
    let next = table_of old (step old event) in
    goes_more o profile old event events (table_after next events) (step_goes knows o profile output found old event whole)
    (run_goes knows o profile output found next events (whole_after knows profile old event whole) owned)

-- a fresh adapter has no owner
brought_once : (o : Ownership) (profile : Profile) (events : List Event) (new : DeviceTable) → RunGoes o profile (Adapter (adapter_table profile)) events new → BringsOnce o profile (Adapter (adapter_table profile)) events new
brought_once o profile events new (inl brought) = brought
brought_once o profile events new (inr stays) = absurd (let e = stays.owned in cc)

-- ---- the owner that is said

abbrev count_of : Option Accepted → Option ℕ
count_of None = None
count_of (Some last) = Some last.count

own_count : (last : Option Accepted) → has_count (count_of last) last ≡ true
own_count None = refl
own_count (Some last) = eq-eqb last.count last.count refl

own_mode : (moded : Mode) → same_mode moded moded ≡ true
own_mode mode.Run = refl
own_mode mode.Idle = refl

record SaidOwner (point : ℕ) (t : AdapterTable) (report : ConnectionReport) : Type 0 where
  row : Row
  found : find (drives point) t.rows ≡ Some row
  said : report_of t.clock row ≡ report

said_by : (clock : Ms) (found : Option Row) (report : ConnectionReport) → option_map (report_of clock) found ≡ Some report → (row : Row) × (found ≡ Some row) × (report_of clock row ≡ report)
said_by clock None report is = absurd (let e = is in cc)
said_by clock (Some row) report is = (row, refl, same_Some (report_of clock row) report is)

said_owner : (point : ℕ) (t : AdapterTable) (report : ConnectionReport) → owner_of t point ≡ Some report → SaidOwner point t report
said_owner point t report is =
    let said = said_by t.clock (find (drives point) t.rows) report is in
    record { row = said.0; found = said.1; said = said.2 }

abbrev ownership_of : ℕ → Mode → Row → Ownership
ownership_of point moded row = record { point = point; opening = row.opening; moded = moded; known = count_of row.last }

said_owns : (point : ℕ) (moded : Mode) (t : AdapterTable) (row : Row) → find (drives point) t.rows ≡ Some row → row.mode ≡ Some moded → is_owned (ownership_of point moded row) t ≡ true
said_owns point moded t row found is =
    found_any (drives point) (owns (ownership_of point moded row)) t.rows row found
    (all_four (drives point row) (has_mode moded row.mode) (has_count (count_of row.last) row.last) (was_opened_as row.opening row)
    (found_passes (drives point) t.rows row found) (ap (has_mode moded) is ∙ own_mode moded) (own_count row.last) (eq-eqb row.opening row.opening refl))

-- ---- a run from a fresh adapter

-- the newest data of the owner, and what the output holds
record OwnerBrings (moded : Mode) (old : DeviceTable) (events : List Event) (t : AdapterTable) (output : OutputPoint) : Type 0 where
  owner : Row
  found : find (drives output.instance) t.rows ≡ Some owner
  newest : HasNewest output.instance owner.opening (brings moded) old events
  holds : bytes_in (Adapter t) output.instance ≡ or_else (left_accepted (Some output) newest.d (brings moded)) (bytes_in (table_after old newest.before) output.instance)

said_brings : (moded : Mode) (profile : Profile) (events : List Event) (t : AdapterTable) (output : OutputPoint) (row : Row) → find (drives output.instance) t.rows ≡ Some row → Adapter t ≡ table_after (Adapter (adapter_table profile)) events → find (is_output_at output.instance) profile.outputs ≡ Some output → BringsOnce (ownership_of output.instance moded row) profile (Adapter (adapter_table profile)) events (table_after (Adapter (adapter_table profile)) events) → OwnerBrings moded (Adapter (adapter_table profile)) events t output
said_brings moded profile events t output row found ends there once = record {
  owner = row;
  found = found;
  newest = once.newest;
  holds = held (Adapter t) (table_after (Adapter (adapter_table profile)) events) (find (is_output_at output.instance) profile.outputs) (bytes_in (table_after (Adapter (adapter_table profile)) once.newest.before) output.instance) ends there once.holds;
} where
  held : (t u : DeviceTable) (out : Option OutputPoint) (before : Option (List ℕ)) → t ≡ u → out ≡ Some output → bytes_in u output.instance ≡ or_else (left_accepted out once.newest.d (brings moded)) before → bytes_in t output.instance ≡ or_else (left_accepted (Some output) once.newest.d (brings moded)) before
  held t u out before same is holds = rw (same, ← is) holds

fresh_brings : KnowsSteps → (moded : Mode) (profile : Profile) (events : List Event) (outcomes : List Outcome) (t : AdapterTable) (output : OutputPoint) (report : ConnectionReport) → profile_fault profile ≡ None → Adapter t ≡ table_after (Adapter (adapter_table profile)) (performed events outcomes) → find (is_output_at output.instance) t.profile.outputs ≡ Some output → owner_of t output.instance ≡ Some report → report.mode ≡ Some moded → OwnerBrings moded (Adapter (adapter_table profile)) (performed events outcomes) t output
fresh_brings knows moded profile events outcomes t output report none ends found owner is =
    let old = Adapter (adapter_table profile) in
    let all = performed events outcomes in
    let whole : WholeOf profile old = (knows.opening profile none, refl) in
    let whole_then : WholeOf profile (Adapter t) = subst (WholeOf profile) (sym ends) (run_whole knows profile old all whole) in
    let there : find (is_output_at output.instance) profile.outputs ≡ Some output = ap (λ (p : Profile). find (is_output_at output.instance) p.outputs) (sym whole_then.1) ∙ found in
    let said = said_owner output.instance t report owner in
    let moded_so : said.row.mode ≡ Some moded = ap (λ (r : ConnectionReport). r.mode) said.said ∙ is in
    let o = ownership_of output.instance moded said.row in
    let owned = subst (λ (d : DeviceTable). device_owned o d ≡ true) ends (said_owns output.instance moded t said.row said.found moded_so) in
    said_brings moded profile all t output said.row said.found ends there (brought_once o profile all (table_after old all) (run_goes knows o profile output there old all whole owned))

no_scanner : (t : AdapterTable) (s : ScannerTable) → Adapter t ≡ Scanner s → ⊥
no_scanner t s is = cc

owner_brings : KnowsSteps → (moded : Mode) → OfOwnersIn moded (λ output old events t. OwnerBrings moded old events t output)
owner_brings knows moded (config.Adapter profile) events outcomes t output report none ran found owner is =
    fresh_brings knows moded profile events outcomes t output report none (run_folds (Adapter (adapter_table profile)) events outcomes (Adapter t) ran).table found owner is
owner_brings knows moded (config.Scanner profile) events outcomes t output report none ran found owner is =
    let start = scanner_table profile in
    absurd (no_scanner t (scanner_after start (performed events outcomes))
    ((run_folds (Scanner start) events outcomes (Adapter t) ran).table ∙ fold_of start (performed events outcomes)))

pub run_owners : KnowsSteps → RunOwnersHoldData
run_owners knows made events outcomes t output report none ran found owner is =
    let brought = owner_brings knows mode.Run made events outcomes t output report none ran found owner is in
    record { owner = brought.owner; owns = brought.found; newest = brought.newest; holds = brought.holds }

pub idle_owners : KnowsSteps → IdleOwnersHoldData
idle_owners knows made events outcomes t output report none ran found owner is =
    let brought = owner_brings knows mode.Idle made events outcomes t output report none ran found owner is in
    record { owner = brought.owner; owns = brought.found; newest = brought.newest; holds = brought.holds }
