-- A run keeps what each step keeps.
use Rattle.std.proofs.Common.{◌≡◌, ◌≤◌, ℕ, List, [], ◌∷◌, None, Result, Ok, Err, IfOk, refl, sym, subst, arith}
use Rattle.cip_types.specs.IdLaws.{extends_itself, extends_on}
use Rattle.cip_types.specs.Ids.{Extends, end_number}
use Rattle.cip_types.specs.declared.ids.IdBlock.{IdBlock}
use Rattle.cip_events.specs.declared.event.Event.{Event}
use Rattle.cip_events.specs.declared.event.StepFault.{StepFault}
use Rattle.cip_events.specs.declared.event.StepFault.TheVariants.{OutOfMemory, TickTooLong, ClockEnd, NoSuchPoint, WrongLength, NoSuchSlot, NotAllowedNow}
use Rattle.cip_events.specs.Outcomes.{Outcome, Follows}
use Rattle.adapter_table.specs.declared.profile.Profile.{Profile}
use Rattle.adapter_table.specs.declared.table.AdapterTable.{AdapterTable}
use Rattle.adapter_table.specs.Profiles.{profile_fault}
use Rattle.adapter_table.specs.Requests.{Next}
use Rattle.adapter_table.specs.Step.{adapter_step, adapter_table}
use Rattle.adapter_table.specs.Sound.{IsSound}
use Rattle.adapter_table.specs.Whole.{IsWhole}
use Rattle.adapter_table.specs.Laws.{StepsKeep, StepsLeaveIds as AdaptersLeaveIds}
use Rattle.adapter_table.specs.MessagesSound.{IsSettled}
use Rattle.adapter_table.specs.MessageLaws.{AnswersSettle, SettledAreRefused}
use Rattle.adapter_table.specs.Rates.{OpensWithinLimits}
use Rattle.adapter_table.specs.StatedLimits.{IsWithinLimits, PlacesAreKept}
use Rattle.scanner_table.specs.declared.profile.ScannerProfile.{ScannerProfile}
use Rattle.scanner_table.specs.declared.table.ScannerTable.{ScannerTable}
use Rattle.scanner_table.specs.Effects.{Next as ScannerNext}
use Rattle.scanner_table.specs.Profiles.{profile_fault as scanner_profile_fault}
use Rattle.scanner_table.specs.Step.{scanner_step, scanner_table}
use Rattle.scanner_table.specs.Whole.{IsWholeScanner}
use Rattle.scanner_table.specs.Counters.{CountsOn, StepsLeaveIds as ScannersLeaveIds}
use Rattle.scanner_table.specs.Runs.{StepsLead as ScannersLead}
use Rattle.cip_tables.specs.declared.table.Config.{Config}
use Rattle.cip_tables.specs.declared.table.Config.TheVariants as config
use Rattle.cip_tables.specs.declared.table.DeviceTable.{DeviceTable}
use Rattle.cip_tables.specs.declared.table.DeviceTable.TheVariants.{Adapter, Scanner}
use Rattle.cip_tables.specs.Step.{DeviceNext, as_adapter, config_fault, as_scanner, step, opening_table}
use Rattle.cip_tables.specs.Messages.{OverEveryWholeRun, AnswersAreOnce}
use Rattle.cip_tables.specs.Run.{Runs}
use Rattle.cip_tables.specs.Sound.{IsSoundDevice, OverEveryRun, StepsCountOn, StepsGrow, StepsLeaveIds, RunsCountOn}
use Rattle.cip_tables.specs.StatedLimits.{FreshDevicesOpenWithin, RunsStayWithin, FreshDevicesStayWithin, TypesHavePlaces}
use Rattle.cip_tables.specs.Whole.{IsWholeDevice, ids_of, next_id_of, RunsKeepWhole, FreshDevicesAreWhole, TablesAreWhole}

-- one thing holds of an adapter, another of a scanner
abbrev pub InDevice : (AdapterTable → Type 0) → (ScannerTable → Type 0) → DeviceTable → Type 0
InDevice P Q (Adapter t) = P t
InDevice P Q (Scanner t) = Q t

-- a scanner's step keeps it
abbrev pub ScannersKeep : (ScannerTable → Type 0) → Type 0
ScannersKeep Q = (t : ScannerTable) (event : Event) → Q t → IfOk (scanner_step t event) (λ next. Q next.1)

-- the device is an adapter, of which this holds
abbrev pub InAdapter : (AdapterTable → Type 0) → DeviceTable → Type 0
InAdapter P = InDevice P (λ t. ⊥)

-- this holds of the device where it is an adapter
abbrev pub IfAdapter : (AdapterTable → Type 0) → DeviceTable → Type 0
IfAdapter P = InDevice P (λ t. Unit {0})

pub none_keep : ScannersKeep (λ t. ⊥)
none_keep t event never = absurd never

pub any_ok : (said : Result ScannerNext StepFault) → IfOk said (λ next. Unit {0})
any_ok (Ok next) = tt
any_ok (Err fault) = tt

pub all_keep : ScannersKeep (λ t. Unit {0})
all_keep t event holds = any_ok (scanner_step t event)

pub ok_is : (x y : DeviceNext) → ◌≡◌ {A = Result DeviceNext StepFault} (Ok x) (Ok y) → x ≡ y
ok_is x y h = cc

adapter_keeps : (P : AdapterTable → Type 0) (Q : ScannerTable → Type 0) (said : Result Next StepFault) (next : DeviceNext) → as_adapter said ≡ Ok next → ((n : Next) → said ≡ Ok n → P n.1) → InDevice P Q next.1
adapter_keeps P Q (Ok n) next is holds = subst (λ (d : DeviceNext). InDevice P Q d.1) (ok_is _ _ is) (holds n refl)
adapter_keeps P Q (Err fault) next is holds = absurd cc

pub scanner_keeps : (P : AdapterTable → Type 0) (Q : ScannerTable → Type 0) (said : Result ScannerNext StepFault) (next : DeviceNext) → as_scanner said ≡ Ok next → IfOk said (λ n. Q n.1) → InDevice P Q next.1
scanner_keeps P Q (Ok n) next is holds = subst (λ (d : DeviceNext). InDevice P Q d.1) (ok_is _ _ is) holds
scanner_keeps P Q (Err fault) next is holds = absurd cc

pub step_keeps : (P : AdapterTable → Type 0) (Q : ScannerTable → Type 0) → StepsKeep P → ScannersKeep Q → (t : DeviceTable) (event : Event) (next : DeviceNext) → step t event ≡ Ok next → InDevice P Q t → InDevice P Q next.1
unfolding step
step_keeps P Q keep keep' (Adapter t) event next is holds = adapter_keeps P Q (adapter_step t event) next is (λ n said. keep t event n said holds)
step_keeps P Q keep keep' (Scanner t) event next is holds = scanner_keeps P Q (scanner_step t event) next is (keep' t event holds)

stays_so : (P : AdapterTable → Type 0) (Q : ScannerTable → Type 0) (old new : DeviceTable) → new ≡ old → InDevice P Q old → InDevice P Q new
stays_so P Q old new stays holds = subst (InDevice P Q) (sym stays) holds

pub follows_keeps : (P : AdapterTable → Type 0) (Q : ScannerTable → Type 0) → StepsKeep P → ScannersKeep Q → (t : DeviceTable) (event : Event) (outcome : Outcome) (new : DeviceTable) → Follows (step t event) t outcome new → InDevice P Q t → InDevice P Q new
follows_keeps P Q keep keep' t event (Ok answer) new follows holds = step_keeps P Q keep keep' t event (answer, new) follows holds
follows_keeps P Q keep keep' t event (Err OutOfMemory) new follows holds = stays_so P Q t new follows.1 holds
follows_keeps P Q keep keep' t event (Err TickTooLong) new follows holds = stays_so P Q t new follows.1 holds
follows_keeps P Q keep keep' t event (Err ClockEnd) new follows holds = stays_so P Q t new follows.1 holds
follows_keeps P Q keep keep' t event (Err NoSuchPoint) new follows holds = stays_so P Q t new follows.1 holds
follows_keeps P Q keep keep' t event (Err WrongLength) new follows holds = stays_so P Q t new follows.1 holds
follows_keeps P Q keep keep' t event (Err NoSuchSlot) new follows holds = stays_so P Q t new follows.1 holds
follows_keeps P Q keep keep' t event (Err NotAllowedNow) new follows holds = stays_so P Q t new follows.1 holds

pub run_keeps : (P : AdapterTable → Type 0) (Q : ScannerTable → Type 0) → StepsKeep P → ScannersKeep Q → (old : DeviceTable) (events : List Event) (outcomes : List Outcome) (new : DeviceTable) → Runs old events outcomes new → InDevice P Q old → InDevice P Q new
run_keeps P Q keep keep' old [] [] new ran holds = stays_so P Q old new ran holds
run_keeps P Q keep keep' old [] (outcome ∷ outcomes) new ran holds = absurd ran
run_keeps P Q keep keep' old (event ∷ events) [] new ran holds = absurd ran
run_keeps P Q keep keep' old (event ∷ events) (outcome ∷ outcomes) new ran holds =
    run_keeps P Q keep keep' ran.0 events outcomes new ran.2 (follows_keeps P Q keep keep' old event outcome ran.0 ran.1 holds)

-- ---- sound tables

pub run_sound : StepsKeep IsSound → ScannersKeep IsWholeScanner → (old : DeviceTable) (events : List Event) (outcomes : List Outcome) (new : DeviceTable) → Runs old events outcomes new → IsSoundDevice old → IsSoundDevice new
run_sound steps steps' old events outcomes new ran sound = run_keeps IsSound IsWholeScanner steps steps' old events outcomes new ran sound

pub whole_adapter : (t : DeviceTable) → IsWholeDevice t → IfAdapter IsSound t
whole_adapter (Adapter t) whole = whole.sound
whole_adapter (Scanner t) whole = tt

fresh_adapter : ((profile : Profile) → profile_fault profile ≡ None → IsSound (adapter_table profile)) → (made : Config) → config_fault made ≡ None → IfAdapter IsSound (opening_table made)
fresh_adapter fresh (config.Adapter profile) none = fresh profile none
fresh_adapter fresh (config.Scanner profile) none = tt

-- every adapter's table that a run reaches is sound
pub reached_sound : StepsKeep IsSound → ((profile : Profile) → profile_fault profile ≡ None → IsSound (adapter_table profile)) → OverEveryRun IsSound
reached_sound steps fresh = record {
  whole = λ old events outcomes t whole ran. run_keeps IsSound (λ t. Unit {0}) steps all_keep old events outcomes (Adapter t) ran (whole_adapter old whole);
  fresh = λ made events outcomes t none ran. run_keeps IsSound (λ t. Unit {0}) steps all_keep (opening_table made) events outcomes (Adapter t) ran (fresh_adapter fresh made none);
}

-- what follows from a property of every run holds of every run
pub over_every : (P Q : AdapterTable → Type 0) → ((t : AdapterTable) → P t → Q t) → OverEveryRun P → OverEveryRun Q
over_every P Q follows over = record {
  whole = λ old events outcomes t whole ran. follows t (over.whole old events outcomes t whole ran);
  fresh = λ made events outcomes t none ran. follows t (over.fresh made events outcomes t none ran);
}

-- ---- whole tables

-- a fresh adapter and a fresh scanner are whole, if their profiles have no fault
abbrev pub FreshAdapters : Type 0
FreshAdapters = (profile : Profile) → profile_fault profile ≡ None → IsWhole (adapter_table profile)

abbrev pub FreshScanners : Type 0
FreshScanners = (profile : ScannerProfile) → scanner_profile_fault profile ≡ None → IsWholeScanner (scanner_table profile)

pub run_whole : StepsKeep IsWhole → ScannersKeep IsWholeScanner → RunsKeepWhole
run_whole steps steps' old new events outcomes whole ran = run_keeps IsWhole IsWholeScanner steps steps' old events outcomes new ran whole

pub opening_whole : FreshAdapters → FreshScanners → FreshDevicesAreWhole
opening_whole fresh fresh' (config.Adapter profile) none = fresh profile none
opening_whole fresh fresh' (config.Scanner profile) none = fresh' profile none

pub reached_whole : StepsKeep IsWhole → ScannersKeep IsWholeScanner → FreshAdapters → FreshScanners → TablesAreWhole
reached_whole steps steps' fresh fresh' made events outcomes t none ran =
    run_whole steps steps' (opening_table made) (Adapter t) events outcomes (opening_whole fresh fresh' made none) ran

-- ---- the counter of the ids

counts_in : (counter : ℕ) (t : DeviceTable) → InDevice (λ t. counter ≤ t.next_id) (λ t. counter ≤ t.next_id) t → counter ≤ next_id_of t
counts_in counter (Adapter t) le = le
counts_in counter (Scanner t) le = le

counts_from : (t : DeviceTable) → InDevice (λ a. next_id_of t ≤ a.next_id) (λ s. next_id_of t ≤ s.next_id) t
counts_from (Adapter t) = omega arith
counts_from (Scanner t) = omega arith

scanner_said : (t : ScannerTable) (counter : ℕ) (said : Result ScannerNext StepFault) → ((next : ScannerNext) → said ≡ Ok next → CountsOn t next.1) → counter ≤ t.next_id → IfOk said (λ next. counter ≤ next.1.next_id)
scanner_said t counter (Ok next) counts le = let on = (counts next refl).ids in omega arith
scanner_said t counter (Err fault) counts le = tt

pub scanners_count : ScannersLead CountsOn → (counter : ℕ) → ScannersKeep (λ t. counter ≤ t.next_id)
scanners_count counts counter t event le = scanner_said t counter (scanner_step t event) (counts t event) le

pub step_counts : ((counter : ℕ) → StepsKeep (λ t. counter ≤ t.next_id)) → ScannersLead CountsOn → StepsCountOn
step_counts steps counts old event next is =
    counts_in (next_id_of old) next.1 (step_keeps (λ t. next_id_of old ≤ t.next_id) (λ t. next_id_of old ≤ t.next_id) (steps (next_id_of old)) (scanners_count counts (next_id_of old)) old event next is (counts_from old))

pub run_counts : ((counter : ℕ) → StepsKeep (λ t. counter ≤ t.next_id)) → ScannersLead CountsOn → RunsCountOn
run_counts steps counts old new events outcomes ran =
    counts_in (next_id_of old) new (run_keeps (λ t. next_id_of old ≤ t.next_id) (λ t. next_id_of old ≤ t.next_id) (steps (next_id_of old)) (scanners_count counts (next_id_of old)) old events outcomes new ran (counts_from old))

-- ---- blocks of ids

grown_in : (ids : List IdBlock) (t : DeviceTable) → InDevice (λ t. Extends ids t.ids) (λ t. Extends ids t.ids) t → Extends ids (ids_of t)
grown_in ids (Adapter t) grows = grows
grown_in ids (Scanner t) grows = grows

grows_from : (t : DeviceTable) → InDevice (λ a. Extends (ids_of t) a.ids) (λ s. Extends (ids_of t) s.ids) t
grows_from (Adapter t) = extends_itself t.ids
grows_from (Scanner t) = extends_itself t.ids

blocks_said : (t : ScannerTable) (ids : List IdBlock) (said : Result ScannerNext StepFault) → ((next : ScannerNext) → said ≡ Ok next → CountsOn t next.1) → Extends ids t.ids → IfOk said (λ next. Extends ids next.1.ids)
blocks_said t ids (Ok next) counts grows = extends_on ids t.ids next.1.ids grows (counts next refl).blocks
blocks_said t ids (Err fault) counts grows = tt

scanners_grow : ScannersLead CountsOn → (ids : List IdBlock) → ScannersKeep (λ t. Extends ids t.ids)
scanners_grow counts ids t event grows = blocks_said t ids (scanner_step t event) (counts t event) grows

pub steps_grow : ((ids : List IdBlock) → StepsKeep (λ t. Extends ids t.ids)) → ScannersLead CountsOn → StepsGrow
steps_grow steps counts old event next is =
    grown_in (ids_of old) next.1 (step_keeps (λ t. Extends (ids_of old) t.ids) (λ t. Extends (ids_of old) t.ids) (steps (ids_of old)) (scanners_grow counts (ids_of old)) old event next is (grows_from old))

left_in : (ids : List IdBlock) (t : DeviceTable) → InDevice (λ t. t.ids ≡ ids) (λ t. t.ids ≡ ids) t → ids_of t ≡ ids
left_in ids (Adapter t) same = same
left_in ids (Scanner t) same = same

scanner_left : (ids : List IdBlock) (said : Result ScannerNext StepFault) → ((next : ScannerNext) → said ≡ Ok next → next.1.ids ≡ ids) → IfOk said (λ next. next.1.ids ≡ ids)
scanner_left ids (Ok next) leaves = leaves next refl
scanner_left ids (Err fault) leaves = tt

pub steps_leave : AdaptersLeaveIds → ScannersLeaveIds → StepsLeaveIds
unfolding step
steps_leave adapters scanners (Adapter t) event next is none =
    left_in t.ids next.1 (adapter_keeps (λ a. a.ids ≡ t.ids) (λ s. s.ids ≡ t.ids) (adapter_step t event) next is (λ n said. adapters t event n said none))
steps_leave adapters scanners (Scanner t) event next is none =
    left_in t.ids next.1 (scanner_keeps (λ a. a.ids ≡ t.ids) (λ s. s.ids ≡ t.ids) (scanner_step t event) next is (scanner_left t.ids (scanner_step t event) (λ n said. scanners t event n said none)))

-- ---- later counters

abbrev pub LaterScanners : Type 0
LaterScanners = (t : ScannerTable) (counter : ℕ) → t.next_id ≤ counter → counter ≤ end_number t.ids → IsWholeScanner t → IsWholeScanner (record t { next_id = counter })

pub later_scanner : LaterScanners → (d : DeviceTable) (t : ScannerTable) (counter : ℕ) → d ≡ Scanner t → next_id_of d ≤ counter → counter ≤ end_number (ids_of d) → IsWholeDevice d → IsWholeScanner (record t { next_id = counter })
later_scanner law d t counter is later last whole =
    law t counter (subst (λ d. next_id_of d ≤ counter) is later) (subst (λ d. counter ≤ end_number (ids_of d)) is last) (subst IsWholeDevice is whole)

-- ---- class 3 connections, and requests to the application

-- what whole tables have holds of every whole run
pub over_whole : TablesAreWhole → RunsKeepWhole → (P : AdapterTable → Type 0) → ((t : AdapterTable) → IsWhole t → P t) → OverEveryWholeRun P
over_whole fresh run P follows = record {
  whole = λ old events outcomes t whole ran. follows t (run old (Adapter t) events outcomes whole ran);
  fresh = λ made events outcomes t none ran. follows t (fresh made events outcomes t none ran);
}

pub answers_are_once : AnswersSettle → ((number : ℕ) → StepsKeep (λ t. IsSettled number t.messaging)) → SettledAreRefused → AnswersAreOnce
answers_are_once settles steps refuses old t number status bytes next events outcomes whole is ran = λ other others.
    refuses t number other others
    (run_keeps (λ t. IsSettled number t.messaging) (λ t. Unit {0}) (steps number) all_keep (Adapter next.1) events outcomes (Adapter t) ran (settles old number status bytes next whole is))

-- ---- limits that a maker states

abbrev pub FreshWithin : Type 0
FreshWithin = (profile : Profile) → IsWithinLimits (adapter_table profile)

pub run_within : StepsKeep IsWithinLimits → RunsStayWithin
run_within steps old t events outcomes within ran = run_keeps IsWithinLimits (λ t. Unit {0}) steps all_keep (Adapter old) events outcomes (Adapter t) ran within

fresh_within : FreshWithin → (made : Config) → IfAdapter IsWithinLimits (opening_table made)
fresh_within fresh (config.Adapter profile) = fresh profile
fresh_within fresh (config.Scanner profile) = tt

pub reached_within : StepsKeep IsWithinLimits → FreshWithin → FreshDevicesStayWithin
reached_within steps fresh made events outcomes t ran = run_keeps IsWithinLimits (λ t. Unit {0}) steps all_keep (opening_table made) events outcomes (Adapter t) ran (fresh_within fresh made)

pub types_have_places : StepsKeep IsWithinLimits → FreshWithin → PlacesAreKept → TablesAreWhole → TypesHavePlaces
types_have_places steps fresh kept wholes made events outcomes t places kind triad none ran stated free =
    kept t places kind triad (wholes made events outcomes t none ran).shaped.faultless stated (reached_within steps fresh made events outcomes t ran) free

-- ---- openings in a second

abbrev pub FreshOpensWithin : Type 0
FreshOpensWithin = (profile : Profile) → OpensWithinLimits (adapter_table profile)

fresh_opens : FreshOpensWithin → (made : Config) → IfAdapter OpensWithinLimits (opening_table made)
fresh_opens fresh (config.Adapter profile) = fresh profile
fresh_opens fresh (config.Scanner profile) = tt

pub reached_opens : StepsKeep OpensWithinLimits → FreshOpensWithin → FreshDevicesOpenWithin
reached_opens steps fresh made events outcomes t ran = run_keeps OpensWithinLimits (λ t. Unit {0}) steps all_keep (opening_table made) events outcomes (Adapter t) ran (fresh_opens fresh made)
