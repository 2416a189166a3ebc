-- An output holds, after a run, the bytes that the last event which touched it left there.
use Rattle.std.proofs.Common.{◌≡◌, ℕ, List, [], ◌∷◌, find, replicate, Option, Some, None, Result, Ok, Err, refl, sym, ◌∙◌, ap, subst}
use Rattle.std.specs.Option.{unwrap_or}
use Rattle.cip_events.specs.declared.event.Event.{Event}
use Rattle.cip_events.specs.declared.event.StepFault.{StepFault}
use Rattle.cip_events.specs.declared.event.StepFault.TheVariants.{OutOfMemory, TickTooLong, ClockEnd, NoSuchPoint, WrongLength, NoSuchSlot, NotAllowedNow}
use Rattle.cip_events.specs.Outcomes.{Outcome, Follows}
use Rattle.adapter_table.specs.declared.profile.OutputPoint.{OutputPoint}
use Rattle.adapter_table.specs.declared.profile.Profile.{Profile}
use Rattle.adapter_table.specs.declared.table.AdapterTable.{AdapterTable}
use Rattle.adapter_table.specs.Profiles.{is_output_at, profile_fault}
use Rattle.adapter_table.specs.Requests.{Next}
use Rattle.adapter_table.specs.Step.{adapter_step, adapter_table}
use Rattle.adapter_table.specs.Whole.{IsWhole}
use Rattle.adapter_table.specs.Scratch.{or_else, Leaves}
use Rattle.adapter_table.specs.Laws.{StepsKeep, StepsLeave, RefusalsTouchNothing, FreshOutputsAreZeros}
use Rattle.cip_tables.specs.declared.table.Config.TheVariants as config
use Rattle.cip_tables.specs.declared.table.DeviceTable.{DeviceTable}
use Rattle.cip_tables.specs.declared.table.DeviceTable.TheVariants.{Adapter, Scanner}
use Rattle.cip_tables.specs.Step.{DeviceNext, as_adapter, step, bytes_in}
use Rattle.cip_tables.specs.Run.{Runs, table_of, performed}
use Rattle.cip_tables.specs.Whole.{IsWholeDevice}
use Rattle.cip_tables.specs.Scratch.{touched, last_touched, outputs_of, OutputsAreFromScratch, FreshOutputsAreFromScratch}
use Rattle.scanner_table.specs.Step.{scanner_table}
use Rattle.scanner_table.specs.Whole.{IsWholeScanner}
use Rattle.cip_tables.proofs.RunKeeps.{InAdapter, InDevice, ScannersKeep, none_keep, all_keep, ok_is, follows_keeps, run_keeps}

-- the laws of an adapter's steps
pub record KnowsSteps : Type 0 where
  pub leave : StepsLeave
  pub refuse : RefusalsTouchNothing
  pub fresh : FreshOutputsAreZeros
  pub profile : (profile : Profile) → StepsKeep (λ t. t.profile ≡ profile)
  pub whole : StepsKeep IsWhole
  pub scanners : ScannersKeep IsWholeScanner
  pub opening : (profile : Profile) → profile_fault profile ≡ None → IsWhole (adapter_table profile)

-- ---- a device's step

-- the adapter has this profile
abbrev HasProfile : Profile → AdapterTable → Type 0
HasProfile profile t = t.profile ≡ profile

-- the bytes that a device's step leaves at the outputs of its profile
abbrev Moves : Profile → DeviceTable → Event → DeviceTable → Type 0
Moves profile old event new = (point : ℕ) (output : OutputPoint) → find (is_output_at point) profile.outputs ≡ Some output → bytes_in new point ≡ or_else (touched point old event new) (bytes_in old point)

moves_by : (profile : Profile) (t next : AdapterTable) (event : Event) → t.profile ≡ profile → Leaves t event next → Moves profile (Adapter t) event (Adapter next)
moves_by profile t next event same leaves = λ point output is. leaves point output (ap (λ (p : Profile). find (is_output_at point) p.outputs) same ∙ is)

device_moves : (profile : Profile) (t : AdapterTable) (event : Event) (said : Result Next StepFault) (next : DeviceNext) → as_adapter said ≡ Ok next → t.profile ≡ profile → ((n : Next) → said ≡ Ok n → Leaves t event n.1) → Moves profile (Adapter t) event next.1
device_moves profile t event (Ok n) next is same leaves = subst (λ (d : DeviceNext). Moves profile (Adapter t) event d.1) (ok_is _ _ is) (moves_by profile t n.1 event same (leaves n refl))
device_moves profile t event (Err fault) next is same leaves = absurd cc

step_moves : KnowsSteps → (profile : Profile) (old : DeviceTable) (event : Event) (next : DeviceNext) → step old event ≡ Ok next → InAdapter (HasProfile profile) old → IsWholeDevice old → Moves profile old event next.1
unfolding step
step_moves knows profile (Adapter t) event next is same whole = device_moves profile t event (adapter_step t event) next is same (λ n said. knows.leave t event n said whole)
step_moves knows profile (Scanner t) event next is same whole = absurd same

pub fault_is : (said : Result Next StepFault) (fault : StepFault) → as_adapter said ≡ Err fault → said ≡ Err fault
fault_is (Ok next) fault is = absurd cc
fault_is (Err other) fault is = let same : other ≡ fault = cc in ap (λ (f : StepFault). let said : Result Next StepFault = Err f in said) same

fault_moves : KnowsSteps → (profile : Profile) (old : DeviceTable) (event : Event) (fault : StepFault) → step old event ≡ Err fault → Moves profile old event old
unfolding step
fault_moves knows profile (Adapter t) event fault is = λ point output found. rw (knows.refuse point t event fault (fault_is (adapter_step t event) fault is)) refl
fault_moves knows profile (Scanner t) event fault is = λ point output found. refl

-- ---- a run

or_either : (first second third : Option (List ℕ)) → or_else first (or_else second third) ≡ or_else (or_else first second) third
or_either None second third = refl
or_either (Some left) second third = refl

-- the bytes that a run from one table to another leaves at the outputs, by the events that found memory
abbrev EndsAt : Profile → DeviceTable → List Event → DeviceTable → Type 0
EndsAt profile old events new = (point : ℕ) (output : OutputPoint) → find (is_output_at point) profile.outputs ≡ Some output → bytes_in new point ≡ or_else (last_touched point old events) (bytes_in old point)

ends_more : (profile : Profile) (old mid new : DeviceTable) (event : Event) (events : List Event) → table_of old (step old event) ≡ mid → Moves profile old event mid → EndsAt profile mid events new → EndsAt profile old (event ∷ events) new
ends_more profile old mid new event events is moves ends = λ point output found.
    rw is
    (ends point output found
    ∙ ap (or_else (last_touched point mid events)) (moves point output found)
    ∙ or_either (last_touched point mid events) (touched point old event mid) (bytes_in old point))

ends_refused : (profile : Profile) (old mid new : DeviceTable) (events : List Event) → mid ≡ old → EndsAt profile mid events new → EndsAt profile old events new
ends_refused profile old mid new events stays ends = subst (λ (t : DeviceTable). EndsAt profile t events new) stays ends

ends_by_fault : KnowsSteps → (profile : Profile) (old mid new : DeviceTable) (event : Event) (events : List Event) (fault : StepFault) → (step old event ≡ Err fault) × (mid ≡ old) → EndsAt profile mid events new → EndsAt profile old (event ∷ events) new
ends_by_fault knows profile old mid new event events fault follows rest =
    ends_more profile old old new event events (ap (table_of old) follows.0) (fault_moves knows profile old event fault follows.0) (ends_refused profile old mid new events follows.1 rest)

ends_by : KnowsSteps → (profile : Profile) (old mid new : DeviceTable) (event : Event) (events : List Event) (outcome : Outcome) (outcomes : List Outcome) → Follows (step old event) old outcome mid → InAdapter (HasProfile profile) old → IsWholeDevice old → EndsAt profile mid (performed events outcomes) new → EndsAt profile old (performed (event ∷ events) (outcome ∷ outcomes)) new
ends_by knows profile old mid new event events (Ok answer) outcomes follows same whole rest =
    ends_more profile old mid new event (performed events outcomes) (ap (table_of old) follows) (step_moves knows profile old event (answer, mid) follows same whole) rest
ends_by knows profile old mid new event events (Err OutOfMemory) outcomes follows same whole rest = ends_refused profile old mid new (performed events outcomes) follows.1 rest
ends_by knows profile old mid new event events (Err TickTooLong) outcomes follows same whole rest = ends_by_fault knows profile old mid new event (performed events outcomes) TickTooLong follows rest
ends_by knows profile old mid new event events (Err ClockEnd) outcomes follows same whole rest = ends_by_fault knows profile old mid new event (performed events outcomes) ClockEnd follows rest
ends_by knows profile old mid new event events (Err NoSuchPoint) outcomes follows same whole rest = ends_by_fault knows profile old mid new event (performed events outcomes) NoSuchPoint follows rest
ends_by knows profile old mid new event events (Err WrongLength) outcomes follows same whole rest = ends_by_fault knows profile old mid new event (performed events outcomes) WrongLength follows rest
ends_by knows profile old mid new event events (Err NoSuchSlot) outcomes follows same whole rest = ends_by_fault knows profile old mid new event (performed events outcomes) NoSuchSlot follows rest
ends_by knows profile old mid new event events (Err NotAllowedNow) outcomes follows same whole rest = ends_by_fault knows profile old mid new event (performed events outcomes) NotAllowedNow follows rest

run_ends : KnowsSteps → (profile : Profile) (old : DeviceTable) (events : List Event) (outcomes : List Outcome) (new : DeviceTable) → Runs old events outcomes new → InAdapter (HasProfile profile) old → IsWholeDevice old → EndsAt profile old (performed events outcomes) new
run_ends knows profile old [] [] new ran same whole = subst (λ (t : DeviceTable). EndsAt profile old [] t) (sym ran) (λ point output found. refl)
run_ends knows profile old [] (outcome ∷ outcomes) new ran same whole = absurd ran
run_ends knows profile old (event ∷ events) [] new ran same whole = absurd ran
run_ends knows profile old (event ∷ events) (outcome ∷ outcomes) new ran same whole =
    let same' = follows_keeps (HasProfile profile) (λ t. ⊥) (knows.profile profile) none_keep old event outcome ran.0 ran.1 same in
    let whole' = follows_keeps IsWhole IsWholeScanner knows.whole knows.scanners old event outcome ran.0 ran.1 whole in
    ends_by knows profile old ran.0 new event events outcome outcomes ran.1 same whole (run_ends knows profile ran.0 events outcomes new ran.2 same' whole')

outputs_are : (profile : Profile) (t : DeviceTable) → InAdapter (HasProfile profile) t → outputs_of t ≡ profile.outputs
outputs_are profile (Adapter t) same = ap (λ (p : Profile). p.outputs) same
outputs_are profile (Scanner t) same = absurd same

-- a scanner stays one, and has no output
no_outputs : (t : DeviceTable) → InDevice (λ t. ⊥) (λ t. Unit {0}) t → outputs_of t ≡ []
no_outputs (Adapter t) scanner = absurd scanner
no_outputs (Scanner t) scanner = refl

none_there : (point : ℕ) (outputs : List OutputPoint) (output : OutputPoint) → outputs ≡ [] → find (is_output_at point) outputs ≡ Some output → ⊥
none_there point [] output none is = absurd cc
none_there point (first ∷ rest) output none is = absurd cc

pub from_scratch : KnowsSteps → OutputsAreFromScratch
from_scratch knows (Adapter t) new events outcomes point output whole ran is =
    let same = run_keeps (HasProfile t.profile) (λ t. ⊥) (knows.profile t.profile) none_keep (Adapter t) events outcomes new ran refl in
    run_ends knows t.profile (Adapter t) events outcomes new ran refl whole point output (ap (find (is_output_at point)) (sym (outputs_are t.profile new same)) ∙ is)
from_scratch knows (Scanner t) new events outcomes point output whole ran is =
    absurd (none_there point (outputs_of new) output (no_outputs new (run_keeps (λ t. ⊥) (λ t. Unit {0}) (λ t event next said never. absurd never) all_keep (Scanner t) events outcomes new ran tt)) is)

-- ---- from a fresh device on

or_zeros : (left : Option (List ℕ)) (present : Option (List ℕ)) (zeros : List ℕ) → present ≡ Some zeros → or_else left present ≡ Some (unwrap_or left zeros)
or_zeros None present zeros is = is
or_zeros (Some first) present zeros is = refl

pub fresh_from_scratch : KnowsSteps → FreshOutputsAreFromScratch
fresh_from_scratch knows (config.Adapter profile) events outcomes t output none ran is =
    let old = Adapter (adapter_table profile) in
    let same : t.profile ≡ profile = run_keeps (HasProfile profile) (λ t. ⊥) (knows.profile profile) none_keep old events outcomes (Adapter t) ran refl in
    let found : find (is_output_at output.instance) profile.outputs ≡ Some output = ap (λ (p : Profile). find (is_output_at output.instance) p.outputs) (sym same) ∙ is in
    from_scratch knows old (Adapter t) events outcomes output.instance output (knows.opening profile none) ran is
    ∙ or_zeros (last_touched output.instance old (performed events outcomes)) _ (replicate output.len 0) (knows.fresh profile output.instance output found)
fresh_from_scratch knows (config.Scanner profile) events outcomes t output none ran is =
    absurd (run_keeps (λ t. ⊥) (λ t. Unit {0}) (λ t event next said never. absurd never) all_keep (Scanner (scanner_table profile)) events outcomes (Adapter t) ran tt)
