-- The events that a schedule reports of a device make a run of that device.
use Rattle.std.proofs.Common.{◌≡◌, ◌≢◌, ℕ, ◌==◌, Bool, true, false, cond, List, [], ◌∷◌, ◌++◌, map, filter, set, slice_get, Option, Some, None, Result, Ok, Err, IfOk, refl, sym, ◌∙◌, ap, subst, arith, eqb-true}
use Rattle.std.specs.List.{AllByRecursion}
use Rattle.std.proofs.lemmas.Bool.Decides.{nat_tests}
use Rattle.base_lemmas.specs.Lists.{set_own, set_other}
use Rattle.cip_events.specs.declared.event.Answer.{Answer}
use Rattle.cip_events.specs.declared.event.Event.{Event}
use Rattle.cip_events.specs.Outcomes.{Outcome}
use Rattle.cip_tables.specs.declared.table.DeviceTable.{DeviceTable}
use Rattle.cip_tables.specs.Step.{step}
use Rattle.cip_tables.specs.Run.{Runs, table_of, performed}
use Rattle.segment_world.specs.Transit.Streams.{QueueItem, Opening, Queued, Ending, Stream}
use Rattle.segment_world.specs.declared.act.Act.{Act}
use Rattle.segment_world.specs.declared.act.ActFault.{ActFault}
use Rattle.segment_world.specs.World.{World, ReportedEvent, Happened, happens}
use Rattle.segment_world.specs.Story.{Story, reported_more, goes_on, runs, begins, is_of, event_reported, events_of}
use Rattle.schedule_laws.specs.Stories.{led_by, led_to}
use Rattle.schedule_laws.specs.Ids.{ItemHolds, StreamsHold}
use Rattle.schedule_laws.specs.Lemmas.Moves.{Came, Moves, act_moves, runs_keep}

-- the event, if it is the device's, was answered as its step says
pub record Answers (t : DeviceTable) (reported : ReportedEvent) : Type 0 where
  pub next : DeviceTable
  pub is : step t reported.event ≡ Ok (reported.answer, next)

abbrev pub AnswersIf : Bool → DeviceTable → ReportedEvent → Type 0
AnswersIf true t reported = Answers t reported
AnswersIf false t reported = Unit {0}

-- each event of the device was
abbrev pub Reports : DeviceTable → ℕ → List ReportedEvent → Type 0
Reports t device [] = Unit {0}
Reports t device (reported ∷ rest) = AnswersIf (is_of device reported) t reported × Reports (led_by (is_of device reported) t reported) device rest

-- ONE PART AFTER ANOTHER

pub led_both : (t : DeviceTable) (device : ℕ) (first rest : List ReportedEvent) → led_to t device (first ++ rest) ≡ led_to (led_to t device first) device rest
led_both t device [] rest = refl
led_both t device (reported ∷ first) rest = led_both (led_by (is_of device reported) t reported) device first rest

pub reports_both : (t : DeviceTable) (device : ℕ) (first rest : List ReportedEvent) → Reports t device first → Reports (led_to t device first) device rest → Reports t device (first ++ rest)
reports_both t device [] rest before behind = behind
reports_both t device (reported ∷ first) rest before behind = (before.0, reports_both (led_by (is_of device reported) t reported) device first rest before.1 behind)

pub reports_rest : (t : DeviceTable) (device : ℕ) (first rest : List ReportedEvent) → Reports t device (first ++ rest) → Reports (led_to t device first) device rest
reports_rest t device [] rest reports = reports
reports_rest t device (reported ∷ first) rest reports = reports_rest (led_by (is_of device reported) t reported) device first rest reports.1

pub reports_first : (t : DeviceTable) (device : ℕ) (first rest : List ReportedEvent) → Reports t device (first ++ rest) → Reports t device first
reports_first t device [] rest reports = tt
reports_first t device (reported ∷ first) rest reports = (reports.0, reports_first (led_by (is_of device reported) t reported) device first rest reports.1)

-- A RUN

abbrev pub outcome_reported : ReportedEvent → Outcome
outcome_reported reported = Ok reported.answer

abbrev pub outcomes_of : ℕ → List ReportedEvent → List Outcome
outcomes_of device reported = map outcome_reported (filter (is_of device) reported)

run_step : (b : Bool) (t new : DeviceTable) (reported : ReportedEvent) (reported_events : List Event) (outcomes : List Outcome) → AnswersIf b t reported → Runs (led_by b t reported) reported_events outcomes new → Runs t (cond b (reported.event ∷ reported_events) reported_events) (cond b (Ok reported.answer ∷ outcomes) outcomes) new
run_step true t new reported reported_events outcomes answers rest =
    let left : led_by true t reported ≡ answers.next = ap (table_of t) answers.is in
    (answers.next, answers.is, subst (λ (x : DeviceTable). Runs x reported_events outcomes new) left rest)
run_step false t new reported reported_events outcomes answers rest = rest

map_cond : {X Y : Type 0} (f : X → Y) (b : Bool) (x : X) (xs : List X) → map f (cond b (x ∷ xs) xs) ≡ cond b (f x ∷ map f xs) (map f xs)
map_cond f true x xs = refl
map_cond f false x xs = refl

pub is_run : (t : DeviceTable) (device : ℕ) (reported : List ReportedEvent) → Reports t device reported → Runs t (events_of device reported) (outcomes_of device reported) (led_to t device reported)
is_run t device [] reports = refl
is_run t device (first ∷ rest) reports =
    let b = is_of device first in
    let run = run_step (is_of device first) t (led_to (led_by b t first) device rest) first (events_of device rest) (outcomes_of device rest) reports.0 (is_run (led_by (is_of device first) t first) device rest reports.1) in
    rw (map_cond event_reported (is_of device first) first (filter (is_of device) rest), map_cond outcome_reported (is_of device first) first (filter (is_of device) rest)) run

performed_step : (b : Bool) (event : Event) (answer : Answer) (reported_events : List Event) (outcomes : List Outcome) → performed reported_events outcomes ≡ reported_events → performed (cond b (event ∷ reported_events) reported_events) (cond b (Ok answer ∷ outcomes) outcomes) ≡ cond b (event ∷ reported_events) reported_events
performed_step true event answer reported_events outcomes rest = ap (λ (l : List Event). event ∷ l) rest
performed_step false event answer reported_events outcomes rest = rest

-- all of it was performed
pub is_performed : (device : ℕ) (reported : List ReportedEvent) → performed (events_of device reported) (outcomes_of device reported) ≡ events_of device reported
is_performed device [] = refl
is_performed device (first ∷ rest) =
    let step_is = performed_step (is_of device first) first.event first.answer (events_of device rest) (outcomes_of device rest) (is_performed device rest) in
    rw (map_cond event_reported (is_of device first) first (filter (is_of device) rest), map_cond outcome_reported (is_of device first) first (filter (is_of device) rest)) step_is

-- STORIES

-- the reported events of the device make such a run, which leads to its table
pub record Leads (t : DeviceTable) (device : ℕ) (story : Story) : Type 0 where
  pub reports : Reports t device story.reported
  pub now : slice_get story.world.tables device ≡ Some (led_to t device story.reported)

abbrev Any : List ℕ → Type 0
Any bytes = Unit {0}

pub other_slot : (a b : ℕ) → (a == b) ≡ false → b ≢ a
other_slot a b is = grind (arith, nat_tests)

-- the tables after an event of the device, and of another one
own_now : (w new : World) (t : DeviceTable) (device : ℕ) (reported : ReportedEvent) → reported.device ≡ device → slice_get w.tables device ≡ Some t → (after : DeviceTable) → new.tables ≡ set w.tables reported.device after → slice_get new.tables device ≡ Some after
own_now w new t device reported same at after leaves =
    ap (λ (l : List DeviceTable). slice_get l device) (leaves ∙ ap (λ (i : ℕ). set w.tables i after) same) ∙ set_own w.tables device t after at

leads_step : (b : Bool) (Q : List ℕ → Type 0) (w new : World) (t : DeviceTable) (device : ℕ) (reported : ReportedEvent) → is_of device reported ≡ b → slice_get w.tables device ≡ Some t → Came Q w reported new → AnswersIf b t reported × (slice_get new.tables device ≡ Some (led_by b t reported))
leads_step true Q w new t device reported is at came =
    let same : reported.device ≡ device = eqb-true reported.device device is in
    let same_table : Some came.before ≡ Some t = sym came.is ∙ ap (slice_get w.tables) same ∙ at in
    let before : came.before ≡ t = let e = same_table in cc in
    let stepped : step t reported.event ≡ Ok (reported.answer, came.after) = subst (λ (x : DeviceTable). step x reported.event ≡ Ok (reported.answer, came.after)) before came.stepped in
    let tables : new.tables ≡ set w.tables reported.device came.after = ap (λ (x : World). x.tables) came.leaves in
    let left : led_by true t reported ≡ came.after = ap (table_of t) stepped in
    (record { next = came.after; is = stepped }, own_now w new t device reported same at came.after tables ∙ sym (ap Some left))
leads_step false Q w new t device reported is at came =
    let tables : new.tables ≡ set w.tables reported.device came.after = ap (λ (x : World). x.tables) came.leaves in
    (tt, ap (λ (l : List DeviceTable). slice_get l device) tables ∙ set_other w.tables reported.device device came.after (other_slot reported.device device is) ∙ at)

pub leads_more : (Q : List ℕ → Type 0) (t : DeviceTable) (device : ℕ) (story : Story) (moved : Option ReportedEvent × World) → Moves Q story.world moved → Leads t device story → Leads t device (record { world = moved.1; reported = reported_more story.reported moved.0 })
leads_more Q t device story (None, new) rests leads = record { reports = leads.reports; now = ap (λ (l : List DeviceTable). slice_get l device) rests.tables ∙ leads.now }
leads_more Q t device story (Some reported, new) came leads =
    let both = leads_step (is_of device reported) Q story.world new (led_to t device story.reported) device reported refl leads.now came in
    record {
      reports = reports_both t device story.reported (reported ∷ []) leads.reports (both.0, tt);
      now = both.1 ∙ sym (ap Some (led_both t device story.reported (reported ∷ [])));
    }

on_more : (Q : List ℕ → Type 0) (t : DeviceTable) (device : ℕ) (story : Story) (said : Happened) → IfOk said (Moves Q story.world) → Leads t device story → IfOk (goes_on story.reported said) (Leads t device)
on_more Q t device story (Err fault) moves leads = tt
on_more Q t device story (Ok moved) moves leads = leads_more Q t device story moved moves leads

any_items : (queue : List QueueItem) → AllByRecursion (ItemHolds Any) queue
any_items [] = tt
any_items (Opening ∷ queue) = (tt, any_items queue)
any_items (Queued bytes ∷ queue) = (tt, any_items queue)
any_items (Ending ∷ queue) = (tt, any_items queue)

any_streams : (streams : List Stream) → StreamsHold Any streams
any_streams [] = tt
any_streams (s ∷ streams) = (record { forth = any_items s.forth.queue; back = any_items s.back.queue }, any_streams streams)

-- in the story of every schedule
pub story_leads : (start : World) (acts : List Act) (story : Story) (device : ℕ) (t : DeviceTable) → runs (begins start) acts ≡ Ok story → slice_get start.tables device ≡ Some t → Leads t device story
story_leads start acts story device t ran at =
    subst (λ (r : Result Story ActFault). IfOk r (Leads t device)) ran
    (runs_keep (Leads t device) (λ so_far act leads. on_more Any t device so_far (happens so_far.world act) (act_moves Any so_far.world act (any_streams so_far.world.streams)) leads) acts (begins start) (record { reports = tt; now = at }))
