-- Each device's table is the one to which its own events lead.
use Rattle.std.proofs.Common.{◌≡◌, ◌≢◌, ℕ, ◌==◌, Bool, true, false, cond, List, [], ◌∷◌, ◌++◌, map, filter, set, slice_get, Option, Some, None, Result, Ok, Err, IfOk, refl, sym, ◌∙◌, ap, subst, arith}
use Rattle.std.proofs.lemmas.List.{append-nil, map-append}
use Rattle.std.proofs.lemmas.Bool.Decides.{nat_tests}
use Rattle.base_lemmas.specs.Lists.{set_own, set_other}
use Rattle.cip_events.specs.declared.event.Event.{Event}
use Rattle.cip_events.specs.declared.event.Event.TheVariants.{Datagram}
use Rattle.cip_events.specs.declared.event.StepFault.{StepFault}
use Rattle.cip_tables.specs.declared.table.DeviceTable.{DeviceTable}
use Rattle.cip_tables.specs.Step.{DeviceNext, step}
use Rattle.cip_tables.specs.Run.{table_of, table_after}
use Rattle.segment_world.specs.Transit.Log.{Sent}
use Rattle.segment_world.specs.declared.transit.direction.Direction.{Direction}
use Rattle.segment_world.specs.Transit.Streams.{QueueItem, Stream, side_of, receiver, sender}
use Rattle.segment_world.specs.declared.act.Act.{Act}
use Rattle.segment_world.specs.declared.act.Act.TheVariants.{Local, Deliver, NextFrame, OpenStream, CutStream}
use Rattle.segment_world.specs.declared.act.ActFault.{ActFault}
use Rattle.segment_world.specs.World.{World, ReportedEvent, Happened, event_at_device, event_at_table, after_device_step, event_of_call, delivered, event_of_item, node_at, without_front, taken, taken_at, are_two, opened_if, cut_if, cut_at, happens}
use Rattle.segment_world.specs.Story.{Story, reported_more, goes_on, reports, runs, begins, is_of, event_reported, events_of, ProjectionsAreRuns}

-- WHAT ONE ACT DOES TO TABLES

-- the table of the device whose event it was is the step's
pub record Steps (old : List DeviceTable) (reported : ReportedEvent) (new : List DeviceTable) : Type 0 where
  pub before : DeviceTable
  pub after : DeviceTable
  pub is : slice_get old reported.device ≡ Some before
  pub stepped : step before reported.event ≡ Ok (reported.answer, after)
  pub leaves : new ≡ set old reported.device after

abbrev pub Moves : List DeviceTable → Option ReportedEvent × World → Type 0
Moves old (None, w) = w.tables ≡ old
Moves old (Some reported, w) = Steps old reported w.tables

so_moves : (device : ℕ) (event : Event) (w : World) (t : DeviceTable) (said : Result DeviceNext StepFault) → slice_get w.tables device ≡ Some t → step t event ≡ said → IfOk (after_device_step device event w said) (Moves w.tables)
so_moves device event w t (Err fault) at is = tt
so_moves device event w t (Ok next) at is = record { before = t; after = next.1; is = at; stepped = is; leaves = refl }

to_moves : (device : ℕ) (event : Event) (w : World) (o : Option DeviceTable) → slice_get w.tables device ≡ o → IfOk (event_at_table device event w o) (Moves w.tables)
to_moves device event w None at = tt
to_moves device event w (Some t) at = so_moves device event w t (step t event) at refl

comes_moves : (device : ℕ) (event : Event) (w : World) → IfOk (event_at_device device event w) (Moves w.tables)
comes_moves device event w = to_moves device event w (slice_get w.tables device) refl

delivered_moves : (device : ℕ) (w : World) (t : Option DeviceTable) (sent : Option Sent) → IfOk (delivered device w t sent) (Moves w.tables)
delivered_moves device w None sent = tt
delivered_moves device w (Some t) None = tt
delivered_moves device w (Some t) (Some sent) = comes_moves device (Datagram sent.from sent.bytes) w

taken_moves : (n : ℕ) (d : Direction) (w : World) (s : Stream) (queue : List QueueItem) → IfOk (taken n d w s queue) (Moves w.tables)
taken_moves n d w s [] = tt
taken_moves n d w s (item ∷ rest) = comes_moves (receiver d s) (event_of_item n (node_at w (sender d s)) item) (without_front n d w)

taken_at_moves : (n : ℕ) (d : Direction) (w : World) (o : Option Stream) → IfOk (taken_at n d w o) (Moves w.tables)
taken_at_moves n d w None = tt
taken_at_moves n d w (Some s) = taken_moves n d w s (side_of d s).queue

opened_moves : (from to : ℕ) (w : World) (two numbered : Bool) → IfOk (opened_if from to w two numbered) (Moves w.tables)
opened_moves from to w false numbered = tt
opened_moves from to w true false = tt
opened_moves from to w true true = refl

cut_moves : (n : ℕ) (w : World) (ended : Bool) → IfOk (cut_if n w ended) (Moves w.tables)
cut_moves n w true = tt
cut_moves n w false = refl

cut_at_moves : (n : ℕ) (w : World) (o : Option Stream) → IfOk (cut_at n w o) (Moves w.tables)
cut_at_moves n w None = tt
cut_at_moves n w (Some s) = cut_moves n w s.ended

act_moves : (w : World) (act : Act) → IfOk (happens w act) (Moves w.tables)
act_moves w (Local device call) = comes_moves device (event_of_call call) w
act_moves w (Deliver index device) = delivered_moves device w (slice_get w.tables device) (slice_get w.sent index)
act_moves w (NextFrame stream direction) = taken_at_moves stream direction w (slice_get w.streams stream)
act_moves w (OpenStream from to) = opened_moves from to w (are_two from to w) _
act_moves w (CutStream stream) = cut_at_moves stream w (slice_get w.streams stream)

-- EVENTS OF A DEVICE

filter_push : (device : ℕ) (b : Bool) (x : ReportedEvent) (xs ys : List ReportedEvent) → filter (is_of device) (xs ++ ys) ≡ filter (is_of device) xs ++ filter (is_of device) ys → cond b (x ∷ filter (is_of device) (xs ++ ys)) (filter (is_of device) (xs ++ ys)) ≡ cond b (x ∷ filter (is_of device) xs) (filter (is_of device) xs) ++ filter (is_of device) ys
filter_push device true x xs ys is = ap (λ l. x ∷ l) is
filter_push device false x xs ys is = is

filter_append : (device : ℕ) (xs ys : List ReportedEvent) → filter (is_of device) (xs ++ ys) ≡ filter (is_of device) xs ++ filter (is_of device) ys
filter_append device [] ys = refl
filter_append device (x ∷ xs) ys = filter_push device (is_of device x) x xs ys (filter_append device xs ys)

events_append : (device : ℕ) (xs : List ReportedEvent) (reported : ReportedEvent) → events_of device (xs ++ reported ∷ []) ≡ events_of device xs ++ events_of device (reported ∷ [])
events_append device xs reported = ap (map event_reported) (filter_append device xs (reported ∷ [])) ∙ map-append event_reported (filter (is_of device) xs) (filter (is_of device) (reported ∷ []))

events_own : (device : ℕ) (xs : List ReportedEvent) (reported : ReportedEvent) → is_of device reported ≡ true → events_of device (xs ++ reported ∷ []) ≡ events_of device xs ++ reported.event ∷ []
events_own device xs reported is = events_append device xs reported ∙ ap (λ b. events_of device xs ++ map event_reported (cond b (reported ∷ []) [])) is

events_other : (device : ℕ) (xs : List ReportedEvent) (reported : ReportedEvent) → is_of device reported ≡ false → events_of device (xs ++ reported ∷ []) ≡ events_of device xs
events_other device xs reported is = events_append device xs reported ∙ ap (λ b. events_of device xs ++ map event_reported (cond b (reported ∷ []) [])) is ∙ append-nil (events_of device xs)

-- one event more
after_push : (t : DeviceTable) (events : List Event) (event : Event) → table_after t (events ++ event ∷ []) ≡ table_of (table_after t events) (step (table_after t events) event)
after_push t [] event = refl
after_push t (first ∷ events) event = after_push (table_of t (step t first)) events event

-- INDICES

-- THE LAW

-- the table is the one that the events lead to
abbrev Leads : List DeviceTable → ℕ → DeviceTable → List ReportedEvent → Type 0
Leads tables device t reported = slice_get tables device ≡ Some (table_after t (events_of device reported))

leads_own : (old new : List DeviceTable) (device : ℕ) (t : DeviceTable) (before : List ReportedEvent) (reported : ReportedEvent) → Leads old device t before → Steps old reported new → reported.device ≡ device → is_of device reported ≡ true → Leads new device t (before ++ reported ∷ [])
leads_own old new device t before reported leads steps same own =
    let now : DeviceTable = table_after t (events_of device before) in
    let same_table : Some steps.before ≡ Some now = sym (ap (slice_get old) (sym same) ∙ steps.is) ∙ leads in
    let is : steps.before ≡ now = let e = same_table in cc in
    let stepped : step now reported.event ≡ Ok (reported.answer, steps.after) = ap (λ (x : DeviceTable). step x reported.event) (sym is) ∙ steps.stepped in
    let there : slice_get new device ≡ Some steps.after = ap (λ (l : List DeviceTable). slice_get l device) (steps.leaves ∙ ap (λ i. set old i steps.after) same) ∙ set_own old device now steps.after leads in
    there
    ∙ sym (ap (λ (r : Result DeviceNext StepFault). Some (table_of now r)) stepped)
    ∙ sym (ap Some (after_push t (events_of device before) reported.event))
    ∙ sym (ap (λ (l : List Event). Some (table_after t l)) (events_own device before reported own))

leads_other : (old new : List DeviceTable) (device : ℕ) (t : DeviceTable) (before : List ReportedEvent) (reported : ReportedEvent) → Leads old device t before → Steps old reported new → device ≢ reported.device → is_of device reported ≡ false → Leads new device t (before ++ reported ∷ [])
leads_other old new device t before reported leads steps ne other =
    ap (λ (l : List DeviceTable). slice_get l device) steps.leaves
    ∙ set_other old reported.device device steps.after ne
    ∙ leads
    ∙ sym (ap (λ (l : List Event). Some (table_after t l)) (events_other device before reported other))

leads_on : (b : Bool) (old new : List DeviceTable) (device : ℕ) (t : DeviceTable) (before : List ReportedEvent) (reported : ReportedEvent) → is_of device reported ≡ b → Leads old device t before → Steps old reported new → Leads new device t (before ++ reported ∷ [])
leads_on true old new device t before reported is leads steps =
    let same : reported.device ≡ device = grind (arith, nat_tests) in
    leads_own old new device t before reported leads steps same is
leads_on false old new device t before reported is leads steps =
    leads_other old new device t before reported leads steps (λ e. not_both (eq_same reported.device device (sym e)) is) is where
      eq_same : (a b : ℕ) → a ≡ b → (a == b) ≡ true
      eq_same a b h = grind (arith, nat_tests)

      not_both : {b : Bool} → b ≡ true → b ≡ false → ⊥
      not_both yes_is no_is = let p = yes_is in let q = no_is in cc

leads_more : (old : List DeviceTable) (device : ℕ) (t : DeviceTable) (before : List ReportedEvent) (reported : Option ReportedEvent) (w : World) → Leads old device t before → Moves old (reported, w) → Leads w.tables device t (reported_more before reported)
leads_more old device t before None w leads moves = ap (λ (l : List DeviceTable). slice_get l device) moves ∙ leads
leads_more old device t before (Some reported) w leads moves = leads_on (is_of device reported) old w.tables device t before reported refl leads moves

-- the story so far leads so
abbrev StoryLeads : ℕ → DeviceTable → Story → Type 0
StoryLeads device t story = Leads story.world.tables device t story.reported

story_leads : (device : ℕ) (t : DeviceTable) (story : Story) (said : Happened) → StoryLeads device t story → IfOk said (Moves story.world.tables) → IfOk (goes_on story.reported said) (StoryLeads device t)
story_leads device t story (Err fault) leads moves = tt
story_leads device t story (Ok done) leads moves = leads_more story.world.tables device t story.reported done.0 done.1 leads moves

reported_leads : (device : ℕ) (t : DeviceTable) (so_far : Result Story ActFault) (act : Act) → IfOk so_far (StoryLeads device t) → IfOk (reports so_far act) (StoryLeads device t)
reported_leads device t (Err fault) act leads = tt
reported_leads device t (Ok story) act leads = story_leads device t story (happens story.world act) leads (act_moves story.world act)

runs_lead : (device : ℕ) (t : DeviceTable) (acts : List Act) (so_far : Result Story ActFault) → IfOk so_far (StoryLeads device t) → IfOk (runs so_far acts) (StoryLeads device t)
unfolding runs
runs_lead device t [] so_far leads = leads
runs_lead device t (act ∷ acts) so_far leads = runs_lead device t acts (reports so_far act) (reported_leads device t so_far act leads)

pub projections_are_runs : ProjectionsAreRuns
projections_are_runs start acts story device t runs_so at =
    subst (λ (r : Result Story ActFault). IfOk r (StoryLeads device t)) runs_so (runs_lead device t acts (begins start) at)
