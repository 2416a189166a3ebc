-- The first pass: of all that was sent, in every schedule.
use Rattle.std.proofs.Common.{◌≡◌, ℕ, ◌==◌, Bool, true, false, List, [], ◌∷◌, ◌++◌, map, set, slice_get, slice_index_or, Option, Some, None, Result, Ok, Err, IfOk, refl, sym, ◌∙◌, ap, subst, eqb-true}
use Rattle.std.specs.List.{AllByRecursion}
use Rattle.std.proofs.lemmas.Option.{same_Some}
use Rattle.std.proofs.lemmas.Bool.{eqb-false}
use Rattle.base_lemmas.specs.Lists.{set_own, set_other}
use Rattle.cip_types.specs.declared.names.Node.{Node}
use Rattle.cip_datagram.specs.Datagram.{datagram_text}
use Rattle.cip_events.specs.declared.event.StepFault.{StepFault}
use Rattle.cip_tables.specs.declared.table.DeviceTable.{DeviceTable}
use Rattle.cip_tables.specs.Step.{DeviceNext}
use Rattle.segment_world.specs.Transit.Log.{Sent}
use Rattle.segment_world.specs.declared.act.Act.{Act}
use Rattle.segment_world.specs.declared.act.ActFault.{ActFault}
use Rattle.segment_world.specs.World.{World, ReportedEvent, Happened, node_at, sent_by, happens}
use Rattle.segment_world.specs.Story.{Story, runs, begins, goes_on as story_goes_on}
use Rattle.segment_world.specs.Transit.Streams.{Stream, QueueItem}
use Rattle.segment_world.specs.Transit.Streams as item
use Rattle.schedule_laws.specs.Ids.{IdsAreDrawn, SchedulesKeepIdsDrawn, StreamsHold, ItemHolds}
use Rattle.schedule_laws.specs.Lives.{AreApart}
use Rattle.schedule_laws.specs.Lemmas.Acts.{Reached, WhereApart, reached_after}
use Rattle.schedule_laws.specs.Lemmas.Drawing.{moved_apart}
use Rattle.cip_tables.specs.Sound.{StepsGrow}
use Rattle.schedule_laws.specs.Lemmas.Moves.{Came, Rests, Moves, act_moves}
use Rattle.cip_tables.specs.declared.table.Config.{Config}
use Rattle.device_laws.specs.Made.{AnswersSendWhatIsMade, makes}
use Rattle.device_laws.specs.Productions.{Production, produced_more}
use Rattle.schedule_laws.specs.Chronicle.{Chronicle, with_event, with_event_at, recorded, after_act, then_act, chronicles}
use Rattle.schedule_laws.specs.Indexes.{sent_of}
use Rattle.device_laws.specs.Lemmas.Books.{WellMade}
use Rattle.device_laws.specs.Lemmas.DeviceBooks.{DeviceBooks, DeviceAgrees, device_others}
use Rattle.device_laws.specs.Lemmas.BookSteps.{step_agrees}
use Rattle.schedule_laws.specs.Lemmas.SentTexts.{sent_made, more_sent, answer_sent, nodes_stay}

-- ---- a schedule

-- what each act keeps of a chronicle
abbrev pub ActsKeep : (Chronicle → Type 0) → Type 0
ActsKeep I = (c : Chronicle) (act : Act) → I c → IfOk (after_act c act) I

pub act_keeps : (I : Chronicle → Type 0) → ActsKeep I → (so_far : Result Chronicle ActFault) (act : Act) → IfOk so_far I → IfOk (then_act so_far act) I
act_keeps I keeps (Err fault) act holds = tt
act_keeps I keeps (Ok c) act holds = keeps c act holds

pub chronicles_keep : (I : Chronicle → Type 0) → ActsKeep I → (acts : List Act) (so_far : Result Chronicle ActFault) → IfOk so_far I → IfOk (chronicles so_far acts) I
unfolding chronicles
chronicles_keep I keeps [] so_far holds = holds
chronicles_keep I keeps (act ∷ acts) so_far holds = chronicles_keep I keeps acts (then_act so_far act) (act_keeps I keeps so_far act holds)

abbrev pub Any : List ℕ → Type 0
Any bytes = Unit {0}

any_items : (queue : List QueueItem) → AllByRecursion (ItemHolds Any) queue
any_items [] = tt
any_items (item.Opening ∷ queue) = (tt, any_items queue)
any_items (item.Queued bytes ∷ queue) = (tt, any_items queue)
any_items (item.Ending ∷ queue) = (tt, any_items queue)

pub any_streams : (streams : List Stream) → StreamsHold Any streams
any_streams [] = tt
any_streams (s ∷ streams) = (record { forth = any_items s.forth.queue; back = any_items s.back.queue }, any_streams streams)

-- what one act does to the chronicle, for an invariant
pub record Cases (I : Chronicle → Type 0) : Type 0 where
  pub rests : (c : Chronicle) (act : Act) (new : World) → happens c.story.world act ≡ Ok (None, new) → Rests Any c.story.world new → I c → I (record c { story = record { world = new; reported = c.story.reported } })
  pub came : (c : Chronicle) (act : Act) (reported : ReportedEvent) (new : World) → happens c.story.world act ≡ Ok (Some reported, new) → (m : Came Any c.story.world reported new) → I c → I (with_event c act reported new m.before)

by_case : (I : Chronicle → Type 0) → Cases I → (c : Chronicle) (act : Act) (said : Happened) → happens c.story.world act ≡ said → IfOk said (Moves Any c.story.world) → I c → IfOk (recorded c act said) I
by_case I cases c act (Err fault) is moves holds = tt
by_case I cases c act (Ok (None, new)) is moves holds = cases.rests c act new is moves holds
by_case I cases c act (Ok (Some reported, new)) is moves holds =
    subst (λ (o : Option DeviceTable). I (with_event_at c act reported new o)) (sym moves.is) (cases.came c act reported new is moves holds)

pub cases_keep : (I : Chronicle → Type 0) → Cases I → ActsKeep I
cases_keep I cases c act holds = by_case I cases c act (happens c.story.world act) refl (act_moves Any c.story.world act (any_streams c.story.world.streams)) holds

-- ---- where no two devices have blocks with one id

-- an act keeps it, where no two devices have blocks with one id after the act
abbrev pub ApartActsKeep : (Chronicle → Type 0) → Type 0
ApartActsKeep I = (c : Chronicle) (act : Act) → I c → IfOk (after_act c act) (WhereApart I)

-- so they had none before
abbrev WasApart : Chronicle → Chronicle → Type 0
WasApart c next = AreApart next.story.world.tables → AreApart c.story.world.tables

recorded_apart : StepsGrow → (c : Chronicle) (act : Act) (said : Happened) → IfOk said (Moves Any c.story.world) → IfOk (recorded c act said) (WasApart c)
recorded_apart blocks c act (Err fault) moves = tt
recorded_apart blocks c act (Ok (None, new)) moves = λ apart. moved_apart blocks c.story.world Any (None, new) moves apart
recorded_apart blocks c act (Ok (Some reported, new)) moves =
    subst (λ (o : Option DeviceTable). WasApart c (with_event_at c act reported new o)) (sym moves.is) (λ apart. moved_apart blocks c.story.world Any (Some reported, new) moves apart)

after_apart : StepsGrow → (c : Chronicle) (act : Act) → IfOk (after_act c act) (WasApart c)
after_apart blocks c act = recorded_apart blocks c act (happens c.story.world act) (act_moves Any c.story.world act (any_streams c.story.world.streams))

joined : (I : Chronicle → Type 0) (c : Chronicle) (said : Result Chronicle ActFault) → IfOk said (WasApart c) → (AreApart c.story.world.tables → IfOk said (WhereApart I)) → IfOk said (WhereApart I)
joined I c (Err fault) was keeps = tt
joined I c (Ok next) was keeps = λ apart. keeps (was apart) apart

pub apart_keeps : StepsGrow → (I : Chronicle → Type 0) → ApartActsKeep I → ActsKeep (WhereApart I)
apart_keeps blocks I keeps c act held = joined I c (after_act c act) (after_apart blocks c act) (λ apart. keeps c act (held apart))

went_back : (start c : Chronicle) (said : Result Chronicle ActFault) → IfOk said (WasApart c) → WasApart start c → IfOk said (WasApart start)
went_back start c (Err fault) was back = tt
went_back start c (Ok next) was back = λ apart. back (was apart)

-- they had none at the beginning
pub begins_apart : StepsGrow → (start c : Chronicle) (acts : List Act) → chronicles (Ok start) acts ≡ Ok c → AreApart c.story.world.tables → AreApart start.story.world.tables
begins_apart blocks start c acts ran apart =
    let back : WasApart start c = subst (λ (r : Result Chronicle ActFault). IfOk r (WasApart start)) ran
    (chronicles_keep (WasApart start) (λ before act was. went_back start before (after_act before act) (after_apart blocks before act) was) acts (Ok start) (λ own. own)) in
    back apart

pub reached_keeps : StepsGrow → (configs : List Config) (so_far : Result Chronicle ActFault) (act : Act) → IfOk so_far (WhereApart (Reached configs)) → IfOk (then_act so_far act) (WhereApart (Reached configs))
reached_keeps blocks configs so_far act reached =
    act_keeps (WhereApart (Reached configs)) (apart_keeps blocks (Reached configs) (λ c act r. reached_after configs c act r)) so_far act reached

-- ---- ids drawn and whole tables, at each moment

one_act : (w : World) (act : Act) (reported : Option ReportedEvent) (new : World) → happens w act ≡ Ok (reported, new) → (story : Story) × (runs (begins w) (act ∷ []) ≡ Ok story) × (story.world ≡ new)
unfolding runs
one_act w act None new is = (record { world = new; reported = [] }, ap (story_goes_on []) is, refl)
one_act w act (Some reported) new is = (record { world = new; reported = reported ∷ [] }, ap (story_goes_on []) is, refl)

pub drawn_on : SchedulesKeepIdsDrawn → (w : World) (act : Act) (reported : Option ReportedEvent) (new : World) → happens w act ≡ Ok (reported, new) → IdsAreDrawn w → IdsAreDrawn new
drawn_on keep w act reported new is drawn =
    let one = one_act w act reported new is in
    subst IdsAreDrawn one.2 (keep w (act ∷ []) one.0 one.1 drawn)

-- ---- the first pass

-- of all that was sent: one production for each, as the devices' books say
pub record Produced (c : Chronicle) : Type 0 where
  pub drawn : IdsAreDrawn c.story.world
  pub books : (device : ℕ) (t : DeviceTable) → slice_get c.story.world.tables device ≡ Some t → DeviceBooks c.produced device t
  pub well : WellMade c.produced
  pub sent : c.story.world.sent ≡ map (sent_of c.story.world) c.produced

books_step : (b : Bool) (c : Chronicle) (reported : ReportedEvent) (t u : DeviceTable) (device : ℕ) (v : DeviceTable) → (device == reported.device) ≡ b → Produced c → slice_get c.story.world.tables reported.device ≡ Some t → DeviceBooks (produced_more reported.device c.produced (makes t reported.event)) reported.device u → slice_get (set c.story.world.tables reported.device u) device ≡ Some v → DeviceBooks (produced_more reported.device c.produced (makes t reported.event)) device v
books_step true c reported t u device v is ok at own there =
    let one : device ≡ reported.device = eqb-true device reported.device is in
    let here : slice_get (set c.story.world.tables reported.device u) reported.device ≡ Some v = subst (λ (n : ℕ). slice_get (set c.story.world.tables reported.device u) n ≡ Some v) one there in
    let same : u ≡ v = same_Some u v (sym (set_own c.story.world.tables reported.device t u at) ∙ here) in
    subst (λ (n : ℕ). DeviceBooks (produced_more reported.device c.produced (makes t reported.event)) n v) (sym one) (subst (DeviceBooks (produced_more reported.device c.produced (makes t reported.event)) reported.device) same own)
books_step false c reported t u device v is ok at own there =
    let ne = eqb-false device reported.device is in
    device_others reported.device device (makes t reported.event) c.produced v (λ e. ne (sym e)) (ok.books device v (sym (set_other c.story.world.tables reported.device device u ne) ∙ there))

by_nodes : (new w : World) → new.nodes ≡ w.nodes → (ps : List Production) → map (sent_of w) ps ≡ map (sent_of new) ps
by_nodes new w nodes ps = ap (λ (nodes : List Node). map (λ (p : Production). record { from = slice_index_or nodes p.producer.device (record { 0 = 0 }); bytes = datagram_text p.made.datagram }) ps) (sym nodes)

produced_came : AnswersSendWhatIsMade → SchedulesKeepIdsDrawn → (c : Chronicle) (act : Act) (reported : ReportedEvent) (new : World) → happens c.story.world act ≡ Ok (Some reported, new) → (m : Came Any c.story.world reported new) → Produced c → Produced (with_event c act reported new m.before)
produced_came sends keep c act reported new is m ok =
    let w = c.story.world in
    let t = m.before in
    let whole = ok.drawn.whole reported.device t m.is in
    let agrees : DeviceAgrees (produced_more reported.device c.produced (makes t reported.event)) reported.device m.after =
    subst (λ (said : Result DeviceNext StepFault). IfOk said (λ next. DeviceAgrees (produced_more reported.device c.produced (makes t reported.event)) reported.device next.1)) m.stepped
    (step_agrees c.produced reported.device t reported.event whole (record { books = ok.books reported.device t m.is; well = ok.well })) in
    let tables : new.tables ≡ set w.tables reported.device m.after = ap (λ (x : World). x.tables) m.leaves in
    let nodes : new.nodes ≡ w.nodes = ap (λ (x : World). x.nodes) m.leaves in
    let left : new.sent ≡ w.sent ++ map (sent_by (node_at w reported.device)) reported.answer.datagrams = ap (λ (x : World). x.sent) m.leaves in
    record {
      drawn = drawn_on keep w act (Some reported) new is ok.drawn;
      books = λ device v there. books_step (device == reported.device) c reported t m.after device v refl ok m.is agrees.books (ap (λ (ts : List DeviceTable). slice_get ts device) (sym tables) ∙ there);
      well = agrees.well;
      sent = left ∙ ap (λ (xs : List Sent). w.sent ++ xs) (answer_sent sends (node_at w reported.device) t reported.event reported.answer m.after m.stepped)
          ∙ ap (λ (xs : List Sent). xs ++ map (sent_made (node_at w reported.device)) (makes t reported.event)) ok.sent
          ∙ sym (more_sent w reported.device (makes t reported.event) c.produced)
          ∙ by_nodes new w nodes (produced_more reported.device c.produced (makes t reported.event));
    }

produced_rests : SchedulesKeepIdsDrawn → (c : Chronicle) (act : Act) (new : World) → happens c.story.world act ≡ Ok (None, new) → Rests Any c.story.world new → Produced c → Produced (record c { story = record { world = new; reported = c.story.reported } })
produced_rests keep c act new is rests ok =
    let w = c.story.world in
    let nodes : new.nodes ≡ w.nodes = subst (λ (said : Happened). IfOk said (λ done. done.1.nodes ≡ w.nodes)) is (nodes_stay w act) in
    record {
      drawn = drawn_on keep w act None new is ok.drawn;
      books = λ device v there. ok.books device v (ap (λ (ts : List DeviceTable). slice_get ts device) (sym rests.tables) ∙ there);
      well = ok.well;
      sent = rests.sent ∙ ok.sent ∙ by_nodes new w nodes c.produced;
    }

pub produced_cases : AnswersSendWhatIsMade → SchedulesKeepIdsDrawn → Cases (Produced)
produced_cases sends keep = record {
  rests = produced_rests keep;
  came = produced_came sends keep;
}
