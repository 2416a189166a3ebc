-- Over every schedule that keeps the half-circle condition accepted indexes rise.
use Rattle.std.proofs.Common.{◌≡◌, ◌≢◌, ℕ, zero, suc, ◌==◌, Bool, true, false, List, [], ◌∷◌, ◌++◌, map, set, slice_get, Option, Some, None, Result, Ok, Err, IfOk, ◌⊎◌, inl, inr, refl, sym, ◌∙◌, ap, subst, eqb-true}
use Rattle.std.specs.List.{AllByRecursion}
use Rattle.std.proofs.lemmas.Option.{same_Some}
use Rattle.std.proofs.lemmas.Bool.{eqb-false}
use Rattle.base_lemmas.specs.Lists.{set_own, set_other}
use Rattle.cip_types.specs.declared.names.Node.{Node}
use Rattle.cip_datagram.specs.Datagram.{datagram_text}
use Rattle.cip_events.specs.Answers.{is_accepted}
use Rattle.cip_events.specs.declared.event.Answer.{Answer}
use Rattle.cip_events.specs.declared.event.Delivery.{Delivery}
use Rattle.cip_events.specs.declared.event.Event.{Event}
use Rattle.cip_events.specs.declared.event.Event.TheVariants as event
use Rattle.cip_events.specs.declared.event.Verdict.TheVariants.{Delivered}
use Rattle.adapter_table.specs.Datagrams.{received}
use Rattle.scanner_table.specs.Datagrams.{received as slot_received}
use Rattle.cip_tables.specs.declared.table.DeviceTable.{DeviceTable}
use Rattle.cip_tables.specs.declared.table.DeviceTable.TheVariants.{Adapter, Scanner}
use Rattle.cip_tables.specs.Step.{step}
use Rattle.cip_tables.specs.Whole.{IsWholeDevice}
use Rattle.segment_world.specs.Transit.Log.{Sent}
use Rattle.segment_world.specs.declared.act.Act.{Act}
use Rattle.segment_world.specs.declared.act.ActFault.{ActFault}
use Rattle.segment_world.specs.World.{World, ReportedEvent, Happened, node_at, happens}
use Rattle.schedule_laws.specs.Lemmas.Lists.{all_get}
use Rattle.schedule_laws.specs.Lemmas.Moves.{Came, Rests, Moves, act_moves}
use Rattle.device_laws.specs.Productions.{end_at, Production, IsNumbered}
use Rattle.schedule_laws.specs.Chronicle.{Acceptance, names, accepted_by_verdict, accepted_sent, accepted_by_act, newest, Chronicle, with_event, with_event_at, recorded, then_act, chronicles}
use Rattle.schedule_laws.specs.Order.{IsNear, IsNearNamed, IsNearSent, IsNearAct, IsNearIn, HalfCircle, step_accepts, Rise}
use Rattle.schedule_laws.specs.Indexes.{sent_of}
use Rattle.schedule_laws.specs.Lemmas.ProducedActs.{Any, any_streams, Produced}
use Rattle.device_laws.specs.Lemmas.DeviceBooks.{DeviceBooks}
use Rattle.schedule_laws.specs.Lemmas.AdapterNewest.{pair_of}
use Rattle.schedule_laws.specs.Lemmas.Deliveries.{IsDelivery, IsOther, act_kind, IsNoted, verdict_noted, IsNewerThan, adapter_newer, scanner_newer}
use Rattle.schedule_laws.specs.Lemmas.NewestSteps.{DeviceTakes, AcceptLaws, Known, adapter_stepped, scanner_stepped, ok_answer, ok_slot_answer, quiet_takes, row_takes, slot_takes, other_takes, earlier_of}

-- what holds of the datagrams that were accepted
pub record Taken (tables : List DeviceTable) (accepted : List Acceptance) : Type 0 where
  pub takes : (device : ℕ) (t : DeviceTable) → slice_get tables device ≡ Some t → DeviceTakes accepted device t
  pub known : AllByRecursion Known accepted
  pub rise : Rise accepted

abbrev pub TakenIn : Chronicle → Type 0
TakenIn c = Taken c.story.world.tables c.accepted

-- ---- one device's table is another

set_takes_step : (b : Bool) (tables : List DeviceTable) (accepted more : List Acceptance) (d : ℕ) (t u : DeviceTable) (device : ℕ) (v : DeviceTable) → (device == d) ≡ b → slice_get tables d ≡ Some t → DeviceTakes more d u → ((other : ℕ) (x : DeviceTable) → d ≢ other → slice_get tables other ≡ Some x → DeviceTakes more other x) → slice_get (set tables d u) device ≡ Some v → DeviceTakes more device v
set_takes_step true tables accepted more d t u device v is at own others there =
    let one : device ≡ d = eqb-true device d is in
    let here : slice_get (set tables d u) d ≡ Some v = subst (λ (n : ℕ). slice_get (set tables d u) n ≡ Some v) one there in
    let same : u ≡ v = same_Some u v (sym (set_own tables d t u at) ∙ here) in
    subst (λ (n : ℕ). DeviceTakes more n v) (sym one) (subst (DeviceTakes more d) same own)
set_takes_step false tables accepted more d t u device v is at own others there =
    let ne = eqb-false device d is in
    others device v (λ e. ne (sym e)) (sym (set_other tables d device u ne) ∙ there)

set_takes : (tables : List DeviceTable) (more : List Acceptance) (d : ℕ) (t u : DeviceTable) → slice_get tables d ≡ Some t → DeviceTakes more d u → ((other : ℕ) (x : DeviceTable) → d ≢ other → slice_get tables other ≡ Some x → DeviceTakes more other x) → (device : ℕ) (v : DeviceTable) → slice_get (set tables d u) device ≡ Some v → DeviceTakes more device v
set_takes tables more d t u at own others device v there = set_takes_step (device == d) tables more more d t u device v refl at own others there

-- ---- a delivery

-- the production of a datagram that was sent
pub record IsSentAs (w : World) (produced : List Production) (index : ℕ) (sent : Sent) : Type 0 where
  pub production : Production
  pub there : slice_get produced index ≡ Some production
  pub is : sent_of w production ≡ sent

pub sent_as : (w : World) (produced : List Production) (index : ℕ) (sent : Sent) → slice_get (map (sent_of w) produced) index ≡ Some sent → IsSentAs w produced index sent
sent_as w [] index sent at = absurd (let e = at in cc)
sent_as w (p ∷ produced) zero sent at = record { production = p; there = refl; is = same_Some (sent_of w p) sent at }
sent_as w (p ∷ produced) (suc index) sent at = let more = sent_as w produced index sent at in record { production = more.production; there = more.there; is = more.is }

own_takes : AcceptLaws → (accepted : List Acceptance) (produced : List Production) (device : ℕ) (p : Production) (t : DeviceTable) (peer : Node) (answer : Answer) (u : DeviceTable) → step t (event.Datagram peer (datagram_text p.made.datagram)) ≡ Ok (answer, u) → IsWholeDevice t → DeviceBooks produced device t → IsNumbered p → DeviceTakes accepted device t → DeviceTakes (accepted_by_verdict device p (names t (record { from = peer; bytes = datagram_text p.made.datagram })) answer.verdict ++ accepted) device u
own_takes laws accepted produced device p (Adapter t) peer answer u stepped whole books numbered takes = row_takes laws accepted device p t peer answer u stepped whole numbered takes
own_takes laws accepted produced device p (Scanner t) peer answer u stepped whole books numbered takes = slot_takes laws accepted produced device p t peer answer u stepped whole books numbered takes

own_newer : AcceptLaws → (accepted : List Acceptance) (device m : ℕ) (p : Production) (t : DeviceTable) (peer : Node) (answer : Answer) (u : DeviceTable) (delivery : Delivery) → step t (event.Datagram peer (datagram_text p.made.datagram)) ≡ Ok (answer, u) → IsWholeDevice t → IsNumbered p → DeviceTakes accepted device t → names t (record { from = peer; bytes = datagram_text p.made.datagram }) ≡ Some m → answer.verdict ≡ Delivered delivery → is_accepted delivery ≡ true → IsNewerThan p.made.datagram.sequence (pair_of (newest (end_at device m) accepted))
own_newer laws accepted device m p (Adapter t) peer answer u delivery stepped whole numbered takes named reported so_accepted =
    let e : Event = event.Datagram peer (datagram_text p.made.datagram) in
    let s = adapter_stepped t e answer u stepped in
    let verdict : (received t peer (datagram_text p.made.datagram)).0.verdict ≡ Delivered delivery = ap (λ (a : Answer). a.verdict) (ok_answer (received t peer (datagram_text p.made.datagram)) s.next s.is ∙ s.answer_is) ∙ reported in
    let last = pair_of (newest (end_at device m) accepted) in
    adapter_newer p t peer last m delivery numbered named verdict so_accepted (laws.of_rows m last t e s.next s.is whole.sound (takes m)).0
own_newer laws accepted device m p (Scanner t) peer answer u delivery stepped whole numbered takes named reported so_accepted =
    let e : Event = event.Datagram peer (datagram_text p.made.datagram) in
    let s = scanner_stepped t e answer u stepped in
    let verdict : (slot_received t peer (datagram_text p.made.datagram)).0.verdict ≡ Delivered delivery = ap (λ (a : Answer). a.verdict) (ok_slot_answer (slot_received t peer (datagram_text p.made.datagram)) s.next s.is ∙ s.answer_is) ∙ reported in
    let last = pair_of (newest (end_at device m) accepted) in
    scanner_newer p t peer last m delivery numbered named verdict so_accepted (λ k. (laws.of_slots k m last t e s.next s.is (laws.numbered t whole.table) (takes k m)).0)

-- what was noted of a delivery is known, and rises
noted_rises : AcceptLaws → (c : Chronicle) (device : ℕ) (p : Production) (t : DeviceTable) (peer : Node) (answer : Answer) (u : DeviceTable) → step t (event.Datagram peer (datagram_text p.made.datagram)) ≡ Ok (answer, u) → IsWholeDevice t → IsNumbered p → slice_get c.story.world.tables device ≡ Some t → IsNearNamed c device p (step_accepts (step t (event.Datagram peer (datagram_text p.made.datagram)))) (names t (record { from = peer; bytes = datagram_text p.made.datagram })) → TakenIn c → AllByRecursion Known (accepted_by_verdict device p (names t (record { from = peer; bytes = datagram_text p.made.datagram })) answer.verdict ++ c.accepted) × Rise (accepted_by_verdict device p (names t (record { from = peer; bytes = datagram_text p.made.datagram })) answer.verdict ++ c.accepted)
noted_rises laws c device p t peer answer u stepped whole numbered at near ok = step_noted (verdict_noted device p number answer.verdict)
  where
    number : Option ℕ
    number = names t (record { from = peer; bytes = datagram_text p.made.datagram })

    accepts : Bool
    accepts = step_accepts (step t (event.Datagram peer (datagram_text p.made.datagram)))

    step_noted : (accepted_by_verdict device p number answer.verdict ≡ []) ⊎ IsNoted device p number answer.verdict (accepted_by_verdict device p number answer.verdict) → AllByRecursion Known (accepted_by_verdict device p number answer.verdict ++ c.accepted) × Rise (accepted_by_verdict device p number answer.verdict ++ c.accepted)
    step_noted (inl none) = subst (λ (xs : List Acceptance). AllByRecursion Known (xs ++ c.accepted) × Rise (xs ++ c.accepted)) (sym none) (ok.known, ok.rise)
    step_noted (inr noted) =
        let m = noted.request in
        let close : IsNear accepts p (newest (end_at device m) c.accepted) = subst (IsNearNamed c device p accepts) noted.named near in
        let newer = own_newer laws c.accepted device m p t peer answer u noted.delivery stepped whole numbered (ok.takes device t at) noted.named noted.reported noted.accepted in
        subst (λ (xs : List Acceptance). AllByRecursion Known (xs ++ c.accepted) × Rise (xs ++ c.accepted)) (sym noted.mine_is)
        ((numbered, ok.known), (earlier_of p c.accepted (end_at device m) (newest (end_at device m) c.accepted) accepts refl numbered ok.known ok.rise close newer, ok.rise))

-- ---- an act

delivery_taken : AcceptLaws → (c : Chronicle) (act : Act) (reported : ReportedEvent) (new : World) (m : Came Any c.story.world reported new) → IsDelivery c.story.world act reported → IsNearAct c act → Produced c → TakenIn c → Taken new.tables (accepted_by_act c.story.world c.produced act reported.answer.verdict ++ c.accepted)
delivery_taken laws c act reported new m del near produced ok =
    let w = c.story.world in
    let d = reported.device in
    let t = m.before in
    let found = sent_as w c.produced del.index del.sent (ap (λ (xs : List Sent). slice_get xs del.index) (sym produced.sent) ∙ del.there) in
    let p = found.production in
    let peer = node_at w p.producer.device in
    let numbered : IsNumbered p = all_get IsNumbered c.produced del.index p produced.well.numbered found.there in
    let stepped : step t (event.Datagram peer (datagram_text p.made.datagram)) ≡ Ok (reported.answer, m.after) =
    ap (step t) (ap (λ (s : Sent). event.Datagram s.from s.bytes) found.is ∙ sym del.event_is) ∙ m.stepped in
    let noted : accepted_by_act w c.produced act reported.answer.verdict ≡ accepted_by_verdict d p (names t (record { from = peer; bytes = datagram_text p.made.datagram })) reported.answer.verdict =
    ap (λ (a : Act). accepted_by_act w c.produced a reported.answer.verdict) del.act_is
    ∙ ap (λ (o : Option DeviceTable). accepted_sent d o (slice_get w.sent del.index) (slice_get c.produced del.index) reported.answer.verdict) m.is
    ∙ ap (λ (o : Option Sent). accepted_sent d (Some t) o (slice_get c.produced del.index) reported.answer.verdict) (del.there ∙ sym (ap Some found.is))
    ∙ ap (λ (o : Option Production). accepted_sent d (Some t) (Some (sent_of w p)) o reported.answer.verdict) found.there in
    let close : IsNearNamed c d p (step_accepts (step t (event.Datagram peer (datagram_text p.made.datagram)))) (names t (record { from = peer; bytes = datagram_text p.made.datagram })) =
    subst (IsNearSent c d (Some t) (Some (sent_of w p))) found.there
    (subst (λ (o : Option Sent). IsNearSent c d (Some t) o (slice_get c.produced del.index)) (del.there ∙ sym (ap Some found.is))
    (subst (λ (o : Option DeviceTable). IsNearSent c d o (slice_get w.sent del.index) (slice_get c.produced del.index)) m.is
    (subst (IsNearAct c) del.act_is near))) in
    let whole = produced.drawn.whole d t m.is in
    let own = own_takes laws c.accepted c.produced d p t peer reported.answer m.after stepped whole (produced.books d t m.is) numbered (ok.takes d t m.is) in
    let rises = noted_rises laws c d p t peer reported.answer m.after stepped whole numbered m.is close ok in
    let tables : new.tables ≡ set w.tables d m.after = ap (λ (x : World). x.tables) m.leaves in
    let number = names t (record { from = peer; bytes = datagram_text p.made.datagram }) in
    subst (λ (xs : List Acceptance). Taken new.tables (xs ++ c.accepted)) (sym noted)
    (subst (λ (ts : List DeviceTable). Taken ts (accepted_by_verdict d p number reported.answer.verdict ++ c.accepted)) (sym tables)
    (record {
      takes = set_takes w.tables (accepted_by_verdict d p number reported.answer.verdict ++ c.accepted) d t m.after m.is own
          (λ other x ne there. other_takes d other p number reported.answer.verdict c.accepted x ne (ok.takes other x there));
      known = rises.0;
      rise = rises.1;
    }))

quiet_taken : AcceptLaws → (c : Chronicle) (act : Act) (reported : ReportedEvent) (new : World) (m : Came Any c.story.world reported new) → IsOther c.story.world c.produced act reported → Produced c → TakenIn c → Taken new.tables (accepted_by_act c.story.world c.produced act reported.answer.verdict ++ c.accepted)
quiet_taken laws c act reported new m other produced ok =
    let w = c.story.world in
    let tables : new.tables ≡ set w.tables reported.device m.after = ap (λ (x : World). x.tables) m.leaves in
    let own = quiet_takes laws c.accepted reported.device m.before reported.event reported.answer m.after m.stepped (produced.drawn.whole reported.device m.before m.is) other.event (ok.takes reported.device m.before m.is) in
    subst (λ (xs : List Acceptance). Taken new.tables (xs ++ c.accepted)) (sym (other.none reported.answer.verdict))
    (subst (λ (ts : List DeviceTable). Taken ts c.accepted) (sym tables)
    (record {
      takes = set_takes w.tables c.accepted reported.device m.before m.after m.is own (λ device x ne there. ok.takes device x there);
      known = ok.known;
      rise = ok.rise;
    }))

came_taken : AcceptLaws → (c : Chronicle) (act : Act) (reported : ReportedEvent) (new : World) → happens c.story.world act ≡ Ok (Some reported, new) → (m : Came Any c.story.world reported new) → IsNearAct c act → Produced c → TakenIn c → TakenIn (with_event c act reported new m.before)
came_taken laws c act reported new is m near produced ok = kind (act_kind c.story.world c.produced act reported new is) where
  kind : IsDelivery c.story.world act reported ⊎ IsOther c.story.world c.produced act reported → TakenIn (with_event c act reported new m.before)
  kind (inl del) = delivery_taken laws c act reported new m del near produced ok
  kind (inr other) = quiet_taken laws c act reported new m other produced ok

rests_taken : (c : Chronicle) (new : World) → Rests Any c.story.world new → TakenIn c → TakenIn (record c { story = record { world = new; reported = c.story.reported } })
rests_taken c new rests ok = subst (λ (ts : List DeviceTable). Taken ts c.accepted) (sym rests.tables) ok

-- ---- a schedule

-- what each act that keeps the condition keeps of a chronicle, where another invariant holds too
pub record NearCases (I J : Chronicle → Type 0) : Type 0 where
  pub rests : (c : Chronicle) (act : Act) (new : World) → happens c.story.world act ≡ Ok (None, new) → Rests Any c.story.world new → I c → J c → J (record c { story = record { world = new; reported = c.story.reported } })
  pub came : (c : Chronicle) (act : Act) (reported : ReportedEvent) (new : World) → happens c.story.world act ≡ Ok (Some reported, new) → (m : Came Any c.story.world reported new) → IsNearAct c act → I c → J c → J (with_event c act reported new m.before)

near_case : (I J : Chronicle → Type 0) → NearCases I J → (c : Chronicle) (act : Act) (said : Happened) → happens c.story.world act ≡ said → IfOk said (Moves Any c.story.world) → IsNearAct c act → I c → J c → IfOk (recorded c act said) J
near_case I J cases c act (Err fault) is moves near holds other = tt
near_case I J cases c act (Ok (None, new)) is moves near holds other = cases.rests c act new is moves holds other
near_case I J cases c act (Ok (Some reported, new)) is moves near holds other =
    subst (λ (o : Option DeviceTable). J (with_event_at c act reported new o)) (sym moves.is) (cases.came c act reported new is moves near holds other)

near_step : (I J : Chronicle → Type 0) → NearCases I J → (so_far : Result Chronicle ActFault) (act : Act) → IsNearIn so_far act → IfOk so_far I → IfOk so_far J → IfOk (then_act so_far act) J
near_step I J cases (Err fault) act near holds other = tt
near_step I J cases (Ok c) act near holds other = near_case I J cases c act (happens c.story.world act) refl (act_moves Any c.story.world act (any_streams c.story.world.streams)) near holds other

pub near_keep : (I J : Chronicle → Type 0) → ((so_far : Result Chronicle ActFault) (act : Act) → IfOk so_far I → IfOk (then_act so_far act) I) → NearCases I J → (acts : List Act) (so_far : Result Chronicle ActFault) → HalfCircle so_far acts → IfOk so_far I → IfOk so_far J → IfOk (chronicles so_far acts) J
unfolding chronicles HalfCircle
near_keep I J keeps cases [] so_far half holds other = other
near_keep I J keeps cases (act ∷ acts) so_far half holds other =
    near_keep I J keeps cases acts (then_act so_far act) half.1 (keeps so_far act holds) (near_step I J cases so_far act half.0 holds other)

pub taken_cases : AcceptLaws → NearCases (Produced) TakenIn
taken_cases laws = record {
  rests = λ c act new is rests holds ok. rests_taken c new rests ok;
  came = came_taken laws;
}
