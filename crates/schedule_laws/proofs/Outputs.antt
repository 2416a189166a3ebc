-- Over every schedule that keeps the half-circle condition the output of an owner holds the value of the newest accepted
-- production in run mode.
use Rattle.std.proofs.Common.{◌≡◌, ◌≢◌, ℕ, suc, Bool, true, false, cond, List, [], ◌∷◌, ◌++◌, map, find, slice_get, Option, Some, None, Result, Ok, IfOk, ◌⊎◌, inl, inr, refl, sym, ◌∙◌, ap, subst, arith}
use Rattle.std.specs.List.{AllByRecursion, Contains}
use Rattle.std.proofs.lemmas.Option.{same_Some}
use Rattle.base_lemmas.specs.Lists.{found_passes}
use Rattle.cip_types.specs.declared.names.Node.{Node}
use Rattle.cip_datagram.specs.Datagram.{datagram_text}
use Rattle.cip_events.specs.declared.event.Answer.{Answer}
use Rattle.cip_events.specs.declared.event.Event.{Event}
use Rattle.cip_events.specs.declared.event.Event.TheVariants as event
use Rattle.cip_events.specs.declared.event.Delivery.{Delivery}
use Rattle.cip_events.specs.declared.event.Delivery.TheVariants.{Applied}
use Rattle.cip_events.specs.declared.event.Verdict.{Verdict}
use Rattle.cip_events.specs.declared.event.Verdict.TheVariants as verdicts
use Rattle.adapter_table.specs.declared.table.AdapterTable.{AdapterTable}
use Rattle.adapter_table.specs.Datagrams.{received}
use Rattle.adapter_table.specs.Requests.{Next}
use Rattle.adapter_table.specs.Step.{adapter_step}
use Rattle.adapter_table.specs.Lemmas.RequestLemmas.{next_is}
use Rattle.device_laws.specs.ScannerDeliveries.{reports_accepted}
use Rattle.cip_tables.specs.declared.table.Config.{Config}
use Rattle.cip_tables.specs.declared.table.DeviceTable.{DeviceTable}
use Rattle.cip_tables.specs.declared.table.DeviceTable.TheVariants.{Adapter}
use Rattle.cip_tables.specs.Step.{step, opening_table}
use Rattle.segment_world.specs.Transit.Log.{Sent}
use Rattle.segment_world.specs.declared.act.Act.{Act}
use Rattle.segment_world.specs.declared.act.ActFault.{ActFault}
use Rattle.segment_world.specs.Configs.{opening_world}
use Rattle.segment_world.specs.World.{World, ReportedEvent, node_at, happens}
use Rattle.schedule_laws.specs.Lemmas.Lists.{all_get}
use Rattle.schedule_laws.specs.Lemmas.Moves.{Came, Rests}
use Rattle.device_laws.specs.Lemmas.Lists.{all_more}
use Rattle.device_laws.specs.Made.{makes}
use Rattle.device_laws.specs.Productions.{End, end_at, is_end, Production, IsNumbered}
use Rattle.device_laws.specs.Lemmas.Books.{end_is}
use Rattle.device_laws.specs.Lemmas.ListCounts.{Has, all_has, get_has}
use Rattle.schedule_laws.specs.Chronicle.{Acceptance, accepted_by_verdict, accepted_sent, accepted_by_act, blank, Chronicle, has_consumer, names, newest, opens_row, Opened, with_event}
use Rattle.schedule_laws.specs.Indexes.{sent_of}
use Rattle.schedule_laws.specs.Lives.{AreApart}
use Rattle.schedule_laws.specs.Names.{IsAdapterIn, IsEntry, IsScannerIn}
use Rattle.schedule_laws.specs.Order.{AreNear, HalfCircle, IsAdapterAt, IsChronicle, IsNear, IsNearAct, IsNearNamed, IsNearSent, KeepsHalfCircle, step_accepts}
use Rattle.schedule_laws.specs.Lemmas.AdapterNewest.{Entry}
use Rattle.schedule_laws.specs.Lemmas.Found.{found_holds}
use Rattle.schedule_laws.specs.Lemmas.Beginning.{schedule_produced}
use Rattle.schedule_laws.specs.Lemmas.ProducedActs.{Any, Produced, begins_apart, reached_keeps}
use Rattle.schedule_laws.specs.Lemmas.RisingIndexes.{schedule_taken}
use Rattle.schedule_laws.specs.Lemmas.NewestSteps.{Known, other_event}
use Rattle.schedule_laws.specs.Lemmas.NewestActs.{NearCases, TakenIn, IsSentAs, near_keep, sent_as, taken_cases}
use Rattle.schedule_laws.specs.Lemmas.Deliveries.{IsDelivery, IsNoted, IsOther, act_kind, verdict_noted}
use Rattle.schedule_laws.specs.Outputs as law
use Rattle.schedule_laws.specs.Outputs.{AppliedInOrder, OutputsHold}
use Rattle.schedule_laws.proofs.Forms.{HasForm}
use Rattle.schedule_laws.proofs.Holding.{AcceptFacts, FactsAt, IsSame, TableHolds, applied_runs, datagram_holds, quiet_holds}
use Rattle.schedule_laws.specs.Lemmas.Acts.{Reached, WhereApart, nothing_yet, reached_by}
use Rattle.schedule_laws.specs.Lemmas.Drawing.{moved_apart}
use Rattle.schedule_laws.proofs.Moments.{AdapterBefore, Holds, IsFormed, PointLaws, TableCases, WasAccepted, WasRunning, adapter_back, all_front, contains_has, goes_on_to, has_more, made_formed, makes_formed, near_new_data, other_holds, scanner_before, table_cases, noted_produced, was_accepted}

-- ---- a production that is accepted

pub contains_by : {X : Type 0} (xs : List X) (x : X) → Has x xs → Contains xs x
contains_by [] x has = absurd has
contains_by (y ∷ xs) x (inl is) = (0, omega arith, is)
contains_by (y ∷ xs) x (inr has) = let more = contains_by xs x has in (suc more.0, omega (arith, more.1), more.2)

newest_contains : (accepted : List Acceptance) (e : End) (a : Acceptance) → newest e accepted ≡ Some a → Has a accepted
newest_contains [] e a is = absurd (let h = is in cc)
newest_contains (b ∷ accepted) e a is = step (is_end e b.consumer) is (newest_contains accepted e a) where
  step : (f : Bool) → cond f (Some b) (newest e accepted) ≡ Some a → (newest e accepted ≡ Some a → Has a accepted) → (b ≡ a) ⊎ Has a accepted
  step true is more = inl (let h = is in cc)
  step false is more = inr (more is)

-- of one connection the new acceptance and the newest before it have one producer, a scanner
record OneProducer (c' : Chronicle) (p q : Production) : Type 0 where
  same : p.producer ≡ q.producer
  scanner : IsScannerIn c'.story.world p.producer.device

one_producer : PointLaws → (configs : List Config) (c' : Chronicle) (d n : ℕ) (u : AdapterTable) (a b : Acceptance) → Reached configs c' → IsAdapterAt c' d u → Has a c'.accepted → Has b c'.accepted → a.consumer ≡ end_at d n → b.consumer ≡ end_at d n → OneProducer c' a.production b.production
one_producer laws configs c' d n u a b reached at has_a has_b one two =
    let x = laws.openings configs reached.acts c' reached.is a u (contains_by c'.accepted a has_a) (subst (λ (e : End). IsAdapterAt c' e.device u) (sym one) at) in
    let y = laws.openings configs reached.acts c' reached.is b u (contains_by c'.accepted b has_b) (subst (λ (e : End). IsAdapterAt c' e.device u) (sym two) at) in
    let same : x.entry ≡ y.entry = same_Some x.entry y.entry (sym x.found ∙ ap (λ (e : End). find (opens_row e) c'.opened) (one ∙ sym two) ∙ y.found) in
    let entry = found_holds (IsEntry c'.story.world c'.opened) (opens_row a.consumer) c'.opened x.entry (laws.names configs reached.acts c' reached.is).entries x.found in
    record {
      same = x.producer ∙ ap (λ (o : Opened). o.slot) same ∙ sym y.producer;
      scanner = subst (λ (e : End). IsScannerIn c'.story.world e.device) (sym x.producer) entry.scanner;
    }

-- ---- a delivery

consumer_of : (d n : ℕ) (accepted : List Acceptance) (a : Acceptance) → newest (end_at d n) accepted ≡ Some a → a.consumer ≡ end_at d n
consumer_of d n accepted a is = end_is (end_at d n) a.consumer (found_passes (has_consumer (end_at d n)) accepted a is)

facts_of : PointLaws → (configs : List Config) (c c' : Chronicle) (d : ℕ) (p : Production) (u : AdapterTable) (verdict : Verdict) (n : ℕ) → Reached configs c' → IsAdapterAt c' d u → c'.accepted ≡ accepted_by_verdict d p (Some n) verdict ++ c.accepted → reports_accepted verdict ≡ true → Has p c.produced → ((q : Production) → Has q c.produced → Has q c'.produced) → AllByRecursion (IsFormed c'.story.world) c'.produced → Produced c → TakenIn c → AllByRecursion (λ (a : Acceptance). Has a.production c.produced) c.accepted → IsNumbered p → IsNear true p (newest (end_at d n) c.accepted) → AcceptFacts c.accepted d p n
facts_of laws configs c c' d p u verdict n reached at accepted so has more formed produced taken known numbered near =
    record { form = form p has own.scanner; repeats = λ a newest_is same. repeats a newest_is same }
  where
    one : WasAccepted d p n verdict
    one = was_accepted d p n verdict so

    e : Acceptance
    e = Entry d p n one.delivery

    now : c'.accepted ≡ e ∷ c.accepted
    now = accepted ∙ ap (λ (xs : List Acceptance). xs ++ c.accepted) one.is

    there : (a : Acceptance) → Has a (e ∷ c.accepted) → Has a c'.accepted
    there a has = subst (Has a) (sym now) has

    own : OneProducer c' p p
    own = one_producer laws configs c' d n u e e reached at (there e (inl refl)) (there e (inl refl)) refl refl

    form : (q : Production) → Has q c.produced → IsScannerIn c'.story.world q.producer.device → HasForm q.made
    form q has_q scanner = all_has (IsFormed c'.story.world) c'.produced q formed (more q has_q) scanner

    repeats : (a : Acceptance) → newest (end_at d n) c.accepted ≡ Some a → p.made.datagram.count ≡ a.production.made.datagram.count → IsSame p a
    repeats a newest_is same =
        let both = one_producer laws configs c' d n u e a reached at (there e (inl refl)) (there a (inr (newest_contains c.accepted (end_at d n) a newest_is))) refl (consumer_of d n c.accepted a newest_is) in
        let close : AreNear true p a.production = subst (IsNear true p) newest_is near in
        let numbered_a : IsNumbered a.production = found_holds Known (has_consumer (end_at d n)) c.accepted a taken.known newest_is in
        let has_a = all_has (λ (x : Acceptance). Has x.production c.produced) c.accepted a known (newest_contains c.accepted (end_at d n) a newest_is) in
        record {
          payload = produced.well.agree p a.production has has_a both.same (near_new_data p a.production (close.new_data refl) numbered numbered_a same);
          form = form a.production has_a (subst (λ (x : End). IsScannerIn c'.story.world x.device) both.same both.scanner);
        }

-- ---- an act

came_holds : PointLaws → (configs : List Config) (c : Chronicle) (act : Act) (reported : ReportedEvent) (new : World) → happens c.story.world act ≡ Ok (Some reported, new) → (m : Came Any c.story.world reported new) → IsNearAct c act → AreApart new.tables → Reached configs c → Holds c → Holds (with_event c act reported new m.before)
came_holds laws configs c act reported new is m near apart reached ok = record {
  taken = (taken_cases laws.accepts).came c act reported new is m near before ok.taken;
  formed = formed;
  produced = by_produced kind;
  running = by_running kind;
  outputs = λ device u at. by_kind kind device u at (table_cases c.story.world new reported m device u at);
}
  where
    w : World
    w = c.story.world

    d : ℕ
    d = reported.device

    c' : Chronicle
    c' = with_event c act reported new m.before

    before : Produced c
    before = schedule_produced laws.sends laws.keep laws.opens configs reached.acts c reached.is

    after : Reached configs c'
    after = reached_by configs c c' act reached (goes_on_to c act reported new is m) apart

    kind : IsDelivery w act reported ⊎ IsOther w c.produced act reported
    kind = act_kind w c.produced act reported new is

    formed : AllByRecursion (IsFormed new) c'.produced
    formed = made_formed new d (makes m.before reported.event) c.produced
        (λ scanner. makes_formed w d m.before reported.event m.is (scanner_before w new reported m d scanner))
        (all_more (IsFormed w) (IsFormed new) (λ p form scanner. form (scanner_before w new reported m p.producer.device scanner)) c.produced ok.formed)

    more : (q : Production) → Has q c.produced → Has q c'.produced
    more q has = has_more d (makes m.before reported.event) c.produced q has

    old : AllByRecursion (λ (a : Acceptance). Has a.production c'.produced) c.accepted
    old = all_more (λ (a : Acceptance). Has a.production c.produced) (λ (a : Acceptance). Has a.production c'.produced) (λ a has. more a.production has) c.accepted ok.produced

    -- the production that is delivered
    sent : (del : IsDelivery w act reported) → IsSentAs w c.produced del.index del.sent
    sent del = sent_as w c.produced del.index del.sent (ap (λ (xs : List Sent). slice_get xs del.index) (sym before.sent) ∙ del.there)

    event_is : (del : IsDelivery w act reported) → reported.event ≡ event.Datagram (node_at w (sent del).production.producer.device) (datagram_text (sent del).production.made.datagram)
    event_is del = del.event_is ∙ sym (ap (λ (s : Sent). event.Datagram s.from s.bytes) (sent del).is)

    noted : (del : IsDelivery w act reported) (t : DeviceTable) → slice_get w.tables d ≡ Some t → accepted_by_act w c.produced act reported.answer.verdict ≡ accepted_by_verdict d (sent del).production (names t (sent_of w (sent del).production)) reported.answer.verdict
    noted del t at =
        ap (λ (a : Act). accepted_by_act w c.produced a reported.answer.verdict) del.act_is
        ∙ ap (λ (o : Option DeviceTable). accepted_sent d o (slice_get w.sent del.index) (slice_get c.produced del.index) reported.answer.verdict) at
        ∙ ap (λ (o : Option Sent). accepted_sent d (Some t) o (slice_get c.produced del.index) reported.answer.verdict) (del.there ∙ sym (ap Some (sent del).is))
        ∙ ap (λ (o : Option Production). accepted_sent d (Some t) (Some (sent_of w (sent del).production)) o reported.answer.verdict) (sent del).there

    close : (del : IsDelivery w act reported) (t : DeviceTable) → slice_get w.tables d ≡ Some t → IsNearNamed c d (sent del).production (step_accepts (step t (event.Datagram (node_at w (sent del).production.producer.device) (datagram_text (sent del).production.made.datagram)))) (names t (sent_of w (sent del).production))
    close del t at =
        subst (IsNearSent c d (Some t) (Some (sent_of w (sent del).production))) (sent del).there
        (subst (λ (o : Option Sent). IsNearSent c d (Some t) o (slice_get c.produced del.index)) (del.there ∙ sym (ap Some (sent del).is))
        (subst (λ (o : Option DeviceTable). IsNearSent c d o (slice_get w.sent del.index) (slice_get c.produced del.index)) at
        (subst (IsNearAct c) del.act_is near)))

    by_produced : IsDelivery w act reported ⊎ IsOther w c.produced act reported → AllByRecursion (λ (a : Acceptance). Has a.production c'.produced) c'.accepted
    by_produced (inl del) = all_front (λ (a : Acceptance). Has a.production c'.produced) (accepted_by_act w c.produced act reported.answer.verdict) c.accepted
        (subst (AllByRecursion (λ (a : Acceptance). Has a.production c'.produced)) (sym (noted del m.before m.is))
        (noted_produced d (sent del).production (names m.before (sent_of w (sent del).production)) reported.answer.verdict c'.produced (more (sent del).production (get_has c.produced del.index (sent del).production (sent del).there)))) old
    by_produced (inr other) = subst (λ (xs : List Acceptance). AllByRecursion (λ (a : Acceptance). Has a.production c'.produced) (xs ++ c.accepted)) (sym (other.none reported.answer.verdict)) old

    production : IsDelivery w act reported → Production
    production del = (sent del).production

    peer_of : IsDelivery w act reported → Node
    peer_of del = node_at w (production del).producer.device

    said : (del : IsDelivery w act reported) (t : AdapterTable) → Next
    said del t = received t (peer_of del) (datagram_text (production del).made.datagram)

    same : (del : IsDelivery w act reported) (u : AdapterTable) (b : AdapterBefore w reported u) → said del b.table ≡ b.next
    same del u b = next_is (said del b.table) b.next (ap (adapter_step b.table) (sym (event_is del)) ∙ b.is)

    verdict : (del : IsDelivery w act reported) (u : AdapterTable) (b : AdapterBefore w reported u) → (said del b.table).0.verdict ≡ reported.answer.verdict
    verdict del u b = ap (λ (n : Next). n.0.verdict) (same del u b) ∙ ap (λ (a : Answer). a.verdict) b.answer_is

    numbered_p : (del : IsDelivery w act reported) → IsNumbered (production del)
    numbered_p del = all_get IsNumbered c.produced del.index (production del) before.well.numbered (sent del).there

    facts : (del : IsDelivery w act reported) (u : AdapterTable) → IsAdapterAt c' d u → (b : AdapterBefore w reported u) → FactsAt c.accepted d (production del) (names (Adapter b.table) (sent_of w (production del))) (said del b.table).0.verdict
    facts del u at b n named so =
        let p = production del in
        let e : Event = event.Datagram (peer_of del) (datagram_text p.made.datagram) in
        let true_so : reports_accepted reported.answer.verdict ≡ true = ap reports_accepted (sym (verdict del u b)) ∙ so in
        let one : m.before ≡ Adapter b.table = same_Some m.before (Adapter b.table) (sym m.is ∙ b.there) in
        let accepts : step_accepts (step (Adapter b.table) e) ≡ reports_accepted reported.answer.verdict =
        ap step_accepts (ap (λ (t : DeviceTable). step t e) (sym one) ∙ ap (step m.before) (sym (event_is del)) ∙ m.stepped) in
        let near_p : IsNear true p (newest (end_at d n) c.accepted) =
        subst (λ (f : Bool). IsNear f p (newest (end_at d n) c.accepted)) (accepts ∙ true_so) (subst (IsNearNamed c d p (step_accepts (step (Adapter b.table) e))) named (close del (Adapter b.table) b.there)) in
        facts_of laws configs c c' d p u reported.answer.verdict n after at
        (ap (λ (xs : List Acceptance). xs ++ c.accepted) (noted del (Adapter b.table) b.there ∙ ap (λ (o : Option ℕ). accepted_by_verdict d p o reported.answer.verdict) named))
        true_so (get_has c.produced del.index p (sent del).there) more formed before ok.taken ok.produced (numbered_p del) near_p

    delivered : (del : IsDelivery w act reported) (u : AdapterTable) → IsAdapterAt c' d u → AdapterBefore w reported u → TableHolds c'.accepted d u
    delivered del u at b =
        let p = production del in
        let number = names (Adapter b.table) (sent_of w p) in
        let holds = datagram_holds laws.reads c.accepted d p b.table (peer_of del) (numbered_p del) (before.drawn.whole d (Adapter b.table) b.there) (ok.taken.takes d (Adapter b.table) b.there) (facts del u at b) (ok.outputs d b.table b.there) in
        subst (λ (xs : List Acceptance). TableHolds (xs ++ c.accepted) d u) (sym (noted del (Adapter b.table) b.there))
        (subst (λ (v : Verdict). TableHolds (accepted_by_verdict d p number v ++ c.accepted) d u) (verdict del u b)
        (subst (TableHolds (accepted_by_verdict d p number (said del b.table).0.verdict ++ c.accepted) d) (ap (λ (n : Next). n.1) (same del u b) ∙ b.table_is) holds))

    -- what is noted of a delivery to an adapter was produced in run mode, where it was applied
    noted_runs : (del : IsDelivery w act reported) (number : Option ℕ) (a : Acceptance) → number ≡ names m.before (sent_of w (production del)) → (n : ℕ) (delivery : Delivery) → number ≡ Some n → reported.answer.verdict ≡ verdicts.Delivered delivery → a ≡ Entry d (production del) n delivery → WasRunning new a
    noted_runs del number a number_is n delivery named was_it is now applied =
        let here : IsAdapterIn new d = subst (λ (x : Acceptance). IsAdapterIn new x.consumer.device) is now in
        by_case here (table_cases w new reported m d here.table here.is)
      where
        by_case : (here : IsAdapterIn new d) → TableCases w reported d here.table → a.production.made.run ≡ true
        by_case here (inl other) = absurd (other.0 refl)
        by_case here (inr own) =
            let b = own.1 in
            let one : m.before ≡ Adapter b.table = same_Some m.before (Adapter b.table) (sym m.is ∙ b.there) in
            let named_so : names (Adapter b.table) (sent_of w (production del)) ≡ Some n = ap (λ (t : DeviceTable). names t (sent_of w (production del))) (sym one) ∙ sym number_is ∙ named in
            let so : delivery ≡ Applied = ap (λ (x : Acceptance). x.delivery) (sym is) ∙ applied in
            ap (λ (x : Acceptance). x.production.made.run) is
            ∙ applied_runs laws.reads c.accepted d (production del) b.table (peer_of del) (facts del here.table here.is b) n named_so (verdict del here.table b ∙ was_it ∙ ap verdicts.Delivered so)

    old_running : AllByRecursion (WasRunning new) c.accepted
    old_running = all_more (WasRunning w) (WasRunning new) (λ a was now. was (adapter_back w new reported m a.consumer.device now)) c.accepted ok.running

    noted_running : (del : IsDelivery w act reported) → AllByRecursion (WasRunning new) (accepted_by_verdict d (production del) (names m.before (sent_of w (production del))) reported.answer.verdict)
    noted_running del = by_noted (verdict_noted d (production del) (names m.before (sent_of w (production del))) reported.answer.verdict) where
      by_noted : (accepted_by_verdict d (production del) (names m.before (sent_of w (production del))) reported.answer.verdict ≡ []) ⊎ IsNoted d (production del) (names m.before (sent_of w (production del))) reported.answer.verdict (accepted_by_verdict d (production del) (names m.before (sent_of w (production del))) reported.answer.verdict) → AllByRecursion (WasRunning new) (accepted_by_verdict d (production del) (names m.before (sent_of w (production del))) reported.answer.verdict)
      by_noted (inl none) = subst (AllByRecursion (WasRunning new)) (sym none) tt
      by_noted (inr one) = subst (AllByRecursion (WasRunning new)) (sym one.mine_is) (noted_runs del (names m.before (sent_of w (production del))) (Entry d (production del) one.request one.delivery) refl one.request one.delivery one.named one.reported refl, tt)

    by_running : IsDelivery w act reported ⊎ IsOther w c.produced act reported → AllByRecursion (WasRunning new) c'.accepted
    by_running (inl del) = all_front (WasRunning new) (accepted_by_act w c.produced act reported.answer.verdict) c.accepted (subst (AllByRecursion (WasRunning new)) (sym (noted del m.before m.is)) (noted_running del)) old_running
    by_running (inr other) = subst (λ (xs : List Acceptance). AllByRecursion (WasRunning new) (xs ++ c.accepted)) (sym (other.none reported.answer.verdict)) old_running

    quiet : (other : IsOther w c.produced act reported) (u : AdapterTable) → AdapterBefore w reported u → TableHolds c'.accepted d u
    quiet other u b =
        subst (λ (xs : List Acceptance). TableHolds (xs ++ c.accepted) d u) (sym (other.none reported.answer.verdict))
        (subst (TableHolds c.accepted d) b.table_is
        (quiet_holds laws.leaves c.accepted d b.table reported.event b.next b.is (before.drawn.whole d (Adapter b.table) b.there) other.event (ok.taken.takes d (Adapter b.table) b.there) (ok.outputs d b.table b.there)))

    elsewhere : IsDelivery w act reported ⊎ IsOther w c.produced act reported → (device : ℕ) → d ≢ device → (n : ℕ) → newest (end_at device n) c'.accepted ≡ newest (end_at device n) c.accepted
    elsewhere (inl del) device ne n =
        ap (λ (xs : List Acceptance). newest (end_at device n) (xs ++ c.accepted)) (noted del m.before m.is)
        ∙ other_event d device n (sent del).production (names m.before (sent_of w (sent del).production)) reported.answer.verdict c.accepted ne
    elsewhere (inr other) device ne n = ap (λ (xs : List Acceptance). newest (end_at device n) (xs ++ c.accepted)) (other.none reported.answer.verdict)

    by_kind : IsDelivery w act reported ⊎ IsOther w c.produced act reported → (device : ℕ) (u : AdapterTable) → IsAdapterAt c' device u → TableCases w reported device u → TableHolds c'.accepted device u
    by_kind kind device u at (inl other) = other_holds c.accepted c'.accepted device u (elsewhere kind device other.0) (ok.outputs device u other.1)
    by_kind (inl del) device u at (inr own) =
        subst (λ (n : ℕ). TableHolds c'.accepted n u) (sym own.0) (delivered del u (subst (λ (n : ℕ). IsAdapterAt c' n u) own.0 at) own.1)
    by_kind (inr other) device u at (inr own) = subst (λ (n : ℕ). TableHolds c'.accepted n u) (sym own.0) (quiet other u own.1)

scanner_rests : (w new : World) (device : ℕ) → new.tables ≡ w.tables → IsScannerIn new device → IsScannerIn w device
scanner_rests w new device same now = record { table = now.table; is = ap (λ (ts : List DeviceTable). slice_get ts device) (sym same) ∙ now.is }

rests_holds : PointLaws → (configs : List Config) (c : Chronicle) (act : Act) (new : World) → happens c.story.world act ≡ Ok (None, new) → Rests Any c.story.world new → Reached configs c → Holds c → Holds (record c { story = record { world = new; reported = c.story.reported } })
rests_holds laws configs c act new is rests reached ok = record {
  taken = (taken_cases laws.accepts).rests c act new is rests (schedule_produced laws.sends laws.keep laws.opens configs reached.acts c reached.is) ok.taken;
  formed = all_more (IsFormed c.story.world) (IsFormed new) (λ p form scanner. form (scanner_rests c.story.world new p.producer.device rests.tables scanner)) c.produced ok.formed;
  produced = ok.produced;
  running = all_more (WasRunning c.story.world) (WasRunning new) (λ a was now. was (record { table = now.table; is = ap (λ (ts : List DeviceTable). slice_get ts a.consumer.device) (sym rests.tables) ∙ now.is })) c.accepted ok.running;
  outputs = λ device t at. ok.outputs device t (ap (λ (ts : List DeviceTable). slice_get ts device) (sym rests.tables) ∙ at);
}

hold_cases : PointLaws → (configs : List Config) → NearCases (WhereApart (Reached configs)) (WhereApart Holds)
hold_cases laws configs = record {
  rests = λ c act new is rests reached held apart.
      let was : AreApart c.story.world.tables = subst AreApart rests.tables apart in
      rests_holds laws configs c act new is rests (reached was) (held was);
  came = λ c act reported new is m near reached held apart.
      let was = moved_apart laws.blocks c.story.world Any (Some reported, new) m apart in
      came_holds laws configs c act reported new is m near apart (reached was) (held was);
}

-- ---- a schedule

blank_taken : PointLaws → (configs : List Config) → IsChronicle configs [] (blank (opening_world configs)) → TakenIn (blank (opening_world configs))
unfolding HalfCircle
blank_taken laws configs is = schedule_taken laws.sends laws.keep laws.opens laws.accepts configs [] (blank (opening_world configs)) is tt

no_rows : (configs : List Config) (n device : ℕ) (t : AdapterTable) → slice_get (map opening_table configs) n ≡ Some (Adapter t) → TableHolds [] device t
no_rows configs n device t at row has lives owns a newest_is run = absurd (let h = newest_is in cc)

pub schedule_holds : PointLaws → (configs : List Config) (acts : List Act) (c : Chronicle) → IsChronicle configs acts c → KeepsHalfCircle configs acts → Holds c
schedule_holds laws configs acts c is half =
    let begins = nothing_yet configs acts c is (begins_apart laws.blocks (blank (opening_world configs)) c acts is.ran is.apart) in
    let held : WhereApart Holds c = subst (λ (r : Result Chronicle ActFault). IfOk r (WhereApart Holds)) is.ran
    (near_keep (WhereApart (Reached configs)) (WhereApart Holds) (reached_keeps laws.blocks configs) (hold_cases laws configs) acts (Ok (blank (opening_world configs))) half
    (λ apart. record { acts = []; is = begins })
    (λ apart. record { taken = blank_taken laws configs begins; formed = tt; produced = tt; running = tt; outputs = λ device t at. no_rows configs device device t at })) in
    held is.apart

pub outputs_hold : PointLaws → (configs : List Config) (acts : List Act) (c : Chronicle) → IsChronicle configs acts c → KeepsHalfCircle configs acts → OutputsHold c
outputs_hold laws configs acts c is half device t row a at there lives owns newest_is run =
    (schedule_holds laws configs acts c is half).outputs device t at row (contains_has t.rows row there) lives owns a newest_is run

adapter_accepts : PointLaws → (configs : List Config) (acts : List Act) (c : Chronicle) → IsChronicle configs acts c → Holds c → law.AdaptersAccept c
adapter_accepts laws configs acts c is ok a t there at =
    let one = laws.openings configs acts c is a t there at in
    record {
      opened = one.entry;
      found = one.found;
      producer = one.producer;
      run = all_has (WasRunning c.story.world) c.accepted a ok.running (contains_has c.accepted a there) (record { table = t; is = at });
    }

pub applied_in_order : PointLaws → AppliedInOrder
applied_in_order laws configs acts c is half =
    let ok = schedule_holds laws configs acts c is half in
    record {
      one_opening = adapter_accepts laws configs acts c is ok;
      rising = ok.taken.rise;
      hold = outputs_hold laws configs acts c is half;
    }
