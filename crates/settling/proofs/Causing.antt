-- Which acts bring an event to a device.
use Rattle.std.proofs.Common.{◌≡◌, ◌≢◌, ◌⊎◌, inl, inr, ℕ, zero, suc, Bool, true, false, cond, List, [], ◌∷◌, set, slice_get, Option, Some, None, Result, Ok, Err, refl, sym, ◌∙◌, ap, subst}
use Rattle.cip_types.specs.declared.names.Node.{Node}
use Rattle.cip_events.specs.declared.event.Event.{Event}
use Rattle.cip_events.specs.declared.event.Event.TheVariants.{Request, StreamOpened, Frame, StreamCut, Datagram}
use Rattle.cip_events.specs.declared.event.StepFault.{StepFault}
use Rattle.cip_tables.specs.declared.table.DeviceTable.{DeviceTable}
use Rattle.cip_tables.specs.Step.{DeviceNext, step}
use Rattle.segment_world.specs.Transit.Log.{Sent}
use Rattle.segment_world.specs.declared.transit.direction.Direction.{Direction}
use Rattle.segment_world.specs.declared.transit.direction.Direction.TheVariants.{Forth, Back}
use Rattle.segment_world.specs.Transit.Streams.{QueueItem, Opening, Queued, Ending, Stream, side_of, receiver, sender, cut_stream, changed}
use Rattle.segment_world.specs.declared.act.Act.{Act}
use Rattle.segment_world.specs.declared.act.Act.TheVariants.{Local, Deliver, NextFrame, OpenStream, CutStream}
use Rattle.segment_world.specs.declared.act.Call.{Call}
use Rattle.segment_world.specs.World.{World, ReportedEvent, happens, event_at_device, event_at_table, after_device_step, delivered, taken, taken_at, without_front, event_of_item, event_of_call, node_at, opened_if, are_two, cut_if, cut_at}
use Rattle.settling.specs.Search.Lemmas.Cases.{ok_is, some_is, none_some, err_ok, same_or_not}
use Rattle.settling.specs.Search.Schedules.{GivesEvent, WaysAreAll}
use Rattle.settling.specs.Search.Causes.{IsFrontOf, IsFrontAt, IsFront, WaitsFirst, CanCome, Causes, CutReachesAt, CutReaches}
use Rattle.cip_events.specs.Arrivals.{is_own}
use Rattle.segment_world.specs.Lemmas.CallLemmas.{call_is_own}

-- ACTS THAT CAUSE

took_front : (n : ℕ) (d : Direction) (w : World) (s : Stream) (q : List QueueItem) (e : Event) → IsFrontOf n (node_at w (sender d s)) e q → (at : World) × (at.tables ≡ w.tables) × (taken n d w s q ≡ event_at_device (receiver d s) e at)
took_front n d w s [] e front = absurd front
took_front n d w s (x ∷ xs) e front =
    (without_front n d w, refl, ap (λ (v : Event). event_at_device (receiver d s) v (without_front n d w)) front)

taken_front : (n : ℕ) (d : Direction) (w : World) (i : ℕ) (e : Event) (o : Option Stream) → IsFrontAt w n d i e o → (at : World) × (at.tables ≡ w.tables) × (taken_at n d w o ≡ event_at_device i e at)
taken_front n d w i e None front = absurd front
taken_front n d w i e (Some s) front =
    let t = took_front n d w s (side_of d s).queue e front.1 in
    (t.0, t.1, t.2 ∙ ap (λ (k : ℕ). event_at_device k e t.0) front.0)

pub front_causes : (w : World) (n : ℕ) (d : Direction) (i : ℕ) (e : Event) → IsFront w n d i e → Causes w i e (NextFrame n d)
front_causes w n d i e front =
    let t = taken_front n d w i e (slice_get w.streams n) front in
    record { at = t.0; tables = t.1; is = t.2; plain = tt }

pub sent_causes : (w : World) (k : ℕ) (d : Sent) (i : ℕ) (t : DeviceTable) → slice_get w.tables i ≡ Some t → slice_get w.sent k ≡ Some d → Causes w i (Datagram d.from d.bytes) (Deliver k i)
sent_causes w k d i t there at = record { at = w; tables = refl; is = ap (λ (o : Option DeviceTable). delivered i w o (slice_get w.sent k)) there ∙ ap (delivered i w (Some t)) at; plain = tt }

pub call_causes : (w : World) (i : ℕ) (c : Call) → Causes w i (event_of_call c) (Local i c)
call_causes w i c = record { at = w; tables = refl; is = refl; plain = tt }

-- WHAT AN ACT TELLS

pub record Reports (i : ℕ) (e : Event) (t : ReportedEvent) : Type 0 where
  pub device : t.device ≡ i
  pub event : t.event ≡ e

after_reports : (i : ℕ) (e : Event) (w : World) (r : Result DeviceNext StepFault) (t : ReportedEvent) (v : World) → after_device_step i e w r ≡ Ok (Some t, v) → Reports i e t
after_reports i e w (Err f) t v h = err_ok _ _ h
after_reports i e w (Ok n) t v h =
    let s = some_is _ _ (ap (λ (p : Option ReportedEvent × World). p.0) (ok_is _ _ h)) in
    record { device = ap (λ (x : ReportedEvent). x.device) (sym s); event = ap (λ (x : ReportedEvent). x.event) (sym s) }

comes_reports : (i : ℕ) (e : Event) (w : World) (o : Option DeviceTable) (t : ReportedEvent) (v : World) → event_at_table i e w o ≡ Ok (Some t, v) → Reports i e t
comes_reports i e w None t v h = err_ok _ _ h
comes_reports i e w (Some x) t v h = after_reports i e w (step x e) t v h

own_can : (w : World) (i : ℕ) (e : Event) → is_own e ≡ true → CanCome w i e
own_can w i (Request peer bytes) own = absurd (let e = own in cc)
own_can w i (StreamOpened stream peer) own = absurd (let e = own in cc)
own_can w i (Frame stream bytes) own = absurd (let e = own in cc)
own_can w i (StreamCut stream) own = absurd (let e = own in cc)
own_can w i (Datagram peer bytes) own = absurd (let e = own in cc)
own_can w i other own = tt

call_can : (w : World) (i : ℕ) (c : Call) → CanCome w i (event_of_call c)
call_can w i c = own_can w i (event_of_call c) (call_is_own c)

sent_gives : (w : World) (j k : ℕ) (o : Option DeviceTable) (p : Option Sent) (t : ReportedEvent) (v : World) → slice_get w.sent k ≡ p → delivered j w o p ≡ Ok (Some t, v) → (d : Sent) × (slice_get w.sent k ≡ Some d) × Reports j (Datagram d.from d.bytes) t
sent_gives w j k None p t v at h = err_ok _ _ h
sent_gives w j k (Some x) None t v at h = err_ok _ _ h
sent_gives w j k (Some x) (Some d) t v at h = (d, at, comes_reports j (Datagram d.from d.bytes) w (slice_get w.tables j) t v h)

-- an event that a stream makes can come where it is at the front
front_can : (w : World) (n : ℕ) (d : Direction) (i : ℕ) (peer : Node) (x : QueueItem) (e : Event) → event_of_item n peer x ≡ e → IsFront w n d i e → CanCome w i e
front_can w n d i peer Opening e is front = subst (λ (e : Event). IsFront w n d i e → CanCome w i e) is (λ f. either d f) front
  where
    either : (b : Direction) → IsFront w n b i (StreamOpened n peer) → WaitsFirst w n i (StreamOpened n peer)
    either Forth f = inl f
    either Back f = inr f
front_can w n d i peer (Queued bytes) e is front = subst (λ (e : Event). IsFront w n d i e → CanCome w i e) is (λ f. either d f) front
  where
    either : (b : Direction) → IsFront w n b i (Frame n bytes) → WaitsFirst w n i (Frame n bytes)
    either Forth f = inl f
    either Back f = inr f
front_can w n d i peer Ending e is front = subst (λ (e : Event). IsFront w n d i e → CanCome w i e) is (λ f. either d f) front
  where
    either : (b : Direction) → IsFront w n b i (StreamCut n) → WaitsFirst w n i (StreamCut n)
    either Forth f = inl f
    either Back f = inr f

took_gives : (w : World) (n : ℕ) (d : Direction) (s : Stream) (q : List QueueItem) (t : ReportedEvent) (v : World) → taken n d w s q ≡ Ok (Some t, v) → IsFrontOf n (node_at w (sender d s)) t.event q × (receiver d s ≡ t.device) × ((peer : Node) × (x : QueueItem) × (event_of_item n peer x ≡ t.event))
took_gives w n d s [] t v h = err_ok _ _ h
took_gives w n d s (x ∷ xs) t v h =
    let peer = node_at w (sender d s) in
    let at = without_front n d w in
    let reports = comes_reports (receiver d s) (event_of_item n peer x) at (slice_get w.tables (receiver d s)) t v h in
    (sym reports.event, sym reports.device, (peer, x, sym reports.event))

taken_gives : (w : World) (n : ℕ) (d : Direction) (o : Option Stream) (t : ReportedEvent) (v : World) → slice_get w.streams n ≡ o → taken_at n d w o ≡ Ok (Some t, v) → CanCome w t.device t.event
taken_gives w n d None t v at h = err_ok _ _ h
taken_gives w n d (Some s) t v at h =
    let g = took_gives w n d s (side_of d s).queue t v h in
    let front : IsFront w n d t.device t.event = subst (IsFrontAt w n d t.device t.event) (sym at) (g.1, g.0) in
    front_can w n d t.device g.2.0 g.2.1 t.event g.2.2 front

opened_gives : (a b : ℕ) (w : World) (c d : Bool) (t : ReportedEvent) (v : World) → opened_if a b w c d ≡ Ok (Some t, v) → ⊥
opened_gives a b w false d t v h = err_ok _ _ h
opened_gives a b w true false t v h = err_ok _ _ h
opened_gives a b w true true t v h = none_some t (ap (λ (p : Option ReportedEvent × World). p.0) (ok_is _ _ h))

cut_if_gives : (n : ℕ) (w : World) (c : Bool) (t : ReportedEvent) (v : World) → cut_if n w c ≡ Ok (Some t, v) → ⊥
cut_if_gives n w true t v h = err_ok _ _ h
cut_if_gives n w false t v h = none_some t (ap (λ (p : Option ReportedEvent × World). p.0) (ok_is _ _ h))

cut_gives : (n : ℕ) (w : World) (o : Option Stream) (t : ReportedEvent) (v : World) → cut_at n w o ≡ Ok (Some t, v) → ⊥
cut_gives n w None t v h = err_ok _ _ h
cut_gives n w (Some s) t v h = cut_if_gives n w s.ended t v h

reported_can : (w : World) (a : Act) (t : ReportedEvent) (v : World) → happens w a ≡ Ok (Some t, v) → CanCome w t.device t.event
reported_can w (Local device c) t v h =
    let g = comes_reports device (event_of_call c) w (slice_get w.tables device) t v h in
    subst (CanCome w t.device) (sym g.event) (call_can w t.device c)
reported_can w (Deliver index device) t v h =
    let g = sent_gives w device index (slice_get w.tables device) (slice_get w.sent index) t v refl h in
    subst (CanCome w t.device) (sym g.2.event) (index, g.1)
reported_can w (NextFrame stream d) t v h = taken_gives w stream d (slice_get w.streams stream) t v refl h
reported_can w (OpenStream from to) t v h = absurd (opened_gives from to w (are_two from to w) _ t v h)
reported_can w (CutStream stream) t v h = absurd (cut_gives stream w (slice_get w.streams stream) t v h)

-- what an act gives can come
pub gives_can : (w : World) (a : Act) (i : ℕ) (e : Event) → GivesEvent w a i e → CanCome w i e
gives_can w a i e g = subst (λ (k : ℕ). CanCome w k e) g.device (subst (CanCome w g.report.device) g.event (reported_can w a g.report g.after g.is))

-- AFTER A CUT

pub record IsCut (w : World) (n : ℕ) (v : World) : Type 0 where
  pub stream : Stream
  pub at : slice_get w.streams n ≡ Some stream
  pub open_yet : stream.ended ≡ false
  pub is : v ≡ record w { streams = set w.streams n (cut_stream stream) }

cut_if_is : (n : ℕ) (w : World) (s : Stream) (b : Bool) (v : World) → slice_get w.streams n ≡ Some s → s.ended ≡ b → cut_if n w b ≡ Ok (None, v) → IsCut w n v
cut_if_is n w s true v at ended h = err_ok _ _ h
cut_if_is n w s false v at ended h =
    record { stream = s; at = at; open_yet = ended; is = sym (ap (λ (p : Option ReportedEvent × World). p.1) (ok_is _ _ h)) ∙ ap (λ (o : Option Stream). record w { streams = changed cut_stream w.streams n o }) at }

cut_at_is : (n : ℕ) (w : World) (o : Option Stream) (v : World) → slice_get w.streams n ≡ o → cut_at n w o ≡ Ok (None, v) → IsCut w n v
cut_at_is n w None v at h = err_ok _ _ h
cut_at_is n w (Some s) v at h = cut_if_is n w s s.ended v at refl h

pub cut_is : (n : ℕ) (w v : World) → happens w (CutStream n) ≡ Ok (None, v) → IsCut w n v
cut_is n w v h = cut_at_is n w (slice_get w.streams n) v refl h

get_set_same : {X : Type 0} (xs : List X) (i : ℕ) (x y : X) → slice_get xs i ≡ Some x → slice_get (set xs i y) i ≡ Some y
get_set_same [] i x y at = none_some x at
get_set_same (z ∷ zs) zero x y at = refl
get_set_same (z ∷ zs) (suc i) x y at = get_set_same zs i x y at

get_set_other : {X : Type 0} (xs : List X) (i j : ℕ) (y : X) → j ≢ i → slice_get (set xs i y) j ≡ slice_get xs j
get_set_other [] i j y ne = refl
get_set_other (z ∷ zs) zero zero y ne = absurd (ne refl)
get_set_other (z ∷ zs) zero (suc j) y ne = refl
get_set_other (z ∷ zs) (suc i) zero y ne = refl
get_set_other (z ∷ zs) (suc i) (suc j) y ne = get_set_other zs i j y (λ e. ne (ap suc e))

queue_marks : (n : ℕ) (peer : Node) (b : Bool) (e : Event) → IsFrontOf n peer e (cond b (Ending ∷ []) []) → (b ≡ true) × (e ≡ StreamCut n)
queue_marks n peer false e f = absurd f
queue_marks n peer true e f = (refl, sym f)

pub record NewMark (w : World) (n i : ℕ) (e : Event) : Type 0 where
  pub way : Direction
  pub marks : CutReaches w n i way
  pub event : e ≡ StreamCut n

ended_front : (w v : World) (n i : ℕ) (d : Direction) (e : Event) (s : Stream) → slice_get w.streams n ≡ Some s → s.ended ≡ false → IsFrontAt v n d i e (Some (cut_stream s)) → NewMark w n i e
ended_front w v n i Forth e s at yet f =
    let q = queue_marks n (node_at v s.from) s.forth.taken e f.1 in
    record { way = Forth; marks = subst (CutReachesAt i Forth) (sym at) (yet, f.0, q.0); event = q.1 }
ended_front w v n i Back e s at yet f =
    let q = queue_marks n (node_at v s.to) s.back.taken e f.1 in
    record { way = Back; marks = subst (CutReachesAt i Back) (sym at) (yet, f.0, q.0); event = q.1 }

front_after : (w : World) (n : ℕ) (s : Stream) (m i : ℕ) (d : Direction) (e : Event) → slice_get w.streams n ≡ Some s → s.ended ≡ false → IsFront (record w { streams = set w.streams n (cut_stream s) }) m d i e → IsFront w m d i e ⊎ NewMark w n i e
front_after w n s m i d e at yet f =
    let v : World = record w { streams = set w.streams n (cut_stream s) } in
    same_or_not (IsFront w m d i e ⊎ NewMark w n i e) m n
    (λ is.
    let g : IsFront v n d i e = subst (λ (k : ℕ). IsFront v k d i e) is f in
    inr (ended_front w v n i d e s at yet (subst (IsFrontAt v n d i e) (get_set_same w.streams n s (cut_stream s) at) g)))
    (λ ne. inl (subst (IsFrontAt w m d i e) (get_set_other w.streams n m (cut_stream s) ne) f))

fronts_after : (w : World) (n : ℕ) (s : Stream) (m i : ℕ) (e : Event) → slice_get w.streams n ≡ Some s → s.ended ≡ false → WaitsFirst (record w { streams = set w.streams n (cut_stream s) }) m i e → WaitsFirst w m i e ⊎ NewMark w n i e
fronts_after w n s m i e at yet (inl f) = elim (front_after w n s m i Forth e at yet f) [ inl g ↦ inl (inl g) | inr g ↦ inr g ]
fronts_after w n s m i e at yet (inr f) = elim (front_after w n s m i Back e at yet f) [ inl g ↦ inl (inr g) | inr g ↦ inr g ]

can_after : (w : World) (n : ℕ) (s : Stream) (i : ℕ) (e : Event) → slice_get w.streams n ≡ Some s → s.ended ≡ false → CanCome (record w { streams = set w.streams n (cut_stream s) }) i e → CanCome w i e ⊎ NewMark w n i e
can_after w n s i (Request peer bytes) at yet can = inl can
can_after w n s i (Datagram peer bytes) at yet can = inl can
can_after w n s i (StreamOpened stream peer) at yet can = fronts_after w n s stream i (StreamOpened stream peer) at yet can
can_after w n s i (Frame stream bytes) at yet can = fronts_after w n s stream i (Frame stream bytes) at yet can
can_after w n s i (StreamCut stream) at yet can = fronts_after w n s stream i (StreamCut stream) at yet can
can_after w n s i other at yet can = inl tt

pub no_way : WaysAreAll
no_way rest w i e cannot unmarked = record {
  alone = λ a g. cannot (gives_can w a i e g);
  cut = λ n v may is a g.
      let c = cut_is n w v is in
      let can : CanCome (record w { streams = set w.streams n (cut_stream c.stream) }) i e = subst (λ (x : World). CanCome x i e) c.is (gives_can v a i e g) in
      elim (can_after w n c.stream i e c.at c.open_yet can) [ inl can ↦ cannot can | inr mark ↦ unmarked n mark.event may mark.way mark.marks ];
}

-- a mark that a cut would leave: the cut, and then the mark comes
pub record CutsTo (w : World) (n i : ℕ) (d : Direction) : Type 0 where
  pub after : World
  pub is : happens w (CutStream n) ≡ Ok (None, after)
  pub tables : after.tables ≡ w.tables
  pub causes : Causes after i (StreamCut n) (NextFrame n d)

marked_queue : (n : ℕ) (peer : Node) (b : Bool) → b ≡ true → IsFrontOf n peer (StreamCut n) (cond b (Ending ∷ []) [])
marked_queue n peer false h = absurd (let e = h in cc)
marked_queue n peer true h = refl

marked_front : (w v : World) (n i : ℕ) (d : Direction) (s : Stream) → CutReachesAt i d (Some s) → IsFrontAt v n d i (StreamCut n) (Some (cut_stream s))
marked_front w v n i Forth s m = (m.1, marked_queue n (node_at v s.from) s.forth.taken m.2)
marked_front w v n i Back s m = (m.1, marked_queue n (node_at v s.to) s.back.taken m.2)

mark_at : (w : World) (n i : ℕ) (d : Direction) (o : Option Stream) → slice_get w.streams n ≡ o → CutReachesAt i d o → CutsTo w n i d
mark_at w n i d None at m = absurd m
mark_at w n i d (Some s) at m =
    let v : World = record w { streams = set w.streams n (cut_stream s) } in
    let cut : happens w (CutStream n) ≡ Ok (None, v) = ap (cut_at n w) at ∙ ap (cut_if n w) m.0 ∙ ap (λ (o : Option Stream). Ok (None, record w { streams = changed cut_stream w.streams n o })) at in
    let front : IsFront v n d i (StreamCut n) = subst (IsFrontAt v n d i (StreamCut n)) (sym (get_set_same w.streams n s (cut_stream s) at)) (marked_front w v n i d s m) in
    record { after = v; is = cut; tables = refl; causes = front_causes v n d i (StreamCut n) front }

pub mark_cuts : (w : World) (n i : ℕ) (d : Direction) → CutReaches w n i d → CutsTo w n i d
mark_cuts w n i d m = mark_at w n i d (slice_get w.streams n) refl m
