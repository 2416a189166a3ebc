-- One event more is placed.
use Rattle.std.proofs.Common.{◌≡◌, ◌≢◌, ℕ, zero, suc, ◌+◌, ◌<◌, Bool, true, false, cond, List, [], ◌∷◌, ◌++◌, map, filter, set, length, drop, slice_get, slice_index, Option, Some, None, Result, Ok, IfOk, IsOk, refl, sym, ◌∙◌, ap, subst, arith, add-one}
use Rattle.std.proofs.lemmas.List.{append_assoc, append-nil, length_push}
use Rattle.cip_events.specs.declared.event.Event.{Event}
use Rattle.cip_events.specs.declared.event.StepFault.{StepFault}
use Rattle.cip_events.specs.Outcomes.{Outcome}
use Rattle.cip_tables.specs.declared.table.DeviceTable.{DeviceTable}
use Rattle.cip_tables.specs.Step.{DeviceNext, step}
use Rattle.cip_tables.specs.Run.{outcome_of, table_of}
use Rattle.segment_world.specs.declared.transit.direction.Direction.{Direction}
use Rattle.segment_world.specs.Transit.Streams.{Stream}
use Rattle.segment_world.specs.declared.act.Act.{Act}
use Rattle.segment_world.specs.declared.act.ActFault.{ActFault}
use Rattle.segment_world.specs.Story.{Story, goes_on, reports, runs, begins, is_of, event_reported, events_of}
use Rattle.cip_events.specs.declared.event.Event.TheVariants.{StreamCut}
use Rattle.segment_world.specs.declared.act.Act.TheVariants.{Local, Deliver, NextFrame, OpenStream, CutStream}
use Rattle.segment_world.specs.World.{World, ReportedEvent, happens, event_at_table, after_device_step, fan_out}
use Rattle.settling.specs.Search.Replays.{AreAnswered, replay}
use Rattle.settling.specs.Search.Schedules.{history, remaining, IsPermitted, IsPermittedNext, Orderly, is_unused, outcome_in, outcomes_of}
use Rattle.settling.specs.Search.Causes.{Causes, IsOfDevice, CutReaches}
use Rattle.settling.specs.Search.Placements.{Placement, IsPlacement, rest, left_count, IsReachable, Preserves, CausesNext}
use Rattle.settling.specs.Search.Lemmas.Cases.{eq_false, eq_true, ok_is, some_is, none_some, same_or_not}
use Rattle.settling.specs.Search.Lemmas.Listing.{length_set}
use Rattle.settling.proofs.Causing.{mark_cuts}

-- SCHEDULES, ONE ACT LONGER

pub runs_snoc : (r : Result Story ActFault) (acts : List Act) (a : Act) → runs r (acts ++ a ∷ []) ≡ reports (runs r acts) a
unfolding runs
runs_snoc r [] a = refl
runs_snoc r (x ∷ xs) a = runs_snoc (reports r x) xs a

pub orderly_snoc : (hs : List (List Event)) (r : Result Story ActFault) (acts : List Act) (a : Act) → Orderly hs r acts → IfOk (runs r acts) (IsPermittedNext hs a) → Orderly hs r (acts ++ a ∷ [])
unfolding runs
orderly_snoc hs r [] a orderly may = (may, tt)
orderly_snoc hs r (x ∷ xs) a orderly may = (orderly.0, orderly_snoc hs (reports r x) xs a orderly.1 may)

-- EVENTS OF A DEVICE

kept_append : (i : ℕ) (x : ReportedEvent) (xs ys : List ReportedEvent) (b : Bool) → filter (is_of i) (xs ++ ys) ≡ filter (is_of i) xs ++ filter (is_of i) ys → cond b (x ∷ filter (is_of i) (xs ++ ys)) (filter (is_of i) (xs ++ ys)) ≡ cond b (x ∷ filter (is_of i) xs) (filter (is_of i) xs) ++ filter (is_of i) ys
kept_append i x xs ys true h = ap (λ (l : List ReportedEvent). x ∷ l) h
kept_append i x xs ys false h = h

filter_append : (i : ℕ) (xs ys : List ReportedEvent) → filter (is_of i) (xs ++ ys) ≡ filter (is_of i) xs ++ filter (is_of i) ys
filter_append i [] ys = refl
filter_append i (x ∷ xs) ys = kept_append i x xs ys (is_of i x) (filter_append i xs ys)

map_append : (xs ys : List ReportedEvent) → map event_reported (xs ++ ys) ≡ map event_reported xs ++ map event_reported ys
map_append [] ys = refl
map_append (x ∷ xs) ys = ap (λ (l : List Event). x.event ∷ l) (map_append xs ys)

events_append : (i : ℕ) (xs ys : List ReportedEvent) → events_of i (xs ++ ys) ≡ events_of i xs ++ events_of i ys
events_append i xs ys = ap (map event_reported) (filter_append i xs ys) ∙ map_append (filter (is_of i) xs) (filter (is_of i) ys)

pub events_same : (i : ℕ) (xs : List ReportedEvent) (t : ReportedEvent) → t.device ≡ i → events_of i (xs ++ t ∷ []) ≡ events_of i xs ++ t.event ∷ []
events_same i xs t is =
    events_append i xs (t ∷ []) ∙ ap (λ (b : Bool). events_of i xs ++ map event_reported (cond b (t ∷ []) [])) (eq_true t.device i is)

pub events_other : (i : ℕ) (xs : List ReportedEvent) (t : ReportedEvent) → t.device ≢ i → events_of i (xs ++ t ∷ []) ≡ events_of i xs
events_other i xs t ne =
    events_append i xs (t ∷ []) ∙ ap (λ (b : Bool). events_of i xs ++ map event_reported (cond b (t ∷ []) [])) (eq_false t.device i ne) ∙ append-nil (events_of i xs)

map_append_outcomes : (xs ys : List ReportedEvent) → map outcome_in (xs ++ ys) ≡ map outcome_in xs ++ map outcome_in ys
map_append_outcomes [] ys = refl
map_append_outcomes (x ∷ xs) ys = ap (λ (l : List (Event × Outcome)). outcome_in x ∷ l) (map_append_outcomes xs ys)

outcomes_append : (i : ℕ) (xs ys : List ReportedEvent) → outcomes_of i (xs ++ ys) ≡ outcomes_of i xs ++ outcomes_of i ys
outcomes_append i xs ys = ap (map outcome_in) (filter_append i xs ys) ∙ map_append_outcomes (filter (is_of i) xs) (filter (is_of i) ys)

pub outcomes_same : (i : ℕ) (xs : List ReportedEvent) (t : ReportedEvent) → t.device ≡ i → outcomes_of i (xs ++ t ∷ []) ≡ outcomes_of i xs ++ outcome_in t ∷ []
outcomes_same i xs t is =
    outcomes_append i xs (t ∷ []) ∙ ap (λ (b : Bool). outcomes_of i xs ++ map outcome_in (cond b (t ∷ []) [])) (eq_true t.device i is)

pub outcomes_other : (i : ℕ) (xs : List ReportedEvent) (t : ReportedEvent) → t.device ≢ i → outcomes_of i (xs ++ t ∷ []) ≡ outcomes_of i xs
outcomes_other i xs t ne =
    outcomes_append i xs (t ∷ []) ∙ ap (λ (b : Bool). outcomes_of i xs ++ map outcome_in (cond b (t ∷ []) [])) (eq_false t.device i ne) ∙ append-nil (outcomes_of i xs)

replay_step : (t : DeviceTable) (e : Event) (es : List Event) (n : DeviceNext) → step t e ≡ Ok n → replay t (e ∷ es) ≡ (e, Ok n.0) ∷ replay n.1 es
replay_step t e es n step = ap (λ (r : Result DeviceNext StepFault). (e, outcome_of r) ∷ replay (table_of t r) es) step

-- PLACES

index_same : (ps : List ℕ) (i v : ℕ) → i < length ps → slice_index (set ps i v) i ≡ v
index_same [] i v lt = absurd (omega arith)
index_same (p ∷ ps) zero v lt = refl
index_same (p ∷ ps) (suc i) v lt = index_same ps i v (omega arith)

index_other : (ps : List ℕ) (i j v : ℕ) → j ≢ i → slice_index (set ps i v) j ≡ slice_index ps j
index_other [] i j v ne = refl
index_other (p ∷ ps) zero zero v ne = absurd (ne refl)
index_other (p ∷ ps) zero (suc j) v ne = refl
index_other (p ∷ ps) (suc i) zero v ne = refl
index_other (p ∷ ps) (suc i) (suc j) v ne = index_other ps i j v (λ e. ne (ap suc e))

drop_tail : {X : Type 0} (xs : List X) (k : ℕ) (y : X) (ys : List X) → drop k xs ≡ y ∷ ys → drop (suc k) xs ≡ ys
drop_tail [] zero y ys h = absurd (let e = h in cc)
drop_tail [] (suc k) y ys h = absurd (let e = h in cc)
drop_tail (x ∷ xs) zero y ys h = let e = h in cc
drop_tail (x ∷ xs) (suc k) y ys h = drop_tail xs k y ys h

rest_same : (hs : List (List Event)) (ps : List ℕ) (i : ℕ) (e : Event) (es : List Event) → i < length ps → rest hs ps i ≡ e ∷ es → rest hs (set ps i (slice_index ps i + 1)) i ≡ es
rest_same hs ps i e es lt is = rw (index_same ps i (slice_index ps i + 1) lt, add-one) (drop_tail (history hs i) (slice_index ps i) e es is)

rest_other : (hs : List (List Event)) (ps : List ℕ) (i j v : ℕ) → j ≢ i → rest hs (set ps i v) j ≡ rest hs ps j
rest_other hs ps i j v ne = ap (λ (k : ℕ). drop k (history hs j)) (index_other ps i j v ne)

-- THE EVENT HAPPENS

pub record Brings (w : World) (i : ℕ) (e : Event) (a : Act) (n : DeviceNext) : Type 0 where
  pub after : World
  pub is : happens w a ≡ Ok (Some (record { device = i; event = e; answer = n.0 }), after)
  pub tables : after.tables ≡ set w.tables i n.1

pub causes_bring : (w : World) (i : ℕ) (e : Event) (a : Act) (t : DeviceTable) (n : DeviceNext) → Causes w i e a → slice_get w.tables i ≡ Some t → step t e ≡ Ok n → Brings w i e a n
causes_bring w i e a t n c at step =
    let at2 : slice_get c.at.tables i ≡ Some t = ap (λ (ts : List DeviceTable). slice_get ts i) c.tables ∙ at in
    record {
      after = fan_out i n.0 (record c.at { tables = set c.at.tables i n.1 });
      is = c.is ∙ ap (event_at_table i e c.at) at2 ∙ ap (after_device_step i e c.at) step;
      tables = ap (λ (ts : List DeviceTable). set ts i n.1) c.tables;
    }

pub table_there : (ts : List DeviceTable) (i : ℕ) → i < length ts → (t : DeviceTable) × (slice_get ts i ≡ Some t)
table_there [] i lt = absurd (omega arith)
table_there (t ∷ ts) zero lt = (t, refl)
table_there (t ∷ ts) (suc i) lt = table_there ts i (omega arith)

-- the next event of a device, which an act causes, can be placed
pub record CanPlace (w : World) (i : ℕ) (e : Event) (a : Act) (es : List Event) : Type 0 where
  pub table : DeviceTable
  pub at : slice_get w.tables i ≡ Some table
  pub next : DeviceNext
  pub step : step table e ≡ Ok next
  pub more : AreAnswered next.1 es
  pub brings : Brings w i e a next

pub can_place : (start : World) (hs : List (List Event)) (b : Placement) (i : ℕ) (e : Event) (es : List Event) (a : Act) → IsPlacement start hs b → i < length hs → rest hs b.placed i ≡ e ∷ es → Causes b.world i e a → CanPlace b.world i e a es
can_place start hs b i e es a good lt is causes =
    let there = table_there b.world.tables i (omega (arith, good.tables)) in
    let steps : AreAnswered there.0 (e ∷ es) = subst (AreAnswered there.0) is (good.steps i there.0 there.1) in
    record {
      table = there.0;
      at = there.1;
      next = steps.0;
      step = steps.1;
      more = steps.2;
      brings = causes_bring b.world i e a there.0 steps.0 causes there.1 steps.1;
    }

may_plain : (r : ℕ → List Event) (w : World) (a : Act) → IsOfDevice a → IsPermitted r w a
may_plain r w (Local device event) h = tt
may_plain r w (Deliver index device) h = tt
may_plain r w (NextFrame stream way) h = tt
may_plain r w (OpenStream from to) h = h
may_plain r w (CutStream stream) h = absurd h

abbrev pub moved : Placement → World → Act → ℕ → Placement
moved b v a i = record { world = v; acts = b.acts ++ a ∷ []; placed = set b.placed i (slice_index b.placed i + 1) }

get_set_is : (ts : List DeviceTable) (i j : ℕ) (x t : DeviceTable) → slice_get (set ts i x) j ≡ Some t → (j ≡ i → t ≡ x) × (j ≢ i → slice_get ts j ≡ Some t)
get_set_is [] i j x t at = none_some t at
get_set_is (y ∷ ys) zero zero x t at = (λ e. sym (some_is x t at), λ ne. absurd (ne refl))
get_set_is (y ∷ ys) zero (suc j) x t at = (λ e. absurd (omega (arith, e)), λ ne. at)
get_set_is (y ∷ ys) (suc i) zero x t at = (λ e. absurd (omega (arith, e)), λ ne. at)
get_set_is (y ∷ ys) (suc i) (suc j) x t at =
    let more = get_set_is ys i j x t at in
    (λ e. more.0 (omega (arith, e)), λ ne. more.1 (λ e. ne (ap suc e)))

module _ (start : World) (hs : List (List Event)) (b : Placement) (i : ℕ) (e : Event) (es : List Event) (a : Act) (good : IsPlacement start hs b) (lt : i < length hs) (is : rest hs b.placed i ≡ e ∷ es) (causes : Causes b.world i e a) (can : CanPlace b.world i e a es) where
  new : ReportedEvent
  new = record { device = i; event = e; answer = can.next.0 }

  places_more : (j : ℕ) → slice_index (set b.placed i (slice_index b.placed i + 1)) j ≡ length (events_of j (good.reports ++ new ∷ []))
  unfolding new
  places_more j =
      same_or_not (slice_index (set b.placed i (slice_index b.placed i + 1)) j ≡ length (events_of j (good.reports ++ new ∷ []))) j i
      (λ same.
      rw same
      (index_same b.placed i (slice_index b.placed i + 1) (omega (arith, good.count))
      ∙ ap (λ k. k + 1) (good.places i)
      ∙ sym (length_push (events_of i good.reports) e)
      ∙ ap (λ (l : List Event). length l) (sym (events_same i good.reports new refl))))
      (λ ne.
      index_other b.placed i j (slice_index b.placed i + 1) ne
      ∙ good.places j
      ∙ ap (λ (l : List Event). length l) (sym (events_other j good.reports new (λ e. ne (sym e)))))

  begun_more : (j : ℕ) → events_of j (good.reports ++ new ∷ []) ++ rest hs (set b.placed i (slice_index b.placed i + 1)) j ≡ history hs j
  unfolding new
  begun_more j =
      same_or_not (events_of j (good.reports ++ new ∷ []) ++ rest hs (set b.placed i (slice_index b.placed i + 1)) j ≡ history hs j) j i
      (λ same.
      rw (same, events_same i good.reports new refl, rest_same hs b.placed i e es (omega (arith, good.count)) is, append_assoc)
      (ap (λ (l : List Event). events_of i good.reports ++ l) (sym is) ∙ good.begun i))
      (λ ne.
      rw (events_other j good.reports new (λ e. ne (sym e)), rest_other hs b.placed i j (slice_index b.placed i + 1) ne) (good.begun j))

  steps_more : (j : ℕ) (t : DeviceTable) → slice_get can.brings.after.tables j ≡ Some t → AreAnswered t (rest hs (set b.placed i (slice_index b.placed i + 1)) j)
  steps_more j t at =
      let there = get_set_is b.world.tables i j can.next.1 t (sym (ap (λ (ts : List DeviceTable). slice_get ts j) can.brings.tables) ∙ at) in
      same_or_not (AreAnswered t (rest hs (set b.placed i (slice_index b.placed i + 1)) j)) j i
      (λ same. rw (there.0 same, same, rest_same hs b.placed i e es (omega (arith, good.count)) is) can.more)
      (λ ne. rw (rest_other hs b.placed i j (slice_index b.placed i + 1) ne) (good.steps j t (there.1 ne)))

  replays_more : (j : ℕ) (t u : DeviceTable) → slice_get start.tables j ≡ Some t → slice_get can.brings.after.tables j ≡ Some u → replay t (history hs j) ≡ outcomes_of j (good.reports ++ new ∷ []) ++ replay u (rest hs (set b.placed i (slice_index b.placed i + 1)) j)
  unfolding new
  replays_more j t u from at =
      let there = get_set_is b.world.tables i j can.next.1 u (sym (ap (λ (ts : List DeviceTable). slice_get ts j) can.brings.tables) ∙ at) in
      same_or_not (replay t (history hs j) ≡ outcomes_of j (good.reports ++ new ∷ []) ++ replay u (rest hs (set b.placed i (slice_index b.placed i + 1)) j)) j i
      (λ same.
      let from_i : slice_get start.tables i ≡ Some t = subst (λ (k : ℕ). slice_get start.tables k ≡ Some t) same from in
      rw (there.0 same, same, outcomes_same i good.reports new refl, rest_same hs b.placed i e es (omega (arith, good.count)) is, append_assoc)
      (good.replays i t can.table from_i can.at
      ∙ ap (λ (l : List Event). outcomes_of i good.reports ++ replay can.table l) is
      ∙ ap (λ (l : List (Event × Outcome)). outcomes_of i good.reports ++ l) (replay_step can.table e es can.next can.step)))
      (λ ne.
      rw (outcomes_other j good.reports new (λ e. ne (sym e)), rest_other hs b.placed i j (slice_index b.placed i + 1) ne) (good.replays j t u from (there.1 ne)))

  good_brought : IsPlacement start hs (moved b can.brings.after a i)
  unfolding new
  good_brought = record {
    reports = good.reports ++ new ∷ [];
    runs_so = runs_snoc (begins start) b.acts a ∙ ap (λ (r : Result Story ActFault). reports r a) good.runs_so ∙ ap (goes_on good.reports) can.brings.is;
    places = places_more;
    begun = begun_more;
    orderly =
        orderly_snoc hs (begins start) b.acts a good.orderly
        (subst (λ (r : Result Story ActFault). IfOk r (IsPermittedNext hs a)) (sym good.runs_so) (may_plain (remaining hs good.reports) b.world a causes.plain));
    steps = steps_more;
    replays = replays_more;
    tables = ap (λ (ts : List DeviceTable). length ts) can.brings.tables ∙ length_set b.world.tables i can.next.1 ∙ good.tables;
    count = length_set b.placed i (slice_index b.placed i + 1) ∙ good.count;
  }

  pub good_more : (reported : Option ReportedEvent) (v : World) → happens b.world a ≡ Ok (reported, v) → IsPlacement start hs (moved b v a i)
  good_more reported v h =
      let same : can.brings.after ≡ v = ap (λ (p : Option ReportedEvent × World). p.1) (ok_is _ _ (sym can.brings.is ∙ h)) in
      subst (λ (x : World). IsPlacement start hs (moved b x a i)) same good_brought

-- A CUT

pub rest_left : (hs : List (List Event)) (ps : List ℕ) (reported : List ReportedEvent) → ((i : ℕ) → slice_index ps i ≡ length (events_of i reported)) → (i : ℕ) → rest hs ps i ≡ remaining hs reported i
rest_left hs ps reported places i = ap (λ (k : ℕ). drop k (history hs i)) (places i)

pub unused_same : (n : ℕ) (f g : ℕ → List Event) (o : Option Stream) → ((i : ℕ) → f i ≡ g i) → is_unused n f o ≡ true → is_unused n g o ≡ true
unused_same n f g None same h = h
unused_same n f g (Some s) same h = rw (← same s.from, ← same s.to) h

pub good_cut : (start : World) (hs : List (List Event)) (b : Placement) (n : ℕ) (v : World) → IsPlacement start hs b → IsPermitted (rest hs b.placed) b.world (CutStream n) → happens b.world (CutStream n) ≡ Ok (None, v) → v.tables ≡ b.world.tables → IsPlacement start hs (record { world = v; acts = b.acts ++ CutStream n ∷ []; placed = b.placed })
good_cut start hs b n v good may is tables = record {
  reports = good.reports;
  runs_so = runs_snoc (begins start) b.acts (CutStream n) ∙ ap (λ (r : Result Story ActFault). reports r (CutStream n)) good.runs_so ∙ ap (goes_on good.reports) is;
  places = good.places;
  begun = good.begun;
  orderly =
      orderly_snoc hs (begins start) b.acts (CutStream n) good.orderly
      (subst (λ (r : Result Story ActFault). IfOk r (IsPermittedNext hs (CutStream n))) (sym good.runs_so) (unused_same n (rest hs b.placed) (remaining hs good.reports) (slice_get b.world.streams n) (rest_left hs b.placed good.reports good.places) may));
  steps = λ i t at. good.steps i t (ap (λ (ts : List DeviceTable). slice_get ts i) (sym tables) ∙ at);
  replays = λ i t u from at. good.replays i t u from (ap (λ (ts : List DeviceTable). slice_get ts i) (sym tables) ∙ at);
  tables = ap (λ (ts : List DeviceTable). length ts) tables ∙ good.tables;
  count = good.count;
}

-- HOW MUCH IS LEFT

cons_lt : {X : Type 0} (xs : List X) (k : ℕ) (y : X) (ys : List X) → drop k xs ≡ y ∷ ys → k < length xs
cons_lt [] zero y ys h = absurd (let e = h in cc)
cons_lt [] (suc k) y ys h = absurd (let e = h in cc)
cons_lt (x ∷ xs) zero y ys h = omega arith
cons_lt (x ∷ xs) (suc k) y ys h = let r = cons_lt xs k y ys h in omega arith

left_less : (hs : List (List Event)) (ps : List ℕ) (i : ℕ) → i < length ps → slice_index ps i < length (history hs i) → left_count hs (set ps i (slice_index ps i + 1)) < left_count hs ps
left_less [] ps i lt more = absurd (omega arith)
left_less (h ∷ hs) [] i lt more = absurd (omega arith)
left_less (h ∷ hs) (p ∷ ps) zero lt more = omega arith
left_less (h ∷ hs) (p ∷ ps) (suc i) lt more = let r = left_less hs ps i (omega arith) more in omega arith

pub less_left : (hs : List (List Event)) (ps : List ℕ) (i : ℕ) (e : Event) (es : List Event) → i < length ps → rest hs ps i ≡ e ∷ es → left_count hs (set ps i (slice_index ps i + 1)) < left_count hs ps
less_left hs ps i e es lt is = left_less hs ps i lt (cons_lt (history hs i) (slice_index ps i) e es is)

-- WHAT THE CODE DID

pub is_ok_at : {X E : Type 0} (r : Result X E) (x : X) → r ≡ Ok x → IsOk r
is_ok_at {X = X} {E = E} r x h = subst (λ (v : Result X E). IsOk v) (sym h) refl

pub place_ok : (hs : List (List Event)) (b : Placement) (i : ℕ) (a : Act) → i < length hs → IsReachable hs b → CausesNext hs b i a → IsOk (happens b.world a)
place_ok hs b i a lt sane next =
    let can = can_place sane.0 hs b i next.0 next.1 a sane.1 lt next.2 next.3 in
    is_ok_at (happens b.world a) _ can.brings.is

pub place_kept : (hs : List (List Event)) (b : Placement) (i : ℕ) (a : Act) → i < length hs → CausesNext hs b i a → (reported : Option ReportedEvent) (v : World) (acts : List Act) (placed : List ℕ) → happens b.world a ≡ Ok (reported, v) → acts ≡ b.acts ++ a ∷ [] → placed ≡ set b.placed i (slice_index b.placed i + 1) → Preserves hs b (record { world = v; acts = acts; placed = placed })
place_kept hs b i a lt next reported v acts placed is acts_is placed_is start good =
    let can = can_place start hs b i next.0 next.1 a good lt next.2 next.3 in
    rw (acts_is, placed_is) (good_more start hs b i next.0 next.1 a good lt next.2 next.3 can reported v is)

pub place_less : (hs : List (List Event)) (b : Placement) (i : ℕ) (a : Act) → i < length hs → IsReachable hs b → CausesNext hs b i a → (placed : List ℕ) → placed ≡ set b.placed i (slice_index b.placed i + 1) → left_count hs placed < left_count hs b.placed
place_less hs b i a lt sane next placed is =
    rw is (less_left hs b.placed i next.0 next.1 (omega (arith, sane.1.count)) next.2)

pub cut_kept : (hs : List (List Event)) (b : Placement) (n i : ℕ) (back : Direction) → IsPermitted (rest hs b.placed) b.world (CutStream n) → CutReaches b.world n i back → (reported : Option ReportedEvent) (v : World) (acts : List Act) → happens b.world (CutStream n) ≡ Ok (reported, v) → acts ≡ b.acts ++ CutStream n ∷ [] → Preserves hs b (record { world = v; acts = acts; placed = b.placed })
cut_kept hs b n i back may marks reported v acts is acts_is start good =
    let cuts = mark_cuts b.world n i back marks in
    let same : cuts.after ≡ v = ap (λ (p : Option ReportedEvent × World). p.1) (ok_is _ _ (sym cuts.is ∙ is)) in
    rw (acts_is, ← same) (good_cut start hs b n cuts.after good may cuts.is cuts.tables)

pub cut_causes : (w : World) (n i : ℕ) (back : Direction) → CutReaches w n i back → (reported : Option ReportedEvent) (v : World) → happens w (CutStream n) ≡ Ok (reported, v) → Causes v i (StreamCut n) (NextFrame n back)
cut_causes w n i back marks reported v is =
    let cuts = mark_cuts w n i back marks in
    let same : cuts.after ≡ v = ap (λ (p : Option ReportedEvent × World). p.1) (ok_is _ _ (sym cuts.is ∙ is)) in
    subst (λ (x : World). Causes x i (StreamCut n) (NextFrame n back)) same cuts.causes
