-- Where the placing begins and endpoints.
use Rattle.std.proofs.Common.{◌≡◌, ◌<◌, ◌≤◌, ℕ, zero, suc, List, [], ◌∷◌, ◌++◌, length, drop, slice_get, slice_index, replicate, refl, sym, ◌∙◌, ap, subst, arith, inl, inr}
use Rattle.std.proofs.lemmas.Bool.{cases_lt}
use Rattle.std.proofs.lemmas.List.{append-nil, get_or_past, length-replicate}
use Rattle.std.proofs.lemmas.Option.{slice_get_within}
use Rattle.cip_events.specs.declared.event.Event.{Event}
use Rattle.segment_world.specs.Story.{reports, runs, events_of}
use Rattle.segment_world.specs.World.{World, ReportedEvent}
use Rattle.settling.specs.Search.Replays.{replay}
use Rattle.settling.specs.Search.Schedules.{outcomes_of, history, remaining, StuckAt, Settles, IsStuck}
use Rattle.settling.specs.Search.Placements.{Placement, IsPlacement, Ready, first_placement, rest, StuckHere}
use Rattle.settling.proofs.Placing.{rest_left, table_there, unused_same}
use Rattle.settling.specs.Search.Lemmas.Cases.{some_is}

zeros : (n i : ℕ) → slice_index (replicate n 0) i ≡ 0
zeros zero i = refl
zeros (suc n) zero = refl
zeros (suc n) (suc i) = zeros n i

rest_fresh : (w : World) (hs : List (List Event)) (i : ℕ) → rest hs (replicate (length hs) 0) i ≡ history hs i
rest_fresh w hs i = rw (zeros (length hs) i) refl

pub good_fresh : (start : World) (hs : List (List Event)) → Ready start hs → IsPlacement start hs (first_placement start hs)
unfolding runs
good_fresh start hs ready = record {
  reports = [];
  runs_so = refl;
  places = zeros (length hs);
  begun = rest_fresh start hs;
  orderly = tt;
  steps = λ i t at. rw (rest_fresh start hs i) (ready.steps i t at);
  replays = λ i t u from at. rw (some_is t u (sym from ∙ at), rest_fresh start hs i) refl;
  tables = ready.tables;
  count = length-replicate (length hs) 0;
}

-- a device that isn't there has no events
rest_past : (hs : List (List Event)) (ps : List ℕ) (i : ℕ) → length hs ≤ i → rest hs ps i ≡ []
rest_past hs ps i le = rw (get_or_past hs i [] le) (drop_nil (slice_index ps i))
  where
    drop_nil : (k : ℕ) → ◌≡◌ {A = List Event} (drop k []) []
    drop_nil zero = refl
    drop_nil (suc k) = refl

pub all_rest : (hs : List (List Event)) (ps : List ℕ) → ((i : ℕ) → i < length hs → rest hs ps i ≡ []) → (i : ℕ) → rest hs ps i ≡ []
all_rest hs ps none i = elim (cases_lt i (length hs)) [ inl lt ↦ none i lt | inr le ↦ rest_past hs ps i le ]

pub settles : (start : World) (hs : List (List Event)) (b : Placement) → length start.tables ≡ length hs → IsPlacement start hs b → ((i : ℕ) → i < length hs → rest hs b.placed i ≡ []) → Settles start hs b.acts
settles start hs b same good none = record {
  story = record { world = b.world; reported = good.reports };
  runs_so = good.runs_so;
  projects = λ i. sym (append-nil (events_of i good.reports)) ∙ ap (λ (l : List Event). events_of i good.reports ++ l) (sym (all_rest hs b.placed none i)) ∙ good.begun i;
  answers = λ i t from.
      let here : i < length b.world.tables = omega (arith, good.tables, same, slice_get_within start.tables i t from) in
      let there = table_there b.world.tables i here in
      sym (good.replays i t there.0 from there.1 ∙ ap (λ (l : List Event). outcomes_of i good.reports ++ replay there.0 l) (all_rest hs b.placed none i) ∙ append-nil (outcomes_of i good.reports));
}

stuck_past : (hs : List (List Event)) (b : Placement) (i : ℕ) → length hs ≤ i → StuckHere hs b i
stuck_past hs b i le e es is = absurd (let h = sym (rest_past hs b.placed i le) ∙ is in cc)

stuck_left : (hs : List (List Event)) (b : Placement) (reported : List ReportedEvent) (i : ℕ) → ((j : ℕ) → slice_index b.placed j ≡ length (events_of j reported)) → StuckHere hs b i → StuckAt (remaining hs reported) b.world i
stuck_left hs b reported i places stuck e es is =
    let same = rest_left hs b.placed reported places in
    let no = stuck e es (same i ∙ is) in
    record {
      alone = no.alone;
      cut = λ n v may. no.cut n v (unused_same n (remaining hs reported) (rest hs b.placed) (slice_get b.world.streams n) (λ j. sym (same j)) may);
    }

pub is_stuck : (start : World) (hs : List (List Event)) (bytes : List ℕ) (b : Placement) (device k : ℕ) (e : Event) (es : List Event) → IsPlacement start hs b → ((i : ℕ) → i < length hs → StuckHere hs b i) → rest hs b.placed device ≡ e ∷ es → slice_index b.placed device ≡ k → ((i : ℕ) → i < length hs → slice_index bytes i < slice_index bytes device → rest hs b.placed i ≡ []) → IsStuck start hs bytes device k
is_stuck start hs bytes b device k e es good stuck over is lowest =
    let same = rest_left hs b.placed good.reports good.places in
    record {
      acts = b.acts;
      story = record { world = b.world; reported = good.reports };
      runs_so = good.runs_so;
      starts = λ i. ap (λ (l : List Event). events_of i good.reports ++ l) (sym (same i)) ∙ good.begun i;
      orderly = good.orderly;
      stuck = λ i. stuck_left hs b good.reports i good.places (elim (cases_lt i (length hs)) [ inl lt ↦ stuck i lt | inr le ↦ stuck_past hs b i le ]);
      place = sym (good.places device) ∙ is;
      over = (e, es, sym (same device) ∙ over);
      lowest = λ i lt lower. sym (same i) ∙ lowest i lt lower;
    }

pub good_new : (start : World) (hs : List (List Event)) (b : Placement) → Ready start hs → b ≡ first_placement start hs → IsPlacement start hs b
good_new start hs b ready is = subst (IsPlacement start hs) (sym is) (good_fresh start hs ready)
