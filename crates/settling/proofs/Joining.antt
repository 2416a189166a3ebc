-- The streams, and then the events.
use Rattle.std.proofs.Common.{◌≡◌, ◌<◌, nat_lt, ℕ, Bool, true, cond, List, [], ◌∷◌, ◌++◌, length, slice_get, Result, Ok, refl, sym, ◌∙◌, ap, subst, arith}
use Rattle.std.proofs.lemmas.Bool.Decides.{nat_tests}
use Rattle.cip_events.specs.declared.event.Event.{Event}
use Rattle.cip_tables.specs.declared.table.DeviceTable.{DeviceTable}
use Rattle.segment_world.specs.declared.act.Act.{Act}
use Rattle.segment_world.specs.declared.act.ActFault.{ActFault}
use Rattle.segment_world.specs.Story.{Story, begins, runs, reports}
use Rattle.segment_world.specs.World.{World}
use Rattle.settling.specs.declared.search.place.Unplaced.{Unplaced}
use Rattle.settling.specs.declared.search.place.Unplaced.TheVariants.{Uncaused, OutOfMemory}
use Rattle.settling.specs.Search.Schedules.{Settles, IsStuck, Orderly}
use Rattle.settling.specs.Search.Openings.{opens_below, named_by, FirstOpen}
use Rattle.settling.specs.Search.Searches.{Explains, LeftOver, WhyUnplaced}
use Rattle.settling.proofs.Opening.{runs_none}

runs_append : (r : Result Story ActFault) (xs ys : List Act) → runs r (xs ++ ys) ≡ runs (runs r xs) ys
unfolding runs
runs_append r [] ys = refl
runs_append r (x ∷ xs) ys = runs_append (reports r x) xs ys

pub few : (start : World) (hs : List (List Event)) (acts : List Act) → acts ≡ [] → length hs < 2 → FirstOpen start hs acts start
few start hs acts none lt =
    let is : nat_lt (length hs) 2 ≡ true = grind (arith, nat_tests) in
    record {
      acts_are = none ∙ sym (ap (λ (b : Bool). cond b [] (opens_below start.nodes hs (named_by hs))) is);
      runs_so = ap (runs (begins start)) none ∙ runs_none (begins start);
      tables = refl;
    }

joined : (start : World) (hs : List (List Event)) (acts later : List Act) (w : World) (story : Story) → FirstOpen start hs acts w → runs (begins w) later ≡ Ok story → runs (begins start) (acts ++ later) ≡ Ok story
joined start hs acts later w story first so =
    runs_append (begins start) acts later ∙ ap (λ (r : Result Story ActFault). runs r later) first.runs_so ∙ so

pub settles_all : (start : World) (hs : List (List Event)) (acts later : List Act) (w : World) → FirstOpen start hs acts w → Settles w hs later → Settles start hs (acts ++ later)
settles_all start hs acts later w first s = record {
  story = s.story;
  runs_so = joined start hs acts later w s.story first s.runs_so;
  projects = s.projects;
  answers = λ i t at. s.answers i t (ap (λ (ts : List DeviceTable). slice_get ts i) first.tables ∙ at);
}

left_over : (start : World) (hs : List (List Event)) (bytes : List ℕ) (acts : List Act) (w : World) (device k : ℕ) → FirstOpen start hs acts w → IsStuck w hs bytes device k → LeftOver start hs bytes device k
left_over start hs bytes acts w device k first s = record {
  later = s.acts;
  story = s.story;
  runs_so = subst (λ (l : List Act). runs (begins start) (l ++ s.acts) ≡ Ok s.story) first.acts_are (joined start hs acts s.acts w s.story first s.runs_so);
  starts = s.starts;
  orderly =
      subst (λ (r : Result Story ActFault). Orderly hs r s.acts)
      (sym (ap (runs (begins start)) (sym first.acts_are) ∙ first.runs_so))
      s.orderly;
  stuck = s.stuck;
  place = s.place;
  over = s.over;
  lowest = s.lowest;
}

pub why : (start : World) (hs : List (List Event)) (bytes : List ℕ) (acts : List Act) (w : World) (f : Unplaced) → FirstOpen start hs acts w → Explains w hs bytes f → WhyUnplaced start hs bytes f
why start hs bytes acts w (Uncaused device k) first s = left_over start hs bytes acts w device k first s
why start hs bytes acts w OutOfMemory first s = tt
