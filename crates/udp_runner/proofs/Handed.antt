-- Steps that an observer is handed, one run after another.
use Rattle.std.proofs.Common.{◌≡◌, ℕ, ◌+◌, List, [], ◌∷◌, ◌++◌, length, refl, ap, ◌∙◌, sym, subst, length-append}
use Rattle.cip_events.specs.declared.event.Event.{Event}
use Rattle.cip_events.specs.Outcomes.{Outcome, Follows}
use Rattle.cip_tables.specs.declared.table.DeviceTable.{DeviceTable}
use Rattle.cip_tables.specs.Run.{Runs}
use Rattle.cip_tables.specs.Step.{step}
use Rattle.udp_runner.specs.Handing.{HandsOut, HandsSome, Watches}

runs_append : (t t' t'' : DeviceTable) (es fs : List Event) (os ps : List Outcome) → Runs t es os t' → Runs t' fs ps t'' → Runs t (es ++ fs) (os ++ ps) t''
runs_append t t' t'' [] fs [] ps same more = let P : DeviceTable → Type 0 = λ x. Runs x fs ps t'' in subst P same more
runs_append t t' t'' (e ∷ es) fs (o ∷ os) ps run more = (run.0, run.1, runs_append run.0 t' t'' es fs os ps run.2 more)
runs_append t t' t'' [] fs (o ∷ os) ps run more = absurd run
runs_append t t' t'' (e ∷ es) fs [] ps run more = absurd run

watches_append : {O : Type 0} (notes : O → Event → Outcome → O → Type 0) (o o' o'' : O) (es fs : List Event) (os ps : List Outcome)
    → Watches notes o es os o' → Watches notes o' fs ps o'' → Watches notes o (es ++ fs) (os ++ ps) o''
watches_append {O} notes o o' o'' [] fs [] ps same more = let P : O → Type 0 = λ x. Watches notes x fs ps o'' in subst P same more
watches_append notes o o' o'' (e ∷ es) fs (p ∷ os) ps seen more = (seen.0, seen.1, watches_append notes seen.0 o' o'' es fs os ps seen.2 more)
watches_append notes o o' o'' [] fs (p ∷ os) ps seen more = absurd seen
watches_append notes o o' o'' (e ∷ es) fs [] ps seen more = absurd seen

-- no step
pub hands_none : {O : Type 0} (notes : O → Event → Outcome → O → Type 0) (Required : List Event → Type 0) (o : O) (t : DeviceTable) → Required [] → HandsOut notes Required 0 o o t t
hands_none notes Required o t w = record { events = []; outcomes = []; required = w; counts = refl; runs = refl; watches = refl }

-- one step
pub hands_one : {O : Type 0} (notes : O → Event → Outcome → O → Type 0) (Required : List Event → Type 0) (e : Event) (out : Outcome) (o o' : O) (t t' : DeviceTable)
    → notes o e out o' → Follows (step t e) t out t' → Required (e ∷ []) → HandsOut notes Required 1 o o' t t'
hands_one notes Required e out o o' t t' seen follows w =
    record { events = e ∷ []; outcomes = out ∷ []; required = w; counts = refl; runs = (t', follows, refl); watches = (o', seen, refl) }

-- the last step of a run that ends early
pub some_one : {O : Type 0} (notes : O → Event → Outcome → O → Type 0) (e : Event) (out : Outcome) (o o' : O) (t t' : DeviceTable)
    → notes o e out o' → Follows (step t e) t out t' → HandsSome notes o o' t t'
some_one notes e out o o' t t' seen follows = record { events = e ∷ []; outcomes = out ∷ []; runs = (t', follows, refl); watches = (o', seen, refl) }

pub some_none : {O : Type 0} (notes : O → Event → Outcome → O → Type 0) (o o' : O) (t t' : DeviceTable) → o' ≡ o → t' ≡ t → HandsSome notes o o' t t'
some_none notes o o' t t' seen table = record { events = []; outcomes = []; runs = table; watches = seen }

-- one run after another
pub hands_both : {O : Type 0} (notes : O → Event → Outcome → O → Type 0) (First Then All : List Event → Type 0) (n m : ℕ) (o o' o'' : O) (t t' t'' : DeviceTable)
    → ((es fs : List Event) → First es → Then fs → All (es ++ fs)) → HandsOut notes First n o o' t t' → HandsOut notes Then m o' o'' t' t'' → HandsOut notes All (n + m) o o'' t t''
hands_both notes First Then All n m o o' o'' t t' t'' joins a b = record {
  events = a.events ++ b.events;
  outcomes = a.outcomes ++ b.outcomes;
  required = joins a.events b.events a.required b.required;
  counts = ap (λ x. x + m) a.counts ∙ ap (λ x. length a.events + x) b.counts ∙ sym (length-append a.events b.events);
  runs = runs_append t t' t'' a.events b.events a.outcomes b.outcomes a.runs b.runs;
  watches = watches_append notes o o' o'' a.events b.events a.outcomes b.outcomes a.watches b.watches;
}

-- a run that ends early, after one that does not
pub some_after : {O : Type 0} (notes : O → Event → Outcome → O → Type 0) (First : List Event → Type 0) (n : ℕ) (o o' o'' : O) (t t' t'' : DeviceTable)
    → HandsOut notes First n o o' t t' → HandsSome notes o' o'' t' t'' → HandsSome notes o o'' t t''
some_after notes First n o o' o'' t t' t'' a b = record {
  events = a.events ++ b.events;
  outcomes = a.outcomes ++ b.outcomes;
  runs = runs_append t t' t'' a.events b.events a.outcomes b.outcomes a.runs b.runs;
  watches = watches_append notes o o' o'' a.events b.events a.outcomes b.outcomes a.watches b.watches;
}

-- the same run, of whose events less is said
pub hands_weaker : {O : Type 0} (notes : O → Event → Outcome → O → Type 0) (More Less : List Event → Type 0) (n : ℕ) (o o' : O) (t t' : DeviceTable)
    → ((es : List Event) → More es → Less es) → HandsOut notes More n o o' t t' → HandsOut notes Less n o o' t t'
hands_weaker notes More Less n o o' t t' says a = record { events = a.events; outcomes = a.outcomes; required = says a.events a.required; counts = a.counts; runs = a.runs; watches = a.watches }
