-- The replay of stored events, one event longer.
use Rattle.std.proofs.Common.{◌≡◌, ℕ, ◌<◌, ◌+◌, List, [], ◌∷◌, ◌++◌, length, get_or, drop, Ok, refl, sym, ap, ◌∙◌}
use Rattle.std.proofs.lemmas.List.{append_assoc, drop_more}
use Rattle.cip_events.specs.declared.event.Answer.{Answer}
use Rattle.cip_events.specs.declared.event.Event.{Event}
use Rattle.cip_tables.specs.declared.table.DeviceTable.{DeviceTable}
use Rattle.cip_tables.specs.Step.{step}
use Rattle.cip_events.specs.Outcomes.{Outcome}
use Rattle.cip_tables.specs.Run.{outcome_of, outcomes_of, table_of, table_after}

pub after_one_more : (t : DeviceTable) (events : List Event) (event : Event) → table_after t (events ++ event ∷ []) ≡ table_of (table_after t events) (step (table_after t events) event)
after_one_more t [] event = refl
after_one_more t (x ∷ xs) event = after_one_more (table_of t (step t x)) xs event

-- an event that is answered leads to the table behind it
pub after_answered : (t : DeviceTable) (events : List Event) (event : Event) (answer : Answer) (next : DeviceTable) → step (table_after t events) event ≡ Ok (answer, next) → next ≡ table_after t (events ++ event ∷ [])
after_answered t events event answer next is = sym (after_one_more t events event ∙ ap (table_of (table_after t events)) is)

-- the run from the i-th event on
pub replay_drop : (t u : DeviceTable) (events : List Event) (i : ℕ) (event : Event) → i < length events → event ≡ get_or events i event → u ≡ table_after t (event ∷ []) → table_after u (drop (i + 1) events) ≡ table_after t (drop i events)
replay_drop t u events i event lt is next = rw (next, drop_more events i event lt, ← is) refl

-- the outcomes so far with those of the i-th event on, and one outcome more
pub outcomes_drop : (t u : DeviceTable) (events : List Event) (i : ℕ) (event : Event) (outcome : Outcome) (old new : List Outcome) → i < length events → event ≡ get_or events i event → outcome ≡ outcome_of (step t event) → u ≡ table_of t (step t event) → new ≡ old ++ outcome ∷ [] → new ++ outcomes_of u (drop (i + 1) events) ≡ old ++ outcomes_of t (drop i events)
outcomes_drop t u events i event outcome old new lt is outcome_is next new_is =
    rw (new_is, outcome_is, next, drop_more events i event lt, ← is) (append_assoc old (outcome_of (step t event) ∷ []) (outcomes_of (table_of t (step t event)) (drop (i + 1) events)))
