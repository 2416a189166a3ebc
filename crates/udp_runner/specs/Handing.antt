-- The steps of a device that an observer is handed.
use Rattle.std.specs.Prelude.{◌≡◌, ℕ, List, [], ◌∷◌, length}
use Rattle.cip_events.specs.declared.event.Event.{Event}
use Rattle.cip_events.specs.Outcomes.{Outcome}
use Rattle.cip_tables.specs.declared.table.DeviceTable.{DeviceTable}
use Rattle.cip_tables.specs.Run.{Runs}

-- the observer was handed these events with these outcomes, one after another, and nothing else: by its own notes of
-- each step it got from the old one to the new one
abbrev pub Watches : {O : Type 0} → (O → Event → Outcome → O → Type 0) → O → List Event → List Outcome → O → Type 0
Watches notes old [] [] new = new ≡ old
Watches {O} notes old (event ∷ events) (outcome ∷ outcomes) new = (mid : O) × notes old event outcome mid × Watches notes mid events outcomes new
Watches notes old [] (outcome ∷ outcomes) new = ⊥
Watches notes old (event ∷ events) [] new = ⊥

-- The device ran from the one table to the other by so many events, which are the required ones, and the observer was handed
-- each of them with its outcome, in order.
pub record HandsOut {O : Type 0} (notes : O → Event → Outcome → O → Type 0) (Required : List Event → Type 0) (count : ℕ) (old new : O) (before after : DeviceTable) : Type 0 where
  pub events : List Event
  pub outcomes : List Outcome
  pub required : Required events
  pub counts : count ≡ length events
  pub runs : Runs before events outcomes after
  pub watches : Watches notes old events outcomes new

-- The device ran from the one table to the other by some events, and the observer was handed each of them with its
-- outcome, in order: the last one can be refused, or its answer not be sent whole.
pub record HandsSome {O : Type 0} (notes : O → Event → Outcome → O → Type 0) (old new : O) (before after : DeviceTable) : Type 0 where
  pub events : List Event
  pub outcomes : List Outcome
  pub runs : Runs before events outcomes after
  pub watches : Watches notes old events outcomes new
