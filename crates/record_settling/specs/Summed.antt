-- The sums that records have in place of outcomes.
use Rattle.std.specs.Prelude.{ℕ, ◌+◌, List, [], ◌∷◌, Option, Some, None}
use Rattle.cip_events.specs.Outcomes.{Outcome}
use Rattle.trace_outcomes.specs.declared.sums.sum.OutcomeSum.{OutcomeSum}
use Rattle.trace_outcomes.specs.declared.sums.sum.PlacedSum.{PlacedSum}
use Rattle.trace_outcomes.specs.Sums.Sums.{HasSum}
use Rattle.trace_stepper.specs.Compared.{recorded_at}
use Rattle.trace_text.specs.declared.trace.Trace.{Trace}
use Rattle.trace_text.specs.Reading.{Entry}

-- there is an outcome, and it has the sum
abbrev pub IsSummed : ℕ → Option Outcome → OutcomeSum → Type 0
IsSummed number None sum = ⊥
IsSummed number (Some outcome) sum = HasSum number outcome (Some sum)

-- the outcome of the entry at this place has the sum
abbrev pub HasPlacedSum : List Entry → PlacedSum → Type 0
HasPlacedSum entries placed = IsSummed (placed.place + 1) (recorded_at entries placed.place) placed.sum

-- each outcome has its sum
abbrev pub HaveSums : List Entry → List PlacedSum → Type 0
HaveSums entries [] = Unit {0}
HaveSums entries (placed ∷ sums) = HasPlacedSum entries placed × HaveSums entries sums

-- the sums of the first record, and those of the others
abbrev pub first_sums : List (List PlacedSum) → List PlacedSum
first_sums [] = []
first_sums (sums ∷ others) = sums

abbrev pub other_sums : List (List PlacedSum) → List (List PlacedSum)
other_sums [] = []
other_sums (sums ∷ others) = others

-- of each record, each outcome has its sum
abbrev pub AllHaveSums : List Trace → List (List PlacedSum) → Type 0
AllHaveSums [] sums = Unit {0}
AllHaveSums (t ∷ ts) sums = HaveSums t.events (first_sums sums) × AllHaveSums ts (other_sums sums)
