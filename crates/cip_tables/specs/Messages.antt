-- What class 3 connections keep to in every run, and requests that the application of an adapter answers.
use Rattle.std.specs.Prelude.{ℕ, ◌≡◌, List, None, Ok, Err}
use Rattle.cip_events.specs.declared.event.Event.{Event}
use Rattle.cip_events.specs.declared.event.StepFault.TheVariants.{NotAllowedNow}
use Rattle.cip_events.specs.Outcomes.{Outcome}
use Rattle.adapter_table.specs.declared.table.AdapterTable.{AdapterTable}
use Rattle.adapter_table.specs.Answering.{respond}
use Rattle.adapter_table.specs.Requests.{Next}
use Rattle.adapter_table.specs.Whole.{IsWhole}
use Rattle.cip_tables.specs.declared.table.Config.{Config}
use Rattle.cip_tables.specs.declared.table.DeviceTable.{DeviceTable}
use Rattle.cip_tables.specs.declared.table.DeviceTable.TheVariants.{Adapter}
use Rattle.cip_tables.specs.Run.{Runs}
use Rattle.cip_tables.specs.Step.{opening_table, config_fault}
use Rattle.cip_tables.specs.Whole.{IsWholeDevice}

-- the property holds of every adapter's table that a run from a whole table, or from a fresh device without a fault, reaches
pub record OverEveryWholeRun (Holds : AdapterTable → Type 0) : Type 0 where
  pub whole :
      (old : DeviceTable) (events : List Event) (outcomes : List Outcome) (t : AdapterTable) →
      IsWholeDevice old → Runs old events outcomes (Adapter t) → Holds t
  pub fresh :
      (made : Config) (events : List Event) (outcomes : List Outcome) (t : AdapterTable) →
      config_fault made ≡ None → Runs (opening_table made) events outcomes (Adapter t) → Holds t

-- after an answer that was given, whatever follows, another answer to the request is refused
abbrev pub AnswersAreOnce : Type 0
AnswersAreOnce =
    (old t : AdapterTable) (number status : ℕ) (bytes : List ℕ) (next : Next) (events : List Event) (outcomes : List Outcome) →
    IsWhole old → respond old number status bytes ≡ Ok next → Runs (Adapter next.1) events outcomes (Adapter t) →
    (other : ℕ) (others : List ℕ) → respond t number other others ≡ Err NotAllowedNow
