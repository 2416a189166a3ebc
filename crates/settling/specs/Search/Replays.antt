-- What a device answers to its events, one after another.
use Rattle.std.specs.Prelude.{◌≡◌, List, [], ◌∷◌, Ok}
use Rattle.cip_events.specs.declared.event.Event.{Event}
use Rattle.cip_events.specs.Outcomes.{Outcome}
use Rattle.cip_tables.specs.declared.table.DeviceTable.{DeviceTable}
use Rattle.cip_tables.specs.Step.{DeviceNext, step}
use Rattle.cip_tables.specs.Run.{outcome_of, table_of}

-- each of these events is answered, from this table on
abbrev pub AreAnswered : DeviceTable → List Event → Type 0
AreAnswered t [] = Unit {0}
AreAnswered t (e ∷ es) = (n : DeviceNext) × (step t e ≡ Ok n) × AreAnswered n.1 es

-- each event with its outcome
abbrev pub replay : DeviceTable → List Event → List (Event × Outcome)
replay t [] = []
replay t (e ∷ es) = (e, outcome_of (step t e)) ∷ replay (table_of t (step t e)) es
