-- The value of an output after a run, computed from the events alone: the bytes that the last event which touched it left.
use Rattle.std.specs.Prelude.{ℕ, ◌≡◌, List, [], ◌∷◌, find, replicate, Option, Some, None, unwrap_or}
use Rattle.cip_events.specs.declared.event.Event.{Event}
use Rattle.adapter_table.specs.declared.profile.OutputPoint.{OutputPoint}
use Rattle.adapter_table.specs.declared.table.AdapterTable.{AdapterTable}
use Rattle.cip_tables.specs.declared.table.Config.{Config}
use Rattle.cip_tables.specs.declared.table.DeviceTable.{DeviceTable}
use Rattle.cip_tables.specs.declared.table.DeviceTable.TheVariants.{Adapter, Scanner}
use Rattle.adapter_table.specs.Profiles.{is_output_at}
use Rattle.adapter_table.specs.Points.{bytes_at}
use Rattle.cip_tables.specs.Step.{step, opening_table, config_fault, bytes_in}
use Rattle.cip_tables.specs.Whole.{IsWholeDevice}
use Rattle.cip_events.specs.Outcomes.{Outcome}
use Rattle.cip_tables.specs.Run.{Runs, table_of, performed}
use Rattle.adapter_table.specs.Scratch.{or_else, left_at}

-- the bytes that an event from one table to another leaves at an output, if the event touches it
abbrev pub touched : ℕ → DeviceTable → Event → DeviceTable → Option (List ℕ)
touched point (Adapter old) event (Adapter new) = left_at point old event new
touched point (Adapter old) event (Scanner new) = None
touched point (Scanner old) event new = None

-- the bytes that the last event which touches an output leaves there, if any event touches it
abbrev pub last_touched : ℕ → DeviceTable → List Event → Option (List ℕ)
last_touched point t [] = None
last_touched point t (event ∷ events) =
    let next = table_of t (step t event) in
    or_else (last_touched point next events) (touched point t event next)

-- the outputs of a device; a scanner consumes none
abbrev pub outputs_of : DeviceTable → List OutputPoint
outputs_of (Adapter t) = t.profile.outputs
outputs_of (Scanner t) = []

-- the value of an output after the events: the bytes that were left there last, or else those of the first table
abbrev pub value_from_scratch : DeviceTable → List Event → ℕ → Option (List ℕ)
value_from_scratch old events point = or_else (last_touched point old events) (bytes_in old point)

-- each output has that value after a run from a whole table
abbrev pub OutputsAreFromScratch : Type 0
OutputsAreFromScratch =
    (old new : DeviceTable) (events : List Event) (outcomes : List Outcome) (point : ℕ) (output : OutputPoint) →
    IsWholeDevice old → Runs old events outcomes new →
    find (is_output_at point) (outputs_of new) ≡ Some output →
    bytes_in new point ≡ value_from_scratch old (performed events outcomes) point

-- the value after a run of a fresh device: the bytes that were left there last, or else zeros
abbrev pub fresh_value : Config → List Event → OutputPoint → List ℕ
fresh_value made events output = unwrap_or (last_touched output.instance (opening_table made) events) (replicate output.len 0)

-- each output has that value after a run of a fresh device whose profile has no fault
abbrev pub FreshOutputsAreFromScratch : Type 0
FreshOutputsAreFromScratch =
    (made : Config) (events : List Event) (outcomes : List Outcome) (t : AdapterTable) (output : OutputPoint) →
    config_fault made ≡ None → Runs (opening_table made) events outcomes (Adapter t) →
    find (is_output_at output.instance) t.profile.outputs ≡ Some output →
    bytes_at t.values output.instance ≡ Some (fresh_value made (performed events outcomes) output)
