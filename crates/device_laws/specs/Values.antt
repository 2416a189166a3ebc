-- What a scanner's production carries: what the output of its slot holds as it is made, and the mode (Volume 1, chapter 3,
-- class 1 transport, real time formats).
use Rattle.std.specs.Prelude.{◌≡◌, true, Some}
use Rattle.std.specs.List.{AllByRecursion}
use Rattle.cip_events.specs.declared.event.Event.{Event}
use Rattle.scanner_table.specs.declared.table.ScannerTable.{ScannerTable}
use Rattle.scanner_table.specs.Slots.{IndexedSlot, slot_at}
use Rattle.device_laws.specs.Newest.{came_from}
use Rattle.device_laws.specs.Made.{Made, scanner_makes}

-- a slot of the table made it: the slot's connection came from the production's opening, and its output is the value
pub record IsMadeBy (t : ScannerTable) (place : IndexedSlot) (m : Made) : Type 0 where
  pub there : slot_at t place.number ≡ Some place
  pub opening : came_from m.number place.slot.state ≡ true
  pub value : m.value ≡ place.slot.output
  pub run : m.run ≡ t.run

pub record IsSlots (t : ScannerTable) (m : Made) : Type 0 where
  pub place : IndexedSlot
  pub made : IsMadeBy t place m

-- So it is of all that a scanner makes at an event: an output is the same just before the event.
abbrev pub SlotsProduceTheirOutputs : Type 0
SlotsProduceTheirOutputs = (t : ScannerTable) (event : Event) → AllByRecursion (IsSlots t) (scanner_makes t event)
