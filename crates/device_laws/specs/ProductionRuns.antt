-- What a device alone produces over a list of events, and which opening each connection of a scanner's slots came from
-- (Volume 1, chapter 3, class 1 transport).
use Rattle.std.specs.Prelude.{ℕ, ◌≡◌, List, [], ◌∷◌, Option, Some, None, Result, Ok, Err}
use Rattle.cip_events.specs.declared.event.Event.{Event}
use Rattle.cip_events.specs.declared.event.StepFault.{StepFault}
use Rattle.scanner_table.specs.declared.slot.SlotState.{SlotState}
use Rattle.scanner_table.specs.declared.slot.SlotState.TheVariants.{Idle, Opening, Established, TimedOut, Closing}
use Rattle.scanner_table.specs.declared.table.ScannerTable.{ScannerTable}
use Rattle.scanner_table.specs.Slots.{IndexedSlot, slot_at}
use Rattle.scanner_table.specs.Runs.{HoldsFromFresh}
use Rattle.cip_tables.specs.declared.table.Config.{Config}
use Rattle.cip_tables.specs.declared.table.DeviceTable.{DeviceTable}
use Rattle.cip_tables.specs.Run.{table_of}
use Rattle.cip_tables.specs.Step.{DeviceNext, config_fault, opening_table, step}
use Rattle.device_laws.specs.Made.{makes}
use Rattle.device_laws.specs.Productions.{Production, produced_more, AreInOrder}

-- PRODUCTIONS OF A RUN

-- an event that is refused makes none
abbrev pub produced_unless : ℕ → List Production → DeviceTable → Event → Result DeviceNext StepFault → List Production
produced_unless device produced t event (Err fault) = produced
produced_unless device produced t event (Ok next) = produced_more device produced (makes t event)

-- the productions, with what the device makes after them at these events
abbrev pub productions : ℕ → List Production → DeviceTable → List Event → List Production
productions device produced t [] = produced
productions device produced t (event ∷ events) = productions device (produced_unless device produced t event (step t event)) (table_of t (step t event)) events

-- over every run of a fresh device productions are in order
abbrev pub RunsProduceInOrder : Type 0
RunsProduceInOrder =
    (device : ℕ) (made : Config) (events : List Event) → config_fault made ≡ None → AreInOrder (productions device [] (opening_table made) events)

-- OPENINGS OF SLOTS

-- the request number of the opening that a slot waits for, or that its connection came from
abbrev pub opening_number : SlotState → Option ℕ
opening_number Idle = None
opening_number (Opening o) = Some o.request
opening_number (Established c) = Some c.opening
opening_number (TimedOut link) = None
opening_number (Closing c) = None

-- no two slots have one opening number
abbrev pub OpeningsDiffer : ScannerTable → Type 0
OpeningsDiffer t =
    (a b : IndexedSlot) (opening : ℕ) → slot_at t a.number ≡ Some a → slot_at t b.number ≡ Some b →
    opening_number a.slot.state ≡ Some opening → opening_number b.slot.state ≡ Some opening → a.number ≡ b.number

-- so it is over every run of a fresh scanner
abbrev pub SlotsHaveOpeningsOfTheirOwn : Type 0
SlotsHaveOpeningsOfTheirOwn = HoldsFromFresh OpeningsDiffer
