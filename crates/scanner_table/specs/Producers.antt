-- The producers of slots.
use Rattle.std.specs.Prelude.{ℕ, ◌≡◌}
use Rattle.cip_types.specs.declared.names.Node.{Node}
use Rattle.scanner_table.specs.declared.slot.SlotState.{SlotState}
use Rattle.scanner_table.specs.declared.slot.SlotState.TheVariants.{Idle, Opening, Established, TimedOut, Closing}
use Rattle.scanner_table.specs.declared.table.ScannerTable.{ScannerTable}
use Rattle.scanner_table.specs.Slots.{IndexedSlot}
use Rattle.scanner_table.specs.Runs.{OfEachSlot}

-- a connection's producer has this number, and sends to this node
abbrev pub StateProducesAs : ℕ → Node → SlotState → Type 0
StateProducesAs number target Idle = Unit {0}
StateProducesAs number target (Opening o) = Unit {0}
StateProducesAs number target (Established c) = (c.production.producer ≡ number) × (c.production.address ≡ target)
StateProducesAs number target (TimedOut link) = Unit {0}
StateProducesAs number target (Closing c) = Unit {0}

-- the number is the slot's, and the node its target
abbrev pub ProducesAsItself : IndexedSlot → Type 0
ProducesAsItself indexed = StateProducesAs indexed.number indexed.config.target indexed.slot.state

-- each slot produces by its own number, for its own target
abbrev pub SlotsProduceAsThemselves : ScannerTable → Type 0
SlotsProduceAsThemselves t = OfEachSlot ProducesAsItself t
