-- The results of this crate's functions, in terms of the table's definitions.
use Rattle.std.specs.Prelude.{Result, Ok, Err, Some}
use Rattle.std.specs.Borrow.{Bor}
use Rattle.cip_datagram.specs.Datagram.{DatagramFields}
use Rattle.cip_events.specs.declared.event.Delivery.{Delivery}
use Rattle.cip_events.specs.declared.event.StepFault.{StepFault}
use Rattle.cip_events.specs.declared.event.Verdict.TheVariants.{Done}
use Rattle.cip_events.specs.Answers.{plain_answer}
use Rattle.scanner_table.specs.declared.slot.SlotConnection.{SlotConnection}
use Rattle.cip_types.specs.declared.names.Ms.{Ms}
use Rattle.scanner_table.specs.declared.slot.SlotState.{SlotState}
use Rattle.scanner_table.specs.declared.slot.SlotState.TheVariants.{Idle, Opening, Established, TimedOut, Closing}
use Rattle.scanner_table.specs.declared.table.ScannerTable.{ScannerTable}
use Rattle.scanner_table.specs.Slots.{IndexedSlot}
use Rattle.scanner_table.specs.Effects.{Next}
use Rattle.scanner_table.specs.Datagrams.{delivered, accepted}

-- the error is the delivery of a datagram that is not accepted; otherwise the connection accepts it
abbrev pub judged : ScannerTable → IndexedSlot → DatagramFields → Result SlotConnection Delivery → Next
judged t indexed d (Err delivery) = delivered delivery t
judged t indexed d (Ok connection) = accepted t indexed d connection

-- the connection, wherever it is in memory, or the delivery
abbrev pub view_judgement : Result (Bor SlotConnection) Delivery → Result SlotConnection Delivery
view_judgement (Ok connection) = Ok connection.now
view_judgement (Err delivery) = Err delivery

-- the connection after it has accepted a datagram, with this deadline
abbrev pub recorded : Ms → DatagramFields → SlotConnection → SlotConnection
recorded deadline d c = record c { last = Some (record { number = d.sequence; count = d.count }); deadline = deadline }

-- the same of the state of a slot
abbrev pub recorded_state : Ms → DatagramFields → SlotState → SlotState
recorded_state deadline d Idle = Idle
recorded_state deadline d (Opening o) = Opening o
recorded_state deadline d (Established c) = Established (recorded deadline d c)
recorded_state deadline d (TimedOut link) = TimedOut link
recorded_state deadline d (Closing c) = Closing c

-- a change without an answer, as a step
abbrev pub done_or : Result (Unit {0}) StepFault → ScannerTable → Result Next StepFault
done_or (Ok nothing) t = Ok (plain_answer Done, t)
done_or (Err why) t = Err why
