-- Books: what a device was when a segment began, the events that it has answered since, and one event more.
use Rattle.std.specs.Prelude.{ℕ, ◌≡◌, ◌<◌, ◌+◌, List, [], ◌∷◌, ◌++◌, length, Ok, Err}
use Rattle.cip_events.specs.declared.event.Event.{Event}
use Rattle.cip_events.specs.declared.event.StepFault.TheVariants.{OutOfMemory}
use Rattle.cip_tables.specs.declared.table.DeviceTable.{DeviceTable}
use Rattle.cip_tables.specs.Step.{step, incarnation_of}
use Rattle.cip_tables.specs.Run.{table_after}
use Rattle.device_lock.specs.declared.receipt.BookFault.{BookFault}
use Rattle.device_lock.specs.declared.receipt.BookFault.TheVariants.{Step, TraceFull}
use Rattle.device_lock.specs.declared.receipt.Receipt.{Receipt}

-- the table at the beginning of the present segment, the events of the segment, and how many segments went before
pub record BookValue : Type 0 where
  pub opening : DeviceTable
  pub events : List Event
  pub segment : ℕ

-- how many events a segment holds
abbrev pub most_events : ℕ
most_events = 1048576

-- the device's table: the replay of the stored events
abbrev pub present : BookValue → DeviceTable
present b = table_after b.opening b.events

-- the book with one event more
abbrev pub with_event : BookValue → Event → BookValue
with_event b event = record b { events = b.events ++ event ∷ [] }

-- what is left of the book when its segment is handed out: it begins anew with the present table
abbrev pub rotated : BookValue → BookValue
rotated b = record { opening = present b; events = []; segment = b.segment + 1 }

-- The receipt of an event: the device that the book is of, where the event stands, the event, and what the
-- step of the present table answers.
pub record IsReceipt (b : BookValue) (event : Event) (r : Receipt) : Type 0 where
  pub device : r.device ≡ incarnation_of b.opening
  pub segment : r.segment ≡ b.segment
  pub index : r.index ≡ length b.events
  pub event_is : r.event ≡ event
  pub answer : step (present b) event ≡ Ok (r.answer, present (with_event b event))

-- Why the book refuses the event, in order: a full segment; no memory for the event or for the answer; the fault of
-- the step of the present table.
abbrev pub IsRefused : BookValue → Event → BookFault → Type 0
IsRefused b event TraceFull = length b.events ≡ most_events
IsRefused b event (Step OutOfMemory) = length b.events < most_events
IsRefused b event (Step fault) = (length b.events < most_events) × (step (present b) event ≡ Err fault)
