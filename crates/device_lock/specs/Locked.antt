-- Locks: what a receipt says that was made under one.
use Rattle.std.specs.Prelude.{◌≡◌, ℕ, length, Ok}
use Rattle.cip_events.specs.declared.event.Event.{Event}
use Rattle.cip_tables.specs.Step.{step}
use Rattle.device_lock.specs.Books.{BookValue, present, with_event}
use Rattle.device_lock.specs.declared.receipt.Receipt.{Receipt}

-- the receipt is of this device and of this event
pub record IsReceiptOf (device : ℕ) (event : Event) (r : Receipt) : Type 0 where
  pub device_is : r.device ≡ device
  pub event_is : r.event ≡ event

-- The receipt of an event at a book under a lock, in the name of a device: where the event stands in that book, the
-- event, and what the step of the book's table answers.
pub record IsSignedReceipt (device : ℕ) (b : BookValue) (event : Event) (r : Receipt) : Type 0 where
  pub device_is : r.device ≡ device
  pub segment : r.segment ≡ b.segment
  pub index : r.index ≡ length b.events
  pub event_is : r.event ≡ event
  pub answer : step (present b) event ≡ Ok (r.answer, present (with_event b event))
