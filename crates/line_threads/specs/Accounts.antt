-- What the receipts of a device say of its script.
use Rattle.std.specs.Prelude.{◌≡◌, ◌==◌, ℕ, List, map, filter, All}
use Rattle.cip_events.specs.declared.event.Event.{Event}
use Rattle.device_lock.specs.declared.receipt.Receipt.{Receipt}
use Rattle.device_lock.specs.Histories.{HistoryValue}
use Rattle.settling.specs.Search.Histories.{byte_in}
use Rattle.line_threads.specs.Scripts.{is_local}

abbrev pub event_of : Receipt → Event
event_of r = r.event

-- the events of the application and of time, in order
abbrev pub own_events : List Receipt → List Event
own_events rs = filter is_local (map event_of rs)

-- the receipts of one device, which is given by its incarnation byte
abbrev pub of_device : ℕ → List Receipt → List Receipt
of_device byte rs = filter (λ r. r.device == byte) rs

-- the events of which a device has receipts, in the order of the receipts
abbrev pub events_reported : ℕ → List Receipt → List Event
events_reported byte rs = map event_of (of_device byte rs)

-- all these are receipts of the device
abbrev pub AreOf : ℕ → List Receipt → Type 0
AreOf byte rs = All (λ r. r.device ≡ byte) rs

-- These are receipts of the device, and those of its application and of time are for the events of the script, in order
-- and each once.
pub record IsAccount (byte : ℕ) (script : List Event) (rs : List Receipt) : Type 0 where
  pub own : own_events rs ≡ script
  pub of : AreOf byte rs

-- the new list has more receipts of the device, none of them of its application or of time
pub record AddsArrivals (byte : ℕ) (old new : List Receipt) : Type 0 where
  pub own : own_events new ≡ own_events old
  pub of : AreOf byte old → AreOf byte new

-- HISTORIES

-- the device's receipts are for the events of its history, in order and each once
abbrev pub HasItsReceipts : List Receipt → HistoryValue → Type 0
HasItsReceipts rs h = events_reported (byte_in h) rs ≡ h.events

-- what the application of a device did, and the passing of time, in order: its history without what arrived
abbrev pub own_in : HistoryValue → List Event
own_in h = filter is_local h.events
