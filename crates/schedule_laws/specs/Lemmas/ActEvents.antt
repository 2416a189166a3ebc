-- What a datagram of a production is read as; the event that an act is.
use Rattle.std.proofs.Common.{◌≡◌, ℕ, slice_get, Option, Some, None, Result, Ok, Err, sym, ap}
use Rattle.std.proofs.lemmas.Option.{same_Some}
use Rattle.cip_events.specs.declared.event.Event.{Event}
use Rattle.cip_events.specs.declared.event.StepFault.{StepFault}
use Rattle.cip_tables.specs.declared.table.DeviceTable.{DeviceTable}
use Rattle.cip_tables.specs.Step.{DeviceNext, step}
use Rattle.segment_world.specs.World.{World, ReportedEvent, Happened, event_at_device, event_at_table, after_device_step}

-- ---- what is reported of an event that comes to a device

pub record IsEventOf (device : ℕ) (event : Event) (reported : ReportedEvent) : Type 0 where
  pub device_is : reported.device ≡ device
  pub event_is : reported.event ≡ event

abbrev pub first_event : Happened → Option ReportedEvent
first_event (Err why) = None
first_event (Ok done) = done.0

event_so : (device : ℕ) (event : Event) (w : World) (said : Result DeviceNext StepFault) (reported : ReportedEvent) (new : World) → after_device_step device event w said ≡ Ok (Some reported, new) → IsEventOf device event reported
event_so device event w (Err why) reported new is = absurd (let e = is in cc)
event_so device event w (Ok next) reported new is =
    let same = same_Some (record { device = device; event = event; answer = next.0 }) reported (ap first_event is) in
    record { device_is = ap (λ (t : ReportedEvent). t.device) (sym same); event_is = ap (λ (t : ReportedEvent). t.event) (sym same) }

event_to : (device : ℕ) (event : Event) (w : World) (found : Option DeviceTable) (reported : ReportedEvent) (new : World) → event_at_table device event w found ≡ Ok (Some reported, new) → IsEventOf device event reported
event_to device event w None reported new is = absurd (let e = is in cc)
event_to device event w (Some t) reported new is = event_so device event w (step t event) reported new is

pub event_is_at_device : (device : ℕ) (event : Event) (w : World) (reported : ReportedEvent) (new : World) → event_at_device device event w ≡ Ok (Some reported, new) → IsEventOf device event reported
event_is_at_device device event w reported new is = event_to device event w (slice_get w.tables device) reported new is
