-- The memory that any answer needs, and the device among others that performs an event.
use Rattle.std.specs.Prelude.{◌≡◌, ◌≤◌, ℕ, List, set, slice_get, Some, Ok, IfOk}
use Rattle.cip_types.specs.declared.names.Node.{Node}
use Rattle.cip_events.specs.Answers.{plain_answer}
use Rattle.cip_events.specs.Outcomes.{Outcome, Follows}
use Rattle.cip_events.specs.declared.event.Delivery.{Delivery}
use Rattle.cip_events.specs.declared.event.Event.{Event}
use Rattle.cip_events.specs.declared.event.Event.TheVariants.{Datagram}
use Rattle.cip_events.specs.declared.event.Verdict.TheVariants.{Delivered}
use Rattle.cip_tables.specs.declared.table.DeviceTable.{DeviceTable}
use Rattle.cip_tables.specs.Step.{step}
use Rattle.answer_sizes.specs.Sizes.{IsSmall}
use Rattle.segment_world.specs.Transit.Log.{Log}
use Rattle.segment_world.specs.Transit.Queues.{Queues}

-- memory for 64 frames and 64 datagrams of 2,048 bytes each
pub record HasSpace (log : Log) (queues : Queues) : Type 0 where
  pub texts : 64 ≤ log.texts
  pub bytes : 131072 ≤ log.bytes
  pub frames : 64 ≤ queues.space

-- the device of this index performed the event, with this outcome; the other devices stay
pub record CameTo (old : List DeviceTable) (device : ℕ) (event : Event) (outcome : Outcome) (new : List DeviceTable) : Type 0 where
  pub before : DeviceTable
  pub after : DeviceTable
  pub is : slice_get old device ≡ Some before
  pub follows : Follows (step before event) before outcome after
  pub leaves : new ≡ set old device after
  pub small : IfOk outcome IsSmall

-- the device of this index received the datagram, with this delivery; the other devices stay
pub record WasDelivered (old : List DeviceTable) (device : ℕ) (peer : Node) (bytes : List ℕ) (delivery : Delivery) (new : List DeviceTable) : Type 0 where
  pub before : DeviceTable
  pub after : DeviceTable
  pub is : slice_get old device ≡ Some before
  pub follows : step before (Datagram peer bytes) ≡ Ok (plain_answer (Delivered delivery), after)
  pub leaves : new ≡ set old device after
