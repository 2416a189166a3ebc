-- Over which streams a device sends: those that are open in its table, and the one that the event opens (Volume 2, chapter 2,
-- encapsulation sessions over TCP).
use Rattle.std.specs.Prelude.{ℕ, ◌≡◌, ◌==◌, ◌||◌, Bool, true, false, Ok}
use Rattle.std.specs.List.{AllByRecursion, list_any}
use Rattle.cip_events.specs.declared.event.Answer.{Answer}
use Rattle.cip_events.specs.declared.event.Event.{Event}
use Rattle.cip_events.specs.declared.event.Event.TheVariants.{StreamOpened}
use Rattle.cip_events.specs.declared.event.Frame.{Frame}
use Rattle.cip_events.specs.declared.event.Recipient.TheVariants as recipient
use Rattle.adapter_table.specs.Streams as adapters
use Rattle.scanner_table.specs.Sessions as scanners
use Rattle.cip_tables.specs.declared.table.DeviceTable.{DeviceTable}
use Rattle.cip_tables.specs.declared.table.DeviceTable.TheVariants.{Adapter, Scanner}
use Rattle.cip_tables.specs.Step.{step}
use Rattle.cip_tables.specs.Whole.{IsWholeDevice}

-- a stream of this number is open in the device's table
abbrev pub has_stream : DeviceTable → ℕ → Bool
has_stream (Adapter t) number = list_any (adapters.is_stream number) t.streams
has_stream (Scanner t) number = list_any (scanners.is_stream number) t.streams

-- the event is the mark that the stream of this number opens
abbrev pub opens_stream : ℕ → Event → Bool
opens_stream number (StreamOpened stream peer) = stream == number
opens_stream number other = false

-- a frame that goes over a stream goes over an open stream of the table, or over the one that the event opens
abbrev pub GoesOverItsOwn : DeviceTable → Event → Frame → Type 0
GoesOverItsOwn t happens frame = (number : ℕ) → frame.to ≡ recipient.Stream number → (has_stream t number || opens_stream number happens) ≡ true

-- So it is of each frame that a device sends. So a device without the mark that a stream has opened cannot send on it.
abbrev pub DevicesSendOverTheirStreams : Type 0
DevicesSendOverTheirStreams =
    (t : DeviceTable) (happens : Event) (answer : Answer) (next : DeviceTable) →
    step t happens ≡ Ok (answer, next) → IsWholeDevice t → AllByRecursion (GoesOverItsOwn t happens) answer.frames
