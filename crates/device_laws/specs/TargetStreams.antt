-- Streams of a scanner from step to step: an open one was open, or was opened by its event (Volume 2, chapter 2, encapsulation
-- sessions over TCP).
use Rattle.std.specs.Prelude.{◌≡◌, ◌⊎◌, Ok}
use Rattle.std.specs.List.{AllByRecursion, Contains}
use Rattle.cip_events.specs.declared.event.Answer.{Answer}
use Rattle.cip_events.specs.declared.event.Event.{Event}
use Rattle.cip_events.specs.declared.event.Event.TheVariants.{StreamOpened}
use Rattle.scanner_table.specs.declared.table.ScannerTable.{ScannerTable}
use Rattle.scanner_table.specs.declared.table.TargetStream.{TargetStream}
use Rattle.scanner_table.specs.Step.{scanner_step}
use Rattle.cip_tables.specs.declared.table.DeviceTable.TheVariants.{Scanner}
use Rattle.cip_tables.specs.Whole.{IsWholeDevice}

-- a stream of this number and peer was open
pub record WasOpen (t : ScannerTable) (stream : TargetStream) : Type 0 where
  pub old : TargetStream
  pub there : Contains t.streams old
  pub number : stream.number ≡ old.number
  pub peer : stream.peer ≡ old.peer

abbrev pub StreamCame : ScannerTable → Event → TargetStream → Type 0
StreamCame t event stream = WasOpen t stream ⊎ (event ≡ StreamOpened stream.number stream.peer)

-- each stream of a scanner's next table was open, or came with the event
abbrev pub StreamsComeWithEvents : Type 0
StreamsComeWithEvents =
    (t : ScannerTable) (event : Event) (answer : Answer) (next : ScannerTable) →
    scanner_step t event ≡ Ok (answer, next) → IsWholeDevice (Scanner t) → AllByRecursion (StreamCame t event) next.streams
