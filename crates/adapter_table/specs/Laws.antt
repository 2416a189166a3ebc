-- How each step of an adapter changes a whole table, and the table of a fresh adapter: the laws of whole runs follow
-- from these.
use Rattle.std.specs.Prelude.{ℕ, ◌≡◌, ◌≤◌, ◌+◌, ◌^◌, [], List, find, length, is_some, replicate, true, false, Option, Some, None, Ok, Err}
use Rattle.std.specs.Option.{option_map}
use Rattle.cip_types.specs.declared.names.Node.{Node}
use Rattle.cip_types.specs.declared.names.Ms.{Ms}
use Rattle.cip_types.specs.declared.ids.IdBlock.{IdBlock}
use Rattle.cip_types.specs.Ids.{end_number, may_take}
use Rattle.cip_fwdopen.specs.Open.{OpenFields}
use Rattle.cip_datagram.specs.Datagram.{DatagramFields}
use Rattle.cip_datagram.specs.Header.{header_at}
use Rattle.cip_events.specs.declared.event.Delivery.{Delivery}
use Rattle.cip_events.specs.declared.event.Delivery.TheVariants.{Applied}
use Rattle.cip_events.specs.declared.event.Event.{Event}
use Rattle.cip_events.specs.declared.event.StepFault.{StepFault}
use Rattle.cip_events.specs.Arrivals.{gives_ids}
use Rattle.cip_productions.specs.declared.acceptance.Accepted.{Accepted}
use Rattle.messaging.specs.declared.table.Messaging.{Messaging}
use Rattle.adapter_table.specs.declared.profile.InputPoint.{InputPoint}
use Rattle.adapter_table.specs.declared.profile.OutputPoint.{OutputPoint}
use Rattle.adapter_table.specs.declared.profile.Profile.{Profile}
use Rattle.adapter_table.specs.declared.opening_rates.rates.NodeOpenings.{NodeOpenings}
use Rattle.adapter_table.specs.Connections.{Row}
use Rattle.adapter_table.specs.declared.counters.DeviceCounters.{DeviceCounters}
use Rattle.adapter_table.specs.declared.table.AdapterTable.{AdapterTable}
use Rattle.adapter_table.specs.Counting.{with_counters}
use Rattle.adapter_table.specs.Profiles.{is_at, is_output_at}
use Rattle.adapter_table.specs.Checks.{Admitted, admission, drawn_ids}
use Rattle.adapter_table.specs.Opening.{opened_row, opened_table}
use Rattle.adapter_table.specs.Closing.{closed_table}
use Rattle.adapter_table.specs.Streams.{is_taken, with_stream, without_stream, registered_table}
use Rattle.adapter_table.specs.Datagrams.{row_delivery, run_data, accepted_table, is_for}
use Rattle.adapter_table.specs.Shapes.{len_in, len_of}
use Rattle.adapter_table.specs.Ticks.{clocked_table, expired_table, produced_table}
use Rattle.adapter_table.specs.Points.{bytes_at}
use Rattle.adapter_table.specs.Rates.{with_openings}
use Rattle.adapter_table.specs.Requests.{Next}
use Rattle.adapter_table.specs.Step.{adapter_step, adapter_table, written_table, changed_table, taken_table}
use Rattle.adapter_table.specs.Messages.{messages_table}
use Rattle.adapter_table.specs.MessagesSound.{MessagesGoOn}
use Rattle.adapter_table.specs.Sound.{IsSound}
use Rattle.adapter_table.specs.Whole.{ConsumesOutput, IsWhole}
use Rattle.adapter_table.specs.Scratch.{left_at, Leaves}
use Rattle.adapter_table.specs.Newest.{Acceptance, EachAfter, last_accepted, accepted_at, TableRemembers}

-- a step keeps it
abbrev pub StepsKeep : (AdapterTable → Type 0) → Type 0
StepsKeep P = (t : AdapterTable) (event : Event) (next : Next) → adapter_step t event ≡ Ok next → P t → P next.1

-- a step by an event that gives no block of ids leaves the blocks as they are
abbrev pub StepsLeaveIds : Type 0
StepsLeaveIds = (t : AdapterTable) (event : Event) (next : Next) → adapter_step t event ≡ Ok next → gives_ids event ≡ false → next.1.ids ≡ t.ids

-- a step from a whole table leaves at each output what the event says
abbrev pub StepsLeave : Type 0
StepsLeave = (t : AdapterTable) (event : Event) (next : Next) → adapter_step t event ≡ Ok next → IsWhole t → Leaves t event next.1

-- an event that is refused touches no output
abbrev pub RefusalsTouchNothing : Type 0
RefusalsTouchNothing = (point : ℕ) (t : AdapterTable) (event : Event) (fault : StepFault) → adapter_step t event ≡ Err fault → left_at point t event t ≡ None

-- each output of a fresh adapter holds zeros
abbrev pub FreshOutputsAreZeros : Type 0
FreshOutputsAreZeros =
    (profile : Profile) (point : ℕ) (output : OutputPoint) → find (is_output_at point) profile.outputs ≡ Some output →
    bytes_at (adapter_table profile).values point ≡ Some (replicate output.len 0)

-- a datagram that a step accepts on a connection is so related to the last one that the table remembers, and the next
-- table remembers it
abbrev pub StepsAcceptAfter : (Option Accepted → Acceptance → Type 0) → Type 0
StepsAcceptAfter R =
    (opening : ℕ) (last : Option Accepted) (t : AdapterTable) (event : Event) (next : Next) →
    adapter_step t event ≡ Ok next → IsSound t → TableRemembers opening last t →
    EachAfter R last (accepted_at opening t event) × TableRemembers opening (last_accepted last (accepted_at opening t event)) next.1

-- an event that is refused is accepted on no connection
abbrev pub RefusalsAcceptNothing : Type 0
RefusalsAcceptNothing = (opening : ℕ) (t : AdapterTable) (event : Event) (fault : StepFault) → adapter_step t event ≡ Err fault → accepted_at opening t event ≡ []

-- each effect keeps it: a connection is opened, closed, an input written, a datagram accepted, time passes, a stream
-- begins, ends, a session is registered, class 3 connections and waiting requests change, openings are counted, and requests and time-outs
pub record EffectsKeep (P : AdapterTable → Type 0) : Type 0 where
  pub opened : (t : AdapterTable) (peer : Node) (request : OpenFields) (admitted : Admitted) → admission t request ≡ Ok admitted → P t → P (opened_table t (opened_row t peer request admitted) admitted)
  pub closed : (t : AdapterTable) (row : Row) → P t → P (closed_table t row)
  pub written : (t : AdapterTable) (point : ℕ) (bytes : List ℕ) (input : InputPoint) → find (is_at point) t.profile.inputs ≡ Some input → length bytes ≡ input.len → P t → P (changed_table (written_table t point bytes) point)
  pub fed : (t : AdapterTable) (peer : Node) (d : DatagramFields) (row : Row) (delivery : Delivery) → row_delivery t.profile t.clock row d ≡ delivery → find (is_for peer d.connection) t.rows ≡ Some row → P t → P (accepted_table t peer d row delivery)
  pub advanced : (t : AdapterTable) (ms : ℕ) → t.clock.0 + ms ≤ 2 ^ 48 → P t → P (produced_table (expired_table (clocked_table t ms)))
  pub streamed : (t : AdapterTable) (number : ℕ) (peer : Node) → is_taken t.streams number ≡ false → P t → P (with_stream t number peer)
  pub unstreamed : (t : AdapterTable) (number : ℕ) → P t → P (without_stream t number)
  pub registered : (t : AdapterTable) (number : ℕ) → P t → P (registered_table t number)
  pub messaged : (t : AdapterTable) (next_id : ℕ) (m : Messaging) → MessagesGoOn t next_id m → P t → P (messages_table t next_id m)
  pub counted : (t : AdapterTable) (openings : List NodeOpenings) → P t → P (with_openings t openings)
  pub tallied : (t : AdapterTable) (counters : DeviceCounters) → P t → P (with_counters t counters)
  pub taken : (t : AdapterTable) (block : IdBlock) → may_take t.ids block ≡ true → P t → P (taken_table t block)

-- the times and the id of an admitted request
pub record IsTimed (t : AdapterTable) (request : OpenFields) (admitted : Admitted) : Type 0 where
  pub multiplier : request.multiplier ≤ 7
  pub o_t_api_ms : admitted.o_t_api_ms ≤ 10000
  pub t_o_api_ms : admitted.t_o_api_ms ≤ 10000
  pub watchdog : admitted.watchdog.0 ≤ 5120000
  pub left : t.next_id + drawn_ids admitted.multicast admitted.group ≤ end_number t.ids
  pub draws : 1 ≤ drawn_ids admitted.multicast admitted.group

-- an admitted request has times within their limits and an id that is left; a data segment that is to be stored is as
-- long as the configuration
abbrev pub AdmittedAreTimed : Type 0
AdmittedAreTimed = (t : AdapterTable) (request : OpenFields) (admitted : Admitted) → admission t request ≡ Ok admitted → IsTimed t request admitted

abbrev pub StoredSegmentsFit : Type 0
StoredSegmentsFit = (t : AdapterTable) (request : OpenFields) (admitted : Admitted) → admission t request ≡ Ok admitted → (bytes : List ℕ) → admitted.segment ≡ Some bytes → option_map len_in t.profile.config ≡ Some (length bytes)

-- data that are applied have an output, and as many bytes
abbrev pub AppliedDataHaveOutputs : Type 0
AppliedDataHaveOutputs = (profile : Profile) (clock : Ms) (row : Row) (d : DatagramFields) → ConsumesOutput profile row → row_delivery profile clock row d ≡ Applied → is_some (find (is_output_at row.consumed) profile.outputs) ≡ true

abbrev pub AppliedDataFit : Type 0
AppliedDataFit = (profile : Profile) (clock : Ms) (row : Row) (d : DatagramFields) → ConsumesOutput profile row → row_delivery profile clock row d ≡ Applied → len_of profile row.consumed ≡ Some (length (run_data (header_at d.payload)))
