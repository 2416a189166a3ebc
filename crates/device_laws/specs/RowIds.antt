-- Connections of an adapter from step to step: one that stays keeps its ids, its peer and its producer; one that is new was
-- opened by a request of the stream's peer. And streams: an open one was opened by its event (Volume 1, chapter 3, Forward_Open
-- service, network connection ids).
use Rattle.std.specs.Prelude.{ℕ, ◌≡◌, ◌⊎◌, ◌+◌, ◌<◌, true, false, List, find, Some, Ok}
use Rattle.std.specs.List.{AllByRecursion, Contains}
use Rattle.cip_types.specs.declared.names.Node.{Node}
use Rattle.cip_events.specs.declared.event.Answer.{Answer}
use Rattle.cip_events.specs.declared.event.Event.{Event}
use Rattle.cip_events.specs.declared.event.Event.TheVariants.{Request, StreamOpened}
use Rattle.cip_events.specs.declared.event.Event.TheVariants as event
use Rattle.cip_fwdopen.specs.Open.{OpenFields}
use Rattle.adapter_table.specs.Connections.{Row}
use Rattle.adapter_table.specs.declared.table.AdapterTable.{AdapterTable}
use Rattle.adapter_table.specs.declared.table.Stream.{Stream}
use Rattle.adapter_table.specs.Checks.{is_multicast}
use Rattle.adapter_table.specs.Newest.{was_opened_as}
use Rattle.cip_types.specs.Ids.{id_at}
use Rattle.adapter_table.specs.Productions.{producer_of}
use Rattle.adapter_table.specs.Rows.{is_established}
use Rattle.adapter_table.specs.Step.{adapter_step}
use Rattle.adapter_table.specs.Streams.{is_stream}
use Rattle.adapter_table.specs.Whole.{IsWhole}
use Rattle.device_laws.specs.Frames.{IsOpening}

-- the connection as it was, or timed out; what it accepted and produced may be more
pub record IsSameRow (old row : Row) : Type 0 where
  pub opening : row.opening ≡ old.opening
  pub peer : row.peer ≡ old.peer
  pub kind : row.kind ≡ old.kind
  pub consumed : row.consumed ≡ old.consumed
  pub produced : row.produced ≡ old.produced
  pub o_t : row.o_t_id ≡ old.o_t_id
  pub t_o : row.t_o_id ≡ old.t_o_id
  pub established : is_established row ≡ true → is_established old ≡ true
  pub producer : is_established row ≡ true → producer_of row.state ≡ producer_of old.state

pub record WasThere (t : AdapterTable) (row : Row) : Type 0 where
  pub old : Row
  pub there : Contains t.rows old
  pub same : IsSameRow old row

-- the one new connection, of this peer
pub record IsNewOf (t next : AdapterTable) (peer : Node) (row : Row) : Type 0 where
  pub new : find (was_opened_as t.next_id) next.rows ≡ Some row
  pub peer_is : row.peer ≡ peer

-- it joins the group of a multicast connection that is established
pub record Joins (t : AdapterTable) (row : Row) : Type 0 where
  pub member : Row
  pub there : Contains t.rows member
  pub established : is_established member ≡ true
  pub multicast : member.multicast ≡ true
  pub t_o : row.t_o_id ≡ member.t_o_id
  pub producer : producer_of row.state ≡ producer_of member.state

-- it starts a group: its T->O id is the second that the opening draws
pub record StartsGroup (t next : AdapterTable) (row : Row) : Type 0 where
  pub t_o : row.t_o_id ≡ id_at next.ids (t.next_id + 1)
  pub producer : producer_of row.state ≡ t.next_id
  pub drawn : t.next_id + 1 < next.next_id

-- it is point to point: its T->O id is the requested one
pub record IsSingle (t : AdapterTable) (request : OpenFields) (row : Row) : Type 0 where
  pub single : is_multicast request.t_o_params.kind ≡ false
  pub t_o : row.t_o_id ≡ request.t_o_id
  pub producer : producer_of row.state ≡ t.next_id

-- where a new connection has its T->O id and its producer from
abbrev pub IsProduced : AdapterTable → AdapterTable → OpenFields → Row → Type 0
IsProduced t next request row = Joins t row ⊎ (StartsGroup t next row ⊎ IsSingle t request row)

-- of the peer of the stream over which the request came, as the frame can be read
pub record IsNewOver (t next : AdapterTable) (number : ℕ) (bytes : List ℕ) (row : Row) : Type 0 where
  pub stream : Stream
  pub found : find (is_stream number) t.streams ≡ Some stream
  pub new : IsNewOf t next stream.peer row
  pub request : OpenFields
  pub requested : IsOpening bytes request
  pub produced : IsProduced t next request row

abbrev pub IsNewRow : AdapterTable → AdapterTable → Event → Row → Type 0
IsNewRow t next (Request peer bytes) row = IsNewOf t next peer row
IsNewRow t next (event.Frame number bytes) row = IsNewOver t next number bytes row
IsNewRow t next other row = ⊥

abbrev pub RowCame : AdapterTable → AdapterTable → Event → Row → Type 0
RowCame t next event row = WasThere t row ⊎ IsNewRow t next event row

-- a stream of this number and peer was open
pub record WasOpen (t : AdapterTable) (stream : Stream) : Type 0 where
  pub old : Stream
  pub there : Contains t.streams old
  pub number : stream.number ≡ old.number
  pub peer : stream.peer ≡ old.peer

abbrev pub StreamCame : AdapterTable → Event → Stream → Type 0
StreamCame t event stream = WasOpen t stream ⊎ (event ≡ StreamOpened stream.number stream.peer)

pub record Came (t next : AdapterTable) (event : Event) : Type 0 where
  pub rows : AllByRecursion (RowCame t next event) next.rows
  pub streams : AllByRecursion (StreamCame t event) next.streams

-- each connection and each stream of an adapter's next table was there, or came with the event
abbrev pub ConnectionsKeepTheirIds : Type 0
ConnectionsKeepTheirIds =
    (t : AdapterTable) (event : Event) (answer : Answer) (next : AdapterTable) →
    adapter_step t event ≡ Ok (answer, next) → IsWhole t → Came t next event
