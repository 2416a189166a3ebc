-- Opening a connection: which connection it replaces, the new one, and the table after it
-- (Volume 1, chapter 3, Forward_Open, connection ids and first watchdog; Volume 2, chapter 3, multicast
-- address allocation).
use Rattle.std.specs.Prelude.{ℕ, ◌+◌, ◌-◌, ◌%◌, ◌*◌, ◌==◌, nat_le, Bool, true, false, if◌then◌else◌, List, [], ◌∷◌, ◌++◌, length, find, Option, Some, None}
use Rattle.std.specs.Option.{option_map}
use Rattle.std.specs.List.{list_any, position_or_len}
use Rattle.cip_types.specs.declared.names.Triad.{Triad}
use Rattle.cip_types.specs.declared.names.Node.{Node}
use Rattle.cip_types.specs.Ids.{id_at}
use Rattle.cip_types.specs.declared.names.ConnId.{ConnId}
use Rattle.cip_fwdopen.specs.Open.{OpenFields}
use Rattle.cip_fwdopen.specs.declared.reply.Opened.{Opened}
use Rattle.cip_events.specs.declared.event.Notice.{Notice}
use Rattle.cip_events.specs.declared.event.Notice.TheVariants as notice
use Rattle.adapter_table.specs.declared.profile.InputPoint.{InputPoint}
use Rattle.adapter_table.specs.declared.profile.Profile.{Profile}
use Rattle.adapter_table.specs.Connections.{Row}
use Rattle.cip_productions.specs.declared.production.Production.{Production}
use Rattle.adapter_table.specs.declared.row.State.{State}
use Rattle.adapter_table.specs.declared.row.State.TheVariants.{Established, TimedOut}
use Rattle.adapter_table.specs.declared.table.PointValue.{PointValue}
use Rattle.adapter_table.specs.declared.table.AdapterTable.{AdapterTable}
use Rattle.adapter_table.specs.Profiles.{host_id, is_at}
use Rattle.adapter_table.specs.Points.{put_value}
use Rattle.adapter_table.specs.Rates.{counted_at}
use Rattle.adapter_table.specs.Rows.{most_rows, has_triad, is_timed_out, others}
use Rattle.adapter_table.specs.Checks.{Admitted, drawn_ids}
use Rattle.cip_productions.specs.Productions.{first_production}
use Rattle.cip_productions.specs.Watchdog.{first_deadline}
use Rattle.cip_productions.specs.Window.{pace_of}

-- THE CONNECTION THAT IS REPLACED

-- the connection has the opening number of the one that is found
abbrev pub is_opened_as : Option Row → Row → Bool
is_opened_as None row = false
is_opened_as (Some found) row = row.opening == found.opening

-- A new connection replaces the timed-out one of the same triad. If there is none, and 64 connections leave no
-- capacity, it replaces the first timed-out one.
abbrev pub is_replaced_by : Bool → Bool → Option Row → Triad → Row → Bool
is_replaced_by true full first triad row = has_triad triad row
is_replaced_by false true first triad row = is_opened_as first row
is_replaced_by false false first triad row = false

-- a new connection of this triad replaces the connection
abbrev pub is_replaced : List Row → Triad → Row → Bool
is_replaced rows triad row =
    is_replaced_by (list_any (has_triad triad) rows) (nat_le most_rows (length rows)) (find is_timed_out rows) triad row

abbrev pub triad_of : Row → Triad
triad_of row = row.triad

-- the triad of the connection that is replaced
abbrev pub replaced_triad : List Row → Triad → Option Triad
replaced_triad rows triad = option_map triad_of (find (is_replaced rows triad) rows)

-- THE NEW CONNECTION

-- the multicast addresses of a device begin at 239.192.1.0, 32 for each host id; each input has the one of its index
abbrev pub multicast_address : Profile → ℕ → Node
multicast_address profile point = record {
  0 = 0xEFC00100 + 32 * ((host_id profile.node.0 profile.mask - 1) % 1024) + position_or_len (is_at point) profile.inputs;
}

-- the address that a producer sends to: its group, or its one consumer
abbrev pub address_of : Profile → Node → Bool → ℕ → Node
address_of profile peer multicast point = if multicast then multicast_address profile point else peer

-- the producer that a new connection starts
abbrev pub opened_production : AdapterTable → Node → Admitted → Production
opened_production t peer admitted = first_production t.clock t.next_id (address_of t.profile peer admitted.multicast admitted.produced) admitted.trigger admitted.inhibit

-- a joining connection shares the producer of its group; another connection starts one
abbrev pub opened_state : AdapterTable → Node → Admitted → Option Row → State
opened_state t peer admitted None = Established (opened_production t peer admitted)
opened_state t peer admitted (Some member) = member.state

-- A joining connection has the T->O id of its group. For a new group the adapter chooses the id, the second that it
-- draws; for a point to point connection the originator chooses it.
abbrev pub opened_t_o_id : AdapterTable → OpenFields → Bool → Option Row → ConnId
opened_t_o_id t request multicast None = if multicast then id_at t.ids (t.next_id + 1) else request.t_o_id
opened_t_o_id t request multicast (Some member) = member.t_o_id

-- the connection that an admitted request opens
unfoldable pub opened_row : AdapterTable → Node → OpenFields → Admitted → Row
opened_row t peer request admitted = record {
  triad = request.triad;
  peer = peer;
  kind = admitted.kind;
  consumed = admitted.consumed;
  produced = admitted.produced;
  o_t_id = id_at t.ids t.next_id;
  t_o_id = opened_t_o_id t request admitted.multicast admitted.group;
  o_t_api_ms = admitted.o_t_api_ms;
  t_o_api_ms = admitted.t_o_api_ms;
  o_t_pace_ms = pace_of admitted.trigger admitted.o_t_api_ms admitted.inhibit;
  watchdog = admitted.watchdog;
  multicast = admitted.multicast;
  opening = t.next_id;
  last = None;
  mode = None;
  deadline = first_deadline t.clock admitted.watchdog.0;
  state = opened_state t peer admitted admitted.group;
}

-- THE TABLE AFTER IT

-- the values with the data segment at the configuration, if there is one to store
abbrev pub configured : Option InputPoint → Option (List ℕ) → List PointValue → List PointValue
configured None segment values = values
configured (Some config) None values = values
configured (Some config) (Some segment) values = put_value config.instance segment values

-- the replaced connection is removed, the new one is the last, its data segment is stored, its ids are drawn, its opening is
-- counted
unfoldable pub opened_table : AdapterTable → Row → Admitted → AdapterTable
opened_table t row admitted = record t {
  rows = others (is_replaced t.rows row.triad) t.rows ++ row ∷ [];
  values = configured t.profile.config admitted.segment t.values;
  next_id = t.next_id + drawn_ids admitted.multicast admitted.group;
  openings = counted_at t row.peer;
}

-- THE REPLY AND THE NOTICES

-- the ids, and the actual packet intervals in microseconds
abbrev pub opened_reply : Row → Opened
opened_reply row = record {
  o_t_id = row.o_t_id;
  t_o_id = row.t_o_id;
  triad = row.triad;
  o_t_api_us = 1000 * row.o_t_api_ms;
  t_o_api_us = 1000 * row.t_o_api_ms;
}

-- the address that a producer sends to
abbrev pub state_address : State → Option Node
state_address (Established production) = Some production.address
state_address TimedOut = None

-- the address of a multicast connection's datagrams
abbrev pub opened_address : Row → Option Node
opened_address row = if row.multicast then state_address row.state else None

abbrev pub replaced_notices : Option Triad → List Notice
replaced_notices None = []
replaced_notices (Some triad) = notice.Replaced triad ∷ []

abbrev pub opened_notices : List Row → Row → List Notice
opened_notices rows row = replaced_notices (replaced_triad rows row.triad) ++ notice.Opened row.triad row.o_t_id ∷ []
