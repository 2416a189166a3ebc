-- Opening a class 3 connection: its checks, the connection, and the table after it (Volume 1, chapter 3, Forward_Open,
-- transport class 3, and the Connection Manager's extended status codes).
use Rattle.std.specs.Prelude.{ℕ, ◌+◌, ◌*◌, ◌==◌, ◌||◌, not, nat_lt, nat_le, Bool, false, if◌then◌else◌, List, [], ◌∷◌, length, Option, Some, None, Result, Ok, Err}
use Rattle.std.specs.List.{list_any}
use Rattle.cip_types.specs.Ids.{id_at, ids_left}
use Rattle.cip_types.specs.declared.names.Node.{Node}
use Rattle.cip_types.specs.declared.names.Triad.{Triad}
use Rattle.cip_epath.specs.declared.fault.PathFault.{PathFault}
use Rattle.cip_epath.specs.ElectronicKey.{KeyFields}
use Rattle.cip_netparams.specs.Word.{is_message_trigger}
use Rattle.cip_netparams.specs.Rate.{interval_ms, timeout}
use Rattle.cip_fwdopen.specs.Open.{OpenFields}
use Rattle.cip_fwdopen.specs.declared.reply.Opened.{Opened}
use Rattle.cip_events.specs.declared.event.Notice.TheVariants as notice
use Rattle.cip_productions.specs.Watchdog.{first_deadline}
use Rattle.cip_router.specs.declared.refusal.Refusal.TheVariants as refusal
use Rattle.cip_router.specs.Replies.{opened}
use Rattle.cip_router.specs.Requests.{RouterRequestFields, opening}
use Rattle.messaging.specs.declared.class3.Class3Connection.{Class3Connection}
use Rattle.messaging.specs.Class3Connections.{most_class3_connections, has_class3_triad, class3_count}
use Rattle.messaging.specs.Changes.{with_class3}
use Rattle.adapter_table.specs.Intervals.{whole_request}
use Rattle.adapter_table.specs.declared.maker_limits.NodeLimits.{NodeLimits}
use Rattle.adapter_table.specs.declared.profile.Profile.{Profile}
use Rattle.adapter_table.specs.declared.table.Stream.{Stream}
use Rattle.adapter_table.specs.declared.table.AdapterTable.{AdapterTable}
use Rattle.adapter_table.specs.Profiles.{class3_places}
use Rattle.adapter_table.specs.Rates.{has_opened_enough_at, counted_at, with_openings}
use Rattle.adapter_table.specs.Rows.{has_triad}
use Rattle.adapter_table.specs.Checks.{Check, check, first_of, segment_check, key_check, is_point_to_point, is_unserved, are_intervals, is_below_least}
use Rattle.adapter_table.specs.Messages.{messages_table}
use Rattle.adapter_table.specs.Paths.{opening_message_path}
use Rattle.adapter_table.specs.Requests.{Served, refused_open, served}

-- THE STATE THAT THE CHECKS READ

pub record Class3View : Type 0 where
  pub profile : Profile
  -- a connection of any class and state has the triad of the request
  pub in_use : Bool
  -- how many connection ids are left
  pub ids_left : ℕ
  -- how many class 3 connections there are
  pub count : ℕ
  -- how many of them the node has that sent the request
  pub node_count : ℕ
  -- the node has opened as many connections of either class in its second as it can
  pub opened_enough : Bool

-- the same, looked up in a table
abbrev pub class3_view : AdapterTable → Node → Triad → Class3View
class3_view t peer triad = record {
  profile = t.profile;
  in_use = list_any (has_triad triad) t.rows || list_any (has_class3_triad triad) t.messaging.class3_connections;
  ids_left = ids_left t.ids t.next_id;
  count = length t.messaging.class3_connections;
  node_count = class3_count t.messaging.class3_connections peer;
  opened_enough = has_opened_enough_at t peer;
}

-- THE CHECKS

-- the key of a path that reads
abbrev pub named_key : Result (Option KeyFields) PathFault → Option KeyFields
named_key (Ok key) = key
named_key (Err fault) = None

-- the path is not that of the message router alone
abbrev pub message_path_check : Result (Option KeyFields) PathFault → Check
message_path_check (Ok key) = None
message_path_check (Err fault) = Some refusal.Path

-- how many connections one node can have
abbrev pub node_places : Option NodeLimits → Option ℕ
node_places None = None
node_places (Some limits) = Some limits.connections

-- so many are as many as there can be, or more
abbrev pub are_enough : Option ℕ → ℕ → Bool
are_enough None count = false
are_enough (Some most) count = nat_le most count

-- Those of the fifteen that a class 3 connection has, by their numbers, and the sixteenth. Check 6 has found its class and
-- trigger; 10 and 12 to 14 are of data, owners, listeners and groups, which it has not.
abbrev pub class3_checks : Class3View → OpenFields → Result (Option KeyFields) PathFault → List Check
class3_checks view request path =
    -- 2: a segment of the path does not read (0x0315)
    segment_check path
    -- 3: a connection of any class and state has the triad (0x0100)
    ∷ check view.in_use refusal.InUse
    -- 4: the key is of another vendor or product (0x0114), device type (0x0115), revision (0x0116), or names another
    --    serial number (0x0114)
    ∷ key_check view.profile request.path (named_key path)
    -- 5: the O->T type (0x0123), the T->O type (0x0124) is not point to point
    ∷ check (not (is_point_to_point request.o_t_params.kind)) refusal.ConsumedType
    ∷ check (not (is_point_to_point request.t_o_params.kind)) refusal.ProducedType
    -- 7: the multiplier is above 7, or a redundant owner is requested (0x0108)
    ∷ check (is_unserved request) refusal.Parameter
    -- 8: a packet interval is 0 or above 10 seconds, or below the maker's least (0x0111)
    ∷ check (not (are_intervals request)) refusal.PacketInterval
    ∷ check (is_below_least view.profile.limits.least_rpi request) refusal.PacketInterval
    -- 9: the path is not that of the message router alone (0x0117)
    ∷ message_path_check path
    -- 11: the O->T size (0x0127), the T->O size (0x0128) is 0
    ∷ check (request.o_t_params.size == 0) refusal.ConsumedSize
    ∷ check (request.t_o_params.size == 0) refusal.ProducedSize
    -- 15: the ids are used up, or there are 64 class 3 connections (0x0113)
    ∷ check (nat_lt view.ids_left 1) refusal.OutOfConnections
    ∷ check (nat_le most_class3_connections view.count) refusal.OutOfConnections
    -- 16: there are as many class 3 connections as the maker states places for, the node has as many of them as the maker
    --     states, or has opened as many of either class in its second (0x0113)
    ∷ check (are_enough (class3_places view.profile.limits.places) view.count) refusal.OutOfConnections
    ∷ check (are_enough (node_places view.profile.limits.node_connections) view.node_count) refusal.OutOfConnections
    ∷ check view.opened_enough refusal.OutOfConnections
    ∷ []

-- the refusal of the first check that fails
unfoldable pub class3_refusal : Class3View → OpenFields → Check
class3_refusal view request = first_of (class3_checks view request (opening_message_path view.profile.description request.path))

-- THE NEW CONNECTION

-- The connection that a request over a stream opens: the device draws the O->T id, the originator chooses the other. No
-- message was executed.
unfoldable pub opened_class3 : AdapterTable → Stream → OpenFields → Class3Connection
opened_class3 t stream request =
    let watchdog = timeout request.multiplier (interval_ms request.o_t_rpi) in
    record {
      triad = request.triad;
      peer = stream.peer;
      stream = stream.number;
      o_t_id = id_at t.ids t.next_id;
      t_o_id = request.t_o_id;
      o_t_api_ms = interval_ms request.o_t_rpi;
      t_o_api_ms = interval_ms request.t_o_rpi;
      o_t_size = request.o_t_params.size;
      t_o_size = request.t_o_params.size;
      watchdog = record { 0 = watchdog };
      opening = t.next_id;
      last = None;
      reply = [];
      deadline = first_deadline t.clock watchdog;
    }

-- the connection is the last one, its id is drawn, and its opening is counted
abbrev pub class3_table : AdapterTable → Class3Connection → AdapterTable
class3_table t d = with_openings (messages_table t (t.next_id + 1) (with_class3 t.messaging d)) (counted_at t d.peer)

-- the ids, and the actual packet intervals in microseconds
abbrev pub class3_opened : Class3Connection → Opened
class3_opened d = record {
  o_t_id = d.o_t_id;
  t_o_id = d.t_o_id;
  triad = d.triad;
  o_t_api_us = 1000 * d.o_t_api_ms;
  t_o_api_us = 1000 * d.t_o_api_ms;
}

abbrev pub admitted_class3 : AdapterTable → Bool → Class3Connection → Served
admitted_class3 t large d = record {
  reply = opened large (class3_opened d);
  address = None;
  notices = notice.Opened d.triad d.o_t_id ∷ [];
  table = class3_table t d;
}

abbrev pub judged_class3 : AdapterTable → Stream → Bool → OpenFields → Check → Served
judged_class3 t stream large request (Some why) = refused_open t large request why
judged_class3 t stream large request None = admitted_class3 t large (opened_class3 t stream request)

-- a Forward_Open of a class 3 connection
unfoldable pub served_class3 : AdapterTable → Stream → Bool → OpenFields → Served
served_class3 t stream large request =
    judged_class3 t stream large (whole_request t.profile.description request) (class3_refusal (class3_view t stream.peer request.triad) (whole_request t.profile.description request))

-- REQUESTS OVER A STREAM

-- a Forward_Open over a stream: a class 3 connection lives on the stream, one of another class on none
abbrev pub stream_open : AdapterTable → Stream → Bool → OpenFields → Option Served
stream_open t stream large request =
    if is_message_trigger request.trigger then Some (served_class3 t stream large request) else served t stream.peer (opening large request)

-- all else over a stream is served as over none
abbrev pub stream_served : AdapterTable → Stream → RouterRequestFields → Option Served
stream_served t stream (opening large request) = stream_open t stream large request
stream_served t stream other = served t stream.peer other
