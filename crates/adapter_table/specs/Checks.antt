-- The checks of a Forward_Open: one list over the state that they read, from the top; the first that fails
-- answers (Volume 1, chapter 3, Forward_Open and the Connection Manager's extended status codes).
use Rattle.std.specs.Prelude.{ℕ, ◌+◌, ◌==◌, ◌&&◌, ◌||◌, ◌≡◌, not, nat_lt, nat_le, Bool, true, false, if◌then◌else◌, List, [], ◌∷◌, length, find, Option, Some, None, Result, Ok, Err, is_none, unwrap_or}
use Rattle.std.specs.List.{list_any}
use Rattle.std.specs.Option.{option_map}
use Rattle.std.specs.Result.{result_ok}
use Rattle.std.specs.Str.{bytes_eq}
use Rattle.cip_types.specs.Ids.{ids_left}
use Rattle.cip_types.specs.declared.names.Ms.{Ms}
use Rattle.cip_types.specs.declared.names.Triad.{Triad}
use Rattle.cip_epath.specs.declared.fault.PathFault.{PathFault}
use Rattle.cip_epath.specs.declared.fault.PathFault.TheVariants as path_fault
use Rattle.cip_epath.specs.declared.key.KeyFault.{KeyFault}
use Rattle.cip_epath.specs.declared.key.KeyFault.TheVariants.{VendorOrProduct, DeviceType, Revision}
use Rattle.cip_epath.specs.ElectronicKey.{KeyFields, key_fault}
use Rattle.cip_epath.specs.Path.{PathFields}
use Rattle.cip_netparams.specs.declared.ConnectionType.{ConnectionType}
use Rattle.cip_netparams.specs.declared.ConnectionType.TheVariants.{Null, Multicast, PointToPoint, Reserved}
use Rattle.cip_netparams.specs.declared.Trigger.{Trigger}
use Rattle.cip_netparams.specs.declared.Trigger.TheVariants.{Cyclic, ChangeOfState}
use Rattle.cip_netparams.specs.Word.{trigger_of}
use Rattle.cip_netparams.specs.Rate.{is_interval, interval_ms, timeout}
use Rattle.cip_fwdopen.specs.Open.{OpenFields}
use Rattle.cip_router.specs.declared.refusal.Refusal.{Refusal}
use Rattle.cip_router.specs.declared.refusal.Refusal.TheVariants as refusal
use Rattle.cip_productions.specs.declared.kind.Kind.{Kind}
use Rattle.cip_productions.specs.declared.kind.Kind.TheVariants.{ExclusiveOwner, InputOnly, ListenOnly}
use Rattle.cip_productions.specs.Kinds.{is_owner, is_listener}
use Rattle.messaging.specs.Class3Connections.{has_class3_triad}
use Rattle.adapter_table.specs.declared.profile.InputPoint.{InputPoint}
use Rattle.adapter_table.specs.declared.profile.OutputPoint.{OutputPoint}
use Rattle.adapter_table.specs.declared.profile.Profile.{Profile}
use Rattle.adapter_table.specs.Connections.{Row}
use Rattle.adapter_table.specs.declared.row.State.{State}
use Rattle.adapter_table.specs.declared.row.State.TheVariants.{Established, TimedOut}
use Rattle.adapter_table.specs.declared.table.PointValue.{PointValue}
use Rattle.adapter_table.specs.declared.table.AdapterTable.{AdapterTable}
use Rattle.adapter_table.specs.declared.admission.ConsumedPoint.{ConsumedPoint}
use Rattle.adapter_table.specs.declared.admission.Admission.{Admission}
use Rattle.adapter_table.specs.Profiles.{is_at, is_output_at}
use Rattle.adapter_table.specs.Paths.{opening_path, names_another}
use Rattle.adapter_table.specs.Points.{bytes_at}
use Rattle.adapter_table.specs.Rows.{most_rows, is_established, is_timed_out, holds_triad, drives, is_member, is_supported}

-- A CHECK

-- the refusal of a check, if it fails
abbrev pub Check : Type 0
Check = Option Refusal

abbrev pub check : Bool → Refusal → Check
check fails why = if fails then Some why else None

-- the answer of the first check that fails
abbrev pub first_of : List Check → Check
first_of [] = None
first_of (None ∷ rest) = first_of rest
first_of (Some why ∷ rest) = Some why

-- THE STATE THAT THE CHECKS READ

-- the first connection of the group that a multicast connection on the input joins
abbrev pub group_of : List Row → ℕ → Option Row
group_of rows point = find (is_member point) rows

-- the state of an adapter that the checks of a request read
pub record View : Type 0 where
  pub profile : Profile
  -- the bytes of the configuration
  pub config : Option (List ℕ)
  -- an established connection, or one of class 3, has the triad of the request
  pub in_use : Bool
  -- some connection is established
  pub established : Bool
  -- how many connections there are
  pub count : ℕ
  -- some connection has timed out
  pub timed_out : Bool
  -- how many connection ids are left
  pub ids_left : ℕ
  -- of an output: an established connection owns it
  pub owned : ℕ → Bool
  -- of an input: the first connection of its group
  pub group : ℕ → Option Row
  -- of an input: a listen-only connection is supported there
  pub supported : ℕ → Bool

-- the same, looked up in the connections, beside those of class 3, of which one may have the triad
abbrev pub view_at : Profile → Option (List ℕ) → List Row → ℕ → (talks : Bool) → Triad → View
view_at profile config rows left talks triad = record {
  profile = profile;
  config = config;
  in_use = list_any (holds_triad triad) rows || talks;
  established = list_any is_established rows;
  count = length rows;
  timed_out = list_any is_timed_out rows;
  ids_left = left;
  owned = λ point. list_any (drives point) rows;
  group = group_of rows;
  supported = is_supported rows ListenOnly;
}

-- the bytes of the configuration
abbrev pub config_bytes : List PointValue → Option InputPoint → Option (List ℕ)
config_bytes values None = None
config_bytes values (Some config) = bytes_at values config.instance

-- the same, looked up in a table
abbrev pub view_of : AdapterTable → Triad → View
view_of t triad =
    view_at t.profile (config_bytes t.values t.profile.config) t.rows (ids_left t.ids t.next_id) (list_any (has_class3_triad triad) t.messaging.class3_connections) triad

-- SEGMENTS AND KEY

-- A segment does not read. Segments in a wrong order fail a later check.
abbrev pub segment_check : {P : Type 0} → Result P PathFault → Check
segment_check (Ok path) = None
segment_check (Err path_fault.Shape) = None
segment_check (Err path_fault.Truncated) = Some refusal.Segment
segment_check (Err path_fault.Segment) = Some refusal.Segment
segment_check (Err path_fault.KeyFormat) = Some refusal.Segment

abbrev pub key_of : Option PathFields → Option KeyFields
key_of None = None
key_of (Some path) = path.key

abbrev pub key_refusal : Option KeyFault → Check
key_refusal None = None
key_refusal (Some VendorOrProduct) = Some refusal.VendorOrProduct
key_refusal (Some DeviceType) = Some refusal.DeviceType
key_refusal (Some Revision) = Some refusal.Revision

-- the key of the path is that of another device, or names the serial number of another one, as a key of another product
abbrev pub key_check : Profile → List ℕ → Option KeyFields → Check
key_check profile path None = None
key_check profile path (Some key) =
    first_of (key_refusal (key_fault key profile.identity) ∷ check (names_another profile.description path) refusal.VendorOrProduct ∷ [])

-- TYPES, TRIGGER, RATES

abbrev pub is_point_to_point : ConnectionType → Bool
is_point_to_point PointToPoint = true
is_point_to_point Null = false
is_point_to_point Multicast = false
is_point_to_point Reserved = false

abbrev pub is_multicast : ConnectionType → Bool
is_multicast Multicast = true
is_multicast Null = false
is_multicast PointToPoint = false
is_multicast Reserved = false

-- the T->O types that are served
abbrev pub is_produced_type : ConnectionType → Bool
is_produced_type kind = is_multicast kind || is_point_to_point kind

-- the multiplier is out of range, or the request asks for a redundant owner
abbrev pub is_unserved : OpenFields → Bool
is_unserved request = nat_lt 7 request.multiplier || (request.o_t_params.redundant || request.t_o_params.redundant)

abbrev pub are_intervals : OpenFields → Bool
are_intervals request = is_interval request.o_t_rpi && is_interval request.t_o_rpi

-- a packet interval is below the least that the maker states
abbrev pub is_below_least : Option ℕ → OpenFields → Bool
is_below_least None request = false
is_below_least (Some least) request = nat_lt request.o_t_rpi least || nat_lt request.t_o_rpi least

abbrev pub is_change_of_state : Option Trigger → Bool
is_change_of_state None = false
is_change_of_state (Some Cyclic) = false
is_change_of_state (Some ChangeOfState) = true

-- the production inhibit time that a path asks for, in milliseconds
abbrev pub inhibit_of : Option PathFields → ℕ
inhibit_of None = 0
inhibit_of (Some path) = unwrap_or path.inhibit 0

-- changes of state are to be held back for longer than the T->O packet interval
abbrev pub has_inhibit_fault : OpenFields → Option PathFields → Bool
has_inhibit_fault request path = is_change_of_state (trigger_of request.trigger) && nat_lt (interval_ms request.t_o_rpi) (inhibit_of path)

-- the maker states how far ahead numbers can be, and changes of state are never held back: nothing says how fast the
-- numbers rise
abbrev pub lacks_pace : Option ℕ → OpenFields → Option PathFields → Bool
lacks_pace None request path = false
lacks_pace (Some within) request path = is_change_of_state (trigger_of request.trigger) && inhibit_of path == 0

-- POINTS

-- the path names no configuration, or that of the profile
abbrev pub is_known_config : Option InputPoint → Option ℕ → Bool
is_known_config config None = true
is_known_config None (Some named) = false
is_known_config (Some config) (Some named) = config.instance == named

-- the application type of a connection by the heartbeat that it consumes
abbrev pub heartbeat_kind : (consumes_input_only consumes_listen_only : Bool) → Option Kind
heartbeat_kind true listen_only = Some InputOnly
heartbeat_kind false true = Some ListenOnly
heartbeat_kind false false = None

-- a consumer of no data
abbrev pub heartbeat_point : Kind → ConsumedPoint
heartbeat_point kind = record { kind = kind; len = 0 }

abbrev pub consumed_point_at : Profile → ℕ → Option OutputPoint → Option ConsumedPoint
consumed_point_at profile point (Some output) = Some (record { kind = ExclusiveOwner; len = output.len })
consumed_point_at profile point None = option_map heartbeat_point (heartbeat_kind (profile.input_only == point) (profile.listen_only == point))

-- the application type of a connection that consumes the point, and the length of its data
abbrev pub consumed_point_of : Profile → ℕ → Option ConsumedPoint
consumed_point_of profile point = consumed_point_at profile point (find (is_output_at point) profile.outputs)

abbrev pub input_of : Profile → ℕ → Option InputPoint
input_of profile point = find (is_at point) profile.inputs

-- the group that a multicast connection joins
abbrev pub joined : Bool → Option Row → Option Row
joined multicast group = if multicast then group else None

-- the points that a path names: the consumer, the input that is produced, and the group that is joined
pub record Points : Type 0 where
  pub path : PathFields
  pub consumer : ConsumedPoint
  pub input : InputPoint
  pub group : Option Row

abbrev pub path_check : Profile → PathFields → Check
path_check profile path =
    first_of (
    check (not (path.class == 4)) refusal.Path
    ∷ check (not (is_known_config profile.config path.config)) refusal.ConfigurationPath
    ∷ []
    )

-- the points of a path, or the refusal for the first that does not exist
abbrev pub named_points : PathFields → Option Row → Check → Option ConsumedPoint → Option InputPoint → Result Points Refusal
named_points path group (Some why) consumer input = Err why
named_points path group None None input = Err refusal.ConsumedPath
named_points path group None (Some consumer) None = Err refusal.ProducedPath
named_points path group None (Some consumer) (Some input) = Ok (record { path = path; consumer = consumer; input = input; group = group })

-- the points that a request names, if its path reads
abbrev pub points_of : View → OpenFields → Option PathFields → Result Points Refusal
points_of view request None = Err refusal.Path
points_of view request (Some path) =
    named_points path (joined (is_multicast request.t_o_params.kind) (view.group path.produced)) (path_check view.profile path)
    (consumed_point_of view.profile path.consumed) (input_of view.profile path.produced)

-- the refusal, if no points are found
abbrev pub points_check : Result Points Refusal → Check
points_check (Ok points) = None
points_check (Err why) = Some why

-- a test of the points, if they are found
abbrev pub fails_at : Result Points Refusal → (Points → Bool) → Bool
fails_at (Ok points) test = test points
fails_at (Err why) test = false

-- DATA SEGMENT

-- the length of the configuration that the path names, 0 if it names none
abbrev pub named_len : Option InputPoint → Option ℕ → ℕ
named_len config None = 0
named_len None (Some named) = 0
named_len (Some config) (Some named) = config.len

-- the segment has another length than the configuration
abbrev pub has_other_length : ℕ → Option (List ℕ) → Bool
has_other_length len None = false
has_other_length len (Some segment) = not (length segment == len)

abbrev pub misfits_config : View → Points → Bool
misfits_config view points = has_other_length (named_len view.profile.config points.path.config) points.path.segment

-- the segment that a success stores: a configuration is named, and a segment is there
abbrev pub stored : Option ℕ → Option (List ℕ) → Option (List ℕ)
stored None segment = None
stored (Some named) segment = segment

-- the segment differs from the bytes that the configuration holds
abbrev pub has_other_bytes : Option (List ℕ) → Option (List ℕ) → Bool
has_other_bytes None present = false
has_other_bytes (Some segment) None = false
has_other_bytes (Some segment) (Some present) = not (bytes_eq segment present)

-- it would change the configuration under an established connection
abbrev pub changes_config : View → Points → Bool
changes_config view points = view.established && has_other_bytes (stored points.path.config points.path.segment) view.config

-- SIZES

-- the size of O->T datagrams: a sequence count, and an owner's data behind a run/idle header
abbrev pub o_t_size : ConsumedPoint → ℕ
o_t_size consumer = if is_owner consumer.kind then consumer.len + 6 else 2

-- the size of T->O datagrams: a sequence count and the input
abbrev pub t_o_size : InputPoint → ℕ
t_o_size input = input.len + 2

abbrev pub has_other_o_t_size : OpenFields → Points → Bool
has_other_o_t_size request points = not (request.o_t_params.size == o_t_size points.consumer)

abbrev pub has_other_t_o_size : OpenFields → Points → Bool
has_other_t_o_size request points = not (request.t_o_params.size == t_o_size points.input)

-- OWNERS AND LISTENERS

-- another connection owns the output
abbrev pub is_owned : View → Points → Bool
is_owned view points = is_owner points.consumer.kind && view.owned points.path.consumed

-- a listen-only connection asks for a producer of its own
abbrev pub listens_alone : OpenFields → Points → Bool
listens_alone request points = is_listener points.consumer.kind && not (is_multicast request.t_o_params.kind)

-- no connection of another kind supports the listen-only connection
abbrev pub is_unsupported : View → Points → Bool
is_unsupported view points = is_listener points.consumer.kind && not (view.supported points.path.produced)

-- THE GROUP THAT IS JOINED

abbrev pub same_trigger : Trigger → Trigger → Bool
same_trigger Cyclic Cyclic = true
same_trigger ChangeOfState ChangeOfState = true
same_trigger a b = false

-- the trigger of a request; a request without one fails an earlier check
abbrev pub served_trigger : Option Trigger → Trigger
served_trigger None = Cyclic
served_trigger (Some trigger) = trigger

-- a cyclic producer has no inhibit time
abbrev pub served_inhibit : Trigger → Option ℕ → ℕ
served_inhibit Cyclic inhibit = 0
served_inhibit ChangeOfState inhibit = unwrap_or inhibit 0

-- a group's production has another trigger; each member of a group has one
abbrev pub has_other_trigger : Trigger → State → Bool
has_other_trigger trigger TimedOut = false
has_other_trigger trigger (Established production) = not (same_trigger trigger production.trigger)

-- it has another production inhibit time
abbrev pub has_other_inhibit : ℕ → State → Bool
has_other_inhibit inhibit TimedOut = false
has_other_inhibit inhibit (Established production) = not (inhibit == production.inhibit)

-- a test of the group, if one is joined
abbrev pub joins : Option Row → (Row → Bool) → Bool
joins None test = false
joins (Some member) test = test member

abbrev pub joins_other_api : OpenFields → Points → Bool
joins_other_api request points = joins points.group (λ member. not (interval_ms request.t_o_rpi == member.t_o_api_ms))

abbrev pub joins_other_trigger : OpenFields → Points → Bool
joins_other_trigger request points = joins points.group (λ member. has_other_trigger (served_trigger (trigger_of request.trigger)) member.state)

abbrev pub joins_other_inhibit : OpenFields → Points → Bool
joins_other_inhibit request points = joins points.group (λ member. has_other_inhibit (served_inhibit (served_trigger (trigger_of request.trigger)) points.path.inhibit) member.state)

-- IDS AND CAPACITY

-- how many ids an opening draws: two if it starts a multicast producer
abbrev pub drawn_ids : Bool → Option Row → ℕ
drawn_ids multicast None = if multicast then 2 else 1
drawn_ids multicast (Some member) = 1

-- fewer ids are left than the opening draws
abbrev pub lacks_ids : View → OpenFields → Points → Bool
lacks_ids view request points = nat_lt view.ids_left (drawn_ids (is_multicast request.t_o_params.kind) points.group)

-- there are 64 connections, and none has timed out
abbrev pub lacks_capacity : View → Bool
lacks_capacity view = nat_le most_rows view.count && not view.timed_out

-- THE FIFTEEN CHECKS

abbrev pub checks : View → OpenFields → Result PathFields PathFault → Result Points Refusal → List Check
checks view request path points =
    -- 1: the data are shorter (0x13) or longer (0x15) than their fields and path size say: then there is no
    --    request (`read_open`)
    -- 2: a segment of the path does not read (0x0315)
    segment_check path
    -- 3: an established connection, or one of class 3, has the triad (0x0100)
    ∷ check view.in_use refusal.InUse
    -- 4: the key is of another vendor or product (0x0114), device type (0x0115), revision (0x0116), or names another
    --    serial number (0x0114)
    ∷ key_check view.profile request.path (key_of (result_ok path))
    -- 5: the O->T type is not point to point (0x0123), the T->O type neither that nor multicast (0x0124)
    ∷ check (not (is_point_to_point request.o_t_params.kind)) refusal.ConsumedType
    ∷ check (not (is_produced_type request.t_o_params.kind)) refusal.ProducedType
    -- 6: the class is not 1, or the trigger neither cyclic nor change of state (0x0103)
    ∷ check (is_none (trigger_of request.trigger)) refusal.Trigger
    -- 7: the multiplier is above 7, or a redundant owner is requested (0x0108)
    ∷ check (is_unserved request) refusal.Parameter
    -- 8: a packet interval is 0 or above 10 seconds, or below the maker's least (0x0111), the inhibit time is longer
    --    than it, or is 0 at changes of state where the maker states how far ahead numbers can be (0x011B)
    ∷ check (not (are_intervals request)) refusal.PacketInterval
    ∷ check (is_below_least view.profile.limits.least_rpi request) refusal.PacketInterval
    ∷ check (has_inhibit_fault request (result_ok path)) refusal.InhibitTime
    ∷ check (lacks_pace view.profile.limits.newer request (result_ok path)) refusal.InhibitTime
    -- 9: the path does not read, or is not of the Assembly class (0x0117); it names another configuration
    --    (0x0129), an unknown consumed (0x012A), an unknown produced point (0x012B)
    ∷ points_check points
    -- 10: the data segment has another length (0x0126), or other bytes while a connection is established (0x0106)
    ∷ check (fails_at points (misfits_config view)) refusal.ConfigurationSize
    ∷ check (fails_at points (changes_config view)) refusal.Ownership
    -- 11: the O->T size (0x0127), the T->O size (0x0128) is not that of the point
    ∷ check (fails_at points (has_other_o_t_size request)) refusal.ConsumedSize
    ∷ check (fails_at points (has_other_t_o_size request)) refusal.ProducedSize
    -- 12: the output has an owner (0x0106)
    ∷ check (fails_at points (is_owned view)) refusal.Ownership
    -- 13: a listen-only connection is not multicast (0x0124), or has no support (0x0119)
    ∷ check (fails_at points (listens_alone request)) refusal.ProducedType
    ∷ check (fails_at points (is_unsupported view)) refusal.NoSupport
    -- 14: the group has another T->O packet interval (0x0111), trigger (0x0103), inhibit time (0x0111)
    ∷ check (fails_at points (joins_other_api request)) refusal.PacketInterval
    ∷ check (fails_at points (joins_other_trigger request)) refusal.Trigger
    ∷ check (fails_at points (joins_other_inhibit request)) refusal.PacketInterval
    -- 15: the ids are used up, or there are 64 connections and none has timed out (0x0113)
    ∷ check (fails_at points (lacks_ids view request)) refusal.OutOfConnections
    ∷ check (lacks_capacity view) refusal.OutOfConnections
    ∷ []

-- THE VERDICT

-- The connection that a request is admitted as: its application type, its points, its trigger and inhibit time,
-- its actual packet intervals in milliseconds, the time-out of its watchdog, the group that it joins, and the data
-- segment to store.
pub record Admitted : Type 0 where
  pub kind : Kind
  pub consumed : ℕ
  pub produced : ℕ
  pub multicast : Bool
  pub trigger : Trigger
  pub inhibit : ℕ
  pub o_t_api_ms : ℕ
  pub t_o_api_ms : ℕ
  pub watchdog : Ms
  pub group : Option Row
  pub segment : Option (List ℕ)

-- the same of an admission of the program
abbrev pub view_admission : Admission → Admitted
view_admission a = record {
  kind = a.kind;
  consumed = a.consumed;
  produced = a.produced;
  multicast = a.multicast;
  trigger = a.trigger;
  inhibit = a.inhibit;
  o_t_api_ms = a.o_t_api_ms;
  t_o_api_ms = a.t_o_api_ms;
  watchdog = a.watchdog;
  group = a.group;
  segment = option_map (λ lent. lent.now) a.segment;
}

-- the connection that a request of these points is admitted as
abbrev pub admitted_at : OpenFields → Points → Admitted
admitted_at request points = record {
  kind = points.consumer.kind;
  consumed = points.path.consumed;
  produced = points.path.produced;
  multicast = is_multicast request.t_o_params.kind;
  trigger = served_trigger (trigger_of request.trigger);
  inhibit = served_inhibit (served_trigger (trigger_of request.trigger)) points.path.inhibit;
  o_t_api_ms = interval_ms request.o_t_rpi;
  t_o_api_ms = interval_ms request.t_o_rpi;
  watchdog = record { 0 = timeout request.multiplier (interval_ms request.o_t_rpi) };
  group = points.group;
  segment = stored points.path.config points.path.segment;
}

-- the refusal of the check that fails, else the connection that is admitted
abbrev pub judged : OpenFields → Result Points Refusal → Check → Result Admitted Refusal
judged request points (Some why) = Err why
judged request (Err why) None = Err why
judged request (Ok points) None = Ok (admitted_at request points)

abbrev pub judged_path : View → OpenFields → Result PathFields PathFault → Result Admitted Refusal
judged_path view request path =
    let points = points_of view request (result_ok path) in
    judged request points (first_of (checks view request path points))

-- the connection that the request is admitted as, or the refusal of the first check that it fails
unfoldable pub verdict : View → OpenFields → Result Admitted Refusal
verdict view request = judged_path view request (opening_path view.profile.description request.path)

-- the same at a table
abbrev pub admission : AdapterTable → OpenFields → Result Admitted Refusal
admission t request = verdict (view_of t request.triad) request

-- a function's result, seen through a view, is the defined one
abbrev pub Gives : {X Y : Type 0} → (X → Y) → Result X Refusal → Result Y Refusal → Type 0
Gives view (Ok found) said = said ≡ Ok (view found)
Gives view (Err why) said = said ≡ Err why
