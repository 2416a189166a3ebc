-- The requests that a scanner sends to its targets, and their messages (Volume 1, chapter 3, Forward_Open,
-- Large_Forward_Open and Forward_Close services; Volume 2, chapter 2, RegisterSession and SendRRData).
use Rattle.std.specs.Prelude.{ℕ, ◌+◌, ◌-◌, ◌*◌, ◌/◌, ◌^◌, max, ◌==◌, ◌||◌, nat_lt, nat_le, Bool, false, if◌then◌else◌, List, [], ◌∷◌, ◌++◌, length, Option, Some, None}
use Rattle.std.specs.Option.{option_map}
use Rattle.cip_types.specs.Cases.{first_case_or}
use Rattle.cip_types.specs.Ids.{id_at}
use Rattle.cip_types.specs.declared.names.ConnId.{ConnId}
use Rattle.cip_types.specs.declared.names.Triad.{Triad}
use Rattle.cip_netparams.specs.declared.NetParams.{NetParams}
use Rattle.cip_netparams.specs.declared.ConnectionType.{ConnectionType}
use Rattle.cip_netparams.specs.declared.ConnectionType.TheVariants.{Multicast, PointToPoint}
use Rattle.cip_netparams.specs.declared.Priority.TheVariants.{Scheduled}
use Rattle.cip_netparams.specs.Word.{trigger_byte}
use Rattle.cip_epath.specs.declared.path.Target.{Target}
use Rattle.cip_epath.specs.ElectronicKey.{view_key}
use Rattle.cip_epath.specs.Path.{PathFields}
use Rattle.cip_epath.specs.Written.{path_text, target_text}
use Rattle.cip_fwdopen.specs.Open.{OpenFields, open_text}
use Rattle.cip_fwdopen.specs.Close.{CloseFields, close_text}
use Rattle.cip_fwdopen.specs.Services.{forward_close, open_service}
use Rattle.cip_encap.specs.Message.{MessageFields, message_text}
use Rattle.cip_encap.specs.Packet.{packet_text}
use Rattle.cip_events.specs.declared.event.Frame.{Frame}
use Rattle.cip_events.specs.declared.event.Recipient.TheVariants as recipient
use Rattle.cip_productions.specs.Kinds.{is_owner}
use Rattle.cip_router.specs.Frames.{protocol_text}
use Rattle.conn_state.specs.declared.names.Requested.{Requested}
use Rattle.scanner_table.specs.declared.profile.ScannerProfile.{ScannerProfile}
use Rattle.scanner_table.specs.declared.profile.SlotConfig.{SlotConfig}
use Rattle.scanner_table.specs.declared.table.ScannerTable.{ScannerTable}
use Rattle.scanner_table.specs.declared.table.Session.{Session}

-- CONNECTIONS

-- bytes of an O->T datagram: a sequence count, and an owner's run/idle header and output
abbrev pub o_t_size : SlotConfig → ℕ
o_t_size config = if is_owner config.kind then config.out_len + 6 else 2

-- bytes of a T->O datagram: a sequence count, and the input
abbrev pub t_o_size : SlotConfig → ℕ
t_o_size config = config.in_len + 2

-- a size does not fit into the parameters of a Forward_Open, so the slot sends a Large_Forward_Open
abbrev pub is_large : SlotConfig → Bool
is_large config = nat_lt 511 (o_t_size config) || nat_lt 511 (t_o_size config)

-- datagrams of a fixed size and scheduled priority
abbrev pub slot_params : ℕ → ConnectionType → NetParams
slot_params size kind = record { size = size; variable = false; priority = Scheduled; kind = kind; redundant = false }

abbrev pub t_o_type : Bool → ConnectionType
t_o_type multicast = if multicast then Multicast else PointToPoint

-- an inhibit time of 0 needs no segment
abbrev pub inhibit_of : ℕ → Option ℕ
inhibit_of inhibit = if inhibit == 0 then None else Some inhibit

-- configuration data of no bytes need no segment
abbrev pub segment_of : List ℕ → Option (List ℕ)
segment_of [] = None
segment_of (byte ∷ bytes) = Some (byte ∷ bytes)

-- the path to a slot's points, which are assembly instances
abbrev pub slot_path : SlotConfig → PathFields
slot_path config = record {
  key = option_map view_key config.key;
  inhibit = inhibit_of config.inhibit;
  class = 4;
  config = config.config;
  consumed = config.consumed;
  produced = config.produced;
  segment = segment_of config.config_data;
}

-- the triad of the next opening: the next serial number, and the scanner's vendor id and serial number
abbrev pub next_triad : ScannerTable → Triad
next_triad t = record { serial = t.next_serial; vendor = t.profile.vendor; originator = t.profile.serial }

-- the consumer chooses the id of a point to point connection, and the producer a multicast one
abbrev pub next_t_o_id : ScannerTable → SlotConfig → Option ConnId
next_t_o_id t config = if config.multicast then None else Some (id_at t.ids t.next_id)

-- a time that a request says: a number of ticks of 2^tick milliseconds each. The byte of the tick is for usual priority
pub record TimeOut : Type 0 where
  pub tick : ℕ
  pub ticks : ℕ

-- the triad and the id that the next opening of a slot asks for
abbrev pub next_requested : ScannerTable → SlotConfig → Requested
next_requested t config = record { triad = next_triad t; t_o_id = next_t_o_id t config }

abbrev pub id_or_zero : Option ConnId → ConnId
id_or_zero None = record { 0 = 0 }
id_or_zero (Some id) = id

-- ticks of 2^n milliseconds, no fewer than a time
abbrev pub ticks_of : ℕ → ℕ → TimeOut
ticks_of n ms = record { tick = n; ticks = (ms + (2 ^ n - 1)) / 2 ^ n }

-- a time of at most a minute in ticks, of which there are at most 255: the shortest tick that can say it
abbrev pub time_out : ℕ → TimeOut
time_out ms = first_case_or (ticks_of 8 ms) (
    (nat_le ms 255, ticks_of 0 ms)
    ∷ (nat_le ms 510, ticks_of 1 ms)
    ∷ (nat_le ms 1020, ticks_of 2 ms)
    ∷ (nat_le ms 2040, ticks_of 3 ms)
    ∷ (nat_le ms 4080, ticks_of 4 ms)
    ∷ (nat_le ms 8160, ticks_of 5 ms)
    ∷ (nat_le ms 16320, ticks_of 6 ms)
    ∷ (nat_le ms 32640, ticks_of 7 ms)
    ∷ []
    )

-- how long the target has for an opening, as the request says: with `tidy` no less than the scanner waits for the reply
abbrev pub open_time : ScannerProfile → TimeOut
open_time profile = if profile.tidy then time_out profile.open_timeout else record { tick = 10; ticks = 14 }

-- the whole milliseconds of a packet interval, and at least one: in microseconds
abbrev pub whole_interval : ℕ → ℕ
whole_interval us = max (us / 1000) 1 * 1000

-- the O->T packet interval that a request asks for: with `tidy` one that the scanner keeps, whose clock counts milliseconds
abbrev pub requested_interval : ScannerProfile → ℕ → ℕ
requested_interval profile us = if profile.tidy then whole_interval us else us

-- the Forward_Open request of a slot; the target chooses the O->T id
abbrev pub open_fields : ScannerProfile → SlotConfig → Requested → OpenFields
open_fields profile config requested = record {
  priority_tick = (open_time profile).tick;
  ticks = (open_time profile).ticks;
  o_t_id = record { 0 = 0 };
  t_o_id = id_or_zero requested.t_o_id;
  triad = requested.triad;
  multiplier = config.mult;
  o_t_rpi = requested_interval profile config.o_t_rpi;
  o_t_params = slot_params (o_t_size config) PointToPoint;
  t_o_rpi = config.t_o_rpi;
  t_o_params = slot_params (t_o_size config) (t_o_type config.multicast);
  trigger = trigger_byte config.trigger;
  path = path_text (slot_path config);
}

-- the Forward_Close request of a slot
abbrev pub close_fields : SlotConfig → Triad → CloseFields
close_fields config triad = record { priority_tick = 0x0A; ticks = 0x0E; triad = triad; path = path_text (slot_path config) }

-- MESSAGES

-- a request: to register a session, to open a connection by a Forward_Open or a Large_Forward_Open, to close it, or a
-- request of the application's, of these bytes
pub data Request : Type 0 where
  registering : Request
  opening : Bool → OpenFields → Request
  closing : CloseFields → Request
  requesting : List ℕ → Request

-- a request with the number of its stream, the handle of its session, and its own number
pub record Sent : Type 0 where
  pub stream : ℕ
  pub session : ℕ
  pub number : ℕ
  pub request : Request

-- the Connection Manager
abbrev pub manager : Target
manager = record { class = 6; instance = 1; attribute = None }

-- a request to the Connection Manager
abbrev pub manager_text : ℕ → List ℕ → List ℕ
manager_text service body = service ∷ length (target_text manager) / 2 ∷ target_text manager ++ body

-- the command of a request's message: RegisterSession, or SendRRData
abbrev pub request_command : Request → ℕ
request_command registering = 0x0065
request_command (opening large fields) = 0x006F
request_command (closing fields) = 0x006F
request_command (requesting bytes) = 0x006F

-- the data of a request's message
abbrev pub request_data : Request → List ℕ
request_data registering = protocol_text
request_data (opening large fields) = packet_text (manager_text (open_service large) (open_text large fields)) None
request_data (closing fields) = packet_text (manager_text forward_close (close_text fields)) None
request_data (requesting bytes) = packet_text bytes None

-- the number of the request is its sender context, which the reply repeats
abbrev pub sent_message : Sent → MessageFields
sent_message sent = record {
  command = request_command sent.request;
  session = sent.session;
  status = 0;
  context = sent.number;
  options = 0;
  payload = request_data sent.request;
}

-- the frame of a request
abbrev pub sent_frame : Sent → Frame
sent_frame sent = record { to = recipient.Stream sent.stream; bytes = message_text (sent_message sent) }

-- RegisterSession, which has request number 0
abbrev pub registration : ℕ → Sent
registration stream = record { stream = stream; session = 0; number = 0; request = registering }

-- a numbered request within a session
abbrev pub numbered : Session → ℕ → Request → Sent
numbered session number request = record { stream = session.stream; session = session.handle; number = number; request = request }
