-- The request by which a test opens a connection (Volume 1, chapter 3, Forward_Open and Large_Forward_Open services).
--
--   service            54, or 5B if a size is above 511
--   path               two words: class 6, instance 1
--   data               of the service
use Rattle.std.specs.Prelude.{ℕ, ◌||◌, nat_lt, Bool, false, if◌then◌else◌, List, ◌∷◌, Option, None}
use Rattle.cip_netparams.specs.declared.NetParams.{NetParams}
use Rattle.cip_netparams.specs.declared.ConnectionType.{ConnectionType}
use Rattle.cip_netparams.specs.declared.ConnectionType.TheVariants.{Multicast, PointToPoint}
use Rattle.cip_netparams.specs.declared.Priority.TheVariants.{Scheduled}
use Rattle.cip_netparams.specs.declared.Trigger.TheVariants.{Cyclic}
use Rattle.cip_netparams.specs.Word.{trigger_byte}
use Rattle.cip_epath.specs.Path.{PathFields}
use Rattle.cip_epath.specs.Written.{path_text}
use Rattle.cip_fwdopen.specs.Open.{OpenFields, open_text}
use Rattle.cip_fwdopen.specs.Services.{open_service}
use Rattle.test_requests.specs.declared.opening.ConnectionRequest.{ConnectionRequest}

-- a size does not fit into the parameters of a Forward_Open
abbrev pub is_large : ConnectionRequest → Bool
is_large c = nat_lt 511 c.o_t_size || nat_lt 511 c.t_o_size

-- datagrams of a fixed size and scheduled priority
abbrev pub params : ℕ → ConnectionType → NetParams
params size kind = record { size = size; variable = false; priority = Scheduled; kind = kind; redundant = false }

abbrev pub t_o_type : Bool → ConnectionType
t_o_type multicast = if multicast then Multicast else PointToPoint

-- the path of assembly instances
abbrev pub points_path : Option ℕ → (consumed produced : ℕ) → PathFields
points_path config consumed produced = record { key = None; inhibit = None; class = 4; config = config; consumed = consumed; produced = produced; segment = None }

abbrev pub point_path : ConnectionRequest → PathFields
point_path c = points_path c.config c.consumed c.produced

-- the fields of the request: class 1, cyclic, a time-out of 16 packet intervals
abbrev pub open_fields : ConnectionRequest → OpenFields
open_fields c = record {
  priority_tick = 0x0A;
  ticks = 0x0E;
  o_t_id = record { 0 = 0 };
  t_o_id = c.t_o_id;
  triad = c.triad;
  multiplier = 2;
  o_t_rpi = c.rpi_us;
  o_t_params = params c.o_t_size PointToPoint;
  t_o_rpi = c.rpi_us;
  t_o_params = params c.t_o_size (t_o_type c.multicast);
  trigger = trigger_byte Cyclic;
  path = path_text (point_path c);
}

-- the bytes of the request
abbrev pub request_text : ConnectionRequest → List ℕ
request_text c = open_service (is_large c) ∷ 2 ∷ 0x20 ∷ 6 ∷ 0x24 ∷ 1 ∷ open_text (is_large c) (open_fields c)
