-- The profiles that the examples and the tests share.
use Rattle.std.specs.Prelude.{ℕ, false, [], ◌∷◌, Some, None}
use Rattle.cip_types.specs.declared.names.Node.{Node}
use Rattle.cip_netparams.specs.declared.Trigger.TheVariants.{Cyclic}
use Rattle.cip_productions.specs.declared.kind.Kind.TheVariants.{ExclusiveOwner}
use Rattle.adapter_table.specs.declared.profile.Action.TheVariants.{Zero}
use Rattle.adapter_table.specs.declared.profile.Profile.{Profile}
use Rattle.adapter_table.specs.Profiles.{no_limits}
use Rattle.scanner_table.specs.declared.profile.ScannerProfile.{ScannerProfile}
use Rattle.scanner_table.specs.declared.profile.SlotConfig.{SlotConfig}

-- an adapter with output 150 and input 100 of 4 bytes, and a configuration 151 of none
abbrev pub adapter_profile : (incarnation : ℕ) → Node → (mask : ℕ) → Profile
adapter_profile incarnation node mask = record {
  incarnation = incarnation;
  node = node;
  mask = mask;
  identity = record { vendor = 1; device_type = 12; product = 7; major = 2; minor = 3 };
  outputs = record { instance = 150; len = 4; idle = Zero; fault = Zero } ∷ [];
  inputs = record { instance = 100; len = 4 } ∷ [];
  config = Some (record { instance = 151; len = 0 });
  input_only = 152;
  listen_only = 153;
  description = None;
  limits = no_limits;
  objects = [];
  ids = None;
}

-- a slot that owns output 150 of its target and gathers input 100, each every 10 ms
abbrev pub slot_config : (target : Node) → SlotConfig
slot_config target = record {
  target = target;
  kind = ExclusiveOwner;
  config = Some 151;
  consumed = 150;
  produced = 100;
  out_len = 4;
  in_len = 4;
  o_t_rpi = 10000;
  t_o_rpi = 10000;
  mult = 2;
  multicast = false;
  key = None;
  config_data = [];
  trigger = Cyclic;
  inhibit = 0;
}

-- a scanner with one slot
abbrev pub scanner_profile : (incarnation : ℕ) → (node target : Node) → ScannerProfile
scanner_profile incarnation node target = record {
  incarnation = incarnation;
  node = node;
  vendor = 0x1234;
  serial = 0x12345678;
  open_timeout = 2000;
  retry = 3000;
  newer = None;
  tidy = false;
  openings = None;
  serials = None;
  ids = None;
  slots = slot_config target ∷ [];
}
