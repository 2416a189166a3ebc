-- What two connections accept: samples, by hand.
use Rattle.std.proofs.Common.{◌≡◌, ℕ, true, false, List, [], ◌∷◌, Some, None, refl}
use Rattle.cip_types.specs.declared.names.Ms.{Ms}
use Rattle.cip_datagram.specs.Datagram.{DatagramFields}
use Rattle.cip_productions.specs.declared.kind.Kind.{Kind}
use Rattle.cip_productions.specs.declared.kind.Kind.TheVariants.{ExclusiveOwner, InputOnly}
use Rattle.adapter_table.specs.declared.profile.Action.TheVariants.{Zero}
use Rattle.adapter_table.specs.declared.profile.Profile.{Profile}
use Rattle.adapter_table.specs.Profiles.{no_limits}
use Rattle.adapter_table.specs.Connections.{Row}
use Rattle.adapter_table.specs.declared.row.State.TheVariants.{TimedOut}
use Rattle.adapter_table.specs.Newest.{accepted_found}

-- an adapter with an output of two bytes
abbrev profile : Profile
profile = record {
  incarnation = 0x10;
  node = record { 0 = 0xC0A8010A };
  mask = 0xFFFFFF00;
  identity = record { vendor = 1; device_type = 12; product = 7; major = 2; minor = 3 };
  outputs = record { instance = 150; len = 2; idle = Zero; fault = Zero } ∷ [];
  inputs = record { instance = 100; len = 4 } ∷ [];
  config = None;
  input_only = 152;
  listen_only = 153;
  description = None;
  limits = no_limits;
  objects = [];
  ids = None;
}

-- a connection of the fifth opening that accepted number 7 with count 3; its state is not looked at here
abbrev opened_fifth : Kind → ℕ → Row
opened_fifth kind consumed = record {
  triad = record { serial = 1; vendor = 2; originator = 3 };
  peer = record { 0 = 0xC0A80114 };
  kind = kind;
  consumed = consumed;
  produced = 100;
  o_t_id = record { 0 = 0x10000005 };
  t_o_id = record { 0 = 9 };
  o_t_api_ms = 10;
  t_o_api_ms = 10;
  o_t_pace_ms = 10;
  watchdog = record { 0 = 0 };
  multicast = false;
  opening = 5;
  last = Some (record { number = 7; count = 3 });
  mode = None;
  deadline = record { 0 = 10000 };
  state = TimedOut;
}

-- five seconds before its deadline
abbrev now : Ms
now = record { 0 = 5000 }

abbrev owner : Row
owner = opened_fifth ExclusiveOwner 150

abbrev datagram : ℕ → ℕ → List ℕ → DatagramFields
datagram number count payload = record { connection = 0x10000005; sequence = number; count = count; payload = payload }

-- new data with the run bit are applied
new_run_data : accepted_found 5 profile now (datagram 8 4 (1 ∷ 0 ∷ 0 ∷ 0 ∷ 0xAA ∷ 0xBB ∷ [])) (Some owner) ≡ record { datagram = record { number = 8; count = 4 }; says_run = true; applied = true } ∷ []
new_run_data = refl

-- with the old count they are accepted, and not applied
old_count : accepted_found 5 profile now (datagram 8 3 (1 ∷ 0 ∷ 0 ∷ 0 ∷ 0xAA ∷ 0xBB ∷ [])) (Some owner) ≡ record { datagram = record { number = 8; count = 3 }; says_run = true; applied = false } ∷ []
old_count = refl

-- idle data neither
idle_data : accepted_found 5 profile now (datagram 8 4 (0 ∷ 0 ∷ 0 ∷ 0 ∷ 0xAA ∷ 0xBB ∷ [])) (Some owner) ≡ record { datagram = record { number = 8; count = 4 }; says_run = false; applied = false } ∷ []
idle_data = refl

-- the last number again is not accepted, nor an older one
last_number : accepted_found 5 profile now (datagram 7 4 (1 ∷ 0 ∷ 0 ∷ 0 ∷ 0xAA ∷ 0xBB ∷ [])) (Some owner) ≡ []
last_number = refl

older_number : accepted_found 5 profile now (datagram 6 4 (1 ∷ 0 ∷ 0 ∷ 0 ∷ 0xAA ∷ 0xBB ∷ [])) (Some owner) ≡ []
older_number = refl

-- a heartbeat is accepted, and not applied
heartbeat : accepted_found 5 profile now (datagram 8 4 []) (Some (opened_fifth InputOnly 152)) ≡ record { datagram = record { number = 8; count = 4 }; says_run = false; applied = false } ∷ []
heartbeat = refl

-- it is no other connection's
other_opening : accepted_found 6 profile now (datagram 8 4 []) (Some (opened_fifth InputOnly 152)) ≡ []
other_opening = refl
