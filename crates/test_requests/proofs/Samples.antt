-- Requests and a datagram, worked by hand from docs/PROFILE.md.
use Rattle.std.specs.Prelude.{◌≡◌, [], ◌∷◌, Some, true, false, refl}
use Rattle.cip_fwdopen.specs.Open.{open_text}
use Rattle.test_requests.specs.Datagrams.{header_bytes}
use Rattle.test_requests.specs.Requests.{request_text}
use Rattle.test_requests.specs.declared.opening.ConnectionRequest.{ConnectionRequest}

-- an exclusive owner of output 150 that consumes input 100, both of 4 bytes, every 10 ms, point to point
owner : ConnectionRequest
owner = record {
  triad = record { serial = 1; vendor = 0x1234; originator = 0x12345678 };
  t_o_id = record { 0 = 0x20000001 };
  config = Some 151;
  consumed = 150;
  produced = 100;
  o_t_size = 10;
  t_o_size = 6;
  rpi_us = 10000;
  multicast = false;
}

owner_bytes : request_text owner ≡
    0x54 ∷ 0x02 ∷ 0x20 ∷ 0x06 ∷ 0x24 ∷ 0x01 ∷ 0x0A ∷ 0x0E ∷ 0x00 ∷ 0x00 ∷ 0x00 ∷ 0x00 ∷ 0x01 ∷ 0x00 ∷ 0x00 ∷ 0x20
    ∷ 0x01 ∷ 0x00 ∷ 0x34 ∷ 0x12 ∷ 0x78 ∷ 0x56 ∷ 0x34 ∷ 0x12 ∷ 0x02 ∷ 0x00 ∷ 0x00 ∷ 0x00 ∷ 0x10 ∷ 0x27 ∷ 0x00 ∷ 0x00
    ∷ 0x0A ∷ 0x48 ∷ 0x10 ∷ 0x27 ∷ 0x00 ∷ 0x00 ∷ 0x06 ∷ 0x48 ∷ 0x01 ∷ 0x04 ∷ 0x20 ∷ 0x04 ∷ 0x24 ∷ 0x97 ∷ 0x2C ∷ 0x96
    ∷ 0x2C ∷ 0x64 ∷ []
unfolding owner open_text
owner_bytes = refl

-- run mode, and data 11 22 33 44
run_header : header_bytes (Some true) ≡ 1 ∷ 0 ∷ 0 ∷ 0 ∷ []
run_header = refl

idle_header : header_bytes (Some false) ≡ 0 ∷ 0 ∷ 0 ∷ 0 ∷ []
idle_header = refl
