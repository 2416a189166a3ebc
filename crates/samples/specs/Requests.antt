-- Requests to open and to close, and replies to them, byte for byte (Volume 1, chapter 3, Connection
-- Manager services).
use Rattle.std.specs.Prelude.{ℕ, ◌/◌, List, ◌∷◌, ◌++◌, length}
use Rattle.samples.specs.Hex.{hex, little}

-- the fields in which requests to open differ: intervals in microseconds, parameters as a word of 16 or 32 bits
pub record OpeningRequest : Type 0 where
  pub serial : ℕ
  pub originator : ℕ
  pub t_o_id : ℕ
  pub multiplier : ℕ
  pub o_t_rpi : ℕ
  pub o_t_params : ℕ
  pub t_o_rpi : ℕ
  pub t_o_params : ℕ
  pub trigger : ℕ
  pub path : List ℕ

-- the parts from the T->O id to the O->T interval
abbrev pub front_bytes : OpeningRequest → List ℕ
front_bytes a =
    hex "02 20 06 24 01 0A 0E 00 00 00 00" ++ little 4 a.t_o_id ++ little 2 a.serial ++ hex "34 12" ++ little 4 a.originator
    ++ a.multiplier ∷ hex "00 00 00" ++ little 4 a.o_t_rpi

-- the trigger and the path
abbrev pub back_bytes : OpeningRequest → List ℕ
back_bytes a = a.trigger ∷ length a.path / 2 ∷ a.path

-- a request with so many bytes of parameters
abbrev pub request_bytes : ℕ → OpeningRequest → List ℕ
request_bytes width a = front_bytes a ++ little width a.o_t_params ++ little 4 a.t_o_rpi ++ little width a.t_o_params ++ back_bytes a

-- a Forward_Open
abbrev pub opening : OpeningRequest → List ℕ
opening a = 0x54 ∷ request_bytes 2 a

-- a Large_Forward_Open
abbrev pub large_opening : OpeningRequest → List ℕ
large_opening a = 0x5B ∷ request_bytes 4 a

-- an exclusive owner of the output 150, point to point, every 10 ms
abbrev pub owner : OpeningRequest
owner = record {
  serial = 1;
  originator = 0x12345678;
  t_o_id = 0x20000001;
  multiplier = 2;
  o_t_rpi = 10000;
  o_t_params = 0x480A;
  t_o_rpi = 10000;
  t_o_params = 0x4806;
  trigger = 0x01;
  path = hex "20 04 24 97 2C 96 2C 64";
}

-- input only, multicast
abbrev pub gatherer : OpeningRequest
gatherer = record owner {
  serial = 5;
  t_o_id = 0;
  o_t_params = 0x4802;
  t_o_params = 0x2806;
  path = hex "20 04 24 97 2C 98 2C 64";
}

-- listen only, multicast, of the other originator
abbrev pub listener : OpeningRequest
listener = record gatherer { serial = 6; originator = 0x12345679; path = hex "20 04 24 97 2C 99 2C 64" }

-- input only, point to point
abbrev pub consumer : ℕ → OpeningRequest
consumer serial = record gatherer { serial = serial; t_o_id = 0x20000002; t_o_params = 0x4806 }

-- the path with a change-of-state trigger and a production inhibit time of so many milliseconds
abbrev pub inhibited : ℕ → OpeningRequest → OpeningRequest
inhibited ms a = record a { trigger = 0x11; path = 0x43 ∷ ms ∷ a.path }

-- the path with an electronic key in front: what comes behind its format
abbrev pub keyed : List ℕ → OpeningRequest → OpeningRequest
keyed key a = record a { path = 0x34 ∷ 0x04 ∷ key ++ a.path }

-- the path with more bytes behind
abbrev pub followed : List ℕ → OpeningRequest → OpeningRequest
followed bytes a = record a { path = a.path ++ bytes }

-- the close of a connection
abbrev pub closing : ℕ → ℕ → List ℕ
closing serial originator =
    hex "4E 02 20 06 24 01 0A 0E" ++ little 2 serial ++ hex "34 12" ++ little 4 originator ++ hex "04 00 20 04 24 97 2C 98 2C 64"

-- the success of a Forward_Open: both ids, and both actual packet intervals in microseconds
abbrev pub opened_reply : OpeningRequest → ℕ → ℕ → ℕ → ℕ → List ℕ
opened_reply a o_t_id t_o_id o_t_api_us t_o_api_us =
    hex "D4 00 00 00" ++ little 4 o_t_id ++ little 4 t_o_id ++ little 2 a.serial ++ hex "34 12" ++ little 4 a.originator
    ++ little 4 o_t_api_us ++ little 4 t_o_api_us ++ hex "00 00"

-- the refusal of a Forward_Open with an additional status
abbrev pub refused_reply : OpeningRequest → ℕ → List ℕ
refused_reply a code = hex "D4 00 01 01" ++ little 2 code ++ little 2 a.serial ++ hex "34 12" ++ little 4 a.originator ++ hex "00 00"

-- the success of a Forward_Close
abbrev pub closed_reply : ℕ → ℕ → List ℕ
closed_reply serial originator = hex "CE 00 00 00" ++ little 2 serial ++ hex "34 12" ++ little 4 originator ++ hex "00 00"
