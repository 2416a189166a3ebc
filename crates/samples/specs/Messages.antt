-- Encapsulation messages, byte for byte, and their replies (Volume 2, chapter 2, encapsulation
-- messages and common packet format).
use Rattle.std.specs.Prelude.{ℕ, List, [], ◌∷◌, ◌++◌, length, Ok}
use Rattle.cip_events.specs.declared.event.Event.{Event}
use Rattle.cip_events.specs.declared.event.Event.TheVariants.{Frame, StreamOpened}
use Rattle.cip_events.specs.declared.event.Notice.{Notice}
use Rattle.cip_events.specs.declared.event.Recipient.TheVariants.{Stream}
use Rattle.cip_events.specs.declared.event.Verdict.TheVariants.{Done}
use Rattle.cip_events.specs.Outcomes.{Outcome}
use Rattle.samples.specs.Hex.{hex, little}
use Rattle.samples.specs.Devices.{peer}

-- a message by its command, session handle, status and data; its sender context is 01 to 08
abbrev pub message : ℕ → ℕ → ℕ → List ℕ → List ℕ
message command session status payload =
    little 2 command ++ little 2 (length payload) ++ little 4 session ++ little 4 status ++ hex "01 02 03 04 05 06 07 08 00 00 00 00" ++ payload

-- the request to begin a session
abbrev pub register : List ℕ
register = message 0x65 0 0 (hex "01 00 00 00")

-- the items of a request or a reply
abbrev pub items : List ℕ → List ℕ
items bytes = hex "00 00 00 00 00 00 02 00 00 00 00 00 B2 00" ++ little 2 (length bytes) ++ bytes

-- the items of a reply with the socket of the common adapter's multicast address, 239.192.2.32 port 2222
abbrev pub items_with_socket : List ℕ → List ℕ
items_with_socket bytes =
    hex "00 00 00 00 00 00 03 00 00 00 00 00 B2 00" ++ little 2 (length bytes) ++ bytes
    ++ hex "01 80 10 00 00 02 08 AE EF C0 02 20 00 00 00 00 00 00 00 00"

-- a request to the message router, within the session of this handle
abbrev pub sent : ℕ → List ℕ → List ℕ
sent session bytes = message 0x6F session 0 (items bytes)

-- the first originator opens stream 0, and begins its session
abbrev pub in_session : List Event
in_session = StreamOpened 0 peer ∷ Frame 0 register ∷ []

-- a reply over stream 0
abbrev pub frames : List ℕ → List Notice → Outcome
frames bytes notices = Ok (record {
  frames = record { to = Stream 0; bytes = bytes } ∷ [];
  datagrams = [];
  verdict = Done;
  notices = notices;
})
