-- The frames of requests to a Connection Manager (Volume 1, chapter 3, Connection Manager services).
use Rattle.std.specs.Prelude.{ℕ, List, [], ◌∷◌, None}
use Rattle.cip_encap.specs.Message.{message_text}
use Rattle.cip_encap.specs.Packet.{packet_text}
use Rattle.scanner_table.specs.declared.table.Session.{Session}
use Rattle.scanner_table.specs.Requests.{manager_text}

-- the numbers of the header of the message with a request, whose items have this length
abbrev pub request_numbers : Session → ℕ → ℕ → List ℕ
request_numbers session number len = 0x006F ∷ len ∷ session.handle ∷ 0 ∷ number ∷ 0 ∷ []

-- the message with a request of a service and its data, within a session
abbrev pub manager_bytes : Session → ℕ → ℕ → List ℕ → List ℕ
manager_bytes session number service body = message_text (record {
  command = 0x006F;
  session = session.handle;
  status = 0;
  context = number;
  options = 0;
  payload = packet_text (manager_text service body) None;
})
