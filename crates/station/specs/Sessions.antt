-- The sessions of a device, and how a station ends them (Volume 2, chapter 2, UnRegisterSession).
use Rattle.std.specs.Prelude.{ℕ, if◌then◌else◌, List, [], ◌∷◌, Option, Some, None}
use Rattle.std.specs.List.{filter_map}
use Rattle.adapter_table.specs.declared.table.Stream.{Stream}
use Rattle.adapter_table.specs.Streams.{session_of}
use Rattle.cip_encap.specs.Message.{message_text}
use Rattle.cip_tables.specs.declared.table.DeviceTable.{DeviceTable}
use Rattle.cip_tables.specs.declared.table.DeviceTable.TheVariants.{Adapter, Scanner}
use Rattle.scanner_table.specs.declared.table.Session.{Session}
use Rattle.scanner_table.specs.Sessions.{session_on}
use Rattle.udp_runner.specs.declared.output.SentOutput.{SentOutput}
use Rattle.udp_runner.specs.declared.output.SentOutput.TheVariants as sent

-- the session on a stream of an adapter, if one is registered
abbrev pub adapter_session : Stream → Option Session
adapter_session stream = if stream.registered then Some (record { stream = stream.number; handle = session_of stream }) else None

-- the sessions of a device, in the order of its streams
abbrev pub sessions_of : DeviceTable → List Session
sessions_of (Adapter t) = filter_map adapter_session t.streams
sessions_of (Scanner t) = filter_map session_on t.streams

-- the message that ends a session
abbrev pub unregister_text : ℕ → List ℕ
unregister_text session = message_text (record { command = 0x0066; session = session; status = 0; context = 0; options = 0; payload = [] })

-- what is sent to end sessions: to each the message, and then the end of its stream
abbrev pub ends_of : List Session → List SentOutput
ends_of [] = []
ends_of (session ∷ sessions) = sent.Frame session.stream (unregister_text session.handle) ∷ sent.Close session.stream ∷ ends_of sessions
