-- Inquiries: which device this is (Volume 2, chapter 2, ListIdentity, ListServices and ListInterfaces). A described device
-- answers them over streams and over none, with the same bytes.
use Rattle.std.specs.Prelude.{ℕ, List, [], ◌∷◌, Option, Some, None}
use Rattle.cip_types.specs.declared.names.Node.{Node}
use Rattle.cip_encap.specs.declared.packet.SocketAddress.{SocketAddress}
use Rattle.cip_events.specs.Answers.{plain_answer}
use Rattle.cip_events.specs.declared.event.Answer.{Answer}
use Rattle.cip_events.specs.declared.event.Recipient.{Recipient}
use Rattle.cip_events.specs.declared.event.Recipient.TheVariants.{Peer}
use Rattle.cip_events.specs.declared.event.Verdict.TheVariants.{Done, BadFrame}
use Rattle.list_identity.specs.declared.station.StationIdentity.{StationIdentity}
use Rattle.list_identity.specs.Inquiries.{inquiry_answer}
use Rattle.adapter_table.specs.declared.profile.Description.{Description}
use Rattle.adapter_table.specs.declared.table.AdapterTable.{AdapterTable}
use Rattle.adapter_table.specs.Objects.{operational, status_word}
use Rattle.adapter_table.specs.Requests.{Next}

-- what the device says of itself: as its Identity object does
abbrev pub identity_of : AdapterTable → Description → StationIdentity
identity_of t d = record { device = t.profile.identity; status = status_word t; serial = d.serial; name = d.name; state = operational }

-- where its encapsulation is reached
abbrev pub address_of : AdapterTable → Description → SocketAddress
address_of t d = record { port = d.port; address = t.profile.node }

abbrev pub inquiry_reply_of : AdapterTable → List ℕ → Option Description → Option (List ℕ)
inquiry_reply_of t bytes None = None
inquiry_reply_of t bytes (Some d) = inquiry_answer bytes (identity_of t d) (address_of t d)

-- the reply to some bytes: none, unless the device is described and these are an inquiry
unfoldable pub inquiry_reply : AdapterTable → List ℕ → Option (List ℕ)
inquiry_reply t bytes = inquiry_reply_of t bytes t.profile.description

-- an answer of one frame
abbrev pub frame_alone : Recipient → List ℕ → Answer
frame_alone to text = record { frames = record { to = to; bytes = text } ∷ []; datagrams = []; verdict = Done; notices = [] }

abbrev pub inquired_by : AdapterTable → Node → Option (List ℕ) → Next
inquired_by t peer None = (plain_answer BadFrame, t)
inquired_by t peer (Some text) = (frame_alone (Peer peer) text, t)

-- an inquiry of a peer over no stream; other bytes than an inquiry have no reply
unfoldable pub inquired : AdapterTable → Node → List ℕ → Next
inquired t peer bytes = inquired_by t peer (inquiry_reply t bytes)
