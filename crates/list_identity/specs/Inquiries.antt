-- Inquiries, which a station answers without a session, and their replies (Volume 2, chapter 2, encapsulation commands).
--
-- An inquiry is an encapsulation header alone: no data, status 0, options 0. Its reply repeats its command, its session
-- handle and its sender context.
--
--   ListServices     0004   the services of the device, as a device answers over a stream
--   ListIdentity     0063   the identity item
--   ListInterfaces   0064   the number of items, u16: 0
use Rattle.std.specs.Prelude.{ℕ, Bool, ◌&&◌, ◌==◌, if◌then◌else◌, List, [], ◌∷◌, length, Option, Some, None, Result, Ok, Err}
use Rattle.std.specs.Option.{option_map}
use Rattle.cip_encap.specs.Message.{MessageFields, message_text}
use Rattle.cip_encap.specs.Reading.{message_reading}
use Rattle.cip_encap.specs.declared.message.EncapFault.{EncapFault}
use Rattle.cip_encap.specs.declared.packet.SocketAddress.{SocketAddress}
use Rattle.cip_router.specs.Frames.{services_text}
use Rattle.list_identity.specs.declared.inquiry.Inquiry.{Inquiry}
use Rattle.list_identity.specs.declared.inquiry.Inquiry.TheVariants as inquiry
use Rattle.list_identity.specs.declared.station.StationIdentity.{StationIdentity}
use Rattle.list_identity.specs.Identity.{identity_item}

-- the inquiry of a command
abbrev pub inquiry_of : ℕ → Option Inquiry
inquiry_of command =
    if command == 0x0004 then Some inquiry.Services
    else if command == 0x0063 then Some inquiry.Identity
    else if command == 0x0064 then Some inquiry.Interfaces
    else None

-- the message has no data, status or options
abbrev pub is_bare : MessageFields → Bool
is_bare m = m.status == 0 && (m.options == 0 && length m.payload == 0)

-- what a message inquires
abbrev pub inquired : MessageFields → Option Inquiry
inquired m = if is_bare m then inquiry_of m.command else None

-- an inquiry with its message
abbrev pub InquiryMessage : Type 0
InquiryMessage = Inquiry × MessageFields

abbrev pub inquiry_message : MessageFields → Option InquiryMessage
inquiry_message m = option_map (λ inquiry. (inquiry, m)) (inquired m)

abbrev pub inquiry_read : Result MessageFields EncapFault → Option InquiryMessage
inquiry_read (Ok m) = inquiry_message m
inquiry_read (Err fault) = None

-- the inquiry of some bytes, if they are one
abbrev pub inquiry_in : List ℕ → Option InquiryMessage
inquiry_in bytes = inquiry_read (message_reading bytes)

-- the data of the reply
abbrev pub inquiry_data : Inquiry → StationIdentity → SocketAddress → List ℕ
inquiry_data inquiry.Services s at = services_text
inquiry_data inquiry.Identity s at = identity_item s at
inquiry_data inquiry.Interfaces s at = 0 ∷ 0 ∷ []

-- the reply with these data
abbrev pub reply_message : MessageFields → List ℕ → MessageFields
reply_message request bytes = record { command = request.command; session = request.session; status = 0; context = request.context; options = 0; payload = bytes }

-- the bytes that answer an inquiry
abbrev pub inquiry_text : StationIdentity → SocketAddress → InquiryMessage → List ℕ
inquiry_text s at a = message_text (reply_message a.1 (inquiry_data a.0 s at))

-- the bytes that answer some bytes: none, unless these are an inquiry
abbrev pub inquiry_answer : List ℕ → StationIdentity → SocketAddress → Option (List ℕ)
inquiry_answer bytes s at = option_map (inquiry_text s at) (inquiry_in bytes)

-- the same of a request for the identity alone
abbrev pub identity_answer_of : StationIdentity → SocketAddress → Option InquiryMessage → Option (List ℕ)
identity_answer_of s at (Some (inquiry.Identity, m)) = Some (inquiry_text s at (inquiry.Identity, m))
identity_answer_of s at other = None

-- the bytes that answer some bytes: none, unless these are a ListIdentity request
abbrev pub identity_answer : List ℕ → StationIdentity → SocketAddress → Option (List ℕ)
identity_answer bytes s at = identity_answer_of s at (inquiry_in bytes)

-- the bytes of the longest reply: a header of 24, and an item with a name of 32
abbrev pub longest_reply : ℕ
longest_reply = 96
