-- What a frame of a device can be read as, whoever reads it: the success of an opening, or a request to open (Volume 1,
-- chapter 3, Forward_Open service; Volume 2, chapter 2, sender context).
use Rattle.std.specs.Prelude.{ℕ, ◌≡◌, Bool, List, Result, Ok, Err}
use Rattle.std.specs.Int.{Width, w64, to_le_bytes, from_le_bytes}
use Rattle.cip_encap.specs.declared.packet.ItemFault.{ItemFault}
use Rattle.cip_encap.specs.Message.{MessageFields}
use Rattle.cip_encap.specs.Packet.{PacketFields}
use Rattle.cip_encap.specs.AnyItems.{any_packet_reading}
use Rattle.cip_encap.specs.Reading.{message_reading}
use Rattle.cip_events.specs.declared.event.Reason.{Reason}
use Rattle.cip_fwdopen.specs.declared.reply.Opened.{Opened}
use Rattle.cip_fwdopen.specs.declared.reply.OpenAnswer.{OpenAnswer}
use Rattle.cip_fwdopen.specs.declared.reply.OpenAnswer.TheVariants as answer
use Rattle.cip_fwdopen.specs.Open.{OpenFields}
use Rattle.cip_router.specs.Requests.{opening, router_request_reading}
use Rattle.scanner_table.specs.Replies.{open_answer}
use Rattle.device_laws.specs.Ids.{RequestIds}

-- a number, as a field of this width brings it back
abbrev pub again : Width → ℕ → ℕ
again w n = from_le_bytes w (to_le_bytes w n)

-- it holds of the success, where the answer to a Forward_Open is one
abbrev pub SuccessIs : (Opened → Type 0) → Result OpenAnswer Reason → Type 0
SuccessIs Q (Err why) = Unit {0}
SuccessIs Q (Ok (answer.Refused refusal)) = Unit {0}
SuccessIs Q (Ok (answer.Opened opened)) = Q opened

-- it holds of each success that the bytes can be read as, with its sender context, which is the number of a request
abbrev pub SuccessesAre : (ℕ → Opened → Type 0) → List ℕ → Type 0
SuccessesAre Q bytes = (m : MessageFields) → message_reading bytes ≡ Ok m → (large : Bool) → SuccessIs (Q m.context) (open_answer large m)

-- items that hold no request to open a connection
abbrev pub OpensNothing : Result PacketFields ItemFault → Type 0
OpensNothing (Err fault) = Unit {0}
OpensNothing (Ok packet) = RequestIds (λ id. ⊥) (router_request_reading packet.payload)

-- the bytes cannot be read as a request to open a connection
abbrev pub IsNoOpening : List ℕ → Type 0
IsNoOpening bytes = (m : MessageFields) → message_reading bytes ≡ Ok m → OpensNothing (any_packet_reading m.payload)

-- the sender context of the message, as it is read, is a number of 64 bits
abbrev pub ContextFits : List ℕ → Type 0
ContextFits bytes = (m : MessageFields) → message_reading bytes ≡ Ok m → again w64 m.context ≡ m.context

-- the bytes can be read as this request to open a connection
pub record IsOpening (bytes : List ℕ) (request : OpenFields) : Type 0 where
  pub message : MessageFields
  pub reads : message_reading bytes ≡ Ok message
  pub packet : PacketFields
  pub packet_is : any_packet_reading message.payload ≡ Ok packet
  pub large : Bool
  pub opens : router_request_reading packet.payload ≡ opening large request

-- it holds of each request to open that the bytes can be read as
abbrev pub OpeningsAre : (OpenFields → Type 0) → List ℕ → Type 0
OpeningsAre Q bytes = (request : OpenFields) → IsOpening bytes request → Q request
