-- What the reply to a request does to the connections of its peer (Volume 1, chapter 3, Forward_Open and Forward_Close
-- services, successful response).
use Rattle.std.specs.Prelude.{ℕ, ◌==◌, ◌||◌, if◌then◌else◌, List, [], ◌∷◌, Result, Ok, Err}
use Rattle.cip_fwdopen.specs.declared.fault.ReadFault.{ReadFault}
use Rattle.cip_fwdopen.specs.declared.reply.OpenReply.{OpenReply}
use Rattle.cip_fwdopen.specs.declared.reply.OpenAnswer.{OpenAnswer}
use Rattle.cip_fwdopen.specs.declared.reply.OpenAnswer.TheVariants as open_answer
use Rattle.cip_fwdopen.specs.declared.close.CloseReply.{CloseReply}
use Rattle.cip_fwdopen.specs.declared.close.CloseAnswer.{CloseAnswer}
use Rattle.cip_fwdopen.specs.declared.close.CloseAnswer.TheVariants as close_answer
use Rattle.cip_fwdopen.specs.Reply.{open_reply_reading}
use Rattle.cip_fwdopen.specs.Close.{close_reply_reading}
use Rattle.cip_encap.specs.declared.packet.ItemFault.{ItemFault}
use Rattle.cip_encap.specs.declared.message.EncapFault.{EncapFault}
use Rattle.cip_encap.specs.Message.{MessageFields}
use Rattle.cip_encap.specs.Reading.{message_reading}
use Rattle.cip_encap.specs.Packet.{PacketFields}
use Rattle.cip_encap.specs.PacketReading.{packet_reading}
use Rattle.station_port.specs.declared.named_ports.reply.ReplyOutcome.{ReplyOutcome}
use Rattle.station_port.specs.declared.named_ports.reply.ReplyOutcome.TheVariants.{Opened, Closed, Nothing}

abbrev pub open_answer_outcome : OpenAnswer → ReplyOutcome
open_answer_outcome (open_answer.Opened opened) = Opened opened.triad opened.o_t_id.0 opened.t_o_id.0
open_answer_outcome (open_answer.Refused refused) = Nothing

abbrev pub open_reply_outcome : Result OpenReply ReadFault → ReplyOutcome
open_reply_outcome (Err fault) = Nothing
open_reply_outcome (Ok reply) = open_answer_outcome reply.answer

-- the reply to a request to open a connection
abbrev pub opened_outcome : List ℕ → ReplyOutcome
opened_outcome reply = open_reply_outcome (open_reply_reading reply)

abbrev pub close_answer_outcome : CloseAnswer → ReplyOutcome
close_answer_outcome (close_answer.Closed triad) = Closed triad
close_answer_outcome (close_answer.Refused refused) = Nothing

abbrev pub close_reply_outcome : Result CloseReply ReadFault → ReplyOutcome
close_reply_outcome (Err fault) = Nothing
close_reply_outcome (Ok reply) = close_answer_outcome reply.answer

-- the reply to a request to close a connection
abbrev pub closed_outcome : List ℕ → ReplyOutcome
closed_outcome reply = close_reply_outcome (close_reply_reading reply)

-- a reply, by its service: of Forward_Open, of Large_Forward_Open, of Forward_Close, each with the bit of a reply
abbrev pub service_outcome : ℕ → List ℕ → ReplyOutcome
service_outcome service reply =
    if (service == 0xD4) || (service == 0xDB) then opened_outcome reply
    else if service == 0xCE then closed_outcome reply
    else Nothing

abbrev pub request_outcome : List ℕ → ReplyOutcome
request_outcome [] = Nothing
request_outcome (service ∷ rest) = service_outcome service (service ∷ rest)

abbrev pub read_packet_outcome : Result PacketFields ItemFault → ReplyOutcome
read_packet_outcome (Err fault) = Nothing
read_packet_outcome (Ok packet) = request_outcome packet.payload

abbrev pub packet_outcome : List ℕ → ReplyOutcome
packet_outcome items = read_packet_outcome (packet_reading items)

abbrev pub message_outcome : Result MessageFields EncapFault → ReplyOutcome
message_outcome (Err fault) = Nothing
message_outcome (Ok message) = if message.command == 0x6F then packet_outcome message.payload else Nothing

-- what a message does, as the reply to a request over its stream
unfoldable pub reply_outcome : List ℕ → ReplyOutcome
reply_outcome message = message_outcome (message_reading message)
