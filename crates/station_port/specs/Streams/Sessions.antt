-- What a message that a target sends says of the session of its stream (Volume 2, chapter 2, RegisterSession).
use Rattle.std.specs.Prelude.{ℕ, ◌==◌, if◌then◌else◌, Bool, false, List, ◌∷◌, Result, Ok, Err}
use Rattle.cip_encap.specs.Message.{MessageFields}
use Rattle.cip_encap.specs.Reading.{message_reading}
use Rattle.cip_encap.specs.declared.message.EncapFault.{EncapFault}
use Rattle.station_port.specs.declared.streams.sessions.SessionAnswer.{SessionAnswer}
use Rattle.station_port.specs.declared.streams.sessions.SessionAnswer.TheVariants as answer

-- the command of RegisterSession and of its reply
abbrev pub register_session : ℕ
register_session = 0x0065

-- the reply registers the session with status 0, and refuses it with another one
abbrev pub answer_of : MessageFields → SessionAnswer
answer_of m = if m.command == register_session then (if m.status == 0 then answer.Registered else answer.Refused) else answer.None

abbrev pub answer_from : Result MessageFields EncapFault → SessionAnswer
answer_from (Ok m) = answer_of m
answer_from (Err fault) = answer.None

abbrev pub answer_in : List ℕ → SessionAnswer
answer_in bytes = answer_from (message_reading bytes)

-- the bytes of a message that the device sends begin with that command
abbrev pub asks_session : List ℕ → Bool
asks_session (low ∷ high ∷ rest) = if low == 0x65 then high == 0 else false
asks_session other = false
