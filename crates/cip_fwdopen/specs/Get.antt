-- A Get_Attribute_Single and replies to it (Volume 1, appendix A, Get_Attribute_Single service;
-- chapter 2, message router request and response).
--
-- A request: service, words of the path, the path, no data. Data of a success: the attribute's value, which is
-- all bytes that are left. Data of a failure: as in a reply to a Forward_Open.
use Rattle.std.specs.Prelude.{◌≡◌, ◌≢◌, ◌==◌, ℕ, ◌/◌, if◌then◌else◌, List, [], ◌∷◌, length, Option, Result, Ok}
use Rattle.cip_types.specs.declared.Fault.{Fault}
use Rattle.cip_types.specs.declared.Triad.{Triad}
use Rattle.cip_epath.specs.declared.path.Target.{Target}
use Rattle.cip_epath.specs.Written.{target_text}
use Rattle.cip_fwdopen.specs.declared.fault.ReadFault.{ReadFault}
use Rattle.cip_fwdopen.specs.declared.get.GetAnswer.{GetAnswer}
use Rattle.cip_fwdopen.specs.declared.get.GetAnswer.TheVariants.{Got, Refused}
use Rattle.cip_fwdopen.specs.declared.get.GetReply.{GetReply}
use Rattle.cip_fwdopen.specs.Readings.{IsReadingAmong, seen}
use Rattle.cip_fwdopen.specs.Reply.{reply_service, IsFailureText, failure_reading, IsReplyText, unread_reading, reply_of}
use Rattle.cip_fwdopen.specs.Request.{RequestFields}
use Rattle.cip_fwdopen.specs.Services.{get_attribute_single}

-- ---- requests

-- the request for the target's value
unfoldable pub get_text : Target → List ℕ
get_text target = get_attribute_single ∷ length (target_text target) / 2 ∷ target_text target

-- the contents of the request for the target's value
abbrev pub get_request : Target → RequestFields
get_request target = record { service = get_attribute_single; target = target; body = [] }

-- ---- replies

-- the reply with the value, of service 0x0E with the reply bit
unfoldable pub got_text : List ℕ → List ℕ
got_text value = 0x8E ∷ 0 ∷ 0 ∷ 0 ∷ value

-- the contents of an answer
pub data Gotten : Type 0 where
  value : List ℕ → Gotten
  refusal : Fault → Gotten

-- the contents of a reply
pub record GetFields : Type 0 where
  pub service : ℕ
  pub answer : Gotten

-- the contents of an answer of the program
abbrev pub view_answer : GetAnswer → Gotten
view_answer (Got bytes) = value bytes.now
view_answer (Refused fault) = refusal fault

-- the contents of a reply of the program
abbrev pub view_get : GetReply → GetFields
view_get r = record { service = r.service; answer = view_answer r.answer }

-- the contents of the reply with the value
abbrev pub got_reply : List ℕ → GetFields
got_reply bytes = record { service = 0x8E; answer = value bytes }

-- the contents of the reply that refuses a request of the service
abbrev pub refused_get : ℕ → Fault → GetFields
refused_get service fault = record { service = reply_service service; answer = refusal fault }

-- the text is the data of a reply with the fault and the answer; general status 0 is a success, and the triad of a
-- failure is dropped
abbrev pub IsGottenText : Fault → List ℕ → Gotten → Type 0
IsGottenText fault text (value bytes) = (fault.general ≡ 0) × (text ≡ bytes)
IsGottenText fault text (refusal f) = (fault.general ≢ 0) × (f ≡ fault) × ((named : Option Triad) × IsFailureText text named)

-- the text is a reply
abbrev pub IsGetReplyText : List ℕ → GetFields → Type 0
IsGetReplyText text r = IsReplyText IsGottenText text r.service r.answer

-- the result is a reading of the bytes as a reply
abbrev pub IsGetReplyReading : List ℕ → Result GetFields ReadFault → Type 0
IsGetReplyReading = IsReadingAmong IsGetReplyText

-- the refusal with the fault, whatever triad its data has
abbrev pub refusal_by : Fault → Option Triad → Gotten
refusal_by fault named = refusal fault

-- the reading of the data of a reply with the fault
abbrev pub gotten_reading : Fault → List ℕ → Result Gotten ReadFault
gotten_reading fault bytes = if fault.general == 0 then Ok (value bytes) else seen (refusal_by fault) (failure_reading bytes)

-- the reply of a service and an answer
abbrev pub with_gotten : ℕ → Gotten → GetFields
with_gotten service answer = record { service = service; answer = answer }

-- the reading of bytes as a reply
unfoldable pub get_reply_reading : List ℕ → Result GetFields ReadFault
get_reply_reading bytes = reply_of with_gotten gotten_reading (unread_reading bytes)
