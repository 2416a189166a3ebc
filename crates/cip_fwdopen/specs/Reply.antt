-- Replies to a Forward_Open and to a Large_Forward_Open (Volume 1, chapter 3, Forward_Open service,
-- successful and unsuccessful response; chapter 2, message router response).
--
-- A reply: service with the reply bit 0x80 (1 byte), a reserved byte, the general status (1), the number of words of
-- the extended status (1), these words (2 each), data.
--
--   place  width    data of a success
--   0, 1   4, 4     O->T and T->O connection id
--   2 to 4 2, 2, 4  connection serial number, originator's vendor and serial number
--   5, 6   4, 4     O->T and T->O actual packet interval
--   7, 8   1, 1     words of the application reply, reserved
--
-- The application reply follows. Data of a failure: the triad of the connection (2, 2, 4), remaining path size and a
-- reserved byte (1, 1); or the triad alone; or nothing.
use Rattle.std.specs.Prelude.{◌≡◌, ◌≢◌, ◌==◌, ℕ, ◌+◌, ◌*◌, ◌%◌, ◌^◌, ◌<◌, ◌⊎◌, Bool, ◌||◌, if◌then◌else◌, List, [], ◌∷◌, ◌++◌, length, slice_index, Option, Some, None, IfSome, Result, Ok, Err}
use Rattle.std.specs.Option.{option_map}
use Rattle.std.specs.Int.{Width, w8, w16, w32, to_le_bytes}
use Rattle.cip_types.specs.declared.Fault.{Fault}
use Rattle.cip_types.specs.declared.Triad.{Triad}
use Rattle.cip_types.specs.Fields.{fields_text, AreFields, field_at, fields_at}
use Rattle.cip_types.specs.Texts.{IsImage, found_image, Tailed, IsTailedText, tailed_found}
use Rattle.cip_fwdopen.specs.declared.fault.ReadFault.{ReadFault}
use Rattle.cip_fwdopen.specs.declared.fault.ReadFault.TheVariants.{NotEnough, TooMuch}
use Rattle.cip_fwdopen.specs.declared.reply.Opened as made
use Rattle.cip_fwdopen.specs.declared.reply.AcceptableIntervals.{AcceptableIntervals}
use Rattle.cip_fwdopen.specs.declared.reply.OpenAnswer.{OpenAnswer}
use Rattle.cip_fwdopen.specs.declared.reply.OpenAnswer.TheVariants.{Opened, Refused}
use Rattle.cip_fwdopen.specs.declared.reply.OpenReply.{OpenReply}
use Rattle.cip_fwdopen.specs.Readings.{IsReadingAmong, seen, answer_of, number}
use Rattle.cip_fwdopen.specs.Front.{Begins, front_at}

-- the service byte of a reply
abbrev pub reply_service : ℕ → ℕ
reply_service service = 128 + service % 128

-- ---- writing

-- the widths of a success's data
abbrev pub opened_widths : List Width
opened_widths = w32 ∷ w32 ∷ w16 ∷ w16 ∷ w32 ∷ w32 ∷ w32 ∷ w8 ∷ w8 ∷ []

-- the numbers of a success's data, by words of the application reply and the reserved byte
abbrev pub opened_numbers : made.Opened → ℕ → ℕ → List ℕ
opened_numbers o words reserved = o.o_t_id.0 ∷ o.t_o_id.0 ∷ o.triad.serial ∷ o.triad.vendor ∷ o.triad.originator ∷ o.o_t_api_us ∷ o.t_o_api_us ∷ words ∷ reserved ∷ []

-- the service byte of a reply to a Large_Forward_Open (0x5B) or to a Forward_Open (0x54), with the reply bit
abbrev pub opened_service : Bool → ℕ
opened_service large = if large then 0xDB else 0xD4

-- the reply to a successful open, with no application reply
unfoldable pub opened_text : Bool → made.Opened → List ℕ
opened_text large o = opened_service large ∷ 0 ∷ 0 ∷ 0 ∷ fields_text opened_widths (opened_numbers o 0 0)

-- the contents of the reply to a successful open
abbrev pub opened_reply : Bool → made.Opened → OpenReply
opened_reply large o = record { service = opened_service large; answer = Opened o }

-- the number of words of the extended status, and these words
abbrev pub extended_text : Option ℕ → List ℕ
extended_text None = 0 ∷ []
extended_text (Some code) = 1 ∷ to_le_bytes w16 code

-- the widths of the numbers of a triad
abbrev pub triad_widths : List Width
triad_widths = w16 ∷ w16 ∷ w32 ∷ []

-- the numbers of a triad
abbrev pub triad_numbers : Triad → List ℕ
triad_numbers t = t.serial ∷ t.vendor ∷ t.originator ∷ []

-- the data of a failure
abbrev pub failure_text : Option Triad → List ℕ
failure_text None = []
failure_text (Some t) = fields_text triad_widths (triad_numbers t) ++ 0 ∷ 0 ∷ []

-- the reply that refuses a request of the service
unfoldable pub refused_text : ℕ → Fault → Option Triad → List ℕ
refused_text service fault triad = reply_service service ∷ 0 ∷ fault.general ∷ extended_text fault.extended ++ failure_text triad

-- A refusal for its packet intervals (general status 1, extended status 0x0112) has five words more, which say what is acceptable
-- (Volume 1, chapter 3, Connection Manager extended status codes):
--
--   place  width  words of the extended status
--   0      2      0x0112
--   1, 2   1, 1   what is said of the O->T and of the T->O interval: 0 the requested one is accepted, 2 the least one that
--                 is, 3 the greatest one that is, 4 the one of the data that are exchanged already
--   3, 4   4, 4   the O->T and the T->O interval, in microseconds
abbrev pub intervals_widths : List Width
intervals_widths = w16 ∷ w8 ∷ w8 ∷ w32 ∷ w32 ∷ []

abbrev pub intervals_numbers : AcceptableIntervals → List ℕ
intervals_numbers a = 0x0112 ∷ a.o_t_says ∷ a.t_o_says ∷ a.o_t_us ∷ a.t_o_us ∷ []

-- the number of words of the extended status, and these words
unfoldable pub intervals_words : AcceptableIntervals → List ℕ
intervals_words a = 6 ∷ fields_text intervals_widths (intervals_numbers a)

-- the reply that refuses a request of the service for its packet intervals
unfoldable pub intervals_text : ℕ → AcceptableIntervals → Option Triad → List ℕ
intervals_text service a triad = reply_service service ∷ 0 ∷ 1 ∷ intervals_words a ++ failure_text triad

-- the contents of the reply that refuses a request of the service
abbrev pub refused_reply : ℕ → Fault → Option Triad → OpenReply
refused_reply service fault triad = record { service = reply_service service; answer = Refused (record { fault = fault; triad = triad }) }

-- ---- texts

-- service, reserved byte, general status, number of words of the extended status
abbrev pub reply_widths : List Width
reply_widths = w8 ∷ w8 ∷ w8 ∷ w8 ∷ []

-- bytes of the extended status
abbrev pub extended_len : List ℕ → ℕ
extended_len numbers = 2 * slice_index numbers 3

-- the text is all of a reply but its data
abbrev pub IsReplyFront : List ℕ → Tailed → Type 0
IsReplyFront = IsTailedText reply_widths extended_len

-- the fault of a reply, with the first word of the extended status
abbrev pub fault_of : Tailed → Fault
fault_of front = record { general = number front 2; extended = option_map (λ x. x.0) (field_at w16 front.1) }

-- bytes of the application reply
abbrev pub application_len : List ℕ → ℕ
application_len numbers = 2 * slice_index numbers 7

-- the contents of a success's data
abbrev pub opened_of : Tailed → made.Opened
opened_of text = record {
  o_t_id = record { 0 = number text 0 };
  t_o_id = record { 0 = number text 1 };
  triad = record { serial = number text 2; vendor = number text 3; originator = number text 4 };
  o_t_api_us = number text 5;
  t_o_api_us = number text 6;
}

-- the text is the data of a success; its application reply is dropped
abbrev pub IsOpenedText : List ℕ → made.Opened → Type 0
IsOpenedText = IsImage opened_of (IsTailedText opened_widths application_len)

-- two bytes more, or none
abbrev pub IsFailureRest : List ℕ → Type 0
IsFailureRest rest = (length rest ≡ 0) ⊎ (length rest ≡ 2)

-- the text is the data of a failure, with or without a triad
abbrev pub IsFailureText : List ℕ → Option Triad → Type 0
IsFailureText text None = text ≡ []
IsFailureText text (Some t) = AreFields triad_widths (triad_numbers t) × ((rest : List ℕ) × IsFailureRest rest × (text ≡ fields_text triad_widths (triad_numbers t) ++ rest))

-- the text is the data of a reply with the fault and the answer; general status 0 is a success
abbrev pub IsAnswerText : Fault → List ℕ → OpenAnswer → Type 0
IsAnswerText fault text (Opened o) = (fault.general ≡ 0) × IsOpenedText text o
IsAnswerText fault text (Refused r) = (fault.general ≢ 0) × (r.fault ≡ fault) × IsFailureText text r.triad

-- the text is a reply of the service, its data being of the answer
abbrev pub IsReplyText : {A : Type 0} → (Fault → List ℕ → A → Type 0) → List ℕ → ℕ → A → Type 0
IsReplyText IsAnswer text service answer = (front : Tailed) × (rest : List ℕ) × Begins IsReplyFront text front rest × (service ≡ number front 0) × IsAnswer (fault_of front) rest answer

-- the text is a reply to a request to open
abbrev pub IsOpenReplyText : List ℕ → OpenReply → Type 0
IsOpenReplyText text r = IsReplyText IsAnswerText text r.service r.answer

-- the result is a reading of the bytes as a reply to a Forward_Open
abbrev pub IsOpenReplyReading : List ℕ → Result OpenReply ReadFault → Type 0
IsOpenReplyReading = IsReadingAmong IsOpenReplyText

-- ---- reading

-- the triad of the numbers
abbrev pub triad_of : List ℕ → Triad
triad_of numbers = record { serial = slice_index numbers 0; vendor = slice_index numbers 1; originator = slice_index numbers 2 }

-- the reading of a failure's data, by the numbers at its front and the bytes after them
abbrev pub failure_of : Option Tailed → Result (Option Triad) ReadFault
failure_of None = Err NotEnough
failure_of (Some x) =
    if length x.1 == 0 || length x.1 == 2 then Ok (Some (triad_of x.0))
    else if length x.1 == 1 then Err NotEnough
    else Err TooMuch

-- the reading of a failure's data
abbrev pub failure_reading : List ℕ → Result (Option Triad) ReadFault
failure_reading [] = Ok None
failure_reading (b ∷ bytes) = failure_of (fields_at triad_widths (b ∷ bytes))

-- the reading of a success's data
abbrev pub opened_reading : List ℕ → Result made.Opened ReadFault
opened_reading bytes = answer_of (found_image opened_of (tailed_found opened_widths application_len bytes))

-- the refusal with the fault, by the triad of its data
abbrev pub refused_by : Fault → Option Triad → OpenAnswer
refused_by fault triad = Refused (record { fault = fault; triad = triad })

-- the reading of the data of a reply with the fault
abbrev pub answer_reading : Fault → List ℕ → Result OpenAnswer ReadFault
answer_reading fault bytes = if fault.general == 0 then seen Opened (opened_reading bytes) else seen (refused_by fault) (failure_reading bytes)

-- the reply of a service and an answer
abbrev pub with_answer : ℕ → OpenAnswer → OpenReply
with_answer service answer = record { service = service; answer = answer }

-- service, fault and data of a reply
abbrev pub Unread : Type 0
Unread = ℕ × Fault × List ℕ

-- the service and the fault of a front, and the data after it
abbrev pub unread : Tailed × List ℕ → Unread
unread x = (number x.0 0, fault_of x.0, x.1)

-- the reading of a reply up to its data; None where the bytes end before it
unfoldable pub unread_reading : List ℕ → Option Unread
unread_reading bytes = option_map unread (front_at reply_widths extended_len bytes)

-- the reply that make makes of the service and of the result of read on the data
abbrev pub reply_of : {A R : Type 0} → (ℕ → A → R) → (Fault → List ℕ → Result A ReadFault) → Option Unread → Result R ReadFault
reply_of make read None = Err NotEnough
reply_of make read (Some x) = seen (make x.0) (read x.1 x.2)

-- the reading of bytes as a reply to a Forward_Open
unfoldable pub open_reply_reading : List ℕ → Result OpenReply ReadFault
open_reply_reading bytes = reply_of with_answer answer_reading (unread_reading bytes)

-- ---- what fits

-- each number of an opened connection fits its field
abbrev pub OpenedFits : made.Opened → Type 0
OpenedFits o = AreFields opened_widths (opened_numbers o 0 0)

-- each number of a triad fits its field
abbrev pub TriadFits : Triad → Type 0
TriadFits t = AreFields triad_widths (triad_numbers t)

-- a refusal has a status, and each of its numbers fits its field
pub record RefusedFits (fault : Fault) (named : Option Triad) : Type 0 where
  pub refuses : fault.general ≢ 0
  pub general : fault.general < 2 ^ 8
  pub extended : IfSome fault.extended (λ code. code < 2 ^ 16)
  pub triad : IfSome named TriadFits
