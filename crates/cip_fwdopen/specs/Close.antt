-- The data of a Forward_Close, and replies to it (Volume 1, chapter 3, Forward_Close service).
--
--   place    width      data of a request
--   0, 1     1, 1       priority and time tick, time-out ticks
--   2 to 4   2, 2, 4    connection serial number, originator's vendor and serial number
--   5, 6     1, 1       words of the path, reserved
--
-- The path follows.
--
--   place    width      data of a success
--   0 to 2   2, 2, 4    connection serial number, originator's vendor and serial number
--   3, 4     1, 1       words of the application reply, reserved
--
-- The application reply follows. The data of a failure is as for a Forward_Open.
use Rattle.std.specs.Prelude.{◌≡◌, ◌≢◌, ◌==◌, ℕ, ◌*◌, ◌/◌, if◌then◌else◌, List, [], ◌∷◌, ◌++◌, length, slice_index, Option, Result}
use Rattle.std.specs.Int.{Width, w8, w16, w32}
use Rattle.std.specs.Borrow.{Bor}
use Rattle.cip_types.specs.declared.Fault.{Fault}
use Rattle.cip_types.specs.declared.Triad.{Triad}
use Rattle.cip_types.specs.Fields.{fields_text, AreFields}
use Rattle.cip_types.specs.Texts.{IsImage, found_image, Tailed, IsTailedText, tailed_found}
use Rattle.cip_epath.specs.declared.path.ConnPath.{ConnPath}
use Rattle.cip_epath.specs.Path.{view_path}
use Rattle.cip_epath.specs.Written.{path_text}
use Rattle.cip_fwdopen.specs.declared.fault.ReadFault.{ReadFault}
use Rattle.cip_fwdopen.specs.declared.close.CloseRequest.{CloseRequest}
use Rattle.cip_fwdopen.specs.declared.close.CloseAnswer.{CloseAnswer}
use Rattle.cip_fwdopen.specs.declared.close.CloseAnswer.TheVariants.{Closed, Refused}
use Rattle.cip_fwdopen.specs.declared.close.CloseReply.{CloseReply}
use Rattle.cip_fwdopen.specs.Readings.{IsReadingOf, IsReadingAmong, answer_of, number, seen}
use Rattle.cip_fwdopen.specs.Reply.{reply_service, triad_widths, triad_numbers, IsFailureText, failure_reading, IsReplyText, unread_reading, reply_of}

-- the contents of a Forward_Close
pub record CloseFields : Type 0 where
  pub priority_tick : ℕ
  pub ticks : ℕ
  pub triad : Triad
  pub path : List ℕ

-- the contents of a request of the program, with the text of its path
abbrev pub close_contents : {P : Type 0} → CloseRequest P → List ℕ → CloseFields
close_contents r path = record { priority_tick = r.priority_tick; ticks = r.ticks; triad = r.triad; path = path }

-- the contents of a request that was read
abbrev pub view_close : CloseRequest (Bor (List ℕ)) → CloseFields
view_close r = close_contents r r.path.now

-- the contents of a request that is written
abbrev pub sent_close : CloseRequest ConnPath → CloseFields
sent_close r = close_contents r (path_text (view_path r.path))

-- ---- requests

-- the widths of the fixed part
abbrev pub close_widths : List Width
close_widths = w8 ∷ w8 ∷ w16 ∷ w16 ∷ w32 ∷ w8 ∷ w8 ∷ []

-- bytes of the path
abbrev pub close_path_len : List ℕ → ℕ
close_path_len numbers = 2 * slice_index numbers 5

-- the request of a fixed part and a path
abbrev pub close_of : Tailed → CloseFields
close_of text = record {
  priority_tick = number text 0;
  ticks = number text 1;
  triad = record { serial = number text 2; vendor = number text 3; originator = number text 4 };
  path = text.1;
}

-- the text is the data of a request: its fixed part, and as many words of path as it states
abbrev pub IsCloseText : List ℕ → CloseFields → Type 0
IsCloseText = IsImage close_of (IsTailedText close_widths close_path_len)

-- the result is a reading of the bytes as the data of a request
abbrev pub IsCloseReading : List ℕ → Result CloseFields ReadFault → Type 0
IsCloseReading = IsReadingOf IsCloseText

-- the reading of bytes as the data of a request
unfoldable pub close_reading : List ℕ → Result CloseFields ReadFault
close_reading bytes = answer_of (found_image close_of (tailed_found close_widths close_path_len bytes))

-- the numbers of the fixed part, the reserved byte zero
abbrev pub close_numbers : CloseFields → List ℕ
close_numbers p = p.priority_tick ∷ p.ticks ∷ p.triad.serial ∷ p.triad.vendor ∷ p.triad.originator ∷ length p.path / 2 ∷ 0 ∷ []

-- the written data of a request
unfoldable pub close_text : CloseFields → List ℕ
close_text p = fields_text close_widths (close_numbers p) ++ p.path

-- each part of a request fits its field, and its path is whole words
pub record CloseFits (p : CloseFields) : Type 0 where
  pub numbers : AreFields close_widths (close_numbers p)
  pub words : length p.path ≡ 2 * (length p.path / 2)

-- ---- replies

-- the reply to a successful close, with no application reply, of service 0x4E with the reply bit
unfoldable pub closed_text : Triad → List ℕ
closed_text triad = 0xCE ∷ 0 ∷ 0 ∷ 0 ∷ fields_text triad_widths (triad_numbers triad) ++ 0 ∷ 0 ∷ []

-- the contents of the reply to a successful close
abbrev pub closed_reply : Triad → CloseReply
closed_reply triad = record { service = 0xCE; answer = Closed triad }

-- the widths of a success's data
abbrev pub closed_widths : List Width
closed_widths = w16 ∷ w16 ∷ w32 ∷ w8 ∷ w8 ∷ []

-- the numbers of a success's data, by words of the application reply and the reserved byte
abbrev pub closed_numbers : Triad → ℕ → ℕ → List ℕ
closed_numbers t words reserved = t.serial ∷ t.vendor ∷ t.originator ∷ words ∷ reserved ∷ []

-- bytes of the application reply
abbrev pub closed_application_len : List ℕ → ℕ
closed_application_len numbers = 2 * slice_index numbers 3

-- the triad of a success's data
abbrev pub closed_of : Tailed → Triad
closed_of text = record { serial = number text 0; vendor = number text 1; originator = number text 2 }

-- the text is the data of a success; its application reply is dropped
abbrev pub IsClosedText : List ℕ → Triad → Type 0
IsClosedText = IsImage closed_of (IsTailedText closed_widths closed_application_len)

-- the text is the data of a reply with the fault and the answer; general status 0 is a success
abbrev pub IsCloseAnswerText : Fault → List ℕ → CloseAnswer → Type 0
IsCloseAnswerText fault text (Closed triad) = (fault.general ≡ 0) × IsClosedText text triad
IsCloseAnswerText fault text (Refused r) = (fault.general ≢ 0) × (r.fault ≡ fault) × IsFailureText text r.triad

-- the text is a reply
abbrev pub IsCloseReplyText : List ℕ → CloseReply → Type 0
IsCloseReplyText text r = IsReplyText IsCloseAnswerText text r.service r.answer

-- the result is a reading of the bytes as a reply
abbrev pub IsCloseReplyReading : List ℕ → Result CloseReply ReadFault → Type 0
IsCloseReplyReading = IsReadingAmong IsCloseReplyText

-- the reading of a success's data
abbrev pub closed_reading : List ℕ → Result Triad ReadFault
closed_reading bytes = answer_of (found_image closed_of (tailed_found closed_widths closed_application_len bytes))

-- the refusal with the fault, by the triad of its data
abbrev pub unclosed_by : Fault → Option Triad → CloseAnswer
unclosed_by fault triad = Refused (record { fault = fault; triad = triad })

-- the contents of the reply that refuses a request of the service, as a reply to a Forward_Close
abbrev pub refused_close : ℕ → Fault → Option Triad → CloseReply
refused_close service fault triad = record { service = reply_service service; answer = unclosed_by fault triad }

-- the reading of the data of a reply with the fault
abbrev pub close_answer_reading : Fault → List ℕ → Result CloseAnswer ReadFault
close_answer_reading fault bytes = if fault.general == 0 then seen Closed (closed_reading bytes) else seen (unclosed_by fault) (failure_reading bytes)

-- the reply of a service and an answer
abbrev pub with_close_answer : ℕ → CloseAnswer → CloseReply
with_close_answer service answer = record { service = service; answer = answer }

-- the reading of bytes as a reply
unfoldable pub close_reply_reading : List ℕ → Result CloseReply ReadFault
close_reply_reading bytes = reply_of with_close_answer close_answer_reading (unread_reading bytes)
