-- A reply to a request to open is read one way.
use Rattle.std.proofs.Common.{◌≡◌, ℕ, List, Some, None, Result, Ok, Err, refl, sym, ap}
use Rattle.cip_types.specs.FieldLaws.{IsBytes}
use Rattle.cip_fwdopen.specs.declared.fault.ReadFault.{ReadFault}
use Rattle.cip_fwdopen.specs.declared.fault.ReadFault.TheVariants.{NotEnough}
use Rattle.cip_fwdopen.specs.declared.reply.OpenAnswer.{OpenAnswer}
use Rattle.cip_fwdopen.specs.declared.reply.OpenReply.{OpenReply}
use Rattle.cip_fwdopen.specs.Readings.{seen}
use Rattle.cip_fwdopen.specs.Reply.{IsAnswerText, IsOpenReplyText, IsOpenReplyReading, Unread, unread_reading, with_answer, answer_reading, open_reply_reading}
use Rattle.cip_fwdopen.proofs.ReplyLaws as reply
use Rattle.cip_fwdopen.proofs.AnswerLaws.{open_data}

format : reply.IsReplyFormat IsAnswerText with_answer IsOpenReplyText
format = record {
  made = λ text front rest a begins is. (front, rest, begins, refl, is);
  taken = λ text r is. record { front = is.0; rest = is.1; answer = r.answer; begins = is.2; is = is.4; same = ap (λ (service : ℕ). with_answer service r.answer) (sym is.3) };
}

-- a text of a reply reads as it
pub reply_reads : (bytes : List ℕ) (r : OpenReply) → IsOpenReplyText bytes r → open_reply_reading bytes ≡ Ok r
unfolding open_reply_reading
reply_reads bytes r is = reply.reply_reads OpenAnswer OpenReply IsAnswerText answer_reading with_answer IsOpenReplyText open_data format bytes r is

pub reply_is_reading : (bytes : List ℕ) → IsBytes bytes → IsOpenReplyReading bytes (open_reply_reading bytes)
unfolding open_reply_reading
reply_is_reading bytes fits = reply.reply_is_reading OpenAnswer OpenReply IsAnswerText answer_reading with_answer IsOpenReplyText open_data format bytes fits

pub one_reply : (bytes : List ℕ) (r r' : Result OpenReply ReadFault) → IsOpenReplyReading bytes r → IsOpenReplyReading bytes r' → r ≡ r'
one_reply bytes r r' is is' = reply.one_reply OpenAnswer OpenReply IsAnswerText answer_reading with_answer IsOpenReplyText open_data format bytes r r' is is'

-- ---- the ends of a reading

pub ends_before : (bytes : List ℕ) → unread_reading bytes ≡ None → open_reply_reading bytes ≡ Err NotEnough
unfolding open_reply_reading
ends_before bytes e = reply.ends_before with_answer answer_reading bytes e

pub ends_answer : (bytes : List ℕ) (x : Unread) (r : Result OpenAnswer ReadFault) → unread_reading bytes ≡ Some x → r ≡ answer_reading x.1 x.2 → open_reply_reading bytes ≡ seen (with_answer x.0) r
unfolding open_reply_reading
ends_answer bytes x r e same = reply.ends_answer with_answer answer_reading bytes x r e same
