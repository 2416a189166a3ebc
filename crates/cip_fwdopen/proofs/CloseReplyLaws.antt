-- A reply to a request to close is read one way, and what is written is read again.
use Rattle.std.proofs.Common.{◌≡◌, ℕ, true, false, eqb, List, [], ◌∷◌, ◌++◌, Option, Some, None, Result, Ok, Err, refl, sym, ap, subst, ◌∙◌, arith, rules, inl, inr}
use Rattle.std.specs.List.{AllByRecursion}
use Rattle.std.proofs.lemmas.Bool.{cases_Bool, eqb-true, eqb-false, eq-eqb}
use Rattle.std.proofs.lemmas.List.{append-nil}
use Rattle.cip_types.specs.declared.Fault.{Fault}
use Rattle.cip_types.specs.declared.Triad.{Triad}
use Rattle.cip_types.specs.Fields.{fields_text, AreFields}
use Rattle.cip_types.specs.FieldLaws.{IsBytes, IsWide, wide8, wide16, wide32, zeros}
use Rattle.cip_fwdopen.specs.declared.fault.ReadFault.{ReadFault}
use Rattle.cip_fwdopen.specs.declared.fault.ReadFault.TheVariants.{NotEnough}
use Rattle.cip_fwdopen.specs.declared.close.CloseAnswer.{CloseAnswer}
use Rattle.cip_fwdopen.specs.declared.close.CloseAnswer.TheVariants.{Closed, Refused}
use Rattle.cip_fwdopen.specs.declared.close.CloseReply.{CloseReply}
use Rattle.cip_fwdopen.specs.Readings.{seen}
use Rattle.cip_fwdopen.specs.Reply.{IsFailureText, failure_reading, TriadFits, RefusedFits, refused_text, Unread, unread_reading}
use Rattle.cip_fwdopen.specs.Close.{closed_text, closed_reply, closed_widths, closed_numbers, closed_application_len, closed_of, IsClosedText, IsCloseAnswerText, IsCloseReplyText, IsCloseReplyReading, closed_reading, unclosed_by, refused_close, close_answer_reading, with_close_answer, close_reply_reading}
use Rattle.cip_fwdopen.proofs.AmongLaws.{IsAnswered, answered_seen, tail_reads, tail_is_answered}
use Rattle.cip_fwdopen.proofs.AnswerLaws.{failure_reads, failure_is_answered}
use Rattle.cip_fwdopen.proofs.ReplyLaws as reply
use Rattle.cip_fwdopen.proofs.WrittenLaws.{front_stands, refused_among}

-- ---- the data

wide : AllByRecursion IsWide closed_widths
wide = (wide16, (wide16, (wide32, (wide8, (wide8, tt)))))

closed_reads : (t : List ℕ) (triad : Triad) → IsClosedText t triad → closed_reading t ≡ Ok triad
closed_reads t triad is = tail_reads Triad closed_widths wide closed_application_len closed_of t triad is

closed_is_answered : (bytes : List ℕ) → IsBytes bytes → IsAnswered IsClosedText closed_reading bytes (closed_reading bytes)
closed_is_answered bytes fits = tail_is_answered Triad closed_widths wide closed_application_len closed_of bytes fits

on_success : (fault : Fault) (t : List ℕ) → eqb fault.general 0 ≡ true → close_answer_reading fault t ≡ seen Closed (closed_reading t)
on_success fault t e = rw e refl

on_failure : (fault : Fault) (t : List ℕ) → eqb fault.general 0 ≡ false → close_answer_reading fault t ≡ seen (unclosed_by fault) (failure_reading t)
on_failure fault t e = rw e refl

answer_reads : (fault : Fault) (t : List ℕ) (a : CloseAnswer) → IsCloseAnswerText fault t a → close_answer_reading fault t ≡ Ok a
answer_reads fault t (Closed triad) is = on_success fault t (eq-eqb fault.general 0 is.0) ∙ ap (seen Closed) (closed_reads t triad is.1)
answer_reads fault t (Refused r) is =
    elim (cases_Bool (eqb fault.general 0)) [
      | inl e ↦ absurd (is.0 (eqb-true fault.general 0 e))
      | inr e ↦ on_failure fault t e ∙ ap (seen (unclosed_by fault)) (failure_reads t r.triad is.2) ∙ ap (λ (f : Fault). Ok (unclosed_by f r.triad)) (sym is.1)
    ]

answer_is_answered : (fault : Fault) (bytes : List ℕ) → IsBytes bytes → IsAnswered (IsCloseAnswerText fault) (close_answer_reading fault) bytes (close_answer_reading fault bytes)
answer_is_answered fault bytes fits =
    elim (cases_Bool (eqb fault.general 0)) [
      | inl e ↦ subst (IsAnswered (IsCloseAnswerText fault) (close_answer_reading fault) bytes) (sym (on_success fault bytes e))
          (answered_seen Closed IsClosedText (IsCloseAnswerText fault) closed_reading (close_answer_reading fault) (λ t triad is. (eqb-true fault.general 0 e, is)) (λ t. on_success fault t e) bytes (closed_reading bytes) (closed_is_answered bytes fits))
      | inr e ↦ subst (IsAnswered (IsCloseAnswerText fault) (close_answer_reading fault) bytes) (sym (on_failure fault bytes e))
          (answered_seen (unclosed_by fault) IsFailureText (IsCloseAnswerText fault) failure_reading (close_answer_reading fault) (λ t triad is. (eqb-false fault.general 0 e, refl, is)) (λ t. on_failure fault t e) bytes (failure_reading bytes) (failure_is_answered bytes fits))
    ]

some_answer : (fault : Fault) → reply.SomeAnswer IsCloseAnswerText fault
some_answer fault =
    elim (cases_Bool (eqb fault.general 0)) [
      | inl e ↦ let ns = zeros closed_widths in
          let are : AreFields closed_widths (zeros closed_widths) = search rules in
          record { text = fields_text closed_widths ns ++ []; answer = Closed (closed_of (ns, [])); is = (eqb-true fault.general 0 e, ((ns, []), (are, refl, refl), refl)) }
      | inr e ↦ record { text = []; answer = unclosed_by fault None; is = (eqb-false fault.general 0 e, refl, refl) }
    ]

content : reply.IsRead IsCloseAnswerText close_answer_reading
content = record { reads = answer_reads; answered = answer_is_answered; some = some_answer }

-- ---- the reply

format : reply.IsReplyFormat IsCloseAnswerText with_close_answer IsCloseReplyText
format = record {
  made = λ text front rest a begins is. (front, rest, begins, refl, is);
  taken = λ text r is. record { front = is.0; rest = is.1; answer = r.answer; begins = is.2; is = is.4; same = ap (λ (service : ℕ). with_close_answer service r.answer) (sym is.3) };
}

-- a text of a reply reads as it
pub reply_reads : (bytes : List ℕ) (r : CloseReply) → IsCloseReplyText bytes r → close_reply_reading bytes ≡ Ok r
unfolding close_reply_reading
reply_reads bytes r is = reply.reply_reads CloseAnswer CloseReply IsCloseAnswerText close_answer_reading with_close_answer IsCloseReplyText content format bytes r is

pub reply_is_reading : (bytes : List ℕ) → IsBytes bytes → IsCloseReplyReading bytes (close_reply_reading bytes)
unfolding close_reply_reading
reply_is_reading bytes fits = reply.reply_is_reading CloseAnswer CloseReply IsCloseAnswerText close_answer_reading with_close_answer IsCloseReplyText content format bytes fits

pub one_reply : (bytes : List ℕ) (r r' : Result CloseReply ReadFault) → IsCloseReplyReading bytes r → IsCloseReplyReading bytes r' → r ≡ r'
one_reply bytes r r' is is' = reply.one_reply CloseAnswer CloseReply IsCloseAnswerText close_answer_reading with_close_answer IsCloseReplyText content format bytes r r' is is'

pub ends_before : (bytes : List ℕ) → unread_reading bytes ≡ None → close_reply_reading bytes ≡ Err NotEnough
unfolding close_reply_reading
ends_before bytes e = reply.ends_before with_close_answer close_answer_reading bytes e

pub ends_answer : (bytes : List ℕ) (x : Unread) (r : Result CloseAnswer ReadFault) → unread_reading bytes ≡ Some x → r ≡ close_answer_reading x.1 x.2 → close_reply_reading bytes ≡ seen (with_close_answer x.0) r
unfolding close_reply_reading
ends_answer bytes x r e same = reply.ends_answer with_close_answer close_answer_reading bytes x r e same

-- ---- what is written

closed_data : (t : Triad) → TriadFits t → IsClosedText (fields_text closed_widths (closed_numbers t 0 0)) t
closed_data t fits = ((closed_numbers t 0 0, []), ((fits.0, (fits.1.0, (fits.1.1.0, (omega arith, (omega arith, tt))))), refl, sym (append-nil (fields_text closed_widths (closed_numbers t 0 0)))), refl)

-- what is written of a closed connection is a text of it
pub closed_text_is : (t : Triad) → TriadFits t → IsCloseReplyText (closed_text t) (closed_reply t)
unfolding closed_text
closed_text_is t fits =
    ((0xCE ∷ 0 ∷ 0 ∷ 0 ∷ [], []), fields_text closed_widths (closed_numbers t 0 0), front_stands 0xCE 0 0 [] (fields_text closed_widths (closed_numbers t 0 0)) (omega arith) (omega arith) (omega arith) refl, refl, (refl, closed_data t fits))

-- what is written of a closed connection reads as it
pub closed_text_reads : (t : Triad) → TriadFits t → close_reply_reading (closed_text t) ≡ Ok (closed_reply t)
closed_text_reads t fits = reply_reads (closed_text t) (closed_reply t) (closed_text_is t fits)

-- what is written of a refusal reads as it
pub refused_close_reads : (service : ℕ) (fault : Fault) (triad : Option Triad) → RefusedFits fault triad → close_reply_reading (refused_text service fault triad) ≡ Ok (refused_close service fault triad)
refused_close_reads service fault triad fits =
    reply_reads (refused_text service fault triad) (refused_close service fault triad)
    (refused_among IsCloseAnswerText (unclosed_by fault triad) service fault.general fault.extended triad (λ f text refuses same is. (refuses, same, is)) fits)
