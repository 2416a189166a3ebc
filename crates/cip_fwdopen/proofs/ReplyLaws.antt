-- Replies are read one way, whatever their data says.
use Rattle.std.proofs.Common.{◌≡◌, ℕ, ◌<◌, ◌≤◌, List, ◌++◌, length, take, drop, Option, Some, None, Result, Ok, Err, refl, sym, ap, ◌∙◌, append_assoc, arith}
use Rattle.std.specs.Int.{w16}
use Rattle.std.specs.List.{AllByRecursion, slice_index}
use Rattle.std.specs.Option.{option_map}
use Rattle.std.proofs.lemmas.List.{length-append}
use Rattle.std.proofs.lemmas.Bool.{lt-ltb, le-ltb}
use Rattle.cip_types.specs.declared.Fault.{Fault}
use Rattle.cip_types.specs.Fields.{field_at, fields_at}
use Rattle.cip_types.specs.Texts.{Lacks, Tailed}
use Rattle.cip_types.specs.FieldLaws.{IsBytes, IsWide, wide8}
use Rattle.cip_fwdopen.specs.declared.fault.ReadFault.{ReadFault}
use Rattle.cip_fwdopen.specs.declared.fault.ReadFault.TheVariants.{NotEnough, TooMuch, Path}
use Rattle.cip_fwdopen.specs.Readings.{seen, number, IsReadingAmong}
use Rattle.cip_fwdopen.specs.Front.{Begins, front_at}
use Rattle.cip_fwdopen.specs.Reply.{reply_widths, extended_len, IsReplyFront, fault_of, Unread, unread, unread_reading, reply_of}
use Rattle.cip_fwdopen.proofs.FrontLaws.{front_taken, front_lacks, front_again}
use Rattle.cip_fwdopen.proofs.AmongLaws.{IsAnswered, answered_is_reading, one_among}

-- some data, with what a reply of the fault says by it
pub record SomeAnswer {A : Type 0} (IsAnswer : Fault → List ℕ → A → Type 0) (fault : Fault) : Type 0 where
  pub text : List ℕ
  pub answer : A
  pub is : IsAnswer fault text answer

-- data reads as what it says
pub record IsRead {A : Type 0} (IsAnswer : Fault → List ℕ → A → Type 0) (read : Fault → List ℕ → Result A ReadFault) : Type 0 where
  pub reads : (fault : Fault) (t : List ℕ) (a : A) → IsAnswer fault t a → read fault t ≡ Ok a
  pub answered : (fault : Fault) (bytes : List ℕ) → IsBytes bytes → IsAnswered (IsAnswer fault) (read fault) bytes (read fault bytes)
  pub some : (fault : Fault) → SomeAnswer IsAnswer fault

-- what a text of a reply is made of
pub record Says {A R : Type 0} (IsAnswer : Fault → List ℕ → A → Type 0) (make : ℕ → A → R) (text : List ℕ) (r : R) : Type 0 where
  pub front : Tailed
  pub rest : List ℕ
  pub answer : A
  pub begins : Begins IsReplyFront text front rest
  pub is : IsAnswer (fault_of front) rest answer
  pub same : make (number front 0) answer ≡ r

-- texts of replies are a front, and data
pub record IsReplyFormat {A R : Type 0} (IsAnswer : Fault → List ℕ → A → Type 0) (make : ℕ → A → R) (IsText : List ℕ → R → Type 0) : Type 0 where
  pub made : (text : List ℕ) (front : Tailed) (rest : List ℕ) (a : A) → Begins IsReplyFront text front rest → IsAnswer (fault_of front) rest a → IsText text (make (number front 0) a)
  pub taken : (text : List ℕ) (r : R) → IsText text r → Says IsAnswer make text r

wide : AllByRecursion IsWide reply_widths
wide = (wide8, (wide8, (wide8, (wide8, tt))))

abbrev cut : List ℕ → Option (Tailed × List ℕ)
cut bytes = front_at reply_widths extended_len bytes

begins_more : (bytes : List ℕ) (front : Tailed) (rest more : List ℕ) → Begins IsReplyFront bytes front rest → Begins IsReplyFront (bytes ++ more) front (rest ++ more)
begins_more bytes front rest more is = (is.0, is.1, ap (λ (x : List ℕ). x ++ more) is.2 ∙ append_assoc is.0 rest more)

-- what is read where a front stands there
unread_begun : (bytes : List ℕ) (front : Tailed) (rest : List ℕ) → Begins IsReplyFront bytes front rest → unread_reading bytes ≡ Some (unread (front, rest))
unfolding unread_reading
unread_begun bytes front rest is = ap (option_map unread) (front_again reply_widths wide extended_len bytes front rest is)

module _ (A R : Type 0) (IsAnswer : Fault → List ℕ → A → Type 0) (read : Fault → List ℕ → Result A ReadFault) (make : ℕ → A → R) (IsText : List ℕ → R → Type 0) (content : IsRead IsAnswer read) (format : IsReplyFormat IsAnswer make IsText) where
  abbrev reading : List ℕ → Result R ReadFault
  reading bytes = reply_of make read (unread_reading bytes)

  -- the reply of a front and what is read behind it
  abbrev said : Tailed → Result A ReadFault → Result R ReadFault
  said front answer = seen (make (number front 0)) answer

  begun : (bytes : List ℕ) (front : Tailed) (rest : List ℕ) → Begins IsReplyFront bytes front rest → reading bytes ≡ said front (read (fault_of front) rest)
  begun bytes front rest is = ap (reply_of make read) (unread_begun bytes front rest is)

  -- a text of a reply reads as it
  pub reply_reads : (bytes : List ℕ) (r : R) → IsText bytes r → reply_of make read (unread_reading bytes) ≡ Ok r
  reply_reads bytes r is =
      let s = format.taken bytes r is in
      begun bytes s.front s.rest s.begins ∙ ap (said s.front) (content.reads (fault_of s.front) s.rest s.answer s.is) ∙ ap Ok s.same

  -- ---- the reading of the bytes is one

  data_read : (bytes : List ℕ) (front : Tailed) (rest : List ℕ) (r : Result A ReadFault) → Begins IsReplyFront bytes front rest → IsAnswered (IsAnswer (fault_of front)) (read (fault_of front)) rest r → IsAnswered IsText reading bytes (said front r)
  data_read bytes front rest (Ok a) is answered = format.made bytes front rest a is answered
  data_read bytes front rest (Err NotEnough) is answered =
      (answered.0, answered.1, (make (number front 0) answered.2.0, format.made (bytes ++ answered.0) front (rest ++ answered.0) answered.2.0 (begins_more bytes front rest answered.0 is) answered.2.1))
  data_read bytes front rest (Err TooMuch) is answered =
      let x = answered.0 in (
        (
          is.0 ++ x.0,
          x.1,
          x.2,
          is.2 ∙ ap (λ (y : List ℕ). is.0 ++ y) x.3 ∙ sym (append_assoc is.0 x.0 x.1),
          (make (number front 0) x.4.0, format.made (is.0 ++ x.0) front x.0 x.4.0 (is.0, is.1, refl) x.4.1),
        ),
        λ more. begun (bytes ++ more) front (rest ++ more) (begins_more bytes front rest more is) ∙ ap (said front) (answered.1 more),
      )
  data_read bytes front rest (Err (Path f)) is answered = absurd answered

  -- a front that is missing, and data for it
  front_missing : (bytes : List ℕ) → Lacks IsReplyFront bytes → Lacks IsText bytes
  front_missing bytes l =
      let a = content.some (fault_of l.2.0) in
      let parts = sym (append_assoc bytes l.0 a.text) in
      (l.0 ++ a.text, omega (arith, length-append l.0 a.text, l.1), (make (number l.2.0 0) a.answer, format.made (bytes ++ (l.0 ++ a.text)) l.2.0 a.text a.answer (bytes ++ l.0, l.2.1, parts) a.is))

  front_read : (bytes : List ℕ) (found : Option (Tailed × List ℕ)) → IsBytes bytes → cut bytes ≡ found → IsAnswered IsText reading bytes (reply_of make read (option_map unread found))
  front_read bytes None fits e = front_missing bytes (front_lacks reply_widths wide extended_len bytes fits e)
  front_read bytes (Some x) fits e =
      let c = front_taken reply_widths wide extended_len bytes x fits e in
      data_read bytes x.0 x.1 (read (fault_of x.0) x.1) c.begins (content.answered (fault_of x.0) x.1 c.rest_fits)

  reply_is_answered : (bytes : List ℕ) → IsBytes bytes → IsAnswered IsText reading bytes (reading bytes)
  unfolding unread_reading
  reply_is_answered bytes fits = front_read bytes (cut bytes) fits refl

  pub reply_is_reading : (bytes : List ℕ) → IsBytes bytes → IsReadingAmong IsText bytes (reply_of make read (unread_reading bytes))
  reply_is_reading bytes fits = answered_is_reading R IsText reading reply_reads bytes (reading bytes) refl (reply_is_answered bytes fits)

  -- ---- there is no other

  pub one_reply : (bytes : List ℕ) (r r' : Result R ReadFault) → IsReadingAmong IsText bytes r → IsReadingAmong IsText bytes r' → r ≡ r'
  one_reply bytes r r' is is' = one_among R IsText reading reply_reads bytes r r' is is'

-- ---- the ends of the reading of what stands before the data

-- too few bytes for the fixed part
pub lacks_fixed : (bytes : List ℕ) → fields_at reply_widths bytes ≡ None → unread_reading bytes ≡ None
unfolding unread_reading
lacks_fixed bytes e = rw e refl

-- too few bytes for the additional words
pub lacks_extended : (bytes ns rest : List ℕ) → fields_at reply_widths bytes ≡ Some (ns, rest) → length rest < extended_len ns → unread_reading bytes ≡ None
unfolding unread_reading
lacks_extended bytes ns rest e less = rw (e, lt-ltb _ _ less) refl

extended_stands : (bytes ns rest : List ℕ) → fields_at reply_widths bytes ≡ Some (ns, rest) → extended_len ns ≤ length rest
    → unread_reading bytes ≡ Some (unread ((ns, take (extended_len ns) rest), drop (extended_len ns) rest))
unfolding unread_reading
extended_stands bytes ns rest e enough = rw (e, le-ltb (length rest) (extended_len ns) enough) refl

abbrev unread_with : ℕ → ℕ → Option ℕ → List ℕ → Option Unread
unread_with service general extended content = Some (service, record { general = general; extended = extended }, content)

-- a whole front
pub ends_front : (bytes ns rest extended_words content : List ℕ) (n : ℕ) (extended : Option ℕ) → fields_at reply_widths bytes ≡ Some (ns, rest) → n ≡ extended_len ns → n ≤ length rest → extended_words ≡ take n rest → content ≡ drop n rest
    → extended ≡ option_map (λ x. x.0) (field_at w16 extended_words)
    → unread_reading bytes ≡ Some (slice_index ns 0, record { general = slice_index ns 2; extended = extended }, content)
ends_front bytes ns rest extended_words content n extended e same enough front back first =
    extended_stands bytes ns rest e (rw same at enough)
    ∙ ap (λ (x : List ℕ). Some (unread ((ns, x), drop (extended_len ns) rest))) (ap (λ (k : ℕ). take k rest) (sym same) ∙ sym front)
    ∙ ap (λ (x : List ℕ). Some (unread ((ns, extended_words), x))) (ap (λ (k : ℕ). drop k rest) (sym same) ∙ sym back)
    ∙ ap (λ (x : Option ℕ). unread_with (slice_index ns 0) (slice_index ns 2) x content) (sym first)

-- ---- the ends of the reading of a reply

pub ends_before : {A R : Type 0} (make : ℕ → A → R) (read : Fault → List ℕ → Result A ReadFault) (bytes : List ℕ) → unread_reading bytes ≡ None → reply_of make read (unread_reading bytes) ≡ Err NotEnough
ends_before make read bytes e = ap (reply_of make read) e

pub ends_answer : {A R : Type 0} (make : ℕ → A → R) (read : Fault → List ℕ → Result A ReadFault) (bytes : List ℕ) (x : Unread) (r : Result A ReadFault) → unread_reading bytes ≡ Some x → r ≡ read x.1 x.2 → reply_of make read (unread_reading bytes) ≡ seen (make x.0) r
ends_answer make read bytes x r e same = ap (reply_of make read) e ∙ ap (seen (make x.0)) (sym same)
