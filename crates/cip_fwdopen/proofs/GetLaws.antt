-- A request for an attribute's value is a text of it, and a reply to it is read one way.
use Rattle.std.proofs.Common.{◌≡◌, ℕ, ◌+◌, ◌*◌, ◌/◌, ◌%◌, ◌<◌, ◌≤◌, ltb, true, false, eqb, List, [], ◌∷◌, ◌++◌, length, Option, Some, None, Result, Ok, Err, refl, sym, ap, subst, ◌∙◌, arith, inl, inr}
use Rattle.std.proofs.lemmas.Bool.{cases_Bool, eqb-true, eqb-false, eq-eqb}
use Rattle.std.proofs.lemmas.List.{append-nil, length-append}
use Rattle.cip_types.specs.declared.Fault.{Fault}
use Rattle.cip_types.specs.declared.Triad.{Triad}
use Rattle.cip_types.specs.FieldLaws.{IsBytes}
use Rattle.cip_epath.specs.declared.path.Target.{Target}
use Rattle.cip_epath.specs.declared.segment.LogicalType.{LogicalType}
use Rattle.cip_epath.specs.declared.segment.LogicalType.TheVariants.{Class, Instance, Attribute}
use Rattle.cip_epath.specs.Path.{IsTarget, IsTextOf}
use Rattle.cip_epath.specs.Written.{logical_text, target_text, TargetFits}
use Rattle.cip_epath.specs.Laws.Texts.{target_text_is}
use Rattle.cip_fwdopen.specs.declared.fault.ReadFault.{ReadFault}
use Rattle.cip_fwdopen.specs.declared.fault.ReadFault.TheVariants.{NotEnough}
use Rattle.cip_fwdopen.specs.Readings.{seen}
use Rattle.cip_fwdopen.specs.Reply.{IsFailureText, failure_reading, RefusedFits, refused_text, Unread, unread_reading}
use Rattle.cip_fwdopen.specs.Request.{IsRequestText, request_reading}
use Rattle.cip_fwdopen.specs.Get.{get_text, get_request, got_text, Gotten, value, refusal, GetFields, got_reply, refused_get, IsGottenText, IsGetReplyText, IsGetReplyReading, refusal_by, gotten_reading, with_gotten, get_reply_reading}
use Rattle.cip_fwdopen.proofs.RequestLaws.{request_reads}
use Rattle.cip_fwdopen.proofs.AmongLaws.{IsAnswered, answered_seen}
use Rattle.cip_fwdopen.proofs.AnswerLaws.{failure_reads, failure_is_answered}
use Rattle.cip_fwdopen.proofs.ReplyLaws as reply
use Rattle.cip_fwdopen.proofs.WrittenLaws.{front_stands, refused_among}

-- ---- the data of a reply

on_success : (fault : Fault) (t : List ℕ) → eqb fault.general 0 ≡ true → gotten_reading fault t ≡ Ok (value t)
on_success fault t e = rw e refl

on_failure : (fault : Fault) (t : List ℕ) → eqb fault.general 0 ≡ false → gotten_reading fault t ≡ seen (refusal_by fault) (failure_reading t)
on_failure fault t e = rw e refl

answer_reads : (fault : Fault) (t : List ℕ) (a : Gotten) → IsGottenText fault t a → gotten_reading fault t ≡ Ok a
answer_reads fault t (value bytes) is = on_success fault t (eq-eqb fault.general 0 is.0) ∙ ap (λ (x : List ℕ). Ok (value x)) is.1
answer_reads fault t (refusal f) is =
    elim (cases_Bool (eqb fault.general 0)) [
      | inl e ↦ absurd (is.0 (eqb-true fault.general 0 e))
      | inr e ↦ on_failure fault t e ∙ ap (seen (refusal_by fault)) (failure_reads t is.2.0 is.2.1) ∙ ap (λ (x : Fault). Ok (refusal x)) (sym is.1)
    ]

answer_is_answered : (fault : Fault) (bytes : List ℕ) → IsBytes bytes → IsAnswered (IsGottenText fault) (gotten_reading fault) bytes (gotten_reading fault bytes)
answer_is_answered fault bytes fits =
    elim (cases_Bool (eqb fault.general 0)) [
      | inl e ↦ subst (IsAnswered (IsGottenText fault) (gotten_reading fault) bytes) (sym (on_success fault bytes e)) (eqb-true fault.general 0 e, refl)
      | inr e ↦ subst (IsAnswered (IsGottenText fault) (gotten_reading fault) bytes) (sym (on_failure fault bytes e))
          (answered_seen (refusal_by fault) IsFailureText (IsGottenText fault) failure_reading (gotten_reading fault) (λ t named is. (eqb-false fault.general 0 e, refl, (named, is))) (λ t. on_failure fault t e) bytes (failure_reading bytes) (failure_is_answered bytes fits))
    ]

some_answer : (fault : Fault) → reply.SomeAnswer IsGottenText fault
some_answer fault =
    elim (cases_Bool (eqb fault.general 0)) [
      | inl e ↦ record { text = []; answer = value []; is = (eqb-true fault.general 0 e, refl) }
      | inr e ↦ record { text = []; answer = refusal fault; is = (eqb-false fault.general 0 e, refl, (None, refl)) }
    ]

content : reply.IsRead IsGottenText gotten_reading
content = record { reads = answer_reads; answered = answer_is_answered; some = some_answer }

-- ---- the reply

format : reply.IsReplyFormat IsGottenText with_gotten IsGetReplyText
format = record {
  made = λ text front rest a begins is. (front, rest, begins, refl, is);
  taken = λ text r is. record { front = is.0; rest = is.1; answer = r.answer; begins = is.2; is = is.4; same = ap (λ (service : ℕ). with_gotten service r.answer) (sym is.3) };
}

-- a text of a reply reads as it
pub reply_reads : (bytes : List ℕ) (r : GetFields) → IsGetReplyText bytes r → get_reply_reading bytes ≡ Ok r
unfolding get_reply_reading
reply_reads bytes r is = reply.reply_reads Gotten GetFields IsGottenText gotten_reading with_gotten IsGetReplyText content format bytes r is

pub reply_is_reading : (bytes : List ℕ) → IsBytes bytes → IsGetReplyReading bytes (get_reply_reading bytes)
unfolding get_reply_reading
reply_is_reading bytes fits = reply.reply_is_reading Gotten GetFields IsGottenText gotten_reading with_gotten IsGetReplyText content format bytes fits

pub one_reply : (bytes : List ℕ) (r r' : Result GetFields ReadFault) → IsGetReplyReading bytes r → IsGetReplyReading bytes r' → r ≡ r'
one_reply bytes r r' is is' = reply.one_reply Gotten GetFields IsGottenText gotten_reading with_gotten IsGetReplyText content format bytes r r' is is'

pub ends_before : (bytes : List ℕ) → unread_reading bytes ≡ None → get_reply_reading bytes ≡ Err NotEnough
unfolding get_reply_reading
ends_before bytes e = reply.ends_before with_gotten gotten_reading bytes e

pub ends_answer : (bytes : List ℕ) (x : Unread) (r : Result Gotten ReadFault) → unread_reading bytes ≡ Some x → r ≡ gotten_reading x.1 x.2 → get_reply_reading bytes ≡ seen (with_gotten x.0) r
unfolding get_reply_reading
ends_answer bytes x r e same = reply.ends_answer with_gotten gotten_reading bytes x r e same

-- ---- what is written

-- what is written of a value is a text of it
pub got_text_is : (bytes : List ℕ) → IsGetReplyText (got_text bytes) (got_reply bytes)
unfolding got_text
got_text_is bytes = ((0x8E ∷ 0 ∷ 0 ∷ 0 ∷ [], []), bytes, front_stands 0x8E 0 0 [] bytes (omega arith) (omega arith) (omega arith) refl, refl, (refl, refl))

-- what is written of a value reads as it
pub got_text_reads : (bytes : List ℕ) → get_reply_reading (got_text bytes) ≡ Ok (got_reply bytes)
got_text_reads bytes = reply_reads (got_text bytes) (got_reply bytes) (got_text_is bytes)

-- what is written of a refusal reads as it
pub refused_get_reads : (service : ℕ) (fault : Fault) (triad : Option Triad) → RefusedFits fault triad → get_reply_reading (refused_text service fault triad) ≡ Ok (refused_get service fault)
refused_get_reads service fault triad fits =
    reply_reads (refused_text service fault triad) (refused_get service fault)
    (refused_among IsGottenText (refusal fault) service fault.general fault.extended triad (λ f text refuses same is. (refuses, same, (triad, is))) fits)

-- ---- the request

-- a number of bytes that is one, two or three words
pub record IsFewWords (n : ℕ) : Type 0 where
  pub words : ℕ
  pub few : words ≤ 3
  pub are : n ≡ 2 * words

logical_words : (kind : LogicalType) (n : ℕ) → IsFewWords (length (logical_text kind n))
logical_words kind n =
    elim (cases_Bool (ltb n 256)) [
      | inl e ↦ rw e (record { words = 1; few = omega arith; are = refl })
      | inr e ↦ elim (cases_Bool (ltb n 65536)) [
        | inl f ↦ rw (e, f) (record { words = 2; few = omega arith; are = refl })
        | inr f ↦ rw (e, f) (record { words = 3; few = omega arith; are = refl })
      ]
    ]

-- the path of a target is whole words, nine at most
pub record IsShort (n : ℕ) : Type 0 where
  pub whole : n ≡ 2 * (n / 2)
  pub short : n ≤ 18

target_words : (class instance : ℕ) (attribute : Option ℕ) → IsShort (length (target_text (record { class = class; instance = instance; attribute = attribute })))
target_words class instance None =
    let a = logical_words Class class in
    let b = logical_words Instance instance in
    let len : length (target_text (record { class = class; instance = instance; attribute = None })) ≡ 2 * a.words + 2 * b.words = omega (arith, length-append (logical_text Class class) (logical_text Instance instance ++ []), length-append (logical_text Instance instance) [], a.are, b.are) in
    record { whole = omega (arith, len); short = omega (arith, len, a.few, b.few) }
target_words class instance (Some n) =
    let a = logical_words Class class in
    let b = logical_words Instance instance in
    let d = logical_words Attribute n in
    let len : length (target_text (record { class = class; instance = instance; attribute = Some n })) ≡ 2 * a.words + 2 * b.words + 2 * d.words = omega (arith, length-append (logical_text Class class) (logical_text Instance instance ++ (logical_text Attribute n ++ [])), length-append (logical_text Instance instance) (logical_text Attribute n ++ []), length-append (logical_text Attribute n) [], a.are, b.are, d.are) in
    record { whole = omega (arith, len); short = omega (arith, len, a.few, b.few, d.few) }

pub target_is_short : (t : Target) → IsShort (length (target_text t))
target_is_short t = target_words t.class t.instance t.attribute

-- what is written of a request is a text of it
pub get_text_is : (t : Target) → IsTextOf IsTarget (target_text t) t → IsRequestText (get_text t) (get_request t)
unfolding get_text
get_text_is t is =
    let s = target_is_short t in
    let small : length (target_text t) / 2 < 256 = omega (arith, s.short) in
    let byte : length (target_text t) / 2 % 256 ≡ length (target_text t) / 2 = omega (arith, small) in
    let text = 0x0E ∷ length (target_text t) / 2 ∷ target_text t in
    ((0x0E ∷ length (target_text t) / 2 ∷ [], target_text t), (text, ((omega arith, (omega (arith, small), tt)), s.whole, rw byte refl), sym (append-nil text)), refl, is)

-- what is written of a request reads as it
pub get_text_reads : (t : Target) → IsTextOf IsTarget (target_text t) t → request_reading (get_text t) ≡ Ok (get_request t)
get_text_reads t is = request_reads (get_text t) (get_request t) (get_text_is t is)

-- what is written of a target whose numbers fit their fields reads as it
pub get_reads : (t : Target) → TargetFits t → request_reading (get_text t) ≡ Ok (get_request t)
get_reads t fits = get_text_reads t (target_text_is t fits)
