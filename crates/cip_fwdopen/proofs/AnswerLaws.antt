-- The data of a reply is read one way.
use Rattle.std.proofs.Common.{◌≡◌, ◌≢◌, ℕ, ◌<◌, true, false, eqb, List, [], ◌∷◌, ◌++◌, length, Option, Some, None, Ok, Err, refl, sym, ap, subst, ◌∙◌, append_assoc, arith, rules, inl, inr}
use Rattle.std.specs.List.{AllByRecursion}
use Rattle.std.proofs.lemmas.Bool.{cases_Bool, eqb-true, eqb-false, eq-eqb}
use Rattle.std.proofs.lemmas.List.{append-nil}
use Rattle.cip_types.specs.declared.Fault.{Fault}
use Rattle.cip_types.specs.declared.Triad.{Triad}
use Rattle.cip_types.specs.Fields.{fields_text, AreFields, fields_at}
use Rattle.cip_types.specs.Texts.{Lacks, Tailed}
use Rattle.cip_types.specs.FieldLaws.{IsBytes, IsWide, wide8, wide16, wide32, fields_taken, fields_again, fields_lack, zeros, fields_tabulated}
use Rattle.cip_fwdopen.specs.declared.fault.ReadFault.TheVariants.{TooMuch}
use Rattle.cip_fwdopen.specs.declared.reply.Opened as made
use Rattle.cip_fwdopen.specs.declared.reply.OpenAnswer.{OpenAnswer}
use Rattle.cip_fwdopen.specs.declared.reply.OpenAnswer.TheVariants.{Opened, Refused}
use Rattle.cip_fwdopen.specs.Readings.{seen}
use Rattle.cip_fwdopen.specs.Reply.{opened_widths, application_len, opened_of, IsOpenedText, triad_widths, triad_numbers, triad_of, IsFailureRest, IsFailureText, IsAnswerText, failure_of, failure_reading, opened_reading, refused_by, answer_reading}
use Rattle.cip_fwdopen.proofs.AmongLaws.{IsAnswered, answered_seen, tail_reads, tail_is_answered}
use Rattle.cip_fwdopen.proofs.ReplyLaws.{SomeAnswer, IsRead}

-- ---- a success's data

wide_opened : AllByRecursion IsWide opened_widths
wide_opened = (wide32, (wide32, (wide16, (wide16, (wide32, (wide32, (wide32, (wide8, (wide8, tt)))))))))

opened_reads : (t : List ℕ) (o : made.Opened) → IsOpenedText t o → opened_reading t ≡ Ok o
opened_reads t o is = tail_reads made.Opened opened_widths wide_opened application_len opened_of t o is

opened_is_answered : (bytes : List ℕ) → IsBytes bytes → IsAnswered IsOpenedText opened_reading bytes (opened_reading bytes)
opened_is_answered bytes fits = tail_is_answered made.Opened opened_widths wide_opened application_len opened_of bytes fits

-- ---- a failure's data

wide_triad : AllByRecursion IsWide triad_widths
wide_triad = (wide16, (wide16, (wide32, tt)))

rest_read : (ns rest : List ℕ) → IsFailureRest rest → failure_of (Some (ns, rest)) ≡ Ok (Some (triad_of ns))
rest_read ns [] is = refl
rest_read ns (a ∷ b ∷ []) is = refl
rest_read ns (a ∷ []) (inl e) = absurd (omega arith)
rest_read ns (a ∷ []) (inr e) = absurd (omega arith)
rest_read ns (a ∷ b ∷ c ∷ rest) (inl e) = absurd (omega arith)
rest_read ns (a ∷ b ∷ c ∷ rest) (inr e) = absurd (omega arith)

pub failure_reads : (t : List ℕ) (triad : Option Triad) → IsFailureText t triad → failure_reading t ≡ Ok triad
failure_reads t None is = ap failure_reading is
failure_reads t (Some triad) is =
    ap failure_reading is.1.2
    ∙ ap failure_of (fields_again triad_widths wide_triad (triad_numbers triad) is.1.0 is.0)
    ∙ rest_read (triad_numbers triad) is.1.0 is.1.1

-- the numbers in front name a connection
named : (bytes : List ℕ) (p : Tailed) (u : List ℕ) → IsBytes bytes → fields_at triad_widths bytes ≡ Some p → IsFailureRest (p.1 ++ u) → IsFailureText (bytes ++ u) (Some (triad_of p.0))
named bytes p u fits e is =
    let t = fields_taken triad_widths wide_triad bytes p.0 p.1 fits e in
    let same : triad_numbers (triad_of p.0) ≡ p.0 = fields_tabulated triad_widths 3 p.0 refl t.1 in (
      subst (AreFields triad_widths) (sym same) t.1,
      (
        p.1 ++ u,
        is,
        ap (λ (x : List ℕ). x ++ u) t.0.parts ∙ append_assoc (fields_text triad_widths p.0) p.1 u
            ∙ ap (λ (x : List ℕ). fields_text triad_widths x ++ (p.1 ++ u)) (sym same),
      ),
    )

-- numbers that were completed name one
completed : (bytes more ns : List ℕ) → AreFields triad_widths ns → bytes ++ more ≡ fields_text triad_widths ns → IsFailureText (bytes ++ more) (Some (triad_of ns))
completed bytes more ns are e =
    let same : triad_numbers (triad_of ns) ≡ ns = fields_tabulated triad_widths 3 ns refl are in
    (subst (AreFields triad_widths) (sym same) are, ([], inl refl, e ∙ ap (fields_text triad_widths) (sym same) ∙ sym (append-nil (fields_text triad_widths (triad_numbers (triad_of ns))))))

missing : (bytes : List ℕ) → IsBytes bytes → fields_at triad_widths bytes ≡ None → Lacks IsFailureText bytes
missing bytes fits e =
    let c = fields_lack triad_widths wide_triad bytes fits e in
    (c.more, c.some, (Some (triad_of c.ns), completed bytes c.more c.ns c.are c.whole))

other : (n m : ℕ) → n ≢ m → eqb n m ≡ false
other n m ne =
    elim (cases_Bool (eqb n m)) [
      | inl t ↦ absurd (ne (eqb-true n m t))
      | inr f ↦ f
    ]

rest_past : (ns rest : List ℕ) → 2 < length rest → failure_of (Some (ns, rest)) ≡ Err TooMuch
rest_past ns rest more =
    let none = other (length rest) 0 (λ e. omega arith) in
    let two = other (length rest) 2 (λ e. omega arith) in
    let one = other (length rest) 1 (λ e. omega arith) in
    rw (none, two, one) refl

-- three bytes or more behind the numbers are too much, whatever follows
failure_stays : (bytes ns : List ℕ) (a b d : ℕ) (rest more : List ℕ) → IsBytes bytes → fields_at triad_widths bytes ≡ Some (ns, a ∷ b ∷ d ∷ rest) → failure_reading (bytes ++ more) ≡ Err TooMuch
failure_stays bytes ns a b d rest more fits e =
    let t = fields_taken triad_widths wide_triad bytes ns (a ∷ b ∷ d ∷ rest) fits e in
    let same : triad_numbers (triad_of ns) ≡ ns = fields_tabulated triad_widths 3 ns refl t.1 in
    let parts : bytes ++ more ≡ fields_text triad_widths (triad_numbers (triad_of ns)) ++ (a ∷ b ∷ d ∷ (rest ++ more)) = ap (λ (x : List ℕ). x ++ more) t.0.parts ∙ append_assoc (fields_text triad_widths ns) (a ∷ b ∷ d ∷ rest) more ∙ ap (λ (x : List ℕ). fields_text triad_widths x ++ (a ∷ b ∷ d ∷ (rest ++ more))) (sym same) in
    ap failure_reading parts
    ∙ ap failure_of (fields_again triad_widths wide_triad (triad_numbers (triad_of ns)) (a ∷ b ∷ d ∷ (rest ++ more)) (subst (AreFields triad_widths) (sym same) t.1))
    ∙ rest_past (triad_numbers (triad_of ns)) (a ∷ b ∷ d ∷ (rest ++ more)) (omega arith)

failure_rest : (bytes ns rest : List ℕ) → IsBytes bytes → 0 < length bytes → fields_at triad_widths bytes ≡ Some (ns, rest) → IsAnswered IsFailureText failure_reading bytes (failure_of (Some (ns, rest)))
failure_rest bytes ns [] fits some e = subst (λ (t : List ℕ). IsFailureText t (Some (triad_of ns))) (append-nil bytes) (named bytes (ns, []) [] fits e (inl refl))
failure_rest bytes ns (a ∷ []) fits some e = (0 ∷ [], omega arith, (Some (triad_of ns), named bytes (ns, a ∷ []) (0 ∷ []) fits e (inr refl)))
failure_rest bytes ns (a ∷ b ∷ []) fits some e = subst (λ (t : List ℕ). IsFailureText t (Some (triad_of ns))) (append-nil bytes) (named bytes (ns, a ∷ b ∷ []) [] fits e (inr refl))
failure_rest bytes ns (a ∷ b ∷ d ∷ rest) fits some e =
    subst (IsAnswered IsFailureText failure_reading bytes) (sym (rest_past ns (a ∷ b ∷ d ∷ rest) (omega arith)))
    (([], bytes, some, refl, (None, refl)), λ more. failure_stays bytes ns a b d rest more fits e)

failure_found : (bytes : List ℕ) (found : Option Tailed) → IsBytes bytes → 0 < length bytes → fields_at triad_widths bytes ≡ found → IsAnswered IsFailureText failure_reading bytes (failure_of found)
failure_found bytes None fits some e = missing bytes fits e
failure_found bytes (Some p) fits some e = failure_rest bytes p.0 p.1 fits some e

pub failure_is_answered : (bytes : List ℕ) → IsBytes bytes → IsAnswered IsFailureText failure_reading bytes (failure_reading bytes)
failure_is_answered [] fits = refl
failure_is_answered (b ∷ bytes) fits = failure_found (b ∷ bytes) (fields_at triad_widths (b ∷ bytes)) fits (omega arith) refl

-- ---- the data of either

on_success : (fault : Fault) (t : List ℕ) → eqb fault.general 0 ≡ true → answer_reading fault t ≡ seen Opened (opened_reading t)
on_success fault t e = rw e refl

on_failure : (fault : Fault) (t : List ℕ) → eqb fault.general 0 ≡ false → answer_reading fault t ≡ seen (refused_by fault) (failure_reading t)
on_failure fault t e = rw e refl

answer_reads : (fault : Fault) (t : List ℕ) (a : OpenAnswer) → IsAnswerText fault t a → answer_reading fault t ≡ Ok a
answer_reads fault t (Opened o) is = on_success fault t (eq-eqb fault.general 0 is.0) ∙ ap (seen Opened) (opened_reads t o is.1)
answer_reads fault t (Refused r) is =
    elim (cases_Bool (eqb fault.general 0)) [
      | inl e ↦ absurd (is.0 (eqb-true fault.general 0 e))
      | inr e ↦ on_failure fault t e ∙ ap (seen (refused_by fault)) (failure_reads t r.triad is.2) ∙ ap (λ (f : Fault). Ok (refused_by f r.triad)) (sym is.1)
    ]

answer_is_answered : (fault : Fault) (bytes : List ℕ) → IsBytes bytes → IsAnswered (IsAnswerText fault) (answer_reading fault) bytes (answer_reading fault bytes)
answer_is_answered fault bytes fits =
    elim (cases_Bool (eqb fault.general 0)) [
      | inl e ↦ subst (IsAnswered (IsAnswerText fault) (answer_reading fault) bytes) (sym (on_success fault bytes e))
          (answered_seen Opened IsOpenedText (IsAnswerText fault) opened_reading (answer_reading fault) (λ t o is. (eqb-true fault.general 0 e, is)) (λ t. on_success fault t e) bytes (opened_reading bytes) (opened_is_answered bytes fits))
      | inr e ↦ subst (IsAnswered (IsAnswerText fault) (answer_reading fault) bytes) (sym (on_failure fault bytes e))
          (answered_seen (refused_by fault) IsFailureText (IsAnswerText fault) failure_reading (answer_reading fault) (λ t triad is. (eqb-false fault.general 0 e, refl, is)) (λ t. on_failure fault t e) bytes (failure_reading bytes) (failure_is_answered bytes fits))
    ]

some_answer : (fault : Fault) → SomeAnswer IsAnswerText fault
some_answer fault =
    elim (cases_Bool (eqb fault.general 0)) [
      | inl e ↦ let ns = zeros opened_widths in
          let are : AreFields opened_widths (zeros opened_widths) = search rules in
          record { text = fields_text opened_widths ns ++ []; answer = Opened (opened_of (ns, [])); is = (eqb-true fault.general 0 e, ((ns, []), (are, refl, refl), refl)) }
      | inr e ↦ record { text = []; answer = refused_by fault None; is = (eqb-false fault.general 0 e, refl, refl) }
    ]

-- the data of replies to a request to open reads as what it says
pub open_data : IsRead IsAnswerText answer_reading
open_data = record { reads = answer_reads; answered = answer_is_answered; some = some_answer }
