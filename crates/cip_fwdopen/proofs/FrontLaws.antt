-- A fixed part with the bytes that it counts stands in front of bytes in one way at most.
use Rattle.std.proofs.Common.{◌≡◌, ℕ, ◌≤◌, Bool, true, false, cond, ltb, List, [], ◌++◌, length, take, drop, Option, Some, None, refl, sym, ap, subst, ◌∙◌, append_assoc, arith}
use Rattle.std.specs.Int.{Width}
use Rattle.std.specs.List.{AllByRecursion}
use Rattle.std.proofs.lemmas.Bool.{ltb-true, ltb-false, le-ltb}
use Rattle.std.proofs.lemmas.List.{take_at, drop_at, take-append-drop, length-append, length-take, append-nil}
use Rattle.cip_types.specs.Fields.{fields_text, fields_at}
use Rattle.cip_types.specs.Texts.{Lacks, Tailed, IsTailedText, tailed_found}
use Rattle.cip_types.specs.FieldLaws.{IsBytes, IsWide, IsBytes-take, IsBytes-drop, fields_taken, fields_again, inside}
use Rattle.cip_types.specs.TextLaws.{tailed_is_found}
use Rattle.cip_fwdopen.specs.Front.{Begins, parted, front_at}
use Rattle.cip_fwdopen.proofs.ReadingLaws.{tailed_none, tailed_short}

-- what was cut in two, and the whole
pub record Cuts (ws : List Width) (tail_len : List ℕ → ℕ) (bytes : List ℕ) (front : Tailed) (rest : List ℕ) : Type 0 where
  pub begins : Begins (IsTailedText ws tail_len) bytes front rest
  pub tail_fits : IsBytes front.1
  pub rest_fits : IsBytes rest

cut_some : {A : Type 0} (b : Bool) (x y : A) → cond b None (Some x) ≡ Some y → (b ≡ false) × (x ≡ y)
cut_some true x y e = absurd cc
cut_some false x y e = (refl, inside x y e)

cut_none : {A : Type 0} (b : Bool) (x : A) → cond b None (Some x) ≡ None → b ≡ true
cut_none true x e = refl
cut_none false x e = absurd cc

module _ (ws : List Width) (wide : AllByRecursion IsWide ws) (tail_len : List ℕ → ℕ) where
  -- a front that is found stands there
  taken : (bytes : List ℕ) (p : Tailed) → IsBytes bytes → fields_at ws bytes ≡ Some p → tail_len p.0 ≤ length p.1 → Cuts ws tail_len bytes (p.0, take (tail_len p.0) p.1) (drop (tail_len p.0) p.1)
  taken bytes p fits e long =
      let t = fields_taken ws wide bytes p.0 p.1 fits e in
      let n = tail_len p.0 in
      let parts : bytes ≡ (fields_text ws p.0 ++ take (tail_len p.0) p.1) ++ drop (tail_len p.0) p.1 = t.0.parts ∙ ap (λ (x : List ℕ). fields_text ws p.0 ++ x) (sym (take-append-drop (tail_len p.0) p.1)) ∙ sym (append_assoc (fields_text ws p.0) (take (tail_len p.0) p.1) (drop (tail_len p.0) p.1)) in
      record {
        begins = (fields_text ws p.0 ++ take (tail_len p.0) p.1, (t.1, omega (arith, length-take (tail_len p.0) p.1), refl), parts);
        tail_fits = IsBytes-take (tail_len p.0) p.1 t.0.rest_fits;
        rest_fits = IsBytes-drop (tail_len p.0) p.1 t.0.rest_fits;
      }

  taken_by : (bytes : List ℕ) (found : Option Tailed) (x : Tailed × List ℕ) → IsBytes bytes → fields_at ws bytes ≡ found → parted tail_len found ≡ Some x → Cuts ws tail_len bytes x.0 x.1
  taken_by bytes None x fits e cut = absurd cc
  taken_by bytes (Some p) x fits e cut =
      let c = cut_some (ltb (length p.1) (tail_len p.0)) ((p.0, take (tail_len p.0) p.1), drop (tail_len p.0) p.1) x cut in
      subst (λ (y : Tailed × List ℕ). Cuts ws tail_len bytes y.0 y.1) c.1 (taken bytes p fits e (ltb-false _ _ c.0))

  pub front_taken : (bytes : List ℕ) (x : Tailed × List ℕ) → IsBytes bytes → front_at ws tail_len bytes ≡ Some x → Cuts ws tail_len bytes x.0 x.1
  front_taken bytes x fits cut = taken_by bytes (fields_at ws bytes) x fits refl cut

  -- where no front is found, bytes are missing
  short_by : (bytes : List ℕ) (found : Option Tailed) → fields_at ws bytes ≡ found → parted tail_len found ≡ None → tailed_found ws tail_len bytes ≡ Rattle.cip_types.specs.Texts.short
  short_by bytes None e cut = tailed_none ws tail_len bytes e
  short_by bytes (Some p) e cut = tailed_short ws tail_len bytes p e (ltb-true _ _ (cut_none (ltb (length p.1) (tail_len p.0)) ((p.0, take (tail_len p.0) p.1), drop (tail_len p.0) p.1) cut))

  pub front_lacks : (bytes : List ℕ) → IsBytes bytes → front_at ws tail_len bytes ≡ None → Lacks (IsTailedText ws tail_len) bytes
  front_lacks bytes fits cut = rw (short_by bytes (fields_at ws bytes) refl cut) at (tailed_is_found ws wide tail_len bytes fits)

  -- a front that stands there is found
  again : (front rest : List ℕ) (p : Tailed) → IsTailedText ws tail_len front p → front_at ws tail_len (front ++ rest) ≡ Some (p, rest)
  again front rest p is =
      let regrouped : front ++ rest ≡ fields_text ws p.0 ++ (p.1 ++ rest) = ap (λ (x : List ℕ). x ++ rest) is.2 ∙ append_assoc (fields_text ws p.0) p.1 rest in
      let found = ap (fields_at ws) regrouped ∙ fields_again ws wide p.0 (p.1 ++ rest) is.0 in
      let enough : ltb (length (p.1 ++ rest)) (tail_len p.0) ≡ false = le-ltb _ _ (omega (arith, length-append p.1 rest, is.1)) in
      rw (found, enough, take_at p.1 rest (tail_len p.0) is.1, drop_at p.1 rest (tail_len p.0) is.1) refl

  pub front_again : (bytes : List ℕ) (p : Tailed) (rest : List ℕ) → Begins (IsTailedText ws tail_len) bytes p rest → front_at ws tail_len bytes ≡ Some (p, rest)
  front_again bytes p rest is = ap (front_at ws tail_len) is.2 ∙ again is.0 rest p is.1

  -- bytes with a front lack none of it
  pub begins_lacks : {X : Type 0} (bytes : List ℕ) (p : Tailed) (rest : List ℕ) → Begins (IsTailedText ws tail_len) bytes p rest → Lacks (IsTailedText ws tail_len) bytes → X
  begins_lacks bytes p rest is l =
      let longer = front_again (bytes ++ l.0) p (rest ++ l.0) (is.0, is.1, ap (λ (x : List ℕ). x ++ l.0) is.2 ∙ append_assoc is.0 rest l.0) in
      let whole = front_again (bytes ++ l.0) l.2.0 [] (bytes ++ l.0, l.2.1, sym (append-nil (bytes ++ l.0))) in
      let same = inside (p, rest ++ l.0) (l.2.0, []) (sym longer ∙ whole) in
      absurd (omega (arith, ap (λ (x : Tailed × List ℕ). length x.1) same, length-append rest l.0, l.1))
