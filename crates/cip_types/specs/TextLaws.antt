-- Bytes stand in one way to the texts of a format that no text begins another of, and texts of a
-- fixed part and a tail are such a format.
use Rattle.std.proofs.Common.{◌≡◌, ℕ, ◌-◌, ◌<◌, ltb, List, [], ◌++◌, length, take, drop, replicate, Option, Some, None, refl, sym, ap, ◌∙◌, append_assoc, arith, inl, inr}
use Rattle.std.specs.Int.{Width}
use Rattle.std.specs.List.{AllByRecursion}
use Rattle.std.proofs.lemmas.Bool.{cases_Bool, ltb-true, ltb-false}
use Rattle.std.proofs.lemmas.List.{take_at, take-append-drop, length-append, length-take, length-drop, append-nil, length-replicate}
use Rattle.cip_types.specs.Fields.{fields_text, fields_at}
use Rattle.cip_types.specs.Texts.{Lacks, Exceeds, IsPrefixFree, Found, whole, short, long, IsFound, IsImage, found_image, Tailed, IsTailedText, fixed_found, tailed_found}
use Rattle.cip_types.specs.FieldLaws.{IsBytes, IsWide, fields_taken, fields_again, fields_lack, inside}

-- ---- formats that no text begins another of

longer : {X : Type 0} (xs ys : List ℕ) → 0 < length ys → xs ≡ xs ++ ys → X
longer xs ys some e = absurd (omega (arith, ap length e, length-append xs ys))

pub whole_lacks : {P X : Type 0} (IsText : List ℕ → P → Type 0) → IsPrefixFree IsText → (t : List ℕ) (p : P) → IsText t p → Lacks IsText t → X
whole_lacks IsText free t p is l =
    let same = free.apart t (t ++ l.0) l.0 [] p l.2.0 is l.2.1 (sym (append-nil (t ++ l.0))) in
    longer t l.0 l.1 same.0

pub whole_exceeds : {P X : Type 0} (IsText : List ℕ → P → Type 0) → IsPrefixFree IsText → (t : List ℕ) (p : P) → IsText t p → Exceeds IsText t → X
whole_exceeds IsText free t p is x =
    let same = free.apart t x.0 [] x.1 p x.4.0 is x.4.1 (append-nil t ∙ x.3) in
    longer x.0 x.1 x.2 (sym same.0 ∙ x.3)

pub lacks_exceeds : {P X : Type 0} (IsText : List ℕ → P → Type 0) → IsPrefixFree IsText → (t : List ℕ) → Lacks IsText t → Exceeds IsText t → X
lacks_exceeds IsText free t l x =
    let parts = append-nil (t ++ l.0) ∙ ap (λ (y : List ℕ). y ++ l.0) x.3 ∙ append_assoc x.0 x.1 l.0 in
    let same = free.apart (t ++ l.0) x.0 [] (x.1 ++ l.0) l.2.0 x.4.0 l.2.1 x.4.1 parts in
    longer x.0 (x.1 ++ l.0) (omega (arith, length-append x.1 l.0, x.2)) (sym same.0 ∙ sym (append-nil (t ++ l.0)) ∙ parts)

-- what is found is one thing
pub one_found : {P : Type 0} (IsText : List ℕ → P → Type 0) → IsPrefixFree IsText → (t : List ℕ) (r r' : Found P) → IsFound IsText t r → IsFound IsText t r' → r ≡ r'
one_found IsText free t (whole p) (whole q) is is' = ap whole (free.apart t t [] [] p q is is' refl).1
one_found IsText free t (whole p) short is is' = whole_lacks IsText free t p is is'
one_found IsText free t (whole p) long is is' = whole_exceeds IsText free t p is is'
one_found IsText free t short (whole p) is is' = whole_lacks IsText free t p is' is
one_found IsText free t long (whole p) is is' = whole_exceeds IsText free t p is' is
one_found IsText free t short short is is' = refl
one_found IsText free t long long is is' = refl
one_found IsText free t short long is is' = lacks_exceeds IsText free t is is'
one_found IsText free t long short is is' = lacks_exceeds IsText free t is' is

-- ---- what is made of what texts say

pub image_free : {P Q : Type 0} (made : P → Q) (IsText : List ℕ → P → Type 0) → IsPrefixFree IsText → IsPrefixFree (IsImage made IsText)
image_free made IsText free = record {
  apart = λ t t' u u' q q' is is' e. let same = free.apart t t' u u' is.0 is'.0 is.1 is'.1 e in (same.0, sym is.2 ∙ ap made same.1 ∙ is'.2);
}

pub image_found : {P Q : Type 0} (made : P → Q) (IsText : List ℕ → P → Type 0) (t : List ℕ) (r : Found P) → IsFound IsText t r → IsFound (IsImage made IsText) t (found_image made r)
image_found made IsText t (whole p) is = (p, is, refl)
image_found made IsText t short is = (is.0, is.1, (made is.2.0, (is.2.0, is.2.1, refl)))
image_found made IsText t long is = (is.0, is.1, is.2, is.3, (made is.4.0, (is.4.0, is.4.1, refl)))

-- ---- a fixed part and a tail

tailed_reads : (ws : List Width) → AllByRecursion IsWide ws → (tail_len : List ℕ → ℕ) (t u : List ℕ) (p : Tailed) → IsTailedText ws tail_len t p → fields_at ws (t ++ u) ≡ Some (p.0, p.1 ++ u)
tailed_reads ws wide tail_len t u p is =
    ap (λ (x : List ℕ). fields_at ws (x ++ u)) is.2 ∙ ap (fields_at ws) (append_assoc (fields_text ws p.0) p.1 u) ∙ fields_again ws wide p.0 (p.1 ++ u) is.0

same_tail : (tail_len : List ℕ → ℕ) (ns ns' tail tail' u u' : List ℕ) → ns ≡ ns' → tail ++ u ≡ tail' ++ u' → length tail ≡ tail_len ns → length tail' ≡ tail_len ns' → tail ≡ tail'
same_tail tail_len ns ns' tail tail' u u' same parts len len' =
    let both : length tail ≡ length tail' = len ∙ ap tail_len same ∙ sym len' in
    sym (take_at tail u (length tail) refl) ∙ ap (take (length tail)) parts ∙ take_at tail' u' (length tail) (sym both)

pub tailed_free : (ws : List Width) → AllByRecursion IsWide ws → (tail_len : List ℕ → ℕ) → IsPrefixFree (IsTailedText ws tail_len)
tailed_free ws wide tail_len = record {
  apart = λ t t' u u' p p' is is' e.
      let pair = inside (p.0, p.1 ++ u) (p'.0, p'.1 ++ u') (sym (tailed_reads ws wide tail_len t u p is) ∙ ap (fields_at ws) e ∙ tailed_reads ws wide tail_len t' u' p' is') in
      let same = ap (λ (x : List ℕ × List ℕ). x.0) pair in
      let tail = same_tail tail_len p.0 p'.0 p.1 p'.1 u u' same (ap (λ (x : List ℕ × List ℕ). x.1) pair) is.1 is'.1 in
      let both : p ≡ p' = ap (λ (x : List ℕ). (x, p.1)) same ∙ ap (λ (x : List ℕ). (p'.0, x)) tail in
      (is.2 ∙ ap (λ (x : Tailed). fields_text ws x.0 ++ x.1) both ∙ sym is'.2, both);
}

tail_short : (ws : List Width) → AllByRecursion IsWide ws → (tail_len : List ℕ → ℕ) (bytes : List ℕ) (p : Tailed) → IsBytes bytes → fields_at ws bytes ≡ Some p → length p.1 < tail_len p.0 → Lacks (IsTailedText ws tail_len) bytes
tail_short ws wide tail_len bytes p fits e less =
    let t = fields_taken ws wide bytes p.0 p.1 fits e in
    let n = tail_len p.0 in
    let more = replicate (tail_len p.0 - length p.1) 0 in
    let len : length more ≡ tail_len p.0 - length p.1 = length-replicate (tail_len p.0 - length p.1) 0 in
    let parts = ap (λ (x : List ℕ). x ++ more) t.0.parts ∙ append_assoc (fields_text ws p.0) p.1 more in
    (more, omega (arith, len, less), ((p.0, p.1 ++ more), (t.1, omega (arith, length-append p.1 more, len, less), parts)))

tail_long : (ws : List Width) → AllByRecursion IsWide ws → (tail_len : List ℕ → ℕ) (bytes : List ℕ) (p : Tailed) → IsBytes bytes → fields_at ws bytes ≡ Some p → tail_len p.0 < length p.1 → Exceeds (IsTailedText ws tail_len) bytes
tail_long ws wide tail_len bytes p fits e more =
    let t = fields_taken ws wide bytes p.0 p.1 fits e in
    let front = take (tail_len p.0) p.1 in
    let extra = drop (tail_len p.0) p.1 in
    let parts = t.0.parts ∙ ap (λ (x : List ℕ). fields_text ws p.0 ++ x) (sym (take-append-drop (tail_len p.0) p.1)) ∙ sym (append_assoc (fields_text ws p.0) (take (tail_len p.0) p.1) (drop (tail_len p.0) p.1)) in (
      fields_text ws p.0 ++ take (tail_len p.0) p.1,
      drop (tail_len p.0) p.1,
      omega (arith, length-drop (tail_len p.0) p.1, more),
      parts,
      ((p.0, take (tail_len p.0) p.1), (t.1, omega (arith, length-take (tail_len p.0) p.1, more), refl)),
    )

no_fixed : (ws : List Width) → AllByRecursion IsWide ws → (tail_len : List ℕ → ℕ) (bytes : List ℕ) → IsBytes bytes → fields_at ws bytes ≡ None → Lacks (IsTailedText ws tail_len) bytes
no_fixed ws wide tail_len bytes fits e =
    let c = fields_lack ws wide bytes fits e in
    let tail = replicate (tail_len c.ns) 0 in
    let parts = sym (append_assoc bytes c.more tail) ∙ ap (λ (x : List ℕ). x ++ tail) c.whole in
    (c.more ++ tail, omega (arith, length-append c.more tail, c.some), ((c.ns, tail), (c.are, length-replicate (tail_len c.ns) 0, parts)))

found_by : (ws : List Width) → AllByRecursion IsWide ws → (tail_len : List ℕ → ℕ) (bytes : List ℕ) (found : Option Tailed) → IsBytes bytes → fields_at ws bytes ≡ found → IsFound (IsTailedText ws tail_len) bytes (fixed_found tail_len found)
found_by ws wide tail_len bytes None fits e = no_fixed ws wide tail_len bytes fits e
found_by ws wide tail_len bytes (Some p) fits e =
    elim (cases_Bool (ltb (length p.1) (tail_len p.0))) [
      | inl less ↦ rw less (tail_short ws wide tail_len bytes p fits e (ltb-true _ _ less))
      | inr enough ↦ elim (cases_Bool (ltb (tail_len p.0) (length p.1))) [
        | inl more ↦ rw (enough, more) (tail_long ws wide tail_len bytes p fits e (ltb-true _ _ more))
        | inr just ↦
            let t = fields_taken ws wide bytes p.0 p.1 fits e in
            let low = ltb-false _ _ enough in
            let high = ltb-false _ _ just in
            rw (enough, just) (t.1, omega (arith, low, high), t.0.parts)
      ]
    ]

-- the reading of bytes is what is found of them
pub tailed_is_found : (ws : List Width) → AllByRecursion IsWide ws → (tail_len : List ℕ → ℕ) (bytes : List ℕ) → IsBytes bytes → IsFound (IsTailedText ws tail_len) bytes (tailed_found ws tail_len bytes)
tailed_is_found ws wide tail_len bytes fits = found_by ws wide tail_len bytes (fields_at ws bytes) fits refl
