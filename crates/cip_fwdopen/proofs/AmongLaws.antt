-- Readings in formats whose texts may begin longer ones.
use Rattle.std.proofs.Common.{◌≡◌, ℕ, ◌<◌, List, [], ◌++◌, length, Some, None, Result, Ok, Err, refl, sym, ap, ◌∙◌, append_assoc, arith}
use Rattle.std.specs.Int.{Width}
use Rattle.std.specs.List.{AllByRecursion}
use Rattle.std.proofs.lemmas.List.{length-append, append-nil}
use Rattle.cip_types.specs.Fields.{fields_text, fields_at}
use Rattle.cip_types.specs.Texts.{Lacks, Exceeds, Found, whole, short, long, IsFound, IsImage, found_image, Tailed, IsTailedText, tailed_found}
use Rattle.cip_types.specs.FieldLaws.{IsBytes, IsWide, fields_again}
use Rattle.cip_types.specs.TextLaws.{image_found, tailed_is_found}
use Rattle.cip_fwdopen.specs.declared.fault.ReadFault.{ReadFault}
use Rattle.cip_fwdopen.specs.declared.fault.ReadFault.TheVariants.{NotEnough, TooMuch, Path}
use Rattle.cip_fwdopen.specs.Readings.{seen, answer_of, IsNoText, IsReadingAmong}
use Rattle.cip_fwdopen.proofs.ReadingLaws.{tailed_none, tailed_short, tailed_long, tailed_whole}

-- the answer is right, and what is too much stays so with more behind it
abbrev pub IsAnswered : {P : Type 0} → (List ℕ → P → Type 0) → (List ℕ → Result P ReadFault) → List ℕ → Result P ReadFault → Type 0
IsAnswered IsText reading bytes (Ok p) = IsText bytes p
IsAnswered IsText reading bytes (Err NotEnough) = Lacks IsText bytes
IsAnswered IsText reading bytes (Err TooMuch) = Exceeds IsText bytes × ((more : List ℕ) → reading (bytes ++ more) ≡ Err TooMuch)
IsAnswered IsText reading bytes (Err (Path f)) = ⊥

pub answered_seen : {P Q : Type 0} (view : P → Q) (IsP : List ℕ → P → Type 0) (IsQ : List ℕ → Q → Type 0) (reads : List ℕ → Result P ReadFault) (reads' : List ℕ → Result Q ReadFault)
    → ((t : List ℕ) (p : P) → IsP t p → IsQ t (view p)) → ((t : List ℕ) → reads' t ≡ seen view (reads t))
    → (bytes : List ℕ) (r : Result P ReadFault) → IsAnswered IsP reads bytes r → IsAnswered IsQ reads' bytes (seen view r)
answered_seen view IsP IsQ reads reads' kept same bytes (Ok p) is = kept bytes p is
answered_seen view IsP IsQ reads reads' kept same bytes (Err NotEnough) is = (is.0, is.1, (view is.2.0, kept (bytes ++ is.0) is.2.0 is.2.1))
answered_seen view IsP IsQ reads reads' kept same bytes (Err TooMuch) is =
    let x = is.0 in
    ((x.0, x.1, x.2, x.3, (view x.4.0, kept x.0 x.4.0 x.4.1)), λ more. same (bytes ++ more) ∙ ap (seen view) (is.1 more))
answered_seen view IsP IsQ reads reads' kept same bytes (Err (Path f)) is = absurd is

no_ok : {X P : Type 0} (p : P) (f : ReadFault) → ◌≡◌ {A = Result P ReadFault} (Ok p) (Err f) → X
no_ok p f e = absurd cc

-- ---- texts that read as what they say

module _ (P : Type 0) (IsText : List ℕ → P → Type 0) (reading : List ℕ → Result P ReadFault) (reads : (bytes : List ℕ) (p : P) → IsText bytes p → reading bytes ≡ Ok p) where
  none_reads : (bytes : List ℕ) (f : ReadFault) → reading bytes ≡ Err f → IsNoText IsText bytes
  none_reads bytes f e = λ p is. no_ok p f (sym (reads bytes p is) ∙ e)

  pub answered_is_reading : (bytes : List ℕ) (r : Result P ReadFault) → reading bytes ≡ r → IsAnswered IsText reading bytes r → IsReadingAmong IsText bytes r
  answered_is_reading bytes (Ok p) e is = is
  answered_is_reading bytes (Err NotEnough) e is = (none_reads bytes NotEnough e, is)
  answered_is_reading bytes (Err TooMuch) e is = (none_reads bytes TooMuch e, λ l. none_reads (bytes ++ l.0) TooMuch (is.1 l.0) l.2.0 l.2.1, is.0)
  answered_is_reading bytes (Err (Path f)) e is = absurd is

  -- bytes have one reading
  pub one_among : (bytes : List ℕ) (r r' : Result P ReadFault) → IsReadingAmong IsText bytes r → IsReadingAmong IsText bytes r' → r ≡ r'
  one_among bytes (Ok a) (Ok b) is is' = sym (reads bytes a is) ∙ reads bytes b is'
  one_among bytes (Ok a) (Err NotEnough) is is' = absurd (is'.0 a is)
  one_among bytes (Ok a) (Err TooMuch) is is' = absurd (is'.0 a is)
  one_among bytes (Ok a) (Err (Path f)) is is' = absurd is'
  one_among bytes (Err NotEnough) (Ok a) is is' = absurd (is.0 a is')
  one_among bytes (Err NotEnough) (Err NotEnough) is is' = refl
  one_among bytes (Err NotEnough) (Err TooMuch) is is' = absurd (is'.1 is.1)
  one_among bytes (Err NotEnough) (Err (Path f)) is is' = absurd is'
  one_among bytes (Err TooMuch) (Ok a) is is' = absurd (is.0 a is')
  one_among bytes (Err TooMuch) (Err NotEnough) is is' = absurd (is.1 is'.1)
  one_among bytes (Err TooMuch) (Err TooMuch) is is' = refl
  one_among bytes (Err TooMuch) (Err (Path f)) is is' = absurd is'
  one_among bytes (Err (Path f)) r' is is' = absurd is

-- ---- what is made of a fixed part and a tail

abbrev pub tail_reading : {P : Type 0} → List Width → (List ℕ → ℕ) → (Tailed → P) → List ℕ → Result P ReadFault
tail_reading ws tail_len made bytes = answer_of (found_image made (tailed_found ws tail_len bytes))

module _ (P : Type 0) (ws : List Width) (tail_len : List ℕ → ℕ) (made : Tailed → P) where
  found_reads : (bytes : List ℕ) (found : Found Tailed) → tailed_found ws tail_len bytes ≡ found → tail_reading ws tail_len made bytes ≡ answer_of (found_image made found)
  found_reads bytes found e = ap (λ (x : Found Tailed). answer_of (found_image made x)) e

  -- the four ends of such a reading

  pub ends_none : (bytes : List ℕ) → fields_at ws bytes ≡ None → tail_reading ws tail_len made bytes ≡ Err NotEnough
  ends_none bytes e = found_reads bytes short (tailed_none ws tail_len bytes e)

  pub ends_short : (bytes ns rest : List ℕ) → fields_at ws bytes ≡ Some (ns, rest) → length rest < tail_len ns → tail_reading ws tail_len made bytes ≡ Err NotEnough
  ends_short bytes ns rest e less = found_reads bytes short (tailed_short ws tail_len bytes (ns, rest) e less)

  pub ends_long : (bytes ns rest : List ℕ) → fields_at ws bytes ≡ Some (ns, rest) → tail_len ns < length rest → tail_reading ws tail_len made bytes ≡ Err TooMuch
  ends_long bytes ns rest e more = found_reads bytes long (tailed_long ws tail_len bytes (ns, rest) e more)

  pub ends_whole : (bytes ns rest : List ℕ) → fields_at ws bytes ≡ Some (ns, rest) → length rest ≡ tail_len ns → tail_reading ws tail_len made bytes ≡ Ok (made (ns, rest))
  ends_whole bytes ns rest e just = found_reads bytes (whole (ns, rest)) (tailed_whole ws tail_len bytes (ns, rest) e just)

module _ (P : Type 0) (ws : List Width) (wide : AllByRecursion IsWide ws) (tail_len : List ℕ → ℕ) (made : Tailed → P) where
  abbrev IsMade : List ℕ → P → Type 0
  IsMade = IsImage made (IsTailedText ws tail_len)

  -- the fixed part of a text is read, whatever follows
  fixed_reads : (t u : List ℕ) (p : Tailed) → IsTailedText ws tail_len t p → fields_at ws (t ++ u) ≡ Some (p.0, p.1 ++ u)
  fixed_reads t u p is = ap (λ (x : List ℕ). fields_at ws (x ++ u)) is.2 ∙ ap (fields_at ws) (append_assoc (fields_text ws p.0) p.1 u) ∙ fields_again ws wide p.0 (p.1 ++ u) is.0

  pub tail_reads : (t : List ℕ) (p : P) → IsImage made (IsTailedText ws tail_len) t p → tail_reading ws tail_len made t ≡ Ok p
  tail_reads t p is =
      let fixed = sym (ap (fields_at ws) (append-nil t)) ∙ fixed_reads t [] is.0 is.1 ∙ ap (λ (x : List ℕ). Some (is.0.0, x)) (append-nil is.0.1) in
      found_reads P ws tail_len made t (whole is.0) (tailed_whole ws tail_len t is.0 fixed is.1.1) ∙ ap Ok is.2

  -- bytes behind a text are too much
  tail_exceeds : (t u : List ℕ) (p : P) → IsMade t p → 0 < length u → tail_reading ws tail_len made (t ++ u) ≡ Err TooMuch
  tail_exceeds t u p is some =
      found_reads P ws tail_len made (t ++ u) long (tailed_long ws tail_len (t ++ u) (is.0.0, is.0.1 ++ u) (fixed_reads t u is.0 is.1) (omega (arith, length-append is.0.1 u, is.1.1, some)))

  tail_stays : (bytes : List ℕ) → Exceeds IsMade bytes → (more : List ℕ) → tail_reading ws tail_len made (bytes ++ more) ≡ Err TooMuch
  tail_stays bytes x more =
      ap (tail_reading ws tail_len made) (ap (λ (y : List ℕ). y ++ more) x.3 ∙ append_assoc x.0 x.1 more)
      ∙ tail_exceeds x.0 (x.1 ++ more) x.4.0 x.4.1 (omega (arith, length-append x.1 more, x.2))

  found_answered : (bytes : List ℕ) (found : Found P) → IsFound IsMade bytes found → IsAnswered IsMade (tail_reading ws tail_len made) bytes (answer_of found)
  found_answered bytes (whole p) is = is
  found_answered bytes short is = is
  found_answered bytes long is = (is, tail_stays bytes is)

  pub tail_is_answered : (bytes : List ℕ) → IsBytes bytes → IsAnswered (IsImage made (IsTailedText ws tail_len)) (tail_reading ws tail_len made) bytes (tail_reading ws tail_len made bytes)
  tail_is_answered bytes fits =
      found_answered bytes (found_image made (tailed_found ws tail_len bytes)) (image_found made (IsTailedText ws tail_len) bytes (tailed_found ws tail_len bytes) (tailed_is_found ws wide tail_len bytes fits))
