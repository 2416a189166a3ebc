-- How bytes stand to the texts of a format, as an answer.
use Rattle.std.proofs.Common.{◌≡◌, ℕ, ◌<◌, List, length, Some, None, Result, Ok, Err, refl, sym, ap, ◌∙◌, arith}
use Rattle.std.specs.Int.{Width}
use Rattle.std.proofs.lemmas.Bool.{lt-ltb, le-ltb}
use Rattle.cip_types.specs.Fields.{fields_at}
use Rattle.cip_types.specs.Texts.{IsPrefixFree, Found, whole, short, long, IsFound, Tailed, tailed_found}
use Rattle.cip_types.specs.TextLaws.{one_found}
use Rattle.cip_fwdopen.specs.declared.fault.ReadFault.{ReadFault}
use Rattle.cip_fwdopen.specs.declared.fault.ReadFault.TheVariants.{NotEnough, TooMuch, Path}
use Rattle.cip_fwdopen.specs.Readings.{IsReadingOf, answer_of}

-- ---- a fixed part with a tail, read

pub tailed_none : (ws : List Width) (tail_len : List ℕ → ℕ) (bytes : List ℕ) → fields_at ws bytes ≡ None → tailed_found ws tail_len bytes ≡ short
tailed_none ws tail_len bytes e = rw e refl

pub tailed_short : (ws : List Width) (tail_len : List ℕ → ℕ) (bytes : List ℕ) (p : Tailed) → fields_at ws bytes ≡ Some p → length p.1 < tail_len p.0 → tailed_found ws tail_len bytes ≡ short
tailed_short ws tail_len bytes p e less = rw (e, lt-ltb _ _ less) refl

pub tailed_long : (ws : List Width) (tail_len : List ℕ → ℕ) (bytes : List ℕ) (p : Tailed) → fields_at ws bytes ≡ Some p → tail_len p.0 < length p.1 → tailed_found ws tail_len bytes ≡ long
tailed_long ws tail_len bytes p e more = rw (e, le-ltb (length p.1) (tail_len p.0) (omega arith), lt-ltb _ _ more) refl

pub tailed_whole : (ws : List Width) (tail_len : List ℕ → ℕ) (bytes : List ℕ) (p : Tailed) → fields_at ws bytes ≡ Some p → length p.1 ≡ tail_len p.0 → tailed_found ws tail_len bytes ≡ whole p
tailed_whole ws tail_len bytes p e just = rw (e, le-ltb (length p.1) (tail_len p.0) (omega arith), le-ltb (tail_len p.0) (length p.1) (omega arith)) refl

-- ---- answers

pub found_is_reading : {P : Type 0} (IsText : List ℕ → P → Type 0) (bytes : List ℕ) (found : Found P) → IsFound IsText bytes found → IsReadingOf IsText bytes (answer_of found)
found_is_reading IsText bytes (whole p) is = is
found_is_reading IsText bytes short is = is
found_is_reading IsText bytes long is = is

-- what is found where an answer is a reading
pub record Stands {P : Type 0} (IsText : List ℕ → P → Type 0) (bytes : List ℕ) (answer : Result P ReadFault) : Type 0 where
  pub found : Found P
  pub is : IsFound IsText bytes found
  pub same : answer ≡ answer_of found

pub reading_is_found : {P : Type 0} (IsText : List ℕ → P → Type 0) (bytes : List ℕ) (answer : Result P ReadFault) → IsReadingOf IsText bytes answer → Stands IsText bytes answer
reading_is_found IsText bytes (Ok p) is = record { found = whole p; is = is; same = refl }
reading_is_found IsText bytes (Err NotEnough) is = record { found = short; is = is; same = refl }
reading_is_found IsText bytes (Err TooMuch) is = record { found = long; is = is; same = refl }
reading_is_found IsText bytes (Err (Path f)) is = absurd is

-- bytes have one reading
pub one_reading : {P : Type 0} (IsText : List ℕ → P → Type 0) → IsPrefixFree IsText → (bytes : List ℕ) (r r' : Result P ReadFault) → IsReadingOf IsText bytes r → IsReadingOf IsText bytes r' → r ≡ r'
one_reading IsText free bytes r r' is is' =
    let a = reading_is_found IsText bytes r is in
    let b = reading_is_found IsText bytes r' is' in
    a.same ∙ ap answer_of (one_found IsText free bytes a.found b.found a.is b.is) ∙ sym b.same
