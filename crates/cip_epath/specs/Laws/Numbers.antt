-- Numbers and steps of a reading: what is read was written so, and what was written is read again.
use Rattle.std.proofs.Common.{◌≡◌, ℕ, suc, ◌^◌, ◌<◌, Bool, true, false, cond, ltb, List, [], ◌∷◌, ◌++◌, length, Option, Some, None, Result, Ok, Err, sym, ap, subst, refl, ◌∙◌, append_assoc, arith, inl, inr, ◌⊎◌}
use Rattle.std.specs.Option.{ok_or}
use Rattle.std.specs.Int.{Width, w8, byte_len, to_le_bytes}
use Rattle.std.proofs.lemmas.Bool.{le-ltb}
use Rattle.cip_types.specs.Fields.{field_at}
use Rattle.cip_types.specs.FieldLaws.{IsBytes, IsWide, Takes, field_taken, field_again}
use Rattle.cip_epath.specs.declared.fault.PathFault.{PathFault}
use Rattle.cip_epath.specs.declared.fault.PathFault.TheVariants as fault
use Rattle.cip_epath.specs.Reading.{◌>>=◌, number_at}

pub IsBytes-rest : (b : ℕ) (bs : List ℕ) → IsBytes (b ∷ bs) → IsBytes bs
IsBytes-rest b bs h i = h (suc i)

-- ---- steps

-- the value of a step that did not fail
pub bind_ok : {A B : Type 0} (r : Result A PathFault) (f : A → Result B PathFault) (y : B) → (r >>= f) ≡ Ok y → (x : A) × (r ≡ Ok x) × (f x ≡ Ok y)
bind_ok (Ok x) f y e = (x, refl, e)
bind_ok (Err d) f y e = absurd cc

-- a failure is that of the step, or of what follows it
pub bind_err : {A B : Type 0} (r : Result A PathFault) (f : A → Result B PathFault) (d : PathFault) → (r >>= f) ≡ Err d → (r ≡ Err d) ⊎ ((x : A) × (r ≡ Ok x) × (f x ≡ Err d))
bind_err (Ok x) f d e = inr (x, refl, e)
bind_err (Err d') f d e = inl cc

-- what a reader answers: a value and the bytes after it
abbrev pub gives : {A : Type 0} → A → List ℕ → Result (A × List ℕ) PathFault
gives x rest = Ok (x, rest)

abbrev done : {A : Type 0} → A → Result A PathFault
done x = Ok x

pub ok_is : {A : Type 0} (x y : A) → done x ≡ done y → x ≡ y
ok_is x y e = cc

-- a test that did not fail
pub guard_ok : {A : Type 0} (b : Bool) (d : PathFault) (x y : A) → cond b (Err d) (Ok x) ≡ Ok y → (b ≡ false) × (x ≡ y)
guard_ok true d x y e = absurd cc
guard_ok false d x y e = (refl, cc)

pub guard_err : {A : Type 0} (b : Bool) (d d' : PathFault) (x : A) → cond b (Err d) (Ok x) ≡ Err d' → d ≡ d'
guard_err true d d' x e = cc
guard_err false d d' x e = absurd cc

-- ---- numbers

pub Takes-then : (a x b y c : List ℕ) → Takes a x b → Takes b y c → Takes a (x ++ y) c
Takes-then a x b y c p q = record { parts = p.parts ∙ ap (λ (t : List ℕ). x ++ t) q.parts ∙ sym (append_assoc x y c); rest_fits = q.rest_fits }

found : {A : Type 0} (o : Option A) (x : A) → ok_or o fault.Truncated ≡ Ok x → o ≡ Some x
found None x e = absurd cc
found (Some y) x e = cc

lacking : {A : Type 0} (o : Option A) (d : PathFault) → ok_or o fault.Truncated ≡ Err d → fault.Truncated ≡ d
lacking None d e = cc
lacking (Some y) d e = absurd cc

pub number_takes : (w : Width) → IsWide w → (bs : List ℕ) (n : ℕ) (rest : List ℕ) → IsBytes bs → number_at w bs ≡ Ok (n, rest) → Takes bs (to_le_bytes w n) rest × (n < 256 ^ byte_len w)
number_takes w wide bs n rest fits e = field_taken w wide bs n rest fits (found (field_at w bs) (n, rest) e)

pub number_again : (w : Width) → IsWide w → (n : ℕ) (rest : List ℕ) → n < 256 ^ byte_len w → number_at w (to_le_bytes w n ++ rest) ≡ Ok (n, rest)
number_again w wide n rest lt = ap (λ (o : Option (ℕ × List ℕ)). ok_or o fault.Truncated) (field_again w wide n rest lt)

-- a number is missing, and nothing else is wrong with it
pub number_err : (w : Width) (bs : List ℕ) (d : PathFault) → number_at w bs ≡ Err d → fault.Truncated ≡ d
number_err w bs d e = lacking (field_at w bs) d e

-- ---- one byte

pub byte_again : (b : ℕ) (rest : List ℕ) → number_at w8 (b ∷ rest) ≡ Ok (b, rest)
byte_again b rest = let long : ltb (length (b ∷ rest)) 1 ≡ false = le-ltb _ _ (omega arith) in rw long refl

byte_takes : (bs : List ℕ) (b : ℕ) (rest : List ℕ) → number_at w8 bs ≡ Ok (b, rest) → bs ≡ b ∷ rest
byte_takes [] b rest e = absurd cc
byte_takes (c ∷ bs) b rest e =
    let pair = ok_is (c, bs) (b, rest) (sym (byte_again c bs) ∙ e) in
    let head : c ≡ b = ap (λ (p : ℕ × List ℕ). p.0) pair in
    let tail : bs ≡ rest = ap (λ (p : ℕ × List ℕ). p.1) pair in
    cc

pub byte_field : (bs : List ℕ) (b : ℕ) (rest : List ℕ) → IsBytes bs → number_at w8 bs ≡ Ok (b, rest) → Takes bs (b ∷ []) rest × (b < 256)
byte_field bs b rest fits e =
    let parts = byte_takes bs b rest e in
    let whole : IsBytes (b ∷ rest) = subst IsBytes parts fits in
    (record { parts = parts; rest_fits = IsBytes-rest b rest whole }, whole 0)
