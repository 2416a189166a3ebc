-- Booleans whose one part is known.
use Rattle.std.proofs.Common.{◌≡◌, Bool, true, false, cond, not, ◌&&◌, ◌||◌, refl}

pub and_none : (b : Bool) → (b && false) ≡ false
and_none true = refl
and_none false = refl

pub or_false : (b : Bool) → (b || false) ≡ b
or_false true = refl
or_false false = refl

pub or_true : (b : Bool) → (b || true) ≡ true
or_true true = refl
or_true false = refl

-- if the one holds whenever the other does, then the other does not hold alone
pub not_alone : (a b : Bool) → (a ≡ true → b ≡ true) → (a && not b) ≡ false
not_alone true true implies = refl
not_alone true false implies = absurd (let both : false ≡ true = implies refl in cc)
not_alone false b implies = refl

-- what holds of both values holds of the one that a test takes
pub either : {A : Type 0} (P : A → Type 0) (b : Bool) (x y : A) → P x → P y → P (cond b x y)
either P true x y first second = first
either P false x y first second = second
