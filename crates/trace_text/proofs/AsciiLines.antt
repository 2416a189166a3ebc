-- Lines of ASCII are texts.
use Rattle.std.specs.Cmp.Derive.{both_true}
use Rattle.std.proofs.Common.{zero, suc, Bool, true, ◌≡◌, ℕ, ◌<◌, false, List, [], ◌∷◌, get_or, refl, sym, arith}
use Rattle.std.specs.Prelude.{IsUtf8, MatchBool, nat_lt, ◌&&◌}
use Rattle.std.specs.Str.{IsAscii, IsNotAscii}
use Rattle.std.proofs.lemmas.Str.{IsUtf8-from_ascii}
use Rattle.trace_text.specs.Forms.{is_ascii}
use Rattle.std.proofs.lemmas.Bool.Decides.{nat_tests}

both : (a b : Bool) → (a && b) ≡ true → (a ≡ true) × (b ≡ true)
both true b h = (refl, h)
both false b h = absurd (cc)

ascii_at : (text : List ℕ) → is_ascii text ≡ true → (i : ℕ) → get_or text i 0 < 128
ascii_at [] h i = omega arith
ascii_at (c ∷ cs) h zero = let first = (both (nat_lt c 128) (is_ascii cs) h).0 in grind (arith, nat_tests)
ascii_at (c ∷ cs) h (suc i) = ascii_at cs (both (nat_lt c 128) (is_ascii cs) h).1 i

pub ascii_text : (text : List ℕ) → is_ascii text ≡ true → IsUtf8 text
ascii_text text h = IsUtf8-from_ascii text (ascii_at text h)

all_ascii : (text : List ℕ) → IsAscii text → is_ascii text ≡ true
all_ascii [] h = refl
all_ascii (c ∷ cs) h =
    let below : c < 128 = h 0 in
    both_true (grind (arith, nat_tests)) (all_ascii cs (λ i. h (suc i)))

none_ascii : (text : List ℕ) (said : Bool) → is_ascii text ≡ said → IsNotAscii text → false ≡ said
none_ascii text false is other = refl
none_ascii text true is other = absurd (omega (arith, ascii_at text is other.0, other.1))

pub ascii_is : (text : List ℕ) (said : Bool) → MatchBool said (IsAscii text) (IsNotAscii text) → said ≡ is_ascii text
ascii_is text true ascii = sym (all_ascii text ascii)
ascii_is text false other = none_ascii text (is_ascii text) refl other
