-- Bytes of ASCII are a text.
use Rattle.std.proofs.Common.{zero, suc, Bool, true, false, ◌≡◌, ℕ, ◌<◌, List, [], ◌∷◌, get_or, refl, arith}
use Rattle.std.specs.Prelude.{IsUtf8, nat_lt, ◌&&◌}
use Rattle.std.proofs.lemmas.Str.{IsUtf8-from_ascii}
use Rattle.std.proofs.lemmas.Bool.Decides.{nat_tests}
use Rattle.trace_words.specs.PointNames.Texts.{is_ascii}

both : (a b : Bool) → (a && b) ≡ true → (a ≡ true) × (b ≡ true)
both true b h = (refl, h)
both false b h = absurd (cc)

ascii_at : (bytes : List ℕ) → is_ascii bytes ≡ true → (i : ℕ) → get_or bytes i 0 < 128
ascii_at [] h i = omega arith
ascii_at (byte ∷ bytes) h zero = let first = (both (nat_lt byte 128) (is_ascii bytes) h).0 in grind (arith, nat_tests)
ascii_at (byte ∷ bytes) h (suc i) = ascii_at bytes (both (nat_lt byte 128) (is_ascii bytes) h).1 i

pub ascii_is_text : (bytes : List ℕ) → is_ascii bytes ≡ true → IsUtf8 bytes
ascii_is_text bytes h = IsUtf8-from_ascii bytes (ascii_at bytes h)
