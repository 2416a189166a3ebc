-- A name is of ASCII characters alone.
use Rattle.std.proofs.Common.{◌≡◌, ℕ, zero, suc, Bool, true, false, List, [], ◌∷◌, length, refl, arith}
use Rattle.std.specs.Prelude.{IsUtf8, ◌&&◌, ◌==◌, nat_le, if◌then◌else◌}
use Rattle.std.specs.List.{list_all}
use Rattle.std.specs.Str.{IsAscii}
use Rattle.std.proofs.lemmas.Str.{IsUtf8-from_ascii}
use Rattle.std.proofs.lemmas.Bool.Decides.{nat_tests}
use Rattle.eds_text.specs.Names.{is_name, is_name_byte, is_name_len}

both : (a b : Bool) → (a && b) ≡ true → (a ≡ true) × (b ≡ true)
both true b h = (refl, h)
both false b h = absurd (cc)

low : (byte : ℕ) → is_name_byte byte ≡ true → nat_le byte 126 ≡ true
unfolding is_name_byte
low byte is = (both (nat_le byte 126) (if byte == 34 then false else if byte == 92 then false else true) (both (nat_le 32 byte) _ is).1).0

ascii_bytes : (bytes : List ℕ) → list_all is_name_byte bytes ≡ true → IsAscii bytes
ascii_bytes [] is i = omega arith
ascii_bytes (byte ∷ bytes) is zero = let first : nat_le byte 126 ≡ true = low byte (both (is_name_byte byte) (list_all is_name_byte bytes) is).0 in grind (arith, nat_tests, first)
ascii_bytes (byte ∷ bytes) is (suc i) = ascii_bytes bytes (both (is_name_byte byte) (list_all is_name_byte bytes) is).1 i

pub name_text : (bytes : List ℕ) → is_name bytes ≡ true → IsUtf8 bytes
unfolding is_name
name_text bytes is = IsUtf8-from_ascii bytes (ascii_bytes bytes (both (is_name_len (length bytes)) (list_all is_name_byte bytes) is).1)
