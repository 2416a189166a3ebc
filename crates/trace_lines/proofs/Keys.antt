-- A key is its fields: that a major revision has seven bits has one proof.
use Rattle.std.proofs.Common.{◌≡◌, ◌+◌, ◌*◌, ◌<◌, ◌%◌, ℕ, Bool, List, [], ◌∷◌, length, get_or, Some, ap, arith}
use Rattle.std.proofs.Math.Bridge.{le_prop}
use Rattle.std.specs.Prelude.{nat_le}
use Rattle.std.specs.Int.{w16, from_le_bytes}
use Rattle.cip_epath.specs.declared.key.ElectronicKey.{ElectronicKey}
use Rattle.trace_lines.specs.Kinds.{key_with, key_of_bytes}

abbrev key_of : (v t p : ℕ) (c : Bool) (m n : ℕ) → m < 128 → ElectronicKey
key_of v t p c m n s = record { vendor = v; device_type = t; product = p; compatible = c; major = m; minor = n; seven_bits = s }

key_is : (v v' t t' p p' m n : ℕ) (c : Bool) (s s' : m < 128) → v ≡ v' → t ≡ t' → p ≡ p' → key_of v t p c m n s ≡ key_of v' t' p' c m n s'
key_is v v' t t' p p' m n c s s' ve te pe = λ i. record {
  vendor = ve i;
  device_type = te i;
  product = pe i;
  compatible = c;
  major = m;
  minor = n;
  seven_bits = le_prop s s' i;
}

pair_is : (a b n : ℕ) → n ≡ a + b * 256 → n ≡ from_le_bytes w16 (a ∷ b ∷ [])
pair_is a b n is = omega (arith, is)

eight : (bytes : List ℕ) (said : ElectronicKey) → length bytes ≡ 8 → said ≡ key_with bytes → Some (Some said) ≡ key_of_bytes bytes
unfolding key_of_bytes
eight bytes said long is = rw long (ap (λ (key : ElectronicKey). Some (Some key)) is)

pub key_parsed : (bytes : List ℕ) (v t p : ℕ) (s : get_or bytes 6 0 % 128 < 128) → length bytes ≡ 8 → v ≡ get_or bytes 0 0 + get_or bytes 1 0 * 256 → t ≡ get_or bytes 2 0 + get_or bytes 3 0 * 256 → p ≡ get_or bytes 4 0 + get_or bytes 5 0 * 256 → Some (Some (key_of v t p (nat_le 128 (get_or bytes 6 0)) (get_or bytes 6 0 % 128) (get_or bytes 7 0) s)) ≡ key_of_bytes bytes
key_parsed bytes v t p s long ve te pe = eight bytes _ long (key_is _ _ _ _ _ _ _ _ _ _ _ (pair_is _ _ _ ve) (pair_is _ _ _ te) (pair_is _ _ _ pe))
