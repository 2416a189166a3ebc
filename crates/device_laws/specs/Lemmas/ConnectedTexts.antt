-- What the items of a connected message can be read as: they are no items of an unconnected one, so they have no id.
use Rattle.std.proofs.Common.{◌≡◌, ℕ, ltb, false, List, [], ◌∷◌, length, Option, Some, None, Err, refl, arith}
use Rattle.std.specs.Int.{w16, w32, from_le_bytes}
use Rattle.std.proofs.lemmas.Bool.{le-ltb}
use Rattle.cip_types.specs.Fields.{field_at, fields_at, then_at}
use Rattle.cip_types.specs.Texts.{Tailed}
use Rattle.cip_encap.specs.Connected.{connected_text}
use Rattle.cip_encap.specs.AnyItems.{any_parts, any_found, any_packet_reading}
use Rattle.cip_encap.specs.declared.packet.ItemFault.TheVariants.{Bad}

-- the first number of 32 bits, and of 16
first_four : (a b c d : ℕ) (rest : List ℕ) → field_at w32 (a ∷ b ∷ c ∷ d ∷ rest) ≡ Some (from_le_bytes w32 (a ∷ b ∷ c ∷ d ∷ []), rest)
first_four a b c d rest =
    let some : ltb (length (a ∷ b ∷ c ∷ d ∷ rest)) 4 ≡ false = le-ltb _ _ (omega arith) in
    rw some refl

first_two : (a b : ℕ) (rest : List ℕ) → field_at w16 (a ∷ b ∷ rest) ≡ Some (from_le_bytes w16 (a ∷ b ∷ []), rest)
first_two a b rest =
    let some : ltb (length (a ∷ b ∷ rest)) 2 ≡ false = le-ltb _ _ (omega arith) in
    rw some refl

-- an address item that is not the null one
address_bad : (interface timeout count : ℕ) (numbers rest : List ℕ) → interface ≡ 0 → count ≡ 2 → any_parts (interface ∷ timeout ∷ count ∷ 0xA1 ∷ numbers) rest ≡ Err Bad
address_bad interface timeout count (address_len ∷ kind ∷ len ∷ []) rest zero two = rw (zero, two) refl
address_bad interface timeout count _ rest zero two = refl

tail_bad : (found : Option Tailed) → any_found (then_at (then_at (then_at (then_at found (λ ns more. Some (0xA1 ∷ ns, more))) (λ ns more. Some (2 ∷ ns, more))) (λ ns more. Some (0 ∷ ns, more))) (λ ns more. Some (0 ∷ ns, more))) ≡ Err Bad
tail_bad None = refl
tail_bad (Some p) = address_bad 0 0 2 p.0 p.1 refl refl

heads_bad : (rest : List ℕ) → any_packet_reading (0 ∷ 0 ∷ 0 ∷ 0 ∷ 0 ∷ 0 ∷ 2 ∷ 0 ∷ 0xA1 ∷ 0 ∷ rest) ≡ Err Bad
unfolding any_packet_reading
heads_bad rest =
    rw (first_four 0 0 0 0 (0 ∷ 0 ∷ 2 ∷ 0 ∷ 0xA1 ∷ 0 ∷ rest), first_two 0 0 (2 ∷ 0 ∷ 0xA1 ∷ 0 ∷ rest), first_two 2 0 (0xA1 ∷ 0 ∷ rest), first_two 0xA1 0 rest)
    (tail_bad (fields_at (w16 ∷ w16 ∷ w16 ∷ []) rest))

pub connected_bad : (connection count : ℕ) (message : List ℕ) → any_packet_reading (connected_text connection count message) ≡ Err Bad
connected_bad connection count message = heads_bad _
