use Rattle.std.proofs.Common.{◌≡◌, ◌++◌, ◌∷◌, [], string_bytes, flat_map, take, codes}
use Rattle.hex.specs.Hex.{encode_upper}
use Rattle.eds_text.proofs.manager.push_other_bytes.Given as goal

abbrev pub invariant-loop-byte : goal.invariant-loop-byte
invariant-loop-byte l = string_bytes l.out ≡ string_bytes l.fn.out ++ flat_map (λ other. codes " " ++ encode_upper (other ∷ [])) (take l.byte-index l.bytes)
