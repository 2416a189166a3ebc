use Rattle.std.proofs.Common.{◌≡◌, ◌++◌, [], ◌∷◌, take, string_bytes, codes, flat_map}
use Rattle.hex.specs.Hex.{encode_lower}
use Rattle.station_lines.proofs.attributes.values.push_other_pairs.Given as goal

abbrev pub invariant-loop-byte : goal.invariant-loop-byte
invariant-loop-byte l =
    string_bytes l.out
    ≡ string_bytes l.fn.out ++ flat_map (λ other. codes ":" ++ encode_lower (other ∷ [])) (take l.byte-index l.bytes)
