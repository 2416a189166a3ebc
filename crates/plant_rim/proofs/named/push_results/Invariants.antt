use Rattle.std.proofs.Common.{◌≡◌, ◌++◌, true, drop}
use Rattle.plant_rim.specs.Named.{results_text}
use Rattle.plant_rim.proofs.named.push_results.Given as goal

-- what stands there, with what the bytes that are left add, is all
abbrev pub invariant-loop-byte : goal.invariant-loop-byte
invariant-loop-byte l = l.out.items ++ results_text l.name l.begins (drop l.byte-index l.text) ≡ l.fn.out.items ++ results_text l.name true l.text
