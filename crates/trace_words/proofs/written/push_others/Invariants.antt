use Rattle.std.proofs.Common.{◌≡◌, ◌++◌, string_bytes, flat_map, take, codes}
use Rattle.trace_words.specs.Words.{node_word}
use Rattle.trace_words.proofs.written.push_others.Given as goal

abbrev pub invariant-loop-node : goal.invariant-loop-node
invariant-loop-node l = string_bytes l.out ≡ string_bytes l.fn.out ++ flat_map (λ other. codes "," ++ node_word other) (take l.node-index l.nodes)
