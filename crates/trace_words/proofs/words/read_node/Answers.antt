use Rattle.std.specs.Net.Addr.{ipv4_bits}
use Rattle.trace_words.proofs.NodeWords.{node_found, node_refused}
use Rattle.trace_words.proofs.words.read_node.Goals as goal

pub returns-in-Ok : goal.returns-in-Ok
unfolding ipv4_bits
returns-in-Ok c = node_found _ _ _ c.in-Ok.ensures.value c.to_bits.ensures

pub returns-in-Err : goal.returns-in-Err
returns-in-Err c = node_refused _ c.in-Err.ensures.value
