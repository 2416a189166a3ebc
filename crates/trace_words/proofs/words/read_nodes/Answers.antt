use Rattle.std.proofs.Common.{rules, ◌∙◌, [], Some, ap, sym, arith}
use Rattle.trace_words.specs.Words.{all_nodes}
use Rattle.trace_words.proofs.LineWords.{first_part, only_part}
use Rattle.trace_words.proofs.NodeWords.{behind, none_yet, node_more, no_node, last_node, undashed}
use Rattle.trace_words.proofs.words.read_nodes.Goals as goal

pub loop-node-init : goal.loop-node-init
loop-node-init c = (c.utf8.word, none_yet _ _ c.new-nodes.ensures.items)

pub loop-node-preserved : goal.loop-node-preserved
loop-node-preserved c =
    let parted = first_part 44 _ _ _ _ (omega arith) c.in-Some.is c.split_once.ensures.cases in
    (search rules, node_more _ _ _ _ _ _ (c.loop-node.invariant.1 ∙ ap (λ words. behind c.loop-node.nodes.items (all_nodes words)) parted) c.in-Some-read_node.ensures c.in_ok-push.ensures.items)

pub returns-in_default-read_node : goal.returns-in_default-read_node
returns-in_default-read_node c =
    let parted = first_part 44 _ _ _ _ (omega arith) c.in-Some.is c.split_once.ensures.cases in
    undashed _ _ (sym c.if-is_dash.ensures) (no_node _ _ _ _ (c.loop-node.invariant.1 ∙ ap (λ words. behind c.loop-node.nodes.items (all_nodes words)) parted) c.in_default-read_node.ensures)

pub returns-in_default-read_node-2 : goal.returns-in_default-read_node-2
returns-in_default-read_node-2 c =
    let parted = only_part 44 _ _ (omega arith) c.in_default.is c.split_once.ensures.cases in
    undashed _ _ (sym c.if-is_dash.ensures) (no_node _ c.loop-node.nodes.items _ [] (c.loop-node.invariant.1 ∙ ap (λ words. behind c.loop-node.nodes.items (all_nodes words)) parted) c.in_default-read_node-2.ensures)

pub returns : goal.returns
returns c =
    let parted = only_part 44 _ _ (omega arith) c.in_default.is c.split_once.ensures.cases in
    undashed _ _ (sym c.if-is_dash.ensures) (last_node _ _ _ _ _ (c.loop-node.invariant.1 ∙ ap (λ words. behind c.loop-node.nodes.items (all_nodes words)) parted) c.in-Some-read_node-2.ensures c.in_ok-push-2.ensures.items ∙ ap Some (sym c.from_vec.ensures))
