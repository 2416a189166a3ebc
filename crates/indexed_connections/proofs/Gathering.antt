-- The nodes that consume the datagrams of a producer, gathered from one peer after another.
use Rattle.std.proofs.Common.{◌≡◌, ◌<◌, ◌≤◌, ℕ, ◌+◌, Bool, true, false, cond, Option, Some, List, [], ◌∷◌, ◌++◌, length, map, filter, take, drop, get_or, refl, sym, ◌∙◌, ap, arith}
use Rattle.std.specs.List.{list_any}
use Rattle.std.proofs.lemmas.Grind.{common_steps}
use Rattle.std.proofs.lemmas.List.{append-nil, append_assoc}
use Rattle.std.proofs.lemmas.List.Elements.{filter-append}
use Rattle.cip_types.specs.declared.names.Node.{Node}
use Rattle.cip_types.specs.Firsts.{IsTransitive, first_more}
use Rattle.cip_types.specs.Order.{first_of_each, unless}
use Rattle.adapter_table.specs.Connections.{Row}
use Rattle.adapter_table.specs.Productions.{is_produced_by, group, same_node, peer_of, consumers}
use Rattle.conn_slab.specs.declared.peers.Peer.{Peer}
use Rattle.conn_slab.specs.Producing.{peer_in}
use Rattle.indexed_connections.specs.ConsumerLaws.{by_number}
use Rattle.indexed_connections.specs.ConsumerTables.{is_number, has_producer, node_of, consumers_among, one_consumer}
use Rattle.indexed_connections.proofs.Logic.{same_by, numbered, map_append, drop_front}

nodes_transitive : IsTransitive same_node
nodes_transitive = λ x y z xy yz. same_by x.0 y.0 z.0 xy yz

nodes_step : (b : Bool) (nodes : List Node) (peer : Peer) → first_of_each same_node (nodes ++ map node_of (cond b (peer ∷ []) [])) ≡ first_of_each same_node nodes ++ cond b (unless (list_any (λ other. same_node other peer.node) (first_of_each same_node nodes)) peer.node) []
nodes_step true nodes peer = first_more same_node nodes_transitive nodes peer.node
nodes_step false nodes peer = ap (first_of_each same_node) (append-nil nodes) ∙ sym (append-nil (first_of_each same_node nodes))

consumers_after : (number : ℕ) (front : List Peer) (peer : Peer) → consumers_among number (front ++ peer ∷ []) ≡ consumers_among number front ++ one_consumer number peer (consumers_among number front)
consumers_after number front peer =
    ap (λ (l : List Peer). first_of_each same_node (map node_of l)) (filter-append (has_producer number) front (peer ∷ []))
    ∙ ap (first_of_each same_node) (map_append node_of (filter (has_producer number) front) (cond (has_producer number peer) (peer ∷ []) []))
    ∙ nodes_step (has_producer number peer) (map node_of (filter (has_producer number) front)) peer

-- one more peer adds its node behind those of the peers so far
pub gathered_more : (number : ℕ) (peers : List Peer) (i : ℕ) (d : Peer) (first : ℕ) (old nodes new : List Node) → i < length peers → first ≡ length old → nodes ≡ old ++ consumers_among number (take i peers) → new ≡ nodes ++ one_consumer number (get_or peers i d) (drop first nodes) → new ≡ old ++ consumers_among number (take (i + 1) peers)
gathered_more number peers i d first old nodes new lt begin are is =
    let front = take i peers in
    let peer = get_or peers i d in
    let more : take (i + 1) peers ≡ front ++ peer ∷ [] = grind (arith, common_steps) in
    let known : drop first nodes ≡ consumers_among number front = ap (λ (n : ℕ). drop n nodes) begin ∙ ap (drop (length old)) are ∙ drop_front old (consumers_among number front) in
    is ∙ ap (λ (l : List Node). nodes ++ one_consumer number peer l) known
    ∙ ap (λ (l : List Node). l ++ one_consumer number peer (consumers_among number front)) are
    ∙ append_assoc old (consumers_among number front) (one_consumer number peer (consumers_among number front))
    ∙ ap (λ (l : List Node). old ++ l) (sym (consumers_after number front peer) ∙ ap (consumers_among number) (sym more))

pub gathered_all : (number : ℕ) (peers : List Peer) (i : ℕ) (old nodes : List Node) → length peers ≤ i → nodes ≡ old ++ consumers_among number (take i peers) → nodes ≡ old ++ consumers_among number peers
gathered_all number peers i old nodes le are =
    let whole : take i peers ≡ peers = grind (arith, common_steps) in
    are ∙ ap (λ (l : List Peer). old ++ consumers_among number l) whole

-- the consumers among the peers of connections are those of the connections
among_step : (b : Bool) (row : Row) (peers : List Peer) (rows : List Row) → map node_of peers ≡ map peer_of rows → map node_of (cond b (peer_in row ∷ peers) peers) ≡ map peer_of (cond b (row ∷ rows) rows)
among_step true row peers rows same = ap (λ (l : List Node). row.peer ∷ l) same
among_step false row peers rows same = same

nodes_among : (number : ℕ) (rows : List Row) → map node_of (filter (has_producer number) (map peer_in rows)) ≡ map peer_of (group number rows)
nodes_among number [] = refl
nodes_among number (row ∷ rows) =
    ap (λ (b : Bool). map node_of (cond b (peer_in row ∷ filter (has_producer number) (map peer_in rows)) (filter (has_producer number) (map peer_in rows)))) (sym (by_number number row.state))
    ∙ among_step (is_produced_by number row) row (filter (has_producer number) (map peer_in rows)) (group number rows) (nodes_among number rows)

pub among_are : (number : ℕ) (rows : List Row) → consumers_among number (map peer_in rows) ≡ consumers number rows
among_are number rows = ap (first_of_each same_node) (nodes_among number rows)

-- the consumer that a peer of the producer is
pub among_one : (number : ℕ) (peer : Peer) → peer.producer ≡ Some number → consumers_among number (peer ∷ []) ≡ peer.node ∷ []
among_one number peer is =
    ap (λ (o : Option ℕ). first_of_each same_node (map node_of (cond (is_number number o) (peer ∷ []) []))) is
    ∙ ap (λ (b : Bool). first_of_each same_node (map node_of (cond b (peer ∷ []) []))) (numbered number)
