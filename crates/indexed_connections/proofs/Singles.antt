-- A producer that one connection alone has.
use Rattle.std.proofs.Common.{◌≡◌, ℕ, suc, ◌+◌, ◌==◌, Bool, true, false, cond, ◌||◌, List, [], ◌∷◌, ◌++◌, length, map, Option, Some, None, refl, sym, ◌∙◌, ap, subst, arith}
use Rattle.std.specs.List.{list_any}
use Rattle.std.proofs.lemmas.Bool.{eqb-true}
use Rattle.std.proofs.lemmas.List.Elements.{filter-append}
use Rattle.cip_productions.specs.declared.production.Producer.{Producer}
use Rattle.cip_types.specs.declared.names.Node.{Node}
use Rattle.cip_types.specs.Order.{first_of_each, unless}
use Rattle.adapter_table.specs.Connections.{Row}
use Rattle.adapter_table.specs.declared.row.State.{State}
use Rattle.adapter_table.specs.declared.row.State.TheVariants.{Established, TimedOut}
use Rattle.adapter_table.specs.Productions.{producer_number, is_produced_by, has_number as made_by, group, peer_of, same_node, producers}
use Rattle.conn_slab.specs.declared.peers.Peer.{Peer}
use Rattle.conn_slab.specs.Producing.{peer_in}
use Rattle.indexed_connections.specs.ConsumerTables.{ProducerConsumers, number_in, same_number, numbers, consumers_of, consumers_among, has_number, more_by, IsNewIfSingle}
use Rattle.indexed_connections.proofs.Gathering.{among_one}
use Rattle.indexed_connections.proofs.Logic.{numbered, length_append}
use Rattle.indexed_connections.proofs.Entries.{TakenUp, any_producer}
use Rattle.indexed_connections.proofs.Numbers.{is_number, number_of, numbers_are, any_producers}

-- ---- no other connection has it

no_more : (rows : List Row) → length rows ≡ 0 → rows ≡ []
no_more [] none = refl
no_more (row ∷ rows) none = absurd (omega arith)

made : (number : ℕ) (state : State) → producer_number state ≡ Some number → made_by number state ≡ true
made number (Established production) is = same production.producer is where
  same : (n : ℕ) → Some n ≡ Some number → n == number ≡ true
  same n e = let here : n ≡ number = cc in rw here (numbered number)
made number TimedOut is = absurd cc

-- the groups of a connection and of those before and behind it
pub record Alone (number : ℕ) (front rest : List Row) : Type 0 where
  pub before : group number front ≡ []
  pub behind : group number rest ≡ []

alone : (number : ℕ) (front : List Row) (row : Row) (rest : List Row) → is_produced_by number row ≡ true → length (group number (front ++ row ∷ rest)) ≡ 1 → Alone number front rest
alone number front row rest has one =
    let parts : length (group number (front ++ row ∷ rest)) ≡ length (group number front) + suc (length (group number rest)) =
    ap (length {A = Row}) (filter-append (is_produced_by number) front (row ∷ rest) ∙ ap (λ (b : Bool). group number front ++ cond b (row ∷ group number rest) (group number rest)) has)
    ∙ length_append (group number front) (row ∷ group number rest) in
    record {
      before = no_more (group number front) (omega (arith, parts, one));
      behind = no_more (group number rest) (omega (arith, parts, one));
    }

group_alone : (number : ℕ) (front : List Row) (row : Row) (rest : List Row) → is_produced_by number row ≡ true → Alone number front rest → group number (front ++ row ∷ rest) ≡ row ∷ []
group_alone number front row rest has so =
    filter-append (is_produced_by number) front (row ∷ rest)
    ∙ ap (λ (b : Bool). group number front ++ cond b (row ∷ group number rest) (group number rest)) has
    ∙ ap (λ (l : List Row). l ++ row ∷ group number rest) so.before
    ∙ ap (λ (l : List Row). row ∷ l) so.behind

-- ---- so the producers of the ones before it are without it

none_step : (b : Bool) (row : Row) (rows : List Row) (rest : Bool) → cond b (row ∷ rows) rows ≡ [] → (rows ≡ [] → rest ≡ false) → (b || rest) ≡ false
none_step true row rows rest none more = absurd cc
none_step false row rows rest none more = more none

none_made : (number : ℕ) (rows : List Row) → group number rows ≡ [] → list_any (is_produced_by number) rows ≡ false
none_made number [] none = refl
none_made number (row ∷ rows) none =
    none_step (is_produced_by number row) row (group number rows) (list_any (is_produced_by number) rows) none (none_made number rows)

named : (number : ℕ) (producers : List Producer) → list_any (λ n. same_number n number) (map number_of producers) ≡ list_any (is_number number) producers
named number [] = refl
named number (producer ∷ producers) = ap (λ b. is_number number producer || b) (named number producers)

unnamed : (number : ℕ) (rows : List Row) → group number rows ≡ [] → list_any (λ n. same_number n number) (numbers rows) ≡ false
unnamed number rows none =
    ap (list_any (λ n. same_number n number)) (numbers_are rows) ∙ named number (producers rows) ∙ any_producers number rows ∙ none_made number rows none

new_one : (rows front rest : List Row) (row : Row) (known : List ProducerConsumers) → front ++ row ∷ rest ≡ rows → known ≡ map (consumers_of rows) (numbers front) → (o : Option ℕ) → number_in row ≡ o → IsNewIfSingle rows known row.peer o
new_one rows front rest row known split are None is = tt
new_one rows front rest row known split are (Some number) is = λ one.
    let has : is_produced_by number row ≡ true = made number row.state is in
    let apart = alone number front row rest has (ap (λ (l : List Row). length (group number l)) split ∙ eqb-true _ _ one) in
    let any : list_any (has_number number) known ≡ false =
    ap (list_any (has_number number)) are ∙ any_producer rows number (numbers front) ∙ unnamed number front apart.before in
    let whole : group number rows ≡ row ∷ [] = ap (group number) (sym split) ∙ group_alone number front row rest has apart in
    ap (λ (b : Bool). unless b (consumers_of rows number)) any
    ∙ ap (λ (l : List Row). let it : ProducerConsumers = record { number = number; nodes = first_of_each same_node (map peer_of l) } in it ∷ []) whole

next_is_new : (rows front rest : List Row) (ahead : List Peer) (peer : Peer) (known : List ProducerConsumers) → front ++ rest ≡ rows → map peer_in rest ≡ peer ∷ ahead → known ≡ map (consumers_of rows) (numbers front) → IsNewIfSingle rows known peer.node peer.producer
next_is_new rows front [] ahead peer known split left are = absurd cc
next_is_new rows front (row ∷ rest) ahead peer known split left are =
    let here : peer_in row ≡ peer = cc in
    subst (λ (p : Peer). IsNewIfSingle rows known p.node p.producer) here (new_one rows front rest row known split are (number_in row) refl)

-- the producer of the next peer is new if no other connection has it
pub single_is_new : (rows : List Row) (ahead : List Peer) (peer : Peer) (known : List ProducerConsumers) → TakenUp rows (peer ∷ ahead) known → IsNewIfSingle rows known peer.node peer.producer
single_is_new rows ahead peer known so = next_is_new rows so.front so.rest ahead peer known so.split so.left so.are

-- and is added
pub single_added : (rows : List Row) (known new : List ProducerConsumers) (peer : Peer) (number : ℕ) (b : Bool) → peer.producer ≡ Some number → IsNewIfSingle rows known peer.node peer.producer → b ≡ (length (group number rows) == 1) → b ≡ true → new ≡ known ++ (record { number = number; nodes = consumers_among number (peer ∷ []) }) ∷ [] → new ≡ known ++ more_by rows known peer.producer
single_added rows known new peer number b is single one holds last =
    let fresh : IsNewIfSingle rows known peer.node (Some number) = subst (IsNewIfSingle rows known peer.node) is single in
    last ∙ ap (λ (l : List Node). let it : ProducerConsumers = record { number = number; nodes = l } in known ++ it ∷ []) (among_one number peer is)
    ∙ ap (λ (l : List ProducerConsumers). known ++ l) (sym (fresh (sym one ∙ holds))) ∙ ap (λ (o : Option ℕ). known ++ more_by rows known o) (sym is)
