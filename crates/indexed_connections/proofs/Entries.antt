-- Producers and their consumers, added from one connection after another.
use Rattle.std.proofs.Common.{◌≡◌, ◌<◌, ◌≤◌, ℕ, zero, suc, ◌+◌, ◌-◌, Bool, true, false, ◌||◌, ◌==◌, List, [], ◌∷◌, ◌++◌, length, map, take, drop, get_or, Option, Some, None, refl, sym, ◌∙◌, ap, subst, arith}
use Rattle.std.specs.List.{list_any, filter_map}
use Rattle.std.proofs.lemmas.Grind.{common_steps}
use Rattle.std.proofs.lemmas.List.{append-nil, append_assoc}
use Rattle.std.proofs.lemmas.List.Elements.{filter_map-append}
use Rattle.cip_types.specs.declared.names.Node.{Node}
use Rattle.cip_types.specs.Firsts.{IsTransitive, first_more}
use Rattle.cip_types.specs.Order.{first_of_each, unless}
use Rattle.adapter_table.specs.Connections.{Row}
use Rattle.adapter_table.specs.Productions.{consumers}
use Rattle.conn_slab.specs.declared.peers.Peer.{Peer}
use Rattle.conn_slab.specs.Producing.{peer_in}
use Rattle.indexed_connections.specs.declared.consumer_table.Entry.{Entry}
use Rattle.indexed_connections.specs.ConsumerTables.{ProducerConsumers, number_in, same_number, numbers, consumers_of, consumers_by_producer, consumers_among, nodes_in, consumers_in, AreWithin, has_number, is_of, more_by}
use Rattle.indexed_connections.proofs.Gathering.{among_are}
use Rattle.indexed_connections.proofs.Logic.{same_by, map_append, drop_front, length_append, take_whole}

-- ---- entries whose nodes come before others

take_front : (count : ℕ) (xs ys : List Node) → count ≤ length xs → take count (xs ++ ys) ≡ take count xs
take_front zero xs ys le = refl
take_front (suc count) [] ys le = absurd (omega arith)
take_front (suc count) (x ∷ xs) ys le = ap (λ (l : List Node). x ∷ l) (take_front count xs ys (omega arith))

part_front : (first count : ℕ) (xs ys : List Node) → first + count ≤ length xs → take count (drop first (xs ++ ys)) ≡ take count (drop first xs)
part_front zero count xs ys le = take_front count xs ys (omega arith)
part_front (suc first) count [] ys le = absurd (omega arith)
part_front (suc first) count (x ∷ xs) ys le = part_front first count xs ys (omega arith)

pub served_still : (nodes more : List Node) (entries : List Entry) → AreWithin (length nodes) entries → map (consumers_in (nodes ++ more)) entries ≡ map (consumers_in nodes) entries
served_still nodes more [] within = refl
served_still nodes more (entry ∷ entries) within =
    ap (λ (l : List Node). record { number = entry.number; nodes = l } ∷ map (consumers_in (nodes ++ more)) entries) (part_front entry.first entry.count nodes more within.0)
    ∙ ap (λ (l : List ProducerConsumers). consumers_in nodes entry ∷ l) (served_still nodes more entries within.1)

pub within_more : (len more : ℕ) (entries : List Entry) → AreWithin len entries → len ≤ more → AreWithin more entries
within_more len more [] within le = tt
within_more len more (entry ∷ entries) within le = (omega (arith, within.0), within_more len more entries within.1 le)

pub within_last : (len : ℕ) (entries : List Entry) (entry : Entry) → AreWithin len entries → entry.first + entry.count ≤ len → AreWithin len (entries ++ entry ∷ [])
within_last len [] entry within le = (le, tt)
within_last len (next ∷ entries) entry within le = (within.0, within_last len entries entry within.1 le)

-- the nodes of a new entry are those that were put last
pub last_nodes : (nodes added : List Node) (entry : Entry) → entry.first ≡ length nodes → entry.count ≡ length added → nodes_in (nodes ++ added) entry ≡ added
last_nodes nodes added entry first count =
    ap (λ (n : ℕ). take entry.count (drop n (nodes ++ added))) first
    ∙ ap (take entry.count) (drop_front nodes added)
    ∙ ap (λ (n : ℕ). take n added) count ∙ take_whole added

-- one more entry, whose nodes are put last
entry_more : (added : List Node) (entries new : List Entry) (nodes old : List Node) (entry : Entry) → AreWithin (length old) entries → nodes ≡ old ++ added → new ≡ entries ++ entry ∷ [] → entry.first ≡ length old → entry.count ≡ length added → (map (consumers_in nodes) new ≡ map (consumers_in old) entries ++ (record { number = entry.number; nodes = added }) ∷ []) × AreWithin (length nodes) new
entry_more added entries new nodes old entry within are is first count =
    let len : length nodes ≡ length old + length added = ap (length {A = Node}) are ∙ length_append old added in (
      ap (map (consumers_in nodes)) is
          ∙ map_append (consumers_in nodes) entries (entry ∷ [])
          ∙ ap (λ (l : List Node). map (consumers_in l) entries ++ consumers_in l entry ∷ []) are
          ∙ ap (λ (l : List ProducerConsumers). l ++ consumers_in (old ++ added) entry ∷ []) (served_still old added entries within)
          ∙ ap (λ (l : List Node). let it : ProducerConsumers = record { number = entry.number; nodes = l } in map (consumers_in old) entries ++ it ∷ []) (last_nodes old added entry first count),
      subst (AreWithin (length nodes)) (sym is) (within_last (length nodes) entries entry (within_more (length old) (length nodes) entries within (omega (arith, len))) (omega (arith, len, count, first))),
    )

pub entry_added : (added : List Node) (entries new : List Entry) (nodes old : List Node) (entry : Entry) (all : ℕ) → AreWithin (length old) entries → nodes ≡ old ++ added → new ≡ entries ++ entry ∷ [] → entry.first ≡ length old → all ≡ length nodes → entry.count ≡ all - entry.first → (map (consumers_in nodes) new ≡ map (consumers_in old) entries ++ (record { number = entry.number; nodes = added }) ∷ []) × AreWithin (length nodes) new
entry_added added entries new nodes old entry all within are is first whole count =
    let len : length nodes ≡ length old + length added = ap (length {A = Node}) are ∙ length_append old added in
    entry_more added entries new nodes old entry within are is first (omega (arith, len, first, whole, count))

pub any_entry : (number : ℕ) (nodes : List Node) (entries : List Entry) → list_any (has_number number) (map (consumers_in nodes) entries) ≡ list_any (is_of number) entries
any_entry number nodes [] = refl
any_entry number nodes (entry ∷ entries) = ap (λ b. is_of number entry || b) (any_entry number nodes entries)

-- ---- one more connection

numbers_transitive : IsTransitive same_number
numbers_transitive = λ x y z xy yz. same_by x y z xy yz

pub any_producer : (rows : List Row) (number : ℕ) (known : List ℕ) → list_any (has_number number) (map (consumers_of rows) known) ≡ list_any (λ first. same_number first number) known
any_producer rows number [] = refl
any_producer rows number (n ∷ known) = ap (λ b. (n == number) || b) (any_producer rows number known)

serve_step : (b : Bool) (rows : List Row) (known : List ℕ) (number : ℕ) → map (consumers_of rows) (known ++ unless b number) ≡ map (consumers_of rows) known ++ unless b (consumers_of rows number)
serve_step true rows known number = map_append (consumers_of rows) known []
serve_step false rows known number = map_append (consumers_of rows) known (number ∷ [])

abbrev listed : Option ℕ → List ℕ
listed None = []
listed (Some n) = n ∷ []

numbers_by : (front : List Row) (row : Row) (o : Option ℕ) → number_in row ≡ o → filter_map number_in (front ++ row ∷ []) ≡ filter_map number_in front ++ listed o
numbers_by front row o is = filter_map-append number_in front (row ∷ []) ∙ ap (λ (l : List ℕ). filter_map number_in front ++ l) (one row o is) where
  one : (row : Row) (o : Option ℕ) → number_in row ≡ o → filter_map number_in (row ∷ []) ≡ listed o
  one row None is = rw is refl
  one row (Some n) is = rw is refl

served_by : (rows front : List Row) (row : Row) (o : Option ℕ) → number_in row ≡ o → map (consumers_of rows) (numbers (front ++ row ∷ [])) ≡ map (consumers_of rows) (numbers front) ++ more_by rows (map (consumers_of rows) (numbers front)) o
served_by rows front row None is =
    ap (λ (l : List ℕ). map (consumers_of rows) (first_of_each same_number l)) (numbers_by front row None is ∙ append-nil (filter_map number_in front))
    ∙ sym (append-nil (map (consumers_of rows) (numbers front)))
served_by rows front row (Some number) is =
    ap (λ (l : List ℕ). map (consumers_of rows) (first_of_each same_number l)) (numbers_by front row (Some number) is)
    ∙ ap (map (consumers_of rows)) (first_more same_number numbers_transitive (filter_map number_in front) number)
    ∙ serve_step (list_any (λ first. same_number first number) (numbers front)) rows (numbers front) number
    ∙ ap (λ b. map (consumers_of rows) (numbers front) ++ unless b (consumers_of rows number)) (sym (any_producer rows number (numbers front)))

-- those of the connections so far, whose peers come before these
pub record TakenUp (rows : List Row) (ahead : List Peer) (consumer_table : List ProducerConsumers) : Type 0 where
  pub front : List Row
  pub rest : List Row
  pub split : front ++ rest ≡ rows
  pub left : map peer_in rest ≡ ahead
  pub are : consumer_table ≡ map (consumers_of rows) (numbers front)

taken_next : (rows front rest : List Row) (ahead : List Peer) (peer : Peer) (consumer_table new : List ProducerConsumers) → front ++ rest ≡ rows → map peer_in rest ≡ peer ∷ ahead → consumer_table ≡ map (consumers_of rows) (numbers front) → new ≡ consumer_table ++ more_by rows consumer_table peer.producer → TakenUp rows ahead new
taken_next rows front [] ahead peer consumer_table new split left are is = absurd cc
taken_next rows front (row ∷ rest) ahead peer consumer_table new split left are is =
    let here : peer_in row ≡ peer = cc in
    record {
      front = front ++ row ∷ [];
      rest = rest;
      split = append_assoc front (row ∷ []) rest ∙ split;
      left = cc;
      are =
          is ∙ ap (λ (p : Peer). consumer_table ++ more_by rows consumer_table p.producer) (sym here)
          ∙ ap (λ (l : List ProducerConsumers). l ++ more_by rows l (number_in row)) are ∙ sym (served_by rows front row (number_in row) refl);
    }

pub taken_more : (rows : List Row) (ahead : List Peer) (peer : Peer) (consumer_table new : List ProducerConsumers) → TakenUp rows (peer ∷ ahead) consumer_table → new ≡ consumer_table ++ more_by rows consumer_table peer.producer → TakenUp rows ahead new
taken_more rows ahead peer consumer_table new so is = taken_next rows so.front so.rest ahead peer consumer_table new so.split so.left so.are is

-- the peers from an index on, and those behind it
pub taken_at : (rows : List Row) (peers : List Peer) (i : ℕ) (d : Peer) (consumer_table : List ProducerConsumers) → i < length peers → TakenUp rows (drop i peers) consumer_table → TakenUp rows (get_or peers i d ∷ drop (i + 1) peers) consumer_table
taken_at rows peers i d consumer_table lt so =
    let next : drop i peers ≡ get_or peers i d ∷ drop (i + 1) peers = grind (arith, common_steps) in
    subst (λ (l : List Peer). TakenUp rows l consumer_table) next so

none_left : (rest : List Row) → map peer_in rest ≡ [] → rest ≡ []
none_left [] none = refl
none_left (row ∷ rest) none = absurd cc

pub taken_all : (rows : List Row) (consumer_table : List ProducerConsumers) → TakenUp rows [] consumer_table → consumer_table ≡ consumers_by_producer rows
taken_all rows consumer_table so =
    so.are ∙ ap (λ (l : List Row). map (consumers_of rows) (numbers l)) (sym (append-nil so.front) ∙ ap (λ (l : List Row). so.front ++ l) (sym (none_left so.rest so.left)) ∙ so.split)

pub taken_past : (rows : List Row) (peers : List Peer) (i : ℕ) (consumer_table : List ProducerConsumers) → length peers ≤ i → TakenUp rows (drop i peers) consumer_table → consumer_table ≡ consumers_by_producer rows
taken_past rows peers i consumer_table le so =
    let past : drop i peers ≡ [] = grind (arith, common_steps) in
    taken_all rows consumer_table (subst (λ (l : List Peer). TakenUp rows l consumer_table) past so)

-- a producer that is there adds nothing, and a new one is appended
pub known : (rows : List Row) (nodes : List Node) (entries lent : List Entry) (o : Option ℕ) (number : ℕ) (b : Bool) → o ≡ Some number → b ≡ list_any (is_of number) lent → lent ≡ entries → b ≡ true → map (consumers_in nodes) entries ≡ map (consumers_in nodes) entries ++ more_by rows (map (consumers_in nodes) entries) o
known rows nodes entries lent o number b is has same holds =
    let any : list_any (has_number number) (map (consumers_in nodes) entries) ≡ true = any_entry number nodes entries ∙ sym (has ∙ ap (list_any (is_of number)) same) ∙ holds in
    rw (is, any) (sym (append-nil (map (consumers_in nodes) entries)))

pub added : (rows : List Row) (peers : List Peer) (nodes : List Node) (entries lent : List Entry) (o : Option ℕ) (number : ℕ) (b : Bool) (new : List ProducerConsumers) → peers ≡ map peer_in rows → o ≡ Some number → b ≡ list_any (is_of number) lent → lent ≡ entries → b ≡ false → new ≡ map (consumers_in nodes) entries ++ (record { number = number; nodes = consumers_among number peers }) ∷ [] → new ≡ map (consumers_in nodes) entries ++ more_by rows (map (consumers_in nodes) entries) o
added rows peers nodes entries lent o number b new all is has same fails last =
    let any : list_any (has_number number) (map (consumers_in nodes) entries) ≡ false = any_entry number nodes entries ∙ sym (has ∙ ap (list_any (is_of number)) same) ∙ fails in
    let consumers_are : consumers_among number peers ≡ consumers number rows = ap (consumers_among number) all ∙ among_are number rows in
    rw (is, any) (last ∙ ap (λ (l : List Node). let it : ProducerConsumers = record { number = number; nodes = l } in map (consumers_in nodes) entries ++ it ∷ []) consumers_are)
