-- Producers keep their consumers if each connection keeps its peer and the number of its producer.
use Rattle.std.proofs.Common.{◌≡◌, ℕ, Bool, true, false, cond, List, [], ◌∷◌, map, Option, Some, None, refl, sym, ◌∙◌, ap}
use Rattle.std.specs.List.{filter_map}
use Rattle.cip_types.specs.declared.names.Node.{Node}
use Rattle.cip_types.specs.Order.{first_of_each}
use Rattle.adapter_table.specs.Connections.{Row}
use Rattle.adapter_table.specs.declared.row.State.{State}
use Rattle.adapter_table.specs.declared.row.State.TheVariants.{Established, TimedOut}
use Rattle.adapter_table.specs.Productions.{producer_number, has_number, is_produced_by, group, same_node, peer_of}
use Rattle.indexed_connections.specs.ConsumerTables.{ProducerConsumers, number_in, is_number, same_number, numbers, consumers_of, consumers_by_producer}

-- a connection keeps its peer and the number of its producer
pub record KeepsProducer (row changed : Row) : Type 0 where
  pub peer : changed.peer ≡ row.peer
  pub number : number_in changed ≡ number_in row

pub by_number : (number : ℕ) (state : State) → has_number number state ≡ is_number number (producer_number state)
by_number number (Established production) = refl
by_number number TimedOut = refl

pub made_kept : (number : ℕ) (row changed : Row) → KeepsProducer row changed → is_produced_by number changed ≡ is_produced_by number row
made_kept number row changed keeps = by_number number changed.state ∙ ap (is_number number) keeps.number ∙ sym (by_number number row.state)

numbers_step : (row changed : Row) (rows rest : List Row) (o : Option ℕ) → number_in row ≡ o → number_in changed ≡ o → filter_map number_in rest ≡ filter_map number_in rows → filter_map number_in (changed ∷ rest) ≡ filter_map number_in (row ∷ rows)
numbers_step row changed rows rest None is was same = rw (is, was) same
numbers_step row changed rows rest (Some n) is was same = rw (is, was) (ap (λ (l : List ℕ). n ∷ l) same)

numbers_kept : (f : Row → Row) → ((row : Row) → KeepsProducer row (f row)) → (rows : List Row) → filter_map number_in (map f rows) ≡ filter_map number_in rows
numbers_kept f keeps [] = refl
numbers_kept f keeps (row ∷ rows) = numbers_step row (f row) rows (map f rows) (number_in row) refl (keeps row).number (numbers_kept f keeps rows)

peers_step : (b : Bool) (row changed : Row) (rest more : List Row) → changed.peer ≡ row.peer → map peer_of more ≡ map peer_of rest → map peer_of (cond b (changed ∷ more) more) ≡ map peer_of (cond b (row ∷ rest) rest)
peers_step true row changed rest more peer same = rw (peer, same) refl
peers_step false row changed rest more peer same = same

peers_kept : (f : Row → Row) → ((row : Row) → KeepsProducer row (f row)) → (number : ℕ) (rows : List Row) → map peer_of (group number (map f rows)) ≡ map peer_of (group number rows)
peers_kept f keeps number [] = refl
peers_kept f keeps number (row ∷ rows) =
    ap (λ (b : Bool). map peer_of (cond b (f row ∷ group number (map f rows)) (group number (map f rows)))) (made_kept number row (f row) (keeps row))
    ∙ peers_step (is_produced_by number row) row (f row) (group number rows) (group number (map f rows)) (keeps row).peer (peers_kept f keeps number rows)

consumers_step : (f : Row → Row) → ((row : Row) → KeepsProducer row (f row)) → (rows : List Row) (known : List ℕ) → map (consumers_of (map f rows)) known ≡ map (consumers_of rows) known
consumers_step f keeps rows [] = refl
consumers_step f keeps rows (n ∷ known) =
    ap (λ (l : List Node). record { number = n; nodes = first_of_each same_node l } ∷ map (consumers_of (map f rows)) known) (peers_kept f keeps n rows)
    ∙ ap (λ (l : List ProducerConsumers). consumers_of rows n ∷ l) (consumers_step f keeps rows known)

pub consumers_kept : (f : Row → Row) → ((row : Row) → KeepsProducer row (f row)) → (rows : List Row) → consumers_by_producer (map f rows) ≡ consumers_by_producer rows
consumers_kept f keeps rows =
    ap (λ (l : List ℕ). map (consumers_of (map f rows)) (first_of_each same_number l)) (numbers_kept f keeps rows)
    ∙ consumers_step f keeps rows (numbers rows)
