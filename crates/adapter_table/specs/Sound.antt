-- What holds of every table that a run reaches.
use Rattle.std.specs.Prelude.{ℕ, ◌≡◌, ◌≤◌, ◌<◌, ◌+◌, ◌==◌, Bool, true, false, List, [], ◌∷◌, length}
use Rattle.std.specs.List.{list_any}
use Rattle.cip_types.specs.declared.names.ConnId.{ConnId}
use Rattle.adapter_table.specs.Connections.{Row}
use Rattle.adapter_table.specs.declared.table.Stream.{Stream}
use Rattle.adapter_table.specs.declared.table.AdapterTable.{AdapterTable}
use Rattle.adapter_table.specs.Rows.{most_rows, has_triad, drivers, is_established, is_unsupported, is_member, Each, EachTwo}
use Rattle.cip_types.specs.declared.ids.IdBlock.{IdBlock}
use Rattle.cip_types.specs.Ids.{are_blocks, end_number, id_at}
use Rattle.adapter_table.specs.Productions.{producer_of}
use Rattle.adapter_table.specs.Streams.{most_streams, is_stream}

-- no two connections have one triad
abbrev pub TriadsDiffer : List Row → Type 0
TriadsDiffer [] = Unit {0}
TriadsDiffer (row ∷ rows) = (list_any (has_triad row.triad) rows ≡ false) × TriadsDiffer rows

abbrev pub has_o_t_id : ConnId → Row → Bool
has_o_t_id id row = row.o_t_id.0 == id.0

-- no two connections have one O->T id
abbrev pub IdsDiffer : List Row → Type 0
IdsDiffer [] = Unit {0}
IdsDiffer (row ∷ rows) = (list_any (has_o_t_id row.o_t_id) rows ≡ false) × IdsDiffer rows

-- The O->T id of the connection is the device's: its number, which is the opening number, is 1 or above, and below the next one.
pub record IsDrawn (ids : List IdBlock) (next_id : ℕ) (row : Row) : Type 0 where
  pub id : row.o_t_id ≡ id_at ids row.opening
  pub begins : 1 ≤ row.opening
  pub below : row.opening < next_id

-- each O->T id is the device's
abbrev pub IdsAreDrawn : List IdBlock → ℕ → List Row → Type 0
IdsAreDrawn ids next_id rows = Each (IsDrawn ids next_id) rows

-- an output has at most one established exclusive owner
abbrev pub HasOneOwner : List Row → Type 0
HasOneOwner rows = (point : ℕ) → length (drivers point rows) ≤ 1

-- no established listen-only connection is without support
abbrev pub ListenersAreSupported : List Row → Type 0
ListenersAreSupported rows = list_any (is_unsupported rows) rows ≡ false

-- two established multicast connections of one input have one T->O id, one packet interval, and equal
-- productions, the producer's number among them
pub record SharesProducer (a b : Row) : Type 0 where
  pub id : a.t_o_id ≡ b.t_o_id
  pub api : a.t_o_api_ms ≡ b.t_o_api_ms
  pub state : a.state ≡ b.state

-- if both are established multicast connections of the first one's input
abbrev pub Agree : Row → Row → Type 0
Agree a b = is_member a.produced a ≡ true → is_member a.produced b ≡ true → SharesProducer a b

abbrev pub AllAgree : Row → List Row → Type 0
AllAgree row [] = Unit {0}
AllAgree row (other ∷ rows) = Agree row other × AllAgree row rows

abbrev pub GroupsAgree : List Row → Type 0
GroupsAgree [] = Unit {0}
GroupsAgree (row ∷ rows) = AllAgree row rows × GroupsAgree rows

-- ---- openings and producers

-- the first of two connections was opened before the second
abbrev pub OpensBefore : Row → Row → Type 0
OpensBefore row later = row.opening < later.opening

-- openings strictly rise along the rows
abbrev pub OpeningsRise : List Row → Type 0
OpeningsRise rows = EachTwo OpensBefore rows

-- an established connection's producer has the number of its own opening or of an earlier one, below the next one
abbrev pub ProducerIsDrawn : ℕ → Row → Type 0
ProducerIsDrawn next_id row =
    is_established row ≡ true → (producer_of row.state ≤ row.opening) × (producer_of row.state < next_id)

abbrev pub ProducersAreDrawn : ℕ → List Row → Type 0
ProducersAreDrawn next_id rows = Each (ProducerIsDrawn next_id) rows

-- an established point to point connection's producer has the number of its own opening
abbrev pub SingleHasItsOwn : Row → Type 0
SingleHasItsOwn row = is_established row ≡ true → row.multicast ≡ false → producer_of row.state ≡ row.opening

abbrev pub SinglesHaveTheirOwn : List Row → Type 0
SinglesHaveTheirOwn rows = Each SingleHasItsOwn rows

-- the number of an established multicast connection's T->O id is its producer's number plus one, below the next one
abbrev pub MulticastIdIsDrawn : List IdBlock → ℕ → Row → Type 0
MulticastIdIsDrawn ids next_id row =
    is_established row ≡ true → row.multicast ≡ true →
    (row.t_o_id ≡ id_at ids (producer_of row.state + 1)) × (producer_of row.state + 1 < next_id)

abbrev pub MulticastIdsAreDrawn : List IdBlock → ℕ → List Row → Type 0
MulticastIdsAreDrawn ids next_id rows = Each (MulticastIdIsDrawn ids next_id) rows

-- two multicast connections of one input that share its producer
pub record AreOfOneGroup (a b : Row) : Type 0 where
  pub first : a.multicast ≡ true
  pub second : b.multicast ≡ true
  pub input : a.produced ≡ b.produced
  pub shared : SharesProducer a b

-- two established connections have one producer only where they are multicast ones of one input, and then one
-- T->O id, one packet interval and equal productions
abbrev pub ShareInGroup : Row → Row → Type 0
ShareInGroup a b = is_established a ≡ true → is_established b ≡ true → producer_of a.state ≡ producer_of b.state → AreOfOneGroup a b

abbrev pub GroupsAloneShare : List Row → Type 0
GroupsAloneShare rows = EachTwo ShareInGroup rows

-- the laws of openings, of producers and of their numbers
pub record ProducersAreSound (ids : List IdBlock) (next_id : ℕ) (rows : List Row) : Type 0 where
  pub openings_rise : OpeningsRise rows
  pub are_drawn : ProducersAreDrawn next_id rows
  pub single : SinglesHaveTheirOwn rows
  pub multicast : MulticastIdsAreDrawn ids next_id rows
  pub shared : GroupsAloneShare rows

-- ---- streams, and all of it

-- no two open streams have one number
abbrev pub StreamsDiffer : List Stream → Type 0
StreamsDiffer [] = Unit {0}
StreamsDiffer (stream ∷ streams) = (list_any (is_stream stream.number) streams ≡ false) × StreamsDiffer streams

pub record IsSound (t : AdapterTable) : Type 0 where
  pub few : length t.rows ≤ most_rows
  pub one_owner : HasOneOwner t.rows
  pub triads_differ : TriadsDiffer t.rows
  pub ids_differ : IdsDiffer t.rows
  pub blocks : are_blocks t.ids ≡ true
  pub ids_begin : 1 ≤ t.next_id
  pub ids_are_drawn : IdsAreDrawn t.ids t.next_id t.rows
  pub listeners_are_supported : ListenersAreSupported t.rows
  pub groups_agree : GroupsAgree t.rows
  pub producers : ProducersAreSound t.ids t.next_id t.rows
  pub ids_are_left : t.next_id ≤ end_number t.ids
  pub few_streams : length t.streams ≤ most_streams
  pub streams_differ : StreamsDiffer t.streams
