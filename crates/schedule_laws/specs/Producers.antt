-- A connection id names one producer for good: two productions with one id are of one producer, and a connection that was opened
-- later accepts nothing that was produced before, but what its group sent that lived on (Volume 1, chapter 3, network connection
-- ids; Volume 2, chapter 3, multicast connections).
use Rattle.std.specs.Prelude.{◌≡◌, List, find, Some, Ok}
use Rattle.std.specs.List.{Contains}
use Rattle.adapter_table.specs.Connections.{Row}
use Rattle.adapter_table.specs.declared.table.AdapterTable.{AdapterTable}
use Rattle.adapter_table.specs.Productions.{is_produced_by}
use Rattle.cip_tables.specs.declared.table.Config.{Config}
use Rattle.segment_world.specs.declared.act.Act.{Act}
use Rattle.device_laws.specs.Productions.{End, Production}
use Rattle.schedule_laws.specs.Chronicle.{Opened, Acceptance, Chronicle, chronicles}
use Rattle.schedule_laws.specs.Lives.{AreApart}
use Rattle.schedule_laws.specs.Order.{IsChronicle, IsAdapterAt}

-- ONE PRODUCER

-- Two productions with one connection id have one producer.
abbrev pub OneProducerHasTheId : Chronicle → Type 0
OneProducerHasTheId c =
    (p q : Production) → Contains c.produced p → Contains c.produced q →
    p.made.datagram.connection ≡ q.made.datagram.connection → p.producer ≡ q.producer

-- Two connections with one T->O id have one producer.
abbrev pub OneProducerSends : Chronicle → Type 0
OneProducerSends c = (e f : Opened) → Contains c.opened e → Contains c.opened f → e.t_o_id.0 ≡ f.t_o_id.0 → e.producer ≡ f.producer

pub record IdsNameOneProducer (c : Chronicle) : Type 0 where
  pub productions : OneProducerHasTheId c
  pub connections : OneProducerSends c

-- So it is at every moment of every schedule.
abbrev pub SchedulesNameOneProducer : Type 0
SchedulesNameOneProducer = (configs : List Config) (acts : List Act) (c : Chronicle) → IsChronicle configs acts c → IdsNameOneProducer c

-- LATER CONNECTIONS

-- two moments of one schedule; no two devices have blocks with one id at the later one
pub record AreMoments (configs : List Config) (was now : Chronicle) : Type 0 where
  pub early : List Act
  pub late : List Act
  pub first : IsChronicle configs early was
  pub rest : chronicles (Ok was) late ≡ Ok now
  pub apart : AreApart now.story.world.tables

-- the adapter took the connection's Forward_Open after the earlier moment
pub record WasOpenedLater (was now : Chronicle) (e : Opened) : Type 0 where
  pub there : Contains now.opened e
  pub later : Contains was.opened e → ⊥

-- an adapter's connection is open that has the producer: a group lives as long as one of its connections is open
pub record HasConnection (c : Chronicle) (producer : End) : Type 0 where
  pub table : AdapterTable
  pub is : IsAdapterAt c producer.device table
  pub row : Row
  pub there : find (is_produced_by producer.number) table.rows ≡ Some row

-- A connection that was opened after a moment accepts at its adapter nothing that was produced by then.
abbrev pub RowsAcceptNothingOlder : Chronicle → Chronicle → Type 0
RowsAcceptNothingOlder was now =
    (e : Opened) (a : Acceptance) → WasOpenedLater was now e → Contains now.accepted a →
    a.consumer ≡ e.row → Contains was.produced a.production → ⊥

-- Its slot, whenever it asked, accepts of what was produced by then at most what a producer sent that still had a connection.
abbrev pub SlotsAcceptOfTheLiving : Chronicle → Chronicle → Type 0
SlotsAcceptOfTheLiving was now =
    (e : Opened) (a : Acceptance) → WasOpenedLater was now e → Contains now.accepted a →
    a.consumer ≡ e.slot → a.production.made.datagram.connection ≡ e.t_o_id.0 → Contains was.produced a.production →
    HasConnection was a.production.producer

pub record LaterAcceptNothingOlder (was now : Chronicle) : Type 0 where
  pub rows : RowsAcceptNothingOlder was now
  pub slots : SlotsAcceptOfTheLiving was now

-- So it is of two moments of every schedule.
abbrev pub LaterConnectionsAcceptNothingOlder : Type 0
LaterConnectionsAcceptNothingOlder = (configs : List Config) (was now : Chronicle) → AreMoments configs was now → LaterAcceptNothingOlder was now
