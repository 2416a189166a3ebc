-- Order at the outputs of adapters, over every schedule: what is applied through one connection are productions of the slot
-- opening that requested it, in the order in which they were made, and the output holds the newest of them (Volume 1, chapter
-- 3, class 1 transport, run/idle; Volume 2, chapter 2, sequenced address item).
use Rattle.std.specs.Prelude.{ℕ, ◌≡◌, true, List, find, Some}
use Rattle.std.specs.List.{Contains}
use Rattle.cip_events.specs.declared.event.Delivery.TheVariants.{Applied}
use Rattle.cip_productions.specs.Kinds.{is_owner}
use Rattle.adapter_table.specs.Connections.{Row}
use Rattle.adapter_table.specs.declared.table.AdapterTable.{AdapterTable}
use Rattle.adapter_table.specs.Points.{bytes_at}
use Rattle.adapter_table.specs.Rows.{is_established}
use Rattle.cip_tables.specs.declared.table.Config.{Config}
use Rattle.segment_world.specs.declared.act.Act.{Act}
use Rattle.device_laws.specs.Productions.{end_at}
use Rattle.schedule_laws.specs.Chronicle.{Acceptance, Chronicle, Opened, newest, opens_row}
use Rattle.schedule_laws.specs.Order.{IsAdapterAt, IsChronicle, KeepsHalfCircle, Rise}

-- The slot opening whose Forward_Open opened the connection made the production; where it was applied, the slot was in run
-- mode.
pub record IsOfItsOpening (c : Chronicle) (a : Acceptance) : Type 0 where
  pub opened : Opened
  pub found : find (opens_row a.consumer) c.opened ≡ Some opened
  pub producer : a.production.producer ≡ opened.slot
  pub run : a.delivery ≡ Applied → a.production.made.run ≡ true

-- so it is of all that adapters accepted
abbrev pub AdaptersAccept : Chronicle → Type 0
AdaptersAccept c = (a : Acceptance) (t : AdapterTable) → Contains c.accepted a → IsAdapterAt c a.consumer.device t → IsOfItsOpening c a

-- The output of an established owner whose newest accepted production was made in run mode holds the value that the slot's
-- output had at that production.
abbrev pub OutputsHold : Chronicle → Type 0
OutputsHold c =
    (device : ℕ) (t : AdapterTable) (row : Row) (a : Acceptance) → IsAdapterAt c device t → Contains t.rows row →
    is_established row ≡ true → is_owner row.kind ≡ true → newest (end_at device row.opening) c.accepted ≡ Some a →
    a.production.made.run ≡ true → bytes_at t.values row.consumed ≡ Some a.production.made.value

-- What an adapter accepts through one connection are productions of the one slot opening whose Forward_Open opened it, with
-- strictly rising production indexes. Each that it applies was made in run mode. After each accepted production in run mode,
-- duplicates included, the output holds what the slot's output held at that production.
pub record OutputsAreInOrder (c : Chronicle) : Type 0 where
  pub one_opening : AdaptersAccept c
  pub rising : Rise c.accepted
  pub hold : OutputsHold c

-- so it is at every moment of every schedule that keeps the half-circle condition
abbrev pub AppliedInOrder : Type 0
AppliedInOrder = (configs : List Config) (acts : List Act) (c : Chronicle) → IsChronicle configs acts c → KeepsHalfCircle configs acts → OutputsAreInOrder c
