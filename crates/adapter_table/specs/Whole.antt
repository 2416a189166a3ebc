-- The invariant of every table that events lead to from a faultless profile: the laws of `Sound` and `MessagesSound`, points
-- with their bytes, owners that consume outputs, and numbers within their limits.
use Rattle.std.specs.Prelude.{◌≡◌, ◌≤◌, ◌+◌, ◌^◌, true, List, find, is_some}
use Rattle.adapter_table.specs.declared.profile.Profile.{Profile}
use Rattle.adapter_table.specs.Connections.{Row}
use Rattle.adapter_table.specs.declared.table.AdapterTable.{AdapterTable}
use Rattle.adapter_table.specs.Profiles.{is_output_at}
use Rattle.adapter_table.specs.Rows.{Each}
use Rattle.adapter_table.specs.Productions.{due_of}
use Rattle.cip_productions.specs.Kinds.{is_owner}
use Rattle.adapter_table.specs.Shapes.{IsShaped}
use Rattle.adapter_table.specs.Sound.{IsSound}
use Rattle.adapter_table.specs.MessagesSound.{AreMessagesSound}

-- a connection within the limits of an adapter: packet intervals and time-out in milliseconds, when its producer is
-- due
pub record FitsRow (row : Row) : Type 0 where
  pub watchdog : row.watchdog.0 ≤ 5120000
  pub o_t_api_ms : row.o_t_api_ms ≤ 10000
  pub t_o_api_ms : row.t_o_api_ms ≤ 10000
  pub due : due_of row.state ≤ 2 ^ 48 + 10000

abbrev pub RowsFit : List Row → Type 0
RowsFit rows = Each FitsRow rows

-- the connection consumes an output, if it is an exclusive owner
abbrev pub ConsumesOutput : Profile → Row → Type 0
ConsumesOutput profile row = is_owner row.kind ≡ true → is_some (find (is_output_at row.consumed) profile.outputs) ≡ true

-- each exclusive owner does
abbrev pub OwnersConsume : Profile → List Row → Type 0
OwnersConsume profile rows = Each (ConsumesOutput profile) rows

pub record IsWhole (t : AdapterTable) : Type 0 where
  pub sound : IsSound t
  pub messages : AreMessagesSound t
  pub shaped : IsShaped t.profile t.values
  pub consume : OwnersConsume t.profile t.rows
  pub fits : RowsFit t.rows
  pub clock : t.clock.0 ≤ 2 ^ 48
