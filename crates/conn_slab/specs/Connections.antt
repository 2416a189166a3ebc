-- Changes of the connections of an adapter, as a list in opening order.
use Rattle.std.specs.Prelude.{ℕ, ◌≤◌, ◌==◌, ◌&&◌, if◌then◌else◌, Bool, false, List, length, Option, Some, None}
use Rattle.cip_types.specs.declared.names.Triad.{Triad}
use Rattle.cip_types.specs.declared.names.Ms.{Ms}
use Rattle.cip_types.specs.declared.names.Node.{Node}
use Rattle.cip_productions.specs.Kinds.{is_listener}
use Rattle.cip_productions.specs.Productions.{is_on_change}
use Rattle.adapter_table.specs.Connections.{Row}
use Rattle.adapter_table.specs.declared.row.State.{State}
use Rattle.adapter_table.specs.declared.row.State.TheVariants.{Established, TimedOut}
use Rattle.adapter_table.specs.Rows.{most_rows, is_established, holds_triad}
use Rattle.adapter_table.specs.Closing.{without_triad}
use Rattle.adapter_table.specs.Datagrams.{is_for}
use Rattle.adapter_table.specs.Sound.{TriadsDiffer, IdsDiffer, GroupsAgree, GroupsAloneShare}
use Rattle.adapter_table.specs.Whole.{RowsFit}

-- the connections without that of the triad, if one is named
abbrev pub without : Option Triad → List Row → List Row
without None rows = rows
without (Some triad) rows = without_triad triad rows

-- the connections of an adapter can be these: few, of different triads and O->T ids, within their limits, and those
-- that share a producer alike
pub record AreConnections (rows : List Row) : Type 0 where
  pub few : length rows ≤ most_rows
  pub triads : TriadsDiffer rows
  pub ids : IdsDiffer rows
  pub fit : RowsFit rows
  pub agree : GroupsAgree rows
  pub share : GroupsAloneShare rows

-- a connection whose watchdog has run out
abbrev pub timed_out : Row → Row
timed_out row = record row { state = TimedOut }

-- the established connection of the triad times out
abbrev pub timed_out_if : Triad → Row → Row
timed_out_if triad row = if holds_triad triad row then timed_out row else row

-- a connection that has accepted a datagram of this number and count, and waits until the deadline
abbrev pub accepting : ℕ → ℕ → Ms → Row → Row
accepting number count deadline row = record row { last = Some (record { number = number; count = count }); deadline = deadline }

-- the same, if it is an established one of the peer, with this O->T id
abbrev pub accepting_if : Node → ℕ → ℕ → ℕ → Ms → Row → Row
accepting_if peer id number count deadline row = if is_for peer id row then accepting number count deadline row else row

abbrev pub is_opened_at : ℕ → Row → Bool
is_opened_at opening row = row.opening == opening

-- an established connection whose producer produces at changes of state
abbrev pub state_changes : State → Bool
state_changes (Established production) = is_on_change production.trigger
state_changes TimedOut = false

abbrev pub is_changing : Row → Bool
is_changing row = state_changes row.state

-- an established listen-only connection
abbrev pub is_listening : Row → Bool
is_listening row = is_established row && is_listener row.kind
