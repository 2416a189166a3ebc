-- Bounds: times before which no watchdog runs out, and no producer is due.
use Rattle.std.specs.Prelude.{ℕ, ◌≤◌, ◌-◌, ◌^◌, min, List, [], ◌∷◌, Option, Some, None}
use Rattle.adapter_table.specs.Connections.{Row}
use Rattle.adapter_table.specs.declared.row.State.{State}
use Rattle.adapter_table.specs.declared.row.State.TheVariants.{Established, TimedOut}
use Rattle.adapter_table.specs.Rows.{Each}
use Rattle.conn_slab.specs.declared.peers.Peer.{Peer}

-- the end of time, which no clock reaches
abbrev pub never : ℕ
never = 2 ^ 64 - 1

-- when the watchdog of a connection runs out
abbrev pub end_of : ℕ → State → ℕ
end_of deadline (Established production) = deadline
end_of deadline TimedOut = never

-- when the first of the watchdogs runs out
abbrev pub next_watchdog : List Row → ℕ
next_watchdog [] = never
next_watchdog (row ∷ rows) = min (end_of row.deadline.0 row.state) (next_watchdog rows)

-- the same of the peers of connections. No public clause cites these definitions.
abbrev pub end_by : ℕ → Option ℕ → ℕ
end_by deadline (Some number) = deadline
end_by deadline None = never

abbrev pub end_of_peer : Peer → ℕ
end_of_peer peer = end_by peer.deadline.0 peer.producer

abbrev pub next_end : List Peer → ℕ
next_end [] = never
next_end (peer ∷ peers) = min (end_of_peer peer) (next_end peers)

abbrev pub StateNotDueBefore : ℕ → State → Type 0
StateNotDueBefore bound (Established production) = bound ≤ production.due.0
StateNotDueBefore bound TimedOut = Unit {0}

-- the producer of a connection is not due before this
abbrev pub NotDueBefore : ℕ → Row → Type 0
NotDueBefore bound row = StateNotDueBefore bound row.state

-- no producer is
abbrev pub AllNotDueBefore : ℕ → List Row → Type 0
AllNotDueBefore bound rows = Each (NotDueBefore bound) rows
