-- Running counts as connections are removed.
use Rattle.std.specs.Prelude.{◌≡◌, List, [], ◌∷◌, ◌++◌, map, find, Option, Some, None}
use Rattle.cip_types.specs.declared.names.Triad.{Triad}
use Rattle.adapter_table.specs.Connections.{Row}
use Rattle.adapter_table.specs.Rows.{has_triad}
use Rattle.conn_slab.specs.Connections.{timed_out_if}
use Rattle.app_rules.specs.Counts.{Counts, AreCounted, HasJoined}

-- the connection of the triad, if one is named
abbrev pub named : Option Triad → List Row → Option Row
named None rows = None
named (Some triad) rows = find (has_triad triad) rows

-- the connection, if there is one, is counted
abbrev pub HaveJoined : Option Row → Counts → Type 0
HaveJoined None counts = Unit {0}
HaveJoined (Some row) counts = HasJoined row counts

-- the counts without a connection, if there is one
abbrev pub AreLess : Option Row → Counts → Counts → Type 0
AreLess None old new = new ≡ old
AreLess (Some row) old new = (front back : List Row) → AreCounted old (front ++ row ∷ back) → AreCounted new (front ++ back)

-- the connections of these triads have timed out, one after another
abbrev pub timed_out_each : List Row → List Row → List Row
timed_out_each [] rows = rows
timed_out_each (end ∷ ends) rows = timed_out_each ends (map (timed_out_if end.triad) rows)
