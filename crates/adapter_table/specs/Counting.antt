-- Requests to open and to close connections are counted by their replies: all else stays (Volume 1, chapter 3, Connection Manager
-- object).
use Rattle.std.specs.Prelude.{ℕ, List, Option, Some, None}
use Rattle.adapter_table.specs.declared.counters.DeviceCounters.{DeviceCounters}
use Rattle.adapter_table.specs.declared.counters.ManagerCounters.{ManagerCounters}
use Rattle.adapter_table.specs.declared.counters.Tally.{Tally}
use Rattle.adapter_table.specs.declared.table.AdapterTable.{AdapterTable}
use Rattle.adapter_table.specs.Counters.{counted}

-- the table with other counters: all else stays
abbrev pub with_counters : AdapterTable → DeviceCounters → AdapterTable
with_counters t counters = record t { counters = counters }

-- with other counters of its connections
abbrev pub with_manager : AdapterTable → ManagerCounters → AdapterTable
with_manager t manager = with_counters t (record t.counters { manager = manager })

-- a request is counted, if it is one to open or to close a connection
abbrev pub tallied : Option Tally → AdapterTable → AdapterTable
tallied None t = t
tallied (Some kind) t = with_manager t (counted kind t.counters.manager)

-- what the host has counted of the interface
abbrev pub counted_link : AdapterTable → List ℕ → AdapterTable
counted_link t bytes = with_counters t (record t.counters { link = bytes })
