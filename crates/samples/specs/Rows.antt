-- Tables that no short run reaches.
use Rattle.std.specs.Prelude.{ℕ, zero, suc, ◌+◌, true, false, List, [], ◌∷◌, None}
use Rattle.cip_netparams.specs.declared.Trigger.TheVariants.{Cyclic}
use Rattle.cip_productions.specs.declared.kind.Kind.TheVariants.{InputOnly}
use Rattle.cip_productions.specs.declared.production.Production.{Production}
use Rattle.adapter_table.specs.Connections.{Row}
use Rattle.adapter_table.specs.declared.row.State.{State}
use Rattle.adapter_table.specs.declared.row.State.TheVariants.{Established, TimedOut}
use Rattle.cip_tables.specs.declared.table.DeviceTable.{DeviceTable}
use Rattle.cip_tables.specs.declared.table.DeviceTable.TheVariants.{Adapter}
use Rattle.adapter_table.specs.Step.{adapter_table}
use Rattle.samples.specs.Devices.{common, peer, own}
use Rattle.samples.specs.Runs.{id}

-- so many numbers from one on
abbrev pub from : ℕ → ℕ → List ℕ
from first zero = []
from first (suc more) = first ∷ from (first + 1) more

-- the clock of these tables
abbrev pub at_clock : ℕ → DeviceTable
at_clock ms = Adapter (record (adapter_table common) { clock = record { 0 = ms } })

-- this is the counter of the next connection id
abbrev pub at_counter : ℕ → DeviceTable
at_counter counter = Adapter (record (adapter_table common) { next_id = counter })

-- an input-only connection of the first originator, point to point, every 10 ms, by its opening number
abbrev pub connection_in : ℕ → State → Row
connection_in opening state = record {
  triad = own opening;
  peer = peer;
  kind = InputOnly;
  consumed = 152;
  produced = 100;
  o_t_id = record { 0 = id opening };
  t_o_id = record { 0 = 0x20000002 };
  o_t_api_ms = 10;
  t_o_api_ms = 10;
  o_t_pace_ms = 10;
  watchdog = record { 0 = 160 };
  multicast = false;
  opening = opening;
  last = None;
  mode = None;
  deadline = record { 0 = 100000 };
  state = state;
}

-- its producer, as it begins
abbrev pub production : ℕ → Production
production opening = record {
  producer = opening;
  sequence = 1;
  count = 0;
  written = true;
  due = record { 0 = 0 };
  address = peer;
  trigger = Cyclic;
  inhibit = 0;
  last = None;
}

-- an established connection
abbrev pub alive : ℕ → Row
alive opening = connection_in opening (Established (production opening))

-- a timed-out one
abbrev pub lost : ℕ → Row
lost opening = connection_in opening TimedOut

-- a device with these connections, at a clock; the next one is the 65th
abbrev pub connected_at : ℕ → List Row → DeviceTable
connected_at ms rows = Adapter (record (adapter_table common) { rows = rows; clock = record { 0 = ms }; next_id = 65 })

-- the same at clock 3
abbrev pub connected : List Row → DeviceTable
connected rows = connected_at 3 rows

-- a device with one connection that has this producer
abbrev pub producing : Production → DeviceTable
producing p = connected (connection_in 1 (Established p) ∷ [])
