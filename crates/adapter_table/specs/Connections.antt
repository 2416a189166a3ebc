-- A connection of an adapter, as the rows of its table have it.
use Rattle.adapter_table.specs.declared.row.Connection.{Connection}
use Rattle.adapter_table.specs.declared.row.State.{State}

-- a connection with its production, if it is established
abbrev pub Row : Type 0
Row = Connection State

-- the same connection, with another knowledge of its production
abbrev pub with_state : {P Q : Type 0} → Q → Connection P → Connection Q
with_state state c = record {
  triad = c.triad;
  peer = c.peer;
  kind = c.kind;
  consumed = c.consumed;
  produced = c.produced;
  o_t_id = c.o_t_id;
  t_o_id = c.t_o_id;
  o_t_api_ms = c.o_t_api_ms;
  t_o_api_ms = c.t_o_api_ms;
  o_t_pace_ms = c.o_t_pace_ms;
  watchdog = c.watchdog;
  multicast = c.multicast;
  opening = c.opening;
  last = c.last;
  mode = c.mode;
  deadline = c.deadline;
  state = state;
}
