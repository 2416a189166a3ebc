-- The record of an address.
use Rattle.std.specs.Prelude.{ℕ, ◌==◌, Bool, List, position, Option}
use Rattle.cip_types.specs.declared.names.Node.{Node}
use Rattle.segment_world.specs.Configs.{node_of_config}
use Rattle.trace_text.specs.declared.trace.Trace.{Trace}

-- the record is of this address
abbrev pub has_address : ℕ → Trace → Bool
has_address address t = (node_of_config t.config).0 == address

-- the record of an address
abbrev pub record_of : List Trace → Node → Option ℕ
record_of records node = position (has_address node.0) records
