use Rattle.std.proofs.Common.{◌≡◌, ◌++◌, ◌+◌, string_bytes, drop}
use Rattle.eds_text.specs.Manager.{connections_text}
use Rattle.eds_text.proofs.manager.push_connections.Given as goal

-- the connections that are left add what all connections add to the first text
abbrev pub invariant-loop-index : goal.invariant-loop-index
invariant-loop-index l =
    string_bytes l.out ++ connections_text l.config (l.index + 1) (drop l.index l.connections)
    ≡ string_bytes l.fn.out ++ connections_text l.config 1 l.connections
