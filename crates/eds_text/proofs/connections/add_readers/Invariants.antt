use Rattle.std.proofs.Common.{◌≡◌, ◌++◌, map, take}
use Rattle.eds_text.specs.Connections.{reader_of}
use Rattle.eds_text.proofs.connections.add_readers.Given as goal

abbrev pub invariant-loop-input : goal.invariant-loop-input
invariant-loop-input l = l.list.items ≡ l.fn.list.items ++ map (reader_of l.changes l.kind l.heartbeat) (take l.input-index l.input-items)
