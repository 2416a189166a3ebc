use Rattle.std.proofs.Common.{◌≡◌, ◌++◌, take}
use Rattle.eds_text.specs.Connections.{owners_of}
use Rattle.eds_text.proofs.connections.add_owners.Given as goal

abbrev pub invariant-loop-input : goal.invariant-loop-input
invariant-loop-input l = l.list.items ≡ l.fn.list.items ++ owners_of l.changes (take l.input-index l.inputs) l.output
