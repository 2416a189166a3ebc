use Rattle.std.proofs.Common.{◌≡◌, ◌++◌, flat_map, take}
use Rattle.eds_text.specs.Connections.{owners_of}
use Rattle.eds_text.proofs.connections.add_all_owners.Given as goal

abbrev pub invariant-loop-output : goal.invariant-loop-output
invariant-loop-output l = l.list.items ≡ l.fn.list.items ++ flat_map (owners_of l.changes l.inputs) (take l.output-index l.output-items)
