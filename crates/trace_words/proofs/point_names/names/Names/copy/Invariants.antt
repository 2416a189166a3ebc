use Rattle.std.proofs.Common.{◌≡◌, map, take}
use Rattle.trace_words.specs.PointNames.Things.{names_in, view_name}
use Rattle.trace_words.proofs.point_names.names.Names.copy.Given as goal

-- the names so far
abbrev pub invariant-loop-name : goal.invariant-loop-name
invariant-loop-name l = names_in l.names ≡ map view_name (take l.name-index l.self.names.items)
