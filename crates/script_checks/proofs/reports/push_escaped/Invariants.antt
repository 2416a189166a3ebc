use Rattle.std.proofs.Common.{◌≡◌, ◌++◌, flat_map, take}
use Rattle.script_checks.specs.Reports.{entity_of}
use Rattle.script_checks.proofs.reports.push_escaped.Given as goal

-- the bytes so far, with their entities
abbrev pub invariant-loop-byte : goal.invariant-loop-byte
invariant-loop-byte l = l.out.items ≡ l.fn.out.items ++ flat_map entity_of (take l.byte-index l.text)
