use Rattle.std.proofs.Common.{◌≡◌, ◌++◌, map, take}
use Rattle.identity_search.specs.Lines.{shown_byte}
use Rattle.identity_search.proofs.line.put_name.Given as goal

abbrev pub invariant-loop-byte : goal.invariant-loop-byte
invariant-loop-byte l = l.out.items ≡ l.fn.out.items ++ map shown_byte (take l.byte-index l.name)
