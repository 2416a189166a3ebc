use Rattle.std.proofs.Common.{◌≡◌, ◌++◌, map, take, string_bytes}
use Rattle.station_lines.specs.Attributes.Values.{shown_byte}
use Rattle.station_lines.proofs.attributes.texts.push_shown_all.Given as goal

abbrev pub invariant-loop-byte : goal.invariant-loop-byte
invariant-loop-byte l = string_bytes l.out ≡ string_bytes l.fn.out ++ map shown_byte (take l.byte-index l.text)
