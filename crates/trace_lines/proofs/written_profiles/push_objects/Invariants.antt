use Rattle.std.proofs.Common.{◌≡◌, ◌++◌, string_bytes, take}
use Rattle.trace_lines.specs.WrittenProfiles.{objects_text}
use Rattle.trace_lines.proofs.written_profiles.push_objects.Given as goal

abbrev pub invariant-loop-class : goal.invariant-loop-class
invariant-loop-class l = string_bytes l.out ≡ string_bytes l.fn.out ++ objects_text (take l.class-index l.classes)
