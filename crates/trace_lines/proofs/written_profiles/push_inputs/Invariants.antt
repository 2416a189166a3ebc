use Rattle.std.proofs.Common.{◌≡◌, ◌++◌, string_bytes, flat_map, take, codes}
use Rattle.trace_lines.specs.WrittenProfiles.{point_words}
use Rattle.trace_words.specs.Words.{line_text}
use Rattle.trace_lines.proofs.written_profiles.push_inputs.Given as goal

abbrev pub invariant-loop-input : goal.invariant-loop-input
invariant-loop-input l = string_bytes l.out ≡ string_bytes l.fn.out ++ flat_map (λ point. line_text (point_words (codes "input") point)) (take l.input-index l.inputs)
