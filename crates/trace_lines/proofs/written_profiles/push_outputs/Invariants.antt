use Rattle.std.proofs.Common.{◌≡◌, ◌++◌, string_bytes, flat_map, take}
use Rattle.trace_lines.specs.WrittenProfiles.{output_words}
use Rattle.trace_words.specs.Words.{line_text}
use Rattle.trace_lines.proofs.written_profiles.push_outputs.Given as goal

abbrev pub invariant-loop-output : goal.invariant-loop-output
invariant-loop-output l = string_bytes l.out ≡ string_bytes l.fn.out ++ flat_map (λ point. line_text (output_words point)) (take l.output-index l.outputs)
