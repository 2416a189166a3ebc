use Rattle.std.proofs.Common.{◌≡◌, ◌++◌, string_bytes, flat_map, take}
use Rattle.trace_lines.specs.Limits.{limit_text, stated_line}
use Rattle.trace_lines.proofs.limit_lines.push_rows.Given as goal

abbrev pub invariant-loop-row : goal.invariant-loop-row
invariant-loop-row l = string_bytes l.out ≡ string_bytes l.fn.out ++ flat_map (λ row. limit_text (stated_line l.limits row)) (take l.row-index l.rows)
