use Rattle.std.proofs.Common.{◌≡◌, ◌++◌, string_bytes, flat_map, take, codes}
use Rattle.eds_text.specs.Points.{point_text}
use Rattle.eds_text.proofs.points.push_outputs.Given as goal

abbrev pub invariant-loop-output : goal.invariant-loop-output
invariant-loop-output l = string_bytes l.out ≡ string_bytes l.fn.out ++ flat_map (λ point. point_text (codes "Output") point.instance point.len) (take l.output-index l.output-items)
