use Rattle.std.proofs.Common.{◌≡◌, ◌++◌, string_bytes, flat_map, take, codes}
use Rattle.eds_text.specs.Points.{point_text}
use Rattle.eds_text.proofs.points.push_inputs.Given as goal

abbrev pub invariant-loop-input : goal.invariant-loop-input
invariant-loop-input l = string_bytes l.out ≡ string_bytes l.fn.out ++ flat_map (λ point. point_text (codes "Input") point.instance point.len) (take l.input-index l.input-items)
