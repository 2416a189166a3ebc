use Rattle.std.proofs.Common.{◌≡◌, ◌++◌, string_bytes, flat_map, take, codes}
use Rattle.page_feed.specs.Points.{input_text}
use Rattle.page_feed.proofs.points.push_more_inputs.Given as goal

-- those so far
abbrev pub invariant-loop-input : goal.invariant-loop-input
invariant-loop-input g l = string_bytes l.out ≡ string_bytes l.fn.out ++ flat_map (λ other. codes "," ++ input_text (g.D.Device.table l.device) other) (take l.input-index l.inputs)
