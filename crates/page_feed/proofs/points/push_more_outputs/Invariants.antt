use Rattle.std.proofs.Common.{◌≡◌, ◌++◌, string_bytes, flat_map, take, codes}
use Rattle.page_feed.specs.Points.{output_text}
use Rattle.page_feed.proofs.points.push_more_outputs.Given as goal

-- those so far
abbrev pub invariant-loop-output : goal.invariant-loop-output
invariant-loop-output g l = string_bytes l.out ≡ string_bytes l.fn.out ++ flat_map (λ other. codes "," ++ output_text (g.D.Device.table l.device) other) (take l.output-index l.outputs)
