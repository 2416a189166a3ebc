use Rattle.std.proofs.Common.{◌≡◌, ◌++◌, ◌-◌, string_bytes}
use Rattle.eds_text.specs.Points.{members_text}
use Rattle.eds_text.proofs.points.push_members.Given as goal

abbrev pub invariant-loop-place : goal.invariant-loop-place
invariant-loop-place l = string_bytes l.out ++ members_text l.place (l.fn.count - l.place) ≡ string_bytes l.fn.out ++ members_text 0 l.fn.count
