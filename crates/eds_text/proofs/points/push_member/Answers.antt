use Rattle.std.proofs.Common.{refl}
use Rattle.eds_text.specs.Points.{member_text}
use Rattle.eds_text.proofs.points.push_member.Goals as goal

pub returns : goal.returns
unfolding member_text
returns c = rw (c.in_ok-write.ensures.bytes, c.word_parameter-number.ensures) refl
