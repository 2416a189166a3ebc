use Rattle.std.proofs.Common.{flat_map, take}
use Rattle.flat_answers.specs.Flat.{notice_item}
use Rattle.flat_answers.specs.Places.{Puts}
use Rattle.flat_answers.proofs.answer.put_notices.Given as goal

abbrev pub invariant-loop-notice : goal.invariant-loop-notice
invariant-loop-notice l = Puts (flat_map notice_item (take l.notice-index l.notices)) l.fn.at l.fn.out l.end l.out
