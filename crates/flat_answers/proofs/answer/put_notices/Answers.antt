use Rattle.std.proofs.Common.{arith, refl}
use Rattle.flat_answers.specs.Flat.{notice_item}
use Rattle.flat_answers.proofs.Pieces.{fits, more}
use Rattle.flat_answers.proofs.answer.put_notices.Goals as goal

pub put_notice-end-requires : goal.put_notice-end-requires
put_notice-end-requires c = fits notice_item c.args.notices.now c.loop-notice.notice-index _ _ c.args.at c.loop-notice.end c.args.out.now c.loop-notice.out (omega arith) refl c.requires c.loop-notice.invariant

pub loop-notice-preserved : goal.loop-notice-preserved
loop-notice-preserved c = more notice_item c.args.notices.now c.loop-notice.notice-index _ _ c.args.at c.loop-notice.end _ c.args.out.now c.loop-notice.out _ (omega arith) refl c.loop-notice.invariant c.put_notice-end.ensures
