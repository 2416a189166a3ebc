use Rattle.std.proofs.Common.{List, ℕ, ◌++◌, subst}
use Rattle.flat_answers.specs.Flat.{item}
use Rattle.flat_answers.specs.Places.{Puts}
use Rattle.flat_answers.proofs.Pieces.{two}
use Rattle.flat_answers.proofs.answer.put_reply.Goals as goal

pub returns : goal.returns
returns c =
    subst (λ (text : List ℕ). Puts text c.args.at c.args.out.now c.put_item.result c.put_item.new.out)
    (λ i. item (record (c.one_number.ensures i) { b = c.args.status }) c.args.content.now ++ item (c.one_number-2.ensures i) c.args.additional.now)
    (two _ _ _ _ _ _ _ _ c.put_item-at.ensures c.put_item.ensures)
