use Rattle.flat_answers.proofs.Pieces.{two}
use Rattle.flat_answers.proofs.answer.put_two.Goals as goal

pub returns : goal.returns
returns c = two _ _ _ _ _ _ _ _ c.put_item-at.ensures c.put_item.ensures
