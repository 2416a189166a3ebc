use Rattle.std.proofs.Common.{List, ℕ, ◌++◌, flat_map, subst}
use Rattle.flat_answers.specs.Flat.{item, consumer_item}
use Rattle.flat_answers.specs.Places.{Puts}
use Rattle.flat_answers.proofs.Pieces.{two}
use Rattle.flat_answers.proofs.answer.put_datagram.Goals as goal

pub returns : goal.returns
returns c =
    subst (λ (text : List ℕ). Puts text c.args.at c.args.out.now c.put_consumers.result c.put_consumers.new.out)
    (λ i. item (c.one_number-head.ensures i) (c.as_slice.ensures i) ++ flat_map consumer_item (c.as_slice-2.ensures i))
    (two _ _ _ _ _ _ _ _ c.put_item-at.ensures c.put_consumers.ensures)
