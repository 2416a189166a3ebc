use Rattle.flat_answers.proofs.Pieces.{item_length}
use Rattle.flat_answers.proofs.length.item_len.Goals as goal

pub returns : goal.returns
returns c header = item_length header c.args.bytes.now
