use Rattle.std.proofs.Common.{rules, ◌≡◌, ◌++◌, length}
use Rattle.trace_words.proofs.HexWords.{piece_pushed, all_pushed}
use Rattle.trace_words.proofs.written.push_digits.Goals as goal

pub loop-rest-preserved : goal.loop-rest-preserved
loop-rest-preserved c =
    let is : c.loop-rest.rest.now ≡ c.split_at.result.0.now ++ c.split_at.result.1.now = search rules in
    piece_pushed _ _ _ _ _ _ _ c.loop-rest.invariant c.in_ok-push_piece.ensures is

pub returns : goal.returns
returns c =
    let none : length c.loop-rest.rest.now ≡ 0 = search rules in
    all_pushed _ _ _ _ c.loop-rest.invariant none
