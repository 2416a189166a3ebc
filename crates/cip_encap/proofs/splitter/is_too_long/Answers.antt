use Rattle.std.proofs.Common.{◌+◌, ◌≤◌, ◌++◌, length, drop, refl, arith, length-append, length-drop}
use Rattle.std.proofs.lemmas.Bool.{false≢true}
use Rattle.cip_encap.proofs.StreamLaws.{IsBytes-append, place_more, place_too_long, place_not_long, begins_none}
use Rattle.cip_encap.proofs.splitter.is_too_long.Goals as goal

pub returns-then-len-gt-LONGEST_MESSAGE : goal.returns-then-len-gt-LONGEST_MESSAGE
returns-then-len-gt-LONGEST_MESSAGE c =
    let stream = c.args.kept.now ++ c.args.piece.now in
    let there : 4 ≤ length (drop c.loop-at.at stream) = omega (arith, length-drop c.loop-at.at stream, length-append c.args.kept.now c.args.piece.now) in
    let ends = place_too_long stream c.loop-at.at c.len_at-len.result c.loop-at.invariant.1 there c.len_at-len.ensures.value (omega arith) in
    (λ _. ends, λ _. refl)

pub returns-then-total-at : goal.returns-then-total-at
returns-then-total-at c =
    let stream = c.args.kept.now ++ c.args.piece.now in
    let field = c.len_at-len.ensures.value in
    let len = length-drop c.loop-at.at stream in
    let both = length-append c.args.kept.now c.args.piece.now in
    let none = begins_none (drop c.loop-at.at stream) (λ long _. omega (arith, len, both, field, long)) in
    (λ t. absurd (false≢true t), λ ends. absurd (place_not_long stream c.loop-at.at c.loop-at.invariant.1 none (λ long. omega (arith, field, long)) ends))

pub loop-at-preserved : goal.loop-at-preserved
loop-at-preserved c =
    let stream = c.args.kept.now ++ c.args.piece.now in
    let len = length-drop c.loop-at.at stream in
    let both = length-append c.args.kept.now c.args.piece.now in
    let long : 24 + c.len_at-len.result ≤ length (drop c.loop-at.at stream) = omega (arith, len, both) in
    let fits = IsBytes-append c.args.kept.now c.args.piece.now (λ i. omega (arith, c.type_inv.kept i)) (λ i. omega (arith, c.type_inv.piece i)) in
    (omega arith, place_more stream c.loop-at.at c.len_at-len.result fits c.loop-at.invariant.1 c.len_at-len.ensures.value long (omega arith))

pub returns : goal.returns
returns c =
    let stream = c.args.kept.now ++ c.args.piece.now in
    let len = length-drop c.loop-at.at stream in
    let both = length-append c.args.kept.now c.args.piece.now in
    let none = begins_none (drop c.loop-at.at stream) (λ long _. omega (arith, len, both, long)) in
    (λ t. absurd (false≢true t), λ ends. absurd (place_not_long stream c.loop-at.at c.loop-at.invariant.1 none (λ long. omega (arith, len, both, long)) ends))
