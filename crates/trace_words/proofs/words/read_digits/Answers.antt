use Rattle.std.proofs.Common.{rules, ◌≡◌, ◌≢◌, ◌∙◌, sym, ap, Some, length}
use Rattle.trace_words.proofs.HexWords.{digits_read, pair_read, no_pair, half_pair, all_read}
use Rattle.trace_words.proofs.words.read_digits.Goals as goal

pub returns-in_default-byte_of : goal.returns-in_default-byte_of
returns-in_default-byte_of c =
    let some : length c.args.word.now ≢ 0 = search rules in
    digits_read _ some ∙ no_pair _ _ _ c.loop-rest.invariant c.in-len2-up.len_at_least c.in_default-byte_of.ensures

pub loop-rest-preserved : goal.loop-rest-preserved
loop-rest-preserved c = pair_read _ _ _ _ _ c.loop-rest.invariant c.in-len2-up.len_at_least c.in-Some.ensures c.in_ok-push.ensures.items

pub returns-then-not-is_empty : goal.returns-then-not-is_empty
returns-then-not-is_empty c =
    let some : length c.args.word.now ≢ 0 = search rules in
    let odd : length c.loop-rest.rest.now ≢ 0 = search rules in
    digits_read _ some ∙ half_pair _ _ _ c.loop-rest.invariant c.in_default.len_below odd

pub returns : goal.returns
returns c =
    let some : length c.args.word.now ≢ 0 = search rules in
    let none : length c.loop-rest.rest.now ≡ 0 = search rules in
    digits_read _ some ∙ all_read _ _ _ c.loop-rest.invariant none ∙ ap Some (sym c.from_vec.ensures)
