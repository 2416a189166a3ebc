use Rattle.std.proofs.Common.{List, ℕ, ◌+◌, ◌++◌, ◌<◌, ◌⊎◌, [], length, arith, refl, length-append}
use Rattle.std.proofs.lemmas.Bool.{ltb-true}
use Rattle.cip_encap.specs.Stream.{BeginsNoMessage, AreMessages, IsTooLong}
use Rattle.cip_types.specs.FieldLaws.{IsBytes}
use Rattle.cip_encap.proofs.StreamLaws.{IsBytes-append, begins_none, left_is_small}
use Rattle.cip_encap.proofs.splitter.begins_none.Goals as goal

-- bytes that begin with no message are few, or begin one that is too long
few : (bytes : List ℕ) → IsBytes bytes → BeginsNoMessage bytes → IsTooLong bytes ⊎ (length bytes < 24 + 2048)
few bytes fits none =
    let are : AreMessages bytes [] bytes = record { each = tt; parts = refl; ends = none } in
    left_is_small bytes bytes [] fits are

pub returns-then-total-lt-HEADER_LEN-clause-none : goal.returns-then-total-lt-HEADER_LEN-clause-none
returns-then-total-lt-HEADER_LEN-clause-none c = λ _. begins_none (c.args.kept.now ++ c.args.piece.now) (λ long _. omega (arith, length-append c.args.kept.now c.args.piece.now, long))

pub returns-then-total-lt-HEADER_LEN-clause-small : goal.returns-then-total-lt-HEADER_LEN-clause-small
returns-then-total-lt-HEADER_LEN-clause-small c = λ is.
    few (c.args.kept.now ++ c.args.piece.now) (IsBytes-append c.args.kept.now c.args.piece.now (λ i. omega (arith, c.type_inv.kept i)) (λ i. omega (arith, c.type_inv.piece i))) (returns-then-total-lt-HEADER_LEN-clause-none c is)

pub returns-clause-none : goal.returns-clause-none
returns-clause-none c = λ is.
    begins_none (c.args.kept.now ++ c.args.piece.now) (λ long _. omega (arith, ltb-true _ _ is, c.len_at.ensures.value, length-append c.args.kept.now c.args.piece.now, long))

pub returns-clause-small : goal.returns-clause-small
returns-clause-small c = λ is.
    few (c.args.kept.now ++ c.args.piece.now) (IsBytes-append c.args.kept.now c.args.piece.now (λ i. omega (arith, c.type_inv.kept i)) (λ i. omega (arith, c.type_inv.piece i))) (returns-clause-none c is)
