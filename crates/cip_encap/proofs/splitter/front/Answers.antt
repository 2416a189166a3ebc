use Rattle.std.proofs.Common.{arith, refl, sym, subst}
use Rattle.std.proofs.lemmas.List.{take-append-drop}
use Rattle.cip_encap.specs.Stream.{IsShortMessage, length_field}
use Rattle.cip_encap.proofs.StreamLaws.{front_is}
use Rattle.cip_encap.proofs.splitter.front.Goals as goal

pub returns : goal.returns
returns c =
    let bytes = c.args.bytes.now in
    let text = front_is bytes (length_field bytes) (λ i. omega (arith, c.type_inv.bytes i)) refl (omega arith) (omega arith) in
    let is = subst IsShortMessage (sym c.split_at.ensures.front) text in
    (is, rw (c.split_at.ensures.front, c.split_at.ensures.back) (sym (take-append-drop _ bytes)))
