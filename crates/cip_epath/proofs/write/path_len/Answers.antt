use Rattle.std.proofs.Common.{◌≡◌, suc, ◌/◌, ◌∷◌, length, refl, arith}
use Rattle.cip_epath.specs.declared.segment.LogicalType.TheVariants.{Class, ConnectionPoint}
use Rattle.cip_epath.specs.Written.{optional_text}
use Rattle.cip_epath.proofs.Parts.{path_text_len}
use Rattle.cip_epath.proofs.write.path_len.Goals as goal

pub returns-in-Some : goal.returns-in-Some
returns-in-Some c =
    let segment : length (optional_text (λ lent. 0x80 ∷ length lent.now / 2 ∷ lent.now) c.args.path.now.segment) ≡ suc (suc (length c.in-Some.content.now)) = rw c.in-Some.is refl in
    omega (arith, path_text_len c.args.path.now, segment, c.front_len.ensures, c.logical_len-3.ensures.len Class, c.config_len.ensures.len, c.logical_len.ensures.len ConnectionPoint, c.logical_len-2.ensures.len ConnectionPoint)

pub returns-in-None : goal.returns-in-None
returns-in-None c =
    let segment : length (optional_text (λ lent. 0x80 ∷ length lent.now / 2 ∷ lent.now) c.args.path.now.segment) ≡ 0 = rw c.in-None.is refl in
    omega (arith, path_text_len c.args.path.now, segment, c.front_len.ensures, c.logical_len-3.ensures.len Class, c.config_len.ensures.len, c.logical_len.ensures.len ConnectionPoint, c.logical_len-2.ensures.len ConnectionPoint)
