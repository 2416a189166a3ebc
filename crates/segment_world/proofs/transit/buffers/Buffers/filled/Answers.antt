use Rattle.std.proofs.Common.{◌≡◌, ◌++◌, length, subst, ap, ◌∙◌, arith}
use Rattle.segment_world.specs.Transit.Spares.{AreSpare}
use Rattle.segment_world.proofs.Spares.{spare_last}
use Rattle.segment_world.proofs.transit.buffers.Buffers.filled.Goals as goal

pub invariant_of-self-in_err-extend_from_slice : goal.invariant_of-self-in_err-extend_from_slice
invariant_of-self-in_err-extend_from_slice c =
    (spare_last c.pop.new.self.items c.in-Some.buffer (subst AreSpare c.in-Some.ensures.items c.self.invariant)).0

pub returns-in_err-extend_from_slice-clause-room : goal.returns-in_err-extend_from_slice-clause-room
returns-in_err-extend_from_slice-clause-room c = λ some short.
    let kept = spare_last c.pop.new.self.items c.in-Some.buffer (subst AreSpare c.in-Some.ensures.items c.self.invariant) in
    let none : length c.in-Some.buffer.items ≡ 0 = ap length kept.1 in
    let full = c.in_err-extend_from_slice.ensures.full in
    absurd (omega (arith, kept.2, short))

pub invariant_of-self-2 : goal.invariant_of-self-2
invariant_of-self-2 c =
    (spare_last c.pop.new.self.items c.in-Some.buffer (subst AreSpare c.in-Some.ensures.items c.self.invariant)).0

pub returns-clause-bytes : goal.returns-clause-bytes
returns-clause-bytes c =
    let kept = spare_last c.pop.new.self.items c.in-Some.buffer (subst AreSpare c.in-Some.ensures.items c.self.invariant) in
    c.from_vec.ensures ∙ c.in_ok-extend_from_slice.ensures.items ∙ ap (λ l. l ++ c.args.bytes.now) kept.1
