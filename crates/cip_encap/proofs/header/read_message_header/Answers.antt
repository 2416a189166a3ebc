use Rattle.std.proofs.Common.{arith, subst, sym, ◌∙◌}
use Rattle.cip_encap.specs.Message.{headed, IsHeaderReading}
use Rattle.cip_encap.proofs.MessageLaws.{finds_is, header_reading_is, one_header_reading}
use Rattle.cip_encap.proofs.header.read_message_header.Goals as goal

pub returns-clause-reading : goal.returns-clause-reading
returns-clause-reading c = subst (IsHeaderReading c.args.bytes.now) (finds_is (λ x. headed x.0 x.1.now) c.header_at.result _ c.header_at.ensures) (header_reading_is c.args.bytes.now (λ i. omega (arith, c.type_inv.bytes i)))

pub returns-clause-only : goal.returns-clause-only
returns-clause-only c = λ other is. sym (finds_is (λ x. headed x.0 x.1.now) c.header_at.result _ c.header_at.ensures) ∙ one_header_reading c.args.bytes.now (λ i. omega (arith, c.type_inv.bytes i)) other is
