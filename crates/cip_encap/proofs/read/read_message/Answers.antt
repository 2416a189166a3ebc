use Rattle.std.proofs.Common.{arith, sym, subst, ◌∙◌}
use Rattle.cip_encap.specs.Message.{IsMessageReading}
use Rattle.cip_encap.proofs.MessageLaws.{message_reading_is, one_message_reading}
use Rattle.cip_encap.proofs.read.read_message.Goals as goal

pub returns-clause-reading : goal.returns-clause-reading
returns-clause-reading c = subst (IsMessageReading c.args.bytes.now) (sym c.parsed.ensures) (message_reading_is c.args.bytes.now (λ i. omega (arith, c.type_inv.bytes i)))

pub returns-clause-only : goal.returns-clause-only
returns-clause-only c = λ other is. c.parsed.ensures ∙ one_message_reading c.args.bytes.now (λ i. omega (arith, c.type_inv.bytes i)) other is
