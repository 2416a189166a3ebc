use Rattle.std.proofs.Common.{arith, sym, subst, ◌∙◌}
use Rattle.cip_datagram.specs.Datagram.{IsDatagramReading}
use Rattle.cip_datagram.proofs.DatagramLaws.{datagram_reading_is, one_datagram_reading}
use Rattle.cip_datagram.proofs.read.read_datagram.Goals as goal

pub returns-clause-reading : goal.returns-clause-reading
returns-clause-reading c = subst (IsDatagramReading c.args.bytes.now) (sym c.parsed.ensures) (datagram_reading_is c.args.bytes.now (λ i. omega (arith, c.type_inv.bytes i)))

pub returns-clause-only : goal.returns-clause-only
returns-clause-only c = λ other is. c.parsed.ensures ∙ one_datagram_reading c.args.bytes.now (λ i. omega (arith, c.type_inv.bytes i)) other is
