use Rattle.std.proofs.Common.{arith, sym, subst, ◌∙◌}
use Rattle.cip_encap.specs.Connected.{IsConnectedReading}
use Rattle.cip_encap.proofs.ConnectedLaws.{connected_reading_is, one_connected_reading}
use Rattle.cip_encap.proofs.connected.read_connected_items.Goals as goal

pub returns-clause-reading : goal.returns-clause-reading
returns-clause-reading c = subst (IsConnectedReading c.args.bytes.now) (sym c.parsed.ensures) (connected_reading_is c.args.bytes.now (λ i. omega (arith, c.type_inv.bytes i)))

pub returns-clause-only : goal.returns-clause-only
returns-clause-only c = λ other is. c.parsed.ensures ∙ one_connected_reading c.args.bytes.now (λ i. omega (arith, c.type_inv.bytes i)) other is
