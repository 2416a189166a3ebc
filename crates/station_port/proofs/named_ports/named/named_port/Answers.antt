use Rattle.std.proofs.Common.{◌∙◌, sym}
use Rattle.station_port.proofs.Alone.{no_port}
use Rattle.station_port.proofs.named_ports.named.named_port.Goals as goal

pub returns-then-u16_in-eq-ITEMS_ALONE-clause-value : goal.returns-then-u16_in-eq-ITEMS_ALONE-clause-value
returns-then-u16_in-eq-ITEMS_ALONE-clause-value c = sym (no_port c.args.message.now (sym c.u16_in.ensures ∙ c.if-u16_in-eq-ITEMS_ALONE.true))
