use Rattle.std.specs.Net.Addr.{ipv4_bits}
use Rattle.command_lines.proofs.AddressWords.{node_found, node_refused}
use Rattle.command_lines.proofs.station_numbers.address_of.Goals as goal

pub returns-in-Ok : goal.returns-in-Ok
unfolding ipv4_bits
returns-in-Ok c = node_found _ _ _ c.in-Ok.ensures.value c.to_bits.ensures

pub returns-in-Err : goal.returns-in-Err
returns-in-Err c = node_refused _ c.in-Err.ensures.value
