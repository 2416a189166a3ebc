use Rattle.std.proofs.Common.{◌++◌, codes}
use Rattle.station_lines.specs.Attributes.Values.{address_text}
use Rattle.station_lines.specs.Attributes.Lemmas.Appended.{five}
use Rattle.station_lines.proofs.attributes.values.push_addresses.Goals as goal

pub returns : goal.returns
returns c = five _ _ _ _ _ _ (codes "address " ++ address_text c.args.bytes.now 0) (codes " mask " ++ address_text c.args.bytes.now 4) (codes " gateway " ++ address_text c.args.bytes.now 8) (codes " name-server " ++ address_text c.args.bytes.now 12) (codes " name-server-2 " ++ address_text c.args.bytes.now 16) c.in_ok-push_address.ensures c.in_ok-push_address-2.ensures c.in_ok-push_address-3.ensures c.in_ok-push_address-4.ensures c.in_ok-push_address-5.ensures
