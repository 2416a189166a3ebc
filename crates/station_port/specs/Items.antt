-- What a station's port does with socket address items, by its place.
use Rattle.std.specs.Prelude.{◌==◌, not, if◌then◌else◌}
use Rattle.station_port.specs.declared.named_ports.ports.ItemUse.{ItemUse}
use Rattle.station_port.specs.declared.named_ports.ports.ItemUse.TheVariants.{Unused, Named, Obeyed, Honoured}
use Rattle.station_port.specs.declared.place.StationPlace.{StationPlace}

-- an adapter's
abbrev pub target_use : StationPlace → ItemUse
target_use place = if place.item_ports then Honoured else Unused

-- a scanner's, which names its own port, unless that is the standard's, and sends where replies say
abbrev pub originator_use : StationPlace → ItemUse
originator_use place = if not place.item_ports then Unused else if place.udp == 2222 then Obeyed else Named place.udp
