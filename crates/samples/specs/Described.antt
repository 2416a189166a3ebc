-- A described adapter of the samples: what it says of itself.
use Rattle.std.specs.Prelude.{Some}
use Rattle.adapter_table.specs.declared.profile.Description.{Description}
use Rattle.adapter_table.specs.declared.profile.Profile.{Profile}
use Rattle.samples.specs.Hex.{hex}
use Rattle.samples.specs.Devices.{configured}

-- the name Pump, the standard TCP port, 100 Mbit/s with a link and full duplex, a physical address, and two minutes
abbrev pub pump : Description
pump = record {
  serial = 0x12345678;
  name = hex "50 75 6D 70";
  port = 44818;
  speed = 100;
  flags = 0x0F;
  mac = hex "02 00 5E 10 00 07";
  inactivity = 120;
}

-- the adapter with the output 150, the input 100, and the configuration 151 of two bytes
abbrev pub described : Profile
described = record configured { description = Some pump }
