-- The name that a station gives of itself, and the rest of its identity.
use Rattle.std.specs.Prelude.{ℕ, List, length, nat_lt, if◌then◌else◌, take}
use Rattle.cip_types.specs.declared.names.Identity.{Identity}
use Rattle.list_identity.specs.declared.station.StationIdentity.{StationIdentity}

-- at most 32 bytes of a text, from its front
abbrev pub name_front : List ℕ → List ℕ
name_front text = if nat_lt (length text) 32 then text else take 32 text

-- the state of an Identity object whose device is operational (Volume 1, chapter 5, Identity object)
abbrev pub operational : ℕ
operational = 3

-- what a device in operation says of itself, with the serial number and the name that it is given
abbrev pub identity_with : Identity → ℕ → List ℕ → StationIdentity
identity_with device serial name = record { device = device; status = 0; serial = serial; name = name_front name; state = operational }
