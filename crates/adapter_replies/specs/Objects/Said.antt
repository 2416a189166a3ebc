-- What the objects of an adapter answer, by the parts of its table: its profile, what its points hold, and what its
-- connections tell (Volume 1, chapter 5, object library; Volume 2, chapter 5, TCP/IP Interface and Ethernet Link).
use Rattle.std.specs.Prelude.{ℕ, false, List, Option}
use Rattle.cip_types.specs.Cases.{first_case}
use Rattle.cip_encap.specs.declared.packet.SocketAddress.{SocketAddress}
use Rattle.list_identity.specs.declared.station.StationIdentity.{StationIdentity}
use Rattle.adapter_table.specs.declared.profile.Description.{Description}
use Rattle.adapter_table.specs.declared.objects.IoState.{IoState}
use Rattle.adapter_table.specs.Points.{bytes_at}
use Rattle.adapter_table.specs.Checks.{config_bytes}
use Rattle.adapter_table.specs.Objects.{ObjectAnswer, Instance, IdentityState, status_of, holds_bytes, consistency_value, operational, described_cases, assembly_found, object_said}
use Rattle.assembly_set.specs.Assemblies.{Assemblies}

-- the status word
abbrev pub status_in : Assemblies → IoState → ℕ
status_in set io = status_of (holds_bytes (config_bytes set.values set.profile.config)) io

-- how the device stands
abbrev pub standing_in : Assemblies → IoState → IdentityState
standing_in set io = record { status = status_in set io; consistency = consistency_value (config_bytes set.values set.profile.config) }

-- the instance of another class than the assemblies'
abbrev pub described_in : Assemblies → IoState → (connections : ℕ) → (link : List ℕ) → Description → (class instance : ℕ) → Option Instance
described_in set io connections link d class instance = first_case (described_cases set.profile (standing_in set io) connections link d class instance)

-- what a described device answers to a service of another object than an assembly
unfoldable pub described_said : Assemblies → IoState → (connections : ℕ) → (link : List ℕ) → Description → (service class instance : ℕ) → Option ℕ → List ℕ → ObjectAnswer
described_said set io connections link d service class instance attribute body =
    object_said io.owned service attribute body (described_in set io connections link d class instance)

-- what a device answers to a service of an assembly: the connections make no difference
unfoldable pub assembly_said : Assemblies → (service instance : ℕ) → Option ℕ → List ℕ → ObjectAnswer
assembly_said set service instance attribute body = object_said false service attribute body (assembly_found set.profile set.values instance (bytes_at set.values instance))

-- what a described device says of itself
abbrev pub station_in : Assemblies → IoState → Description → StationIdentity
station_in set io d = record { device = set.profile.identity; status = status_in set io; serial = d.serial; name = d.name; state = operational }

abbrev pub address_in : Assemblies → Description → SocketAddress
address_in set d = record { port = d.port; address = set.profile.node }
