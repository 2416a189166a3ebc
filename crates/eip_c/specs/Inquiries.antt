-- What a call answers to an inquiry, which needs no device.
use Rattle.std.specs.Prelude.{◌≡◌, ℕ, ◌<◌, List, length, Some, None}
use Rattle.cip_events.specs.declared.event.StepFault.TheVariants.{OutOfMemory}
use Rattle.cip_encap.specs.declared.packet.SocketAddress.{SocketAddress}
use Rattle.list_identity.specs.declared.station.StationIdentity.{StationIdentity}
use Rattle.list_identity.specs.Inquiries.{inquiry_answer}
use Rattle.eip_c.specs.declared.inquiry.IdentityNumbers.{IdentityNumbers}
use Rattle.eip_c.specs.declared.status.CallStatus.{CallStatus}
use Rattle.eip_c.specs.declared.status.CallStatus.TheVariants.{Fault, NoInquiry, LongName}
use Rattle.eip_c.specs.Memory.{Memory, Writes}

-- the identity of these numbers and this name
abbrev pub identity_of : IdentityNumbers → List ℕ → StationIdentity
identity_of n name = record {
  device = record { vendor = n.vendor; device_type = n.device_type; product = n.product; major = n.major; minor = n.minor };
  status = n.status;
  serial = n.serial;
  name = name;
  state = n.state;
}

-- where the device is reached
abbrev pub socket_of : IdentityNumbers → SocketAddress
socket_of n = record { port = n.port; address = record { 0 = n.address } }

-- The reply to an inquiry is written. A message that is no inquiry has no reply, and the size is 0. A name of more than 32
-- bytes is refused before the message is read.
abbrev pub Inquires : List ℕ → IdentityNumbers → List ℕ → CallStatus → Memory → Memory → Type 0
Inquires message numbers name LongName old new = (32 < length name) × (new ≡ old)
Inquires message numbers name (Fault OutOfMemory) old new = new ≡ old
Inquires message numbers name NoInquiry old new = (inquiry_answer message (identity_of numbers name) (socket_of numbers) ≡ None) × (new.0 ≡ old.0) × (new.1 ≡ 0)
Inquires message numbers name status old new = (bytes : List ℕ) × (inquiry_answer message (identity_of numbers name) (socket_of numbers) ≡ Some bytes) × Writes bytes status old new
