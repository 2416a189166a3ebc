-- The reasons of refusals, and their statuses (Volume 1, appendix B, general status codes, and
-- chapter 3, Connection Manager extended status codes).
use Rattle.std.specs.Prelude.{ℕ, Some, None}
use Rattle.cip_types.specs.declared.names.Fault.{Fault}
use Rattle.cip_router.specs.declared.refusal.Refusal.{Refusal}
use Rattle.cip_router.specs.declared.refusal.Refusal.TheVariants as refusal
use Rattle.cip_router.specs.declared.refusal.Status.{Status}
use Rattle.cip_router.specs.declared.refusal.Status.TheVariants as status

abbrev pub status_code : Status → ℕ
status_code status.PathSegment = 0x04
status_code status.PathDestination = 0x05
status_code status.Service = 0x08
status_code status.NotEnoughData = 0x13
status_code status.Attribute = 0x14
status_code status.TooMuchData = 0x15
status_code status.NotSettable = 0x0E
status_code status.PrivilegeViolation = 0x0F
status_code status.StateConflict = 0x10
status_code status.InvalidParameter = 0x20
status_code status.ResourceUnavailable = 0x02
status_code status.ReplyTooLarge = 0x11
status_code status.VendorSpecific = 0x1F

-- the message router's refusal
abbrev pub status_fault : Status → Fault
status_fault why = record { general = status_code why; extended = None }

abbrev pub refusal_code : Refusal → ℕ
refusal_code refusal.InUse = 0x0100
refusal_code refusal.Trigger = 0x0103
refusal_code refusal.Ownership = 0x0106
refusal_code refusal.NotFound = 0x0107
refusal_code refusal.Parameter = 0x0108
refusal_code refusal.PacketInterval = 0x0111
refusal_code refusal.OutOfConnections = 0x0113
refusal_code refusal.VendorOrProduct = 0x0114
refusal_code refusal.DeviceType = 0x0115
refusal_code refusal.Revision = 0x0116
refusal_code refusal.Path = 0x0117
refusal_code refusal.NoSupport = 0x0119
refusal_code refusal.InhibitTime = 0x011B
refusal_code refusal.ConsumedType = 0x0123
refusal_code refusal.ProducedType = 0x0124
refusal_code refusal.ConfigurationSize = 0x0126
refusal_code refusal.ConsumedSize = 0x0127
refusal_code refusal.ProducedSize = 0x0128
refusal_code refusal.ConfigurationPath = 0x0129
refusal_code refusal.ConsumedPath = 0x012A
refusal_code refusal.ProducedPath = 0x012B
refusal_code refusal.Segment = 0x0315

-- the Connection Manager's refusal: general status 1, connection failure, with an extended status
abbrev pub refusal_fault : Refusal → Fault
refusal_fault why = record { general = 1; extended = Some (refusal_code why) }
