-- Network connection parameters and triggers, and their words: sums of fields at their
-- bits (Volume 1, chapter 3, network connection parameters, transport class and trigger).
--
--              16 bits   32 bits
--   size        0 to 8   0 to 15
--   variable         9        25
--   priority  10 to 11  26 to 27
--   type      13 to 14  29 to 30
--   redundant       15        31
--
-- The other bits are spare.
use Rattle.std.specs.Prelude.{◌≡◌, ◌==◌, Bool, ℕ, ◌+◌, ◌*◌, ◌/◌, ◌%◌, ◌<◌, ◌^◌, Option, Some, None, if◌then◌else◌}
use Rattle.std.specs.Int.{from_bool}
use Rattle.cip_netparams.specs.declared.NetParams.{NetParams}
use Rattle.cip_netparams.specs.declared.Priority.{Priority}
use Rattle.cip_netparams.specs.declared.Priority.TheVariants.{Low, High, Scheduled, Urgent}
use Rattle.cip_netparams.specs.declared.ConnectionType.{ConnectionType}
use Rattle.cip_netparams.specs.declared.ConnectionType.TheVariants.{Null, Multicast, PointToPoint, Reserved}
use Rattle.cip_netparams.specs.declared.Trigger.{Trigger}
use Rattle.cip_netparams.specs.declared.Trigger.TheVariants.{Cyclic, ChangeOfState}

-- the number of a priority in its two bits
abbrev pub priority_code : Priority → ℕ
priority_code Low = 0
priority_code High = 1
priority_code Scheduled = 2
priority_code Urgent = 3

-- the number of a connection type in its two bits
abbrev pub type_code : ConnectionType → ℕ
type_code Null = 0
type_code Multicast = 1
type_code PointToPoint = 2
type_code Reserved = 3

-- the priority of a number of two bits
abbrev pub priority_of : ℕ → Priority
priority_of code = if code == 0 then Low else if code == 1 then High else if code == 2 then Scheduled else Urgent

-- the connection type of a number of two bits
abbrev pub type_of : ℕ → ConnectionType
type_of code = if code == 0 then Null else if code == 1 then Multicast else if code == 2 then PointToPoint else Reserved

-- the fields of a word of 16 bits; spare is bit 12
abbrev pub word16 : NetParams → ℕ → ℕ
word16 p spare = p.size + 2 ^ 9 * from_bool p.variable + 2 ^ 10 * priority_code p.priority + 2 ^ 12 * spare + 2 ^ 13 * type_code p.kind + 2 ^ 15 * from_bool p.redundant

-- the word of 16 bits carries the parameters, with any spare bit
abbrev pub IsWord16 : ℕ → NetParams → Type 0
IsWord16 word p = (p.size < 2 ^ 9) × ((spare : ℕ) × (spare < 2) × (word ≡ word16 p spare))

-- the parameters of a word of 16 bits
unfoldable pub params16 : ℕ → NetParams
params16 word = record {
  size = word % 2 ^ 9;
  variable = word / 2 ^ 9 % 2 == 1;
  priority = priority_of (word / 2 ^ 10 % 4);
  kind = type_of (word / 2 ^ 13 % 4);
  redundant = word / 2 ^ 15 % 2 == 1;
}

-- the fields of a word of 32 bits; low is bits 16 to 24, high is bit 28
abbrev pub word32 : NetParams → ℕ → ℕ → ℕ
word32 p low high = p.size + 2 ^ 16 * low + 2 ^ 25 * from_bool p.variable + 2 ^ 26 * priority_code p.priority + 2 ^ 28 * high + 2 ^ 29 * type_code p.kind + 2 ^ 31 * from_bool p.redundant

-- the word of 32 bits carries the parameters, with any spare bits
abbrev pub IsWord32 : ℕ → NetParams → Type 0
IsWord32 word p = (p.size < 2 ^ 16) × ((low high : ℕ) × (low < 2 ^ 9) × (high < 2) × (word ≡ word32 p low high))

-- the parameters of a word of 32 bits
unfoldable pub params32 : ℕ → NetParams
params32 word = record {
  size = word % 2 ^ 16;
  variable = word / 2 ^ 25 % 2 == 1;
  priority = priority_of (word / 2 ^ 26 % 4);
  kind = type_of (word / 2 ^ 29 % 4);
  redundant = word / 2 ^ 31 % 2 == 1;
}

-- the number of a trigger in its three bits
abbrev pub trigger_code : Trigger → ℕ
trigger_code Cyclic = 0
trigger_code ChangeOfState = 1

-- class 1 in bits 0 to 3, the trigger in bits 4 to 6, a direction in bit 7
abbrev pub IsTriggerByte : ℕ → Trigger → Type 0
IsTriggerByte byte t = (direction : ℕ) × (direction < 2) × (byte ≡ 1 + 2 ^ 4 * trigger_code t + 2 ^ 7 * direction)

-- the trigger of the byte, if its class is 1; the direction bit is not judged
abbrev pub trigger_of : ℕ → Option Trigger
trigger_of byte = if byte % 2 ^ 7 == 0x01 then Some Cyclic else if byte % 2 ^ 7 == 0x11 then Some ChangeOfState else None

-- class 1, the trigger, and direction 0
abbrev pub trigger_byte : Trigger → ℕ
trigger_byte t = 1 + 2 ^ 4 * trigger_code t

-- the byte of a class 3 connection: class 3, the application object's trigger, and the direction bit of a server
abbrev pub is_message_trigger : ℕ → Bool
is_message_trigger byte = byte == 0xA3
