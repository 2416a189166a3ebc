-- What worked words, bytes and packet intervals say.
use Rattle.std.proofs.Common.{◌≡◌, Some, None, true, false, refl}
use Rattle.cip_netparams.specs.declared.NetParams.{NetParams}
use Rattle.cip_netparams.specs.declared.Priority.TheVariants.{Low, Scheduled, Urgent}
use Rattle.cip_netparams.specs.declared.ConnectionType.TheVariants.{Null, Multicast, PointToPoint, Reserved}
use Rattle.cip_netparams.specs.declared.Trigger.TheVariants.{Cyclic, ChangeOfState}
use Rattle.cip_netparams.specs.Rate.{is_interval, interval_ms, timeout}
use Rattle.cip_netparams.specs.Word.{word16, word32, params16, params32, trigger_of, trigger_byte, is_message_trigger}

-- ten bytes of fixed size, scheduled, point to point
abbrev scheduled : NetParams
scheduled = record { size = 10; variable = false; priority = Scheduled; kind = PointToPoint; redundant = false }

pub short_word : params16 0x480A ≡ scheduled
unfolding params16
short_word = refl

pub long_word : params32 0x4800_000A ≡ scheduled
unfolding params32
long_word = refl

pub short_word_written : word16 scheduled 0 ≡ 0x480A
short_word_written = refl

pub long_word_written : word32 scheduled 0 0 ≡ 0x4800_000A
long_word_written = refl

-- the spare bit of a short word says nothing
pub spare_bit : params16 0x580A ≡ scheduled
unfolding params16
spare_bit = refl

-- the spare bits of a long word say nothing
pub spare_bits : params32 0x5923_057E ≡ record { size = 1406; variable = false; priority = Scheduled; kind = PointToPoint; redundant = false }
unfolding params32
spare_bits = refl

pub multicast : params16 0x2806 ≡ record { size = 6; variable = false; priority = Scheduled; kind = Multicast; redundant = false }
unfolding params16
multicast = refl

pub owner_and_variable : params16 0x8200 ≡ record { size = 0; variable = true; priority = Low; kind = Null; redundant = true }
unfolding params16
owner_and_variable = refl

-- every bit of a short word, the size of nine bits among them
pub all_ones : params16 0xFFFF ≡ record { size = 511; variable = true; priority = Urgent; kind = Reserved; redundant = true }
unfolding params16
all_ones = refl

-- a long word has its flags in its high half, and 16 bits of size
pub long_flags : params32 0x8200_FFFF ≡ record { size = 65535; variable = true; priority = Low; kind = Null; redundant = true }
unfolding params32
long_flags = refl

pub rounded_up : interval_ms 9001 ≡ 10
rounded_up = refl

pub whole_interval : interval_ms 10000 ≡ 10
whole_interval = refl

pub no_interval : is_interval 0 ≡ false
no_interval = refl

pub longest_interval : is_interval 10000000 ≡ true
longest_interval = refl

pub too_long_an_interval : is_interval 10000001 ≡ false
too_long_an_interval = refl

pub watchdog : timeout 2 10 ≡ 160
watchdog = refl

pub longest_watchdog : timeout 7 10000 ≡ 5120000
longest_watchdog = refl

-- the direction bit says nothing
pub served : trigger_of 0x81 ≡ Some Cyclic
served = refl

pub on_change : trigger_of 0x11 ≡ Some ChangeOfState
on_change = refl

pub application_trigger : trigger_of 0x21 ≡ None
application_trigger = refl

pub class_3 : trigger_of 0x03 ≡ None
class_3 = refl

pub on_change_written : trigger_byte ChangeOfState ≡ 0x11
on_change_written = refl

-- class 3, application object, server
pub message_trigger : is_message_trigger 0xA3 ≡ true
message_trigger = refl

-- the direction bit is judged, and so are the class and the trigger
pub message_of_a_client : is_message_trigger 0x23 ≡ false
message_of_a_client = refl

pub class_2_message : is_message_trigger 0xA2 ≡ false
class_2_message = refl

pub cyclic_message : is_message_trigger 0x83 ≡ false
cyclic_message = refl

pub message_is_not_class_1 : trigger_of 0xA3 ≡ None
message_is_not_class_1 = refl
