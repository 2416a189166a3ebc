-- A written value is read back: laws of the definitions alone, which `reads_back` promises
-- (Volume 1, chapter 3, network connection parameters, transport class and trigger).
use Rattle.std.specs.Prelude.{◌≡◌, ◌<◌, ◌^◌, Some}
use Rattle.cip_netparams.specs.declared.NetParams.{NetParams}
use Rattle.cip_netparams.specs.declared.Trigger.{Trigger}
use Rattle.cip_netparams.specs.Word.{word16, params16, word32, params32, trigger_byte, trigger_of}

-- parameters whose size fits nine bits, from their word of 16 bits
abbrev pub Word16ReadsBack : Type 0
Word16ReadsBack = (p : NetParams) → p.size < 2 ^ 9 → params16 (word16 p 0) ≡ p

-- parameters, from their word of 32 bits
abbrev pub Word32ReadsBack : Type 0
Word32ReadsBack = (p : NetParams) → p.size < 2 ^ 16 → params32 (word32 p 0 0) ≡ p

-- a trigger, from its byte
abbrev pub TriggerReadsBack : Type 0
TriggerReadsBack = (t : Trigger) → trigger_of (trigger_byte t) ≡ Some t
