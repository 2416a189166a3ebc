-- The commands of encapsulation messages, and the statuses of refusals (Volume 2, chapter 2, encapsulation
-- commands and encapsulation status codes).
use Rattle.std.specs.Prelude.{ℕ, ◌==◌, Bool, true, false, [], ◌∷◌}
use Rattle.cip_types.specs.Cases.{first_case_or}
use Rattle.cip_router.specs.declared.command.Command.{Command}
use Rattle.cip_router.specs.declared.command.Command.TheVariants as command
use Rattle.cip_router.specs.declared.command.EncapStatus.{EncapStatus}
use Rattle.cip_router.specs.declared.command.EncapStatus.TheVariants as status

-- the command of a number
abbrev pub command_of : ℕ → Command
command_of code = first_case_or command.Other (
    (code == 0x0000, command.Nop)
    ∷ (code == 0x0004, command.ListServices)
    ∷ (code == 0x0065, command.RegisterSession)
    ∷ (code == 0x0066, command.UnregisterSession)
    ∷ (code == 0x006F, command.SendRrData)
    ∷ (code == 0x0070, command.SendUnitData)
    ∷ [])

-- the commands that never have a reply
abbrev pub is_silent : Command → Bool
is_silent command.Nop = true
is_silent command.ListServices = false
is_silent command.RegisterSession = false
is_silent command.UnregisterSession = true
is_silent command.SendRrData = false
is_silent command.SendUnitData = false
is_silent command.Other = false

-- the status of a refusal
abbrev pub encap_code : EncapStatus → ℕ
encap_code status.InvalidCommand = 0x0001
encap_code status.IncorrectData = 0x0003
encap_code status.InvalidSession = 0x0064
encap_code status.InvalidLength = 0x0065
encap_code status.UnsupportedVersion = 0x0069
