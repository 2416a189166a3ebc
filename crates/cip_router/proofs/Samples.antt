-- What worked replies, and the codes of worked refusals, are.
use Rattle.std.proofs.Common.{◌≡◌, false, [], ◌∷◌, ◌++◌, None, refl}
use Rattle.cip_router.specs.declared.command.Command.TheVariants.{SendUnitData, Other}
use Rattle.cip_router.specs.declared.refusal.Status.TheVariants as status
use Rattle.cip_fwdopen.specs.Reply.{refused_text}
use Rattle.cip_encap.specs.Message.{message_text}
use Rattle.cip_router.specs.Commands.{command_of, is_silent}
use Rattle.cip_router.specs.Refusals.{status_code, status_fault}
use Rattle.cip_router.specs.Replies.{own, refused, reply_text, own_reply_text}
use Rattle.cip_router.specs.Frames.{RequestHeader, connected, reply_message}

pub unit_data : command_of 0x70 ≡ SendUnitData
unit_data = refl

pub no_command : command_of 0x71 ≡ Other
no_command = refl

pub unit_data_has_replies : is_silent SendUnitData ≡ false
unit_data_has_replies = refl

pub no_room : status_code status.ResourceUnavailable ≡ 2
no_room = refl

pub too_large : status_code status.ReplyTooLarge ≡ 17
too_large = refl

pub no_answer : status_code status.VendorSpecific ≡ 31
no_answer = refl

-- the application answers service 0x32 with two bytes, and with general status 0x10 and none
pub own_value : reply_text (own 0x32 0 (0xAA ∷ 0xBB ∷ [])) ≡ 0xB2 ∷ 0 ∷ 0 ∷ 0 ∷ 0xAA ∷ 0xBB ∷ []
unfolding own_reply_text
own_value = refl

pub own_status : reply_text (own 0x0E 0x10 []) ≡ 0x8E ∷ 0 ∷ 0x10 ∷ 0 ∷ []
unfolding own_reply_text
own_status = refl

-- an answer that is late is refused as the application's own status without data would be
pub late_answer : reply_text (refused 0x0E (status_fault status.VendorSpecific) None) ≡ 0x8E ∷ 0 ∷ 0x1F ∷ 0 ∷ []
unfolding refused_text
late_answer = refl

-- The reply over a class 3 connection to Get_Attribute_Single of the Identity object's name, `eip`: command
-- SendUnitData, 30 bytes, session 0x1122_3344, no sender context, connection id 0xA0B0_C0D0, sequence count 0x0105.
abbrev request : RequestHeader
request = record { command = 0x70; session = 0x1122_3344; context = 0x0807_0605_0403_0201 }

pub name_replied : message_text (reply_message request (connected 0xA0B0_C0D0 0x0105 (0x8E ∷ 0 ∷ 0 ∷ 0 ∷ 3 ∷ 0x65 ∷ 0x69 ∷ 0x70 ∷ [])))
    ≡ (0x70 ∷ 0 ∷ 0x1E ∷ 0 ∷ 0x44 ∷ 0x33 ∷ 0x22 ∷ 0x11 ∷ 0 ∷ 0 ∷ 0 ∷ 0 ∷ 0 ∷ 0 ∷ 0 ∷ 0 ∷ 0 ∷ 0 ∷ 0 ∷ 0 ∷ 0 ∷ 0 ∷ 0 ∷ 0 ∷ [])
    ++ 0 ∷ 0 ∷ 0 ∷ 0 ∷ 0 ∷ 0 ∷ 2 ∷ 0 ∷ 0xA1 ∷ 0 ∷ 4 ∷ 0 ∷ 0xD0 ∷ 0xC0 ∷ 0xB0 ∷ 0xA0 ∷ 0xB1 ∷ 0 ∷ 10 ∷ 0 ∷ 5 ∷ 1 ∷ 0x8E ∷ 0 ∷ 0 ∷ 0 ∷ 3 ∷ 0x65 ∷ 0x69 ∷ 0x70 ∷ []
name_replied = refl
