-- ListIdentity requests and their replies (Volume 2, chapter 2, ListIdentity).
use Rattle.std.specs.Prelude.{ℕ, ◌==◌, if◌then◌else◌, List, [], Result, Ok, Err}
use Rattle.cip_encap.specs.Message.{MessageFields}
use Rattle.cip_encap.specs.Reading.{message_reading}
use Rattle.cip_encap.specs.declared.message.EncapFault.{EncapFault}
use Rattle.identity_search.specs.Reading.Items.{IdentityFields, item_reading}
use Rattle.identity_search.specs.declared.reading.item.IdentityFault.{IdentityFault}
use Rattle.identity_search.specs.declared.reading.item.IdentityFault.TheVariants as fault

-- a request, without data
abbrev pub request_message : (context : ℕ) → MessageFields
request_message context = record { command = 0x0063; session = 0; status = 0; context = context; options = 0; payload = [] }

-- the identity of a message; session and options are not judged
abbrev pub of_message : (context : ℕ) → MessageFields → Result IdentityFields IdentityFault
of_message context m =
    if m.command == 0x0063 then (if m.status == 0 then (if m.context == context then item_reading m.payload else Err fault.Context) else Err fault.Status)
    else Err fault.Command

abbrev pub of_reading : (context : ℕ) → Result MessageFields EncapFault → Result IdentityFields IdentityFault
of_reading context (Ok m) = of_message context m
of_reading context (Err _) = Err fault.Message

-- the identity of the bytes of a reply to the request of this context
abbrev pub reply_reading : (context : ℕ) → List ℕ → Result IdentityFields IdentityFault
reply_reading context bytes = of_reading context (message_reading bytes)
