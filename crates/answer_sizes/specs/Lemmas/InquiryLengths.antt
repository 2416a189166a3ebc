-- How long the replies to inquiries are.
use Rattle.std.proofs.Common.{◌≡◌, ◌≤◌, ℕ, true, List, [], ◌∷◌, length, Option, Some, None, refl, arith, length-append}
use Rattle.std.specs.Option.{IfSome, option_map}
use Rattle.std.proofs.lemmas.Bool.{not-false, and_parts}
use Rattle.std.proofs.lemmas.Bool.Decides.{nat_tests}
use Rattle.cip_types.specs.Fields.{fields_text}
use Rattle.cip_encap.specs.Message.{MessageFields, header_widths, header_numbers, message_text}
use Rattle.cip_encap.specs.declared.packet.SocketAddress.{SocketAddress}
use Rattle.list_identity.specs.declared.inquiry.Inquiry.{Inquiry}
use Rattle.list_identity.specs.declared.inquiry.Inquiry.TheVariants as inquiry
use Rattle.list_identity.specs.declared.station.StationIdentity.{StationIdentity}
use Rattle.list_identity.specs.Identity.{identity_item, item_head, view_socket, view_device, view_product, view_unit, view_name}
use Rattle.list_identity.specs.Inquiries.{InquiryMessage, inquiry_data, reply_message, inquiry_text, inquiry_in, longest_reply}
use Rattle.adapter_table.specs.declared.profile.Description.{Description}
use Rattle.adapter_table.specs.declared.profile.Profile.{Profile}
use Rattle.adapter_table.specs.declared.table.AdapterTable.{AdapterTable}
use Rattle.adapter_table.specs.Inquiries.{identity_of, address_of, inquiry_reply_of, inquiry_reply}
use Rattle.adapter_table.specs.Profiles.{profile_fault, profile_tests, is_described, fits_description}
use Rattle.adapter_table.specs.Shaping.{all_pass}

-- ---- a description

-- a description whose name and physical address are short
pub record IsBrief (d : Description) : Type 0 where
  pub name : length d.name ≤ 32
  pub mac : length d.mac ≤ 6

brief_by : (d : Description) → is_described (Some d) ≡ true → IsBrief d
brief_by d is = record { name = grind (arith, nat_tests); mac = grind (arith, nat_tests) }

brief_if : (found : Option Description) → is_described found ≡ true → IfSome found IsBrief
brief_if None is = tt
brief_if (Some d) is = brief_by d is

-- the description of a faultless profile
pub description_brief : (profile : Profile) → profile_fault profile ≡ None → IfSome profile.description IsBrief
unfolding profile_fault
description_brief profile none =
    brief_if profile.description (and_parts (is_described profile.description) _ (not-false (fits_description profile) (all_pass (profile_tests profile) none).1.1.1.1.1.1.0)).0

-- ---- a reply

item_few : (s : StationIdentity) (at : SocketAddress) → length s.name ≤ 32 → length (identity_item s at) ≤ 72
unfolding identity_item item_head view_socket view_device view_product view_unit view_name
item_few s at few = omega (arith, length-append s.name (s.state ∷ []), few)

data_few : (inquiry_message : Inquiry) (s : StationIdentity) (at : SocketAddress) → length s.name ≤ 32 → length (inquiry_data inquiry_message s at) ≤ 72
data_few inquiry.Services s at few = omega arith
data_few inquiry.Identity s at few = item_few s at few
data_few inquiry.Interfaces s at few = omega arith

-- behind a header of 24 bytes
message_few : (m : MessageFields) → length m.payload ≤ 72 → length (message_text m) ≤ longest_reply
message_few m few =
    let header = fields_text header_widths (header_numbers m) in
    let front : length header ≡ 24 = refl in
    omega (arith, length-append header m.payload, front, few)

text_few : (s : StationIdentity) (at : SocketAddress) (found : Option InquiryMessage) → length s.name ≤ 32 → IfSome (option_map (inquiry_text s at) found) (λ text. length text ≤ longest_reply)
text_few s at None few = tt
text_few s at (Some inquiry_message) few = message_few (reply_message inquiry_message.1 (inquiry_data inquiry_message.0 s at)) (data_few inquiry_message.0 s at few)

-- a reply to an inquiry has at most so many bytes
abbrev pub RepliesBriefly : Option (List ℕ) → Type 0
RepliesBriefly reply = IfSome reply (λ text. length text ≤ longest_reply)

reply_few : (t : AdapterTable) (bytes : List ℕ) (found : Option Description) → IfSome found IsBrief → RepliesBriefly (inquiry_reply_of t bytes found)
reply_few t bytes None brief = tt
reply_few t bytes (Some d) brief = text_few (identity_of t d) (address_of t d) (inquiry_in bytes) brief.name

pub inquiry_reply_few : (t : AdapterTable) (bytes : List ℕ) → profile_fault t.profile ≡ None → RepliesBriefly (inquiry_reply t bytes)
unfolding inquiry_reply
inquiry_reply_few t bytes none = reply_few t bytes t.profile.description (description_brief t.profile none)
