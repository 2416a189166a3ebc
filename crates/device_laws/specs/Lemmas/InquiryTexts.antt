-- What the reply to an inquiry can be read as: a message without items, so it has no id.
use Rattle.std.proofs.Common.{◌≡◌, ℕ, ◌+◌, ◌==◌, ltb, false, List, [], ◌∷◌, ◌++◌, length, Option, Some, None, Err, refl, sym, subst, arith}
use Rattle.std.specs.Int.{w16, w32, from_le_bytes, to_le_bytes}
use Rattle.std.specs.Option.{IfSome, option_map}
use Rattle.std.proofs.lemmas.Bool.{le-ltb}
use Rattle.cip_types.specs.Fields.{field_at, fields_at, then_at}
use Rattle.cip_types.specs.Texts.{Tailed}
use Rattle.cip_encap.specs.Message.{MessageFields, message_text}
use Rattle.cip_encap.specs.AnyItems.{any_parts, any_found, are_items, behind_item, any_packet_reading}
use Rattle.cip_encap.specs.declared.packet.ItemFault.TheVariants.{Bad}
use Rattle.cip_encap.specs.declared.packet.SocketAddress.{SocketAddress}
use Rattle.list_identity.specs.declared.inquiry.Inquiry.{Inquiry}
use Rattle.list_identity.specs.declared.inquiry.Inquiry.TheVariants as inquiry
use Rattle.list_identity.specs.declared.station.StationIdentity.{StationIdentity}
use Rattle.list_identity.specs.Identity.{fixed_bytes, item_head, view_socket, view_device, view_name, identity_item}
use Rattle.list_identity.specs.Inquiries.{InquiryMessage, inquiry_in, inquiry_data, reply_message, inquiry_text}
use Rattle.adapter_table.specs.declared.profile.Description.{Description}
use Rattle.adapter_table.specs.declared.table.AdapterTable.{AdapterTable}
use Rattle.adapter_table.specs.Inquiries.{identity_of, address_of, inquiry_reply_of, inquiry_reply}
use Rattle.cip_router.specs.Frames.{services_text}
use Rattle.device_laws.specs.Ids.{PacketIds, FrameIds}
use Rattle.device_laws.specs.Lemmas.Texts.{message_ids}

-- ---- data that are no items

pub plain_services : any_packet_reading services_text ≡ Err Bad
unfolding any_packet_reading are_items behind_item
plain_services = refl

-- an interface handle that is not 0
parts_bad : (interface : ℕ) (numbers rest : List ℕ) → (interface == 0) ≡ false → any_parts (interface ∷ numbers) rest ≡ Err Bad
parts_bad interface (timeout ∷ count ∷ address ∷ address_len ∷ kind ∷ len ∷ []) rest other = rw other refl
parts_bad interface _ rest other = refl

front_bad : (interface : ℕ) (found : Option Tailed) → (interface == 0) ≡ false → any_found (then_at found (λ ns after. Some (interface ∷ ns, after))) ≡ Err Bad
front_bad interface None other = refl
front_bad interface (Some p) other = parts_bad interface p.0 p.1 other

-- the first number of 32 bits
first_four : (a b c d : ℕ) (rest : List ℕ) → field_at w32 (a ∷ b ∷ c ∷ d ∷ rest) ≡ Some (from_le_bytes w32 (a ∷ b ∷ c ∷ d ∷ []), rest)
first_four a b c d rest =
    let some : ltb (length (a ∷ b ∷ c ∷ d ∷ rest)) 4 ≡ false = le-ltb _ _ (omega arith) in
    rw some refl

-- what begins with an item type of 000C and a count of 1
counted_bad : (rest : List ℕ) → any_packet_reading (1 ∷ 0 ∷ 0x0C ∷ 0 ∷ rest) ≡ Err Bad
unfolding any_packet_reading
counted_bad rest =
    subst (λ (first : Option (ℕ × List ℕ)). any_found (then_at first (λ n after. then_at (fields_at (w16 ∷ w16 ∷ w16 ∷ w16 ∷ w16 ∷ w16 ∷ []) after) (λ ns more. Some (n ∷ ns, more)))) ≡ Err Bad)
    (sym (first_four 1 0 0x0C 0 rest)) (front_bad (from_le_bytes w32 (1 ∷ 0 ∷ 0x0C ∷ 0 ∷ [])) (fields_at (w16 ∷ w16 ∷ w16 ∷ w16 ∷ w16 ∷ w16 ∷ []) rest) refl)

item_bad : (s : StationIdentity) (at : SocketAddress) → any_packet_reading (identity_item s at) ≡ Err Bad
unfolding identity_item item_head
item_bad s at = counted_bad (to_le_bytes w16 (fixed_bytes + length s.name) ++ (to_le_bytes w16 1 ++ (view_socket at ++ (view_device s ++ view_name s))))

interfaces_bad : any_packet_reading (0 ∷ 0 ∷ []) ≡ Err Bad
unfolding any_packet_reading are_items behind_item
interfaces_bad = refl

data_bad : (question : Inquiry) (s : StationIdentity) (at : SocketAddress) → any_packet_reading (inquiry_data question s at) ≡ Err Bad
data_bad inquiry.Services s at = plain_services
data_bad inquiry.Identity s at = item_bad s at
data_bad inquiry.Interfaces s at = interfaces_bad

-- ---- the reply

-- the text of a message whose data are no items
pub record IsPlainText (text : List ℕ) : Type 0 where
  pub message : MessageFields
  pub is : text ≡ message_text message
  pub bad : any_packet_reading message.payload ≡ Err Bad

text_plain : (s : StationIdentity) (at : SocketAddress) (found : Option InquiryMessage) → IfSome (option_map (inquiry_text s at) found) IsPlainText
text_plain s at None = tt
text_plain s at (Some m) = record { message = reply_message m.1 (inquiry_data m.0 s at); is = refl; bad = data_bad m.0 s at }

reply_plain : (t : AdapterTable) (bytes : List ℕ) (found : Option Description) → IfSome (inquiry_reply_of t bytes found) IsPlainText
reply_plain t bytes None = tt
reply_plain t bytes (Some d) = text_plain (identity_of t d) (address_of t d) (inquiry_in bytes)

pub inquiry_plain : (t : AdapterTable) (bytes : List ℕ) → IfSome (inquiry_reply t bytes) IsPlainText
unfolding inquiry_reply
inquiry_plain t bytes = reply_plain t bytes t.profile.description

-- it has no id
pub plain_ids : (P : ℕ → Type 0) (text : List ℕ) → IsPlainText text → FrameIds P text
plain_ids P text plain =
    subst (FrameIds P) (sym plain.is) (message_ids P plain.message (subst (PacketIds P) (sym plain.bad) tt))
