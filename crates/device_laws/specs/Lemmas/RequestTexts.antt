-- What a scanner's request to open can be read as: each of its numbers comes back as its field cuts it, and so do its T->O type and
-- the id that it asks for.
use Rattle.std.proofs.Common.{◌≡◌, ◌⊎◌, inl, inr, ◌<◌, ◌≤◌, ℕ, ◌+◌, ◌*◌, ◌/◌, ◌%◌, ltb, Bool, true, false, List, [], ◌∷◌, length, map, Option, None, Result, Ok, Err, refl, sym, ◌∙◌, ap, subst, arith}
use Rattle.std.specs.Int.{w16, w32}
use Rattle.std.specs.List.{AllByRecursion}
use Rattle.std.proofs.lemmas.Nat.{from_le_bytes-to_le_bytes_2}
use Rattle.cip_types.specs.Texts.{Found, whole, short, long, found_image, Tailed, tail_found, fixed_found}
use Rattle.cip_netparams.specs.declared.NetParams.{NetParams}
use Rattle.cip_netparams.specs.declared.ConnectionType.TheVariants.{Multicast}
use Rattle.cip_netparams.specs.Word.{params16, params32, word16, word32, type_of}
use Rattle.cip_epath.specs.declared.fault.PathFault.{PathFault}
use Rattle.cip_epath.specs.declared.path.Target.{Target}
use Rattle.cip_fwdopen.specs.declared.fault.ReadFault.{ReadFault}
use Rattle.cip_fwdopen.specs.Close.{close_text}
use Rattle.cip_fwdopen.specs.Open.{OpenFields, open_widths, open_numbers, open_of, open_reading, open_text, params_of, params_width, params_word, path_len}
use Rattle.cip_fwdopen.specs.Readings.{answer_of}
use Rattle.cip_fwdopen.specs.Request.{with_target, request_of, request_reading}
use Rattle.cip_encap.specs.declared.packet.ItemFault.{ItemFault}
use Rattle.cip_encap.specs.Message.{message_text}
use Rattle.cip_encap.specs.Packet.{PacketFields}
use Rattle.cip_encap.specs.AnyItems.{any_packet_reading}
use Rattle.cip_encap.specs.Lemmas.AnyItemLemmas.{any_back}
use Rattle.cip_encap.specs.ReadsBack.{ItemsReadBack}
use Rattle.cip_router.specs.Requests.{RouterRequestFields, nothing, refused, object, request_to_open, request_to_manager, router_request_of, router_request_reading}
use Rattle.cip_router.specs.Requests as router
use Rattle.adapter_table.specs.Checks.{is_multicast}
use Rattle.cip_fwdopen.specs.Services.{open_service}
use Rattle.cip_types.specs.IdLaws.{ids_fit}
use Rattle.cip_types.specs.Ids.{are_blocks, id_at}
use Rattle.cip_types.specs.declared.ids.IdBlock.{IdBlock}
use Rattle.scanner_table.specs.Requests.{Request, registering, opening, closing, requesting, Sent, manager_text, slot_params, sent_message, sent_frame}
use Rattle.device_laws.specs.Frames.{OpeningsAre}
use Rattle.device_laws.specs.Ids.{RequestIds}
use Rattle.answer_sizes.specs.Sizes.{IsShortFrame}
use Rattle.device_laws.specs.Lemmas.AdapterIds.{plain_protocol, few_bytes}
use Rattle.device_laws.specs.Lemmas.ExplicitRequests.{IsExplicit, explicit_ids, explicit_some}
use Rattle.device_laws.specs.Lemmas.Payloads.{close_request_ids, manager_path, manager_front}
use Rattle.device_laws.specs.Lemmas.Texts.{either, again, cut, fields_cut, same_again}
use Rattle.device_laws.specs.OwnIds.{IsDrawnId, AsksOwnId, FrameAsks}
use Rattle.device_laws.specs.Lemmas.ReplyTexts.{MessageBack, message_back}

-- ---- a request as it is read

-- it holds of the request to open, where the request is one
abbrev pub RequestOpens : (OpenFields → Type 0) → RouterRequestFields → Type 0
RequestOpens Q nothing = Unit {0}
RequestOpens Q (refused service why) = Unit {0}
RequestOpens Q (router.closing request) = Unit {0}
RequestOpens Q (object service class instance attribute body) = Unit {0}
RequestOpens Q (router.opening large request) = Q request

abbrev pub PacketOpens : (OpenFields → Type 0) → Result PacketFields ItemFault → Type 0
PacketOpens Q (Err fault) = Unit {0}
PacketOpens Q (Ok packet) = RequestOpens Q (router_request_reading packet.payload)

opens_none : (Q : OpenFields → Type 0) (requested : RouterRequestFields) → RequestIds (λ id. ⊥) requested → RequestOpens Q requested
opens_none Q nothing none = tt
opens_none Q (refused service why) none = tt
opens_none Q (router.closing request) none = tt
opens_none Q (object service class instance attribute body) none = tt
opens_none Q (router.opening large request) none = absurd none

abbrev ReadSo : (OpenFields → Type 0) → Result OpenFields ReadFault → Type 0
ReadSo Q (Ok request) = Q request
ReadSo Q (Err fault) = Unit {0}

requests_so : (Q : OpenFields → Type 0) (service : ℕ) (large : Bool) (reading : Result OpenFields ReadFault) → ReadSo Q reading → RequestOpens Q (request_to_open service large reading)
requests_so Q service large (Ok request) holds = holds
requests_so Q service large (Err fault) holds = tt

open_found : (Q : OpenFields → Type 0) (large : Bool) (len : ℕ) (p : Tailed) → Q (open_of large p) → ReadSo Q (answer_of (found_image (open_of large) (tail_found len p)))
open_found Q large len p holds =
    either (λ (f : Found Tailed). ReadSo Q (answer_of (found_image (open_of large) f))) (ltb (length p.1) len) short _ tt
    (either (λ (f : Found Tailed). ReadSo Q (answer_of (found_image (open_of large) f))) (ltb len (length p.1)) long (whole p) tt holds)

-- the request, each number as its field brings it back
abbrev pub read_back : Bool → OpenFields → OpenFields
read_back large request = open_of large (cut (open_widths large) (open_numbers large request), request.path)

open_read : (Q : OpenFields → Type 0) (large : Bool) (request : OpenFields) → Q (read_back large request) → ReadSo Q (open_reading large (open_text large request))
unfolding open_reading open_text
open_read Q large request holds =
    let numbers = cut (open_widths large) (open_numbers large request) in
    subst (λ (found : Option Tailed). ReadSo Q (answer_of (found_image (open_of large) (fixed_found path_len found)))) (sym (fields_cut (open_widths large) (open_numbers large request) request.path refl))
    (open_found Q large _ (numbers, request.path) holds)

requested_of_manager : (Q : OpenFields → Type 0) (service : ℕ) (body : List ℕ) → RequestOpens Q (request_to_manager service None body) → RequestOpens Q (router_request_reading (service ∷ 2 ∷ 0x20 ∷ 6 ∷ 0x24 ∷ 1 ∷ body))
unfolding router_request_reading request_reading
requested_of_manager Q service body holds =
    subst (λ (f : Option (Tailed × List ℕ)). RequestOpens Q (router_request_of service (request_of f))) (sym (manager_front service body))
    (subst (λ (r : Result Target PathFault). RequestOpens Q (router_request_of service (with_target service body r))) (sym manager_path) holds)

payload_opens : (Q : OpenFields → Type 0) (large : Bool) (request : OpenFields) → Q (read_back large request) → RequestOpens Q (router_request_reading (manager_text (open_service large) (open_text large request)))
payload_opens Q true request holds = requested_of_manager Q 0x5B (open_text true request) (requests_so Q 0x5B true (open_reading true (open_text true request)) (open_read Q true request holds))
payload_opens Q false request holds = requested_of_manager Q 0x54 (open_text false request) (requests_so Q 0x54 false (open_reading false (open_text false request)) (open_read Q false request holds))

-- it holds of the request as it is read, if it is one to open
abbrev pub HoldsAsRead : (OpenFields → Type 0) → Request → Type 0
HoldsAsRead Q registering = Unit {0}
HoldsAsRead Q (opening large request) = Q (read_back large request)
HoldsAsRead Q (closing request) = Unit {0}
HoldsAsRead Q (requesting bytes) = IsExplicit bytes

pub packet_opens : ItemsReadBack → (Q : OpenFields → Type 0) (sent : Sent) (request : Request) → sent.request ≡ request → HoldsAsRead Q request → length (message_text (sent_message sent)) ≤ 2048 → PacketOpens Q (any_packet_reading (sent_message sent).payload)
packet_opens back Q sent registering is holds few = rw is (subst (PacketOpens Q) (sym plain_protocol) tt)
packet_opens back Q sent (opening large fields) is holds few =
    let body = manager_text (open_service large) (open_text large fields) in
    rw is (subst (PacketOpens Q) (sym (any_back back body None (omega arith) (few_bytes (sent_message sent) body None (rw is refl) few))) (payload_opens Q large fields holds))
packet_opens back Q sent (closing fields) is holds few =
    let body = manager_text 0x4E (close_text fields) in
    let none = close_request_ids (λ id. ⊥) (close_text fields) in
    rw is (subst (PacketOpens Q) (sym (any_back back body None (omega arith) (few_bytes (sent_message sent) body None (rw is refl) few)))
    (opens_none Q (router_request_reading body) none.requested))
packet_opens back Q sent (requesting bytes) is explicit few =
    let none = explicit_ids (λ id. ⊥) bytes explicit in
    rw is (subst (PacketOpens Q) (sym (any_back back bytes None (explicit_some bytes explicit) (few_bytes (sent_message sent) bytes None (rw is refl) few)))
    (opens_none Q (router_request_reading bytes) none.requested))

-- ---- the T->O type and id

pub type_16 : (size code : ℕ) → size < 512 → code < 4 → (size + 2048 + 8192 * code) / 8192 % 4 ≡ code
type_16 size code small few = omega (arith, small, few)

pub type_32 : (size code : ℕ) → size < 65536 → code < 4 → (size + 134217728 + 536870912 * code) / 536870912 % 4 ≡ code
type_32 size code small few = omega (arith, small, few)

-- the size fits the parameters
abbrev pub SizeFits : Bool → ℕ → Type 0
SizeFits true size = size < 65536
SizeFits false size = size < 512

multicast_back : (large : Bool) (size : ℕ) → SizeFits large size → is_multicast (params_of large (again (params_width large) (params_word large (slot_params size Multicast)))).kind ≡ true
unfolding params16 params32
multicast_back true size fits =
    let word : ℕ = word32 (slot_params size Multicast) 0 0 in
    let is : word32 (slot_params size Multicast) 0 0 ≡ size + 134217728 + 536870912 * 1 = omega arith in
    let back : again w32 (word32 (slot_params size Multicast) 0 0) ≡ size + 134217728 + 536870912 * 1 = same_again (word32 (slot_params size Multicast) 0 0) (omega (arith, fits)) ∙ is in
    ap (λ (n : ℕ). is_multicast (type_of (n / 536870912 % 4))) back ∙ ap (λ (n : ℕ). is_multicast (type_of n)) (type_32 size 1 fits (omega arith))
multicast_back false size fits =
    let is : word16 (slot_params size Multicast) 0 ≡ size + 2048 + 8192 * 1 = omega arith in
    let back : again w16 (word16 (slot_params size Multicast) 0) ≡ size + 2048 + 8192 * 1 = from_le_bytes-to_le_bytes_2 (word16 (slot_params size Multicast) 0) (omega (arith, fits)) ∙ is in
    ap (λ (n : ℕ). is_multicast (type_of (n / 8192 % 4))) back ∙ ap (λ (n : ℕ). is_multicast (type_of n)) (type_16 size 1 fits (omega arith))

-- the request is multicast, or asks for an id of the blocks
pub record IsMulticast (large : Bool) (request : OpenFields) : Type 0 where
  pub size : ℕ
  pub fits : SizeFits large size
  pub params : request.t_o_params ≡ slot_params size Multicast

abbrev pub RequestAsks : List IdBlock → Request → Type 0
RequestAsks ids registering = Unit {0}
RequestAsks ids (opening large request) = IsMulticast large request ⊎ IsDrawnId ids request.t_o_id.0
RequestAsks ids (closing request) = Unit {0}
RequestAsks ids (requesting bytes) = IsExplicit bytes

abbrev pub SentAsks : List IdBlock → Sent → Type 0
SentAsks ids sent = RequestAsks ids sent.request

id_fits : (ids : List IdBlock) → are_blocks ids ≡ true → (id : ℕ) → (own : IsDrawnId ids id) → (id_at ids own.number).0 < 4294967296
id_fits ids are id own = let ends = own.ends in (ids_fit ids own.number are own.begins (omega (arith, ends))).1

asks_back : (ids : List IdBlock) (large : Bool) (request : OpenFields) → are_blocks ids ≡ true → IsMulticast large request ⊎ IsDrawnId ids request.t_o_id.0 → AsksOwnId ids (read_back large request)
asks_back ids true request are (inl m) =
    inl (ap (λ (p : NetParams). is_multicast (params_of true (again (params_width true) (params_word true p))).kind) m.params ∙ multicast_back true m.size m.fits)
asks_back ids false request are (inl m) =
    inl (ap (λ (p : NetParams). is_multicast (params_of false (again (params_width false) (params_word false p))).kind) m.params ∙ multicast_back false m.size m.fits)
asks_back ids true request are (inr own) =
    inr (record { number = own.number; is = ap (again w32) own.is ∙ same_again (id_at ids own.number).0 (id_fits ids are request.t_o_id.0 own); begins = own.begins; ends = own.ends })
asks_back ids false request are (inr own) =
    inr (record { number = own.number; is = ap (again w32) own.is ∙ same_again (id_at ids own.number).0 (id_fits ids are request.t_o_id.0 own); begins = own.begins; ends = own.ends })

-- ---- a frame

holds_requested : (ids : List IdBlock) → are_blocks ids ≡ true → (request : Request) → RequestAsks ids request → HoldsAsRead (AsksOwnId ids) request
holds_requested ids are registering asks = tt
holds_requested ids are (opening large fields) asks = asks_back ids large fields are asks
holds_requested ids are (closing fields) asks = tt
holds_requested ids are (requesting bytes) asks = asks

-- what holds of the request as it is read, holds of each opening that the frame can be read as
pub frame_opens : ItemsReadBack → (Q : OpenFields → Type 0) (sent : Sent) → HoldsAsRead Q sent.request → length (message_text (sent_message sent)) ≤ 2048 → OpeningsAre Q (sent_frame sent).bytes
frame_opens back Q sent holds few request is =
    let same : MessageBack (sent_message sent) is.message = message_back (sent_message sent) is.message is.reads in
    let packet : PacketOpens Q (Ok is.packet) = subst (PacketOpens Q) (ap any_packet_reading (sym same.payload) ∙ is.packet_is) (packet_opens back Q sent sent.request refl holds few) in
    subst (RequestOpens Q) is.opens packet

frame_asks : ItemsReadBack → (ids : List IdBlock) → are_blocks ids ≡ true → (sent : Sent) → SentAsks ids sent → length (message_text (sent_message sent)) ≤ 2048 → FrameAsks ids (sent_frame sent)
frame_asks back ids are sent asks few = frame_opens back (AsksOwnId ids) sent (holds_requested ids are sent.request asks) few

pub requests_ask : ItemsReadBack → (ids : List IdBlock) → are_blocks ids ≡ true → (requests : List Sent) → AllByRecursion (SentAsks ids) requests → AllByRecursion IsShortFrame (map sent_frame requests) → AllByRecursion (FrameAsks ids) (map sent_frame requests)
requests_ask back ids are [] asks few = tt
requests_ask back ids are (request ∷ requests) asks few = (frame_asks back ids are request asks.0 few.0, requests_ask back ids are requests asks.1 few.1)
