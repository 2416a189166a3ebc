-- Texts that devices send are plain.
use Rattle.std.proofs.Common.{◌≡◌, ◌≤◌, ◌<◌, ℕ, ◌+◌, ◌==◌, ltb, Bool, true, false, List, [], ◌∷◌, length, take, drop, Option, Some, None, Result, Ok, Err, refl, sym, subst, arith, ne_eqb}
use Rattle.std.proofs.lemmas.Bool.{le-ltb, eqb-false}
use Rattle.std.specs.Int.{w8}
use Rattle.std.specs.Option.{option_map}
use Rattle.cip_types.specs.Fields.{fields_at, then_at}
use Rattle.cip_types.specs.Texts.{Found, whole, short, long, found_image, Tailed, tail_found, fixed_found}
use Rattle.cip_encap.specs.declared.packet.ItemFault.TheVariants.{Bad}
use Rattle.cip_encap.specs.declared.packet.SocketAddress.{SocketAddress}
use Rattle.cip_encap.specs.declared.message.EncapFault.{EncapFault}
use Rattle.cip_encap.specs.Message.{MessageFields, message_text}
use Rattle.cip_encap.specs.Packet.{packet_text}
use Rattle.cip_encap.specs.AnyItems.{any_packet_reading}
use Rattle.cip_encap.specs.Reading.{message_reading}
use Rattle.cip_encap.specs.ReadsBack.{ItemsReadBack}
use Rattle.cip_encap.specs.Lemmas.AnyItemLemmas.{any_back}
use Rattle.cip_epath.specs.declared.fault.PathFault.{PathFault}
use Rattle.cip_epath.specs.declared.path.Target.{Target}
use Rattle.cip_epath.specs.Reading.{target_reading, segments_at}
use Rattle.cip_fwdopen.specs.declared.fault.ReadFault.{ReadFault}
use Rattle.cip_fwdopen.specs.Close.{CloseFields, close_reading, closed_text}
use Rattle.cip_fwdopen.specs.Front.{parted, front_at}
use Rattle.cip_fwdopen.specs.Open.{OpenFields, open_widths, path_len, open_of, open_reading, open_numbers, open_text}
use Rattle.cip_fwdopen.specs.Readings.{answer_of}
use Rattle.cip_fwdopen.specs.Reply.{reply_service, opened_text, refused_text, intervals_text}
use Rattle.cip_fwdopen.specs.Services.{open_service}
use Rattle.cip_fwdopen.specs.Request.{request_widths, request_path_len, with_target, request_of, request_reading}
use Rattle.cip_netparams.specs.Word.{is_message_trigger}
use Rattle.cip_router.specs.Frames.{RequestHeader, FrameReply, services, registered, other_version, router_reply, connected, socket_of, reply_message}
use Rattle.cip_router.specs.Frames as frames
use Rattle.cip_router.specs.Replies.{ReplyFields, opened, closed, object_reply, unacceptable, own, object_reply_text, own_reply_text, reply_text}
use Rattle.cip_router.specs.Replies as replies
use Rattle.cip_router.specs.Requests.{object, is_manager, request_to_open, request_to_close, request_to_manager, router_request_of, router_request_reading}
use Rattle.scanner_table.specs.Requests.{manager_text}
use Rattle.device_laws.specs.Lemmas.AdapterIds.{few_bytes, plain_protocol, plain_none, some_bytes}
use Rattle.device_laws.specs.Lemmas.ConnectedTexts.{connected_bad}
use Rattle.device_laws.specs.Lemmas.InquiryTexts.{plain_services}
use Rattle.device_laws.specs.Lemmas.Payloads.{OpensNone, first_byte, manager_path, manager_front}
use Rattle.device_laws.specs.Lemmas.ReplyTexts.{MessageBack, message_back}
use Rattle.device_laws.specs.Lemmas.Texts.{either, cut, fields_cut}
use Rattle.device_laws.specs.Plain.{IsPlainRequest, PlainPacket, PlainMessage, IsPlainFrame}
use Rattle.device_laws.specs.Replies.{IsPlainService}

-- ---- requests to the Connection Manager

of_manager : (service : ℕ) (body : List ℕ) → IsPlainRequest (request_to_manager service None body) → IsPlainRequest (router_request_reading (service ∷ 2 ∷ 0x20 ∷ 6 ∷ 0x24 ∷ 1 ∷ body))
unfolding router_request_reading request_reading
of_manager service body plain =
    subst (λ (f : Option (Tailed × List ℕ)). IsPlainRequest (router_request_of service (request_of f))) (sym (manager_front service body))
    (subst (λ (r : Result Target PathFault). IsPlainRequest (router_request_of service (with_target service body r))) (sym manager_path) plain)

abbrev OpensPlainly : Result OpenFields ReadFault → Type 0
OpensPlainly (Ok request) = is_message_trigger request.trigger ≡ false
OpensPlainly (Err fault) = Unit {0}

open_plain : (service : ℕ) (large : Bool) (reading : Result OpenFields ReadFault) → OpensPlainly reading → IsPlainRequest (request_to_open service large reading)
open_plain service large (Ok request) plain = plain
open_plain service large (Err fault) plain = tt

open_found : (large : Bool) (len : ℕ) (p : Tailed) → is_message_trigger (open_of large p).trigger ≡ false → OpensPlainly (answer_of (found_image (open_of large) (tail_found len p)))
open_found large len p plain =
    either (λ (f : Found Tailed). OpensPlainly (answer_of (found_image (open_of large) f))) (ltb (length p.1) len) short _ tt
    (either (λ (f : Found Tailed). OpensPlainly (answer_of (found_image (open_of large) f))) (ltb len (length p.1)) long (whole p) tt plain)

open_read : (large : Bool) (request : OpenFields) → is_message_trigger (open_of large (cut (open_widths large) (open_numbers large request), request.path)).trigger ≡ false → OpensPlainly (open_reading large (open_text large request))
unfolding open_reading open_text
open_read large request plain =
    subst (λ (found : Option Tailed). OpensPlainly (answer_of (found_image (open_of large) (fixed_found path_len found)))) (sym (fields_cut (open_widths large) (open_numbers large request) request.path refl))
    (open_found large _ (cut (open_widths large) (open_numbers large request), request.path) plain)

pub plain_open : (large : Bool) (request : OpenFields) → is_message_trigger (open_of large (cut (open_widths large) (open_numbers large request), request.path)).trigger ≡ false → IsPlainRequest (router_request_reading (manager_text (open_service large) (open_text large request)))
plain_open true request plain = of_manager 0x5B (open_text true request) (open_plain 0x5B true (open_reading true (open_text true request)) (open_read true request plain))
plain_open false request plain = of_manager 0x54 (open_text false request) (open_plain 0x54 false (open_reading false (open_text false request)) (open_read false request plain))

close_plain : (service : ℕ) (reading : Result CloseFields ReadFault) → IsPlainRequest (request_to_close service reading)
close_plain service (Ok request) = tt
close_plain service (Err fault) = tt

pub plain_close : (body : List ℕ) → IsPlainRequest (router_request_reading (manager_text 0x4E body))
plain_close body = of_manager 0x4E body (close_plain 0x4E (close_reading body))

-- ---- other requests

plain_low : (service m : ℕ) → service < 128 → m < 128 → (service == m) ≡ false → (reply_service service == 128 + m) ≡ false
plain_low service m low small other = ne_eqb _ _ (λ same. eqb-false service m other (omega (arith, same, low, small)))

-- the services of requests that open none
pub plain_service : (service : ℕ) → service < 128 → OpensNone service → IsPlainService service
plain_service service low none = record { small = plain_low service 0x54 low (omega arith) none.small; large = plain_low service 0x5B low (omega arith) none.large }

manager_plain : (service : ℕ) (attribute : Option ℕ) (body : List ℕ) → OpensNone service → IsPlainService service → IsPlainRequest (request_to_manager service attribute body)
manager_plain service attribute body none plain =
    rw (none.small, none.large)
    (either IsPlainRequest (service == 0x4E) (request_to_close service (close_reading body)) _ (close_plain service (close_reading body))
    (either IsPlainRequest (service == 0x52) (object service 6 1 None body) (object service 6 1 attribute body) plain plain))

target_plain : (service : ℕ) (body : List ℕ) (reading : Result Target PathFault) → OpensNone service → IsPlainService service → IsPlainRequest (router_request_of service (with_target service body reading))
target_plain service body (Err fault) none plain = tt
target_plain service body (Ok target) none plain = either IsPlainRequest (is_manager target) (request_to_manager service target.attribute body) _ (manager_plain service target.attribute body none plain) plain

front_plain : (service : ℕ) (r : Option (List ℕ × List ℕ)) → OpensNone service → IsPlainService service → IsPlainRequest (router_request_of service (request_of (parted request_path_len (then_at r (λ ns after. Some (service ∷ ns, after))))))
front_plain service None none plain = tt
front_plain service (Some x) none plain =
    either (λ (f : Option (Tailed × List ℕ)). IsPlainRequest (router_request_of service (request_of f))) (ltb (length x.1) (request_path_len (service ∷ x.0))) None
    (Some ((service ∷ x.0, take (request_path_len (service ∷ x.0)) x.1), drop (request_path_len (service ∷ x.0)) x.1)) tt
    (target_plain service (drop (request_path_len (service ∷ x.0)) x.1) (target_reading (take (request_path_len (service ∷ x.0)) x.1)) none plain)

pub plain_request : (service : ℕ) (rest : List ℕ) → OpensNone service → IsPlainService service → IsPlainRequest (router_request_reading (service ∷ rest))
unfolding router_request_reading request_reading
plain_request service rest none plain =
    subst (λ (first : Option (ℕ × List ℕ)). IsPlainRequest (router_request_of service (request_of (parted request_path_len (then_at first (λ n more. then_at (fields_at (w8 ∷ []) more) (λ ns after. Some (n ∷ ns, after))))))))
    (sym (first_byte service rest)) (front_plain service (fields_at (w8 ∷ []) rest) none plain)

-- ---- replies, which have no path where a request has one

pathless : (service : ℕ) (body : List ℕ) → IsPlainRequest (router_request_of service (with_target service body (target_reading [])))
unfolding target_reading segments_at
pathless service body = tt

none_taken : (xs : List ℕ) → take 0 xs ≡ []
none_taken [] = refl
none_taken (x ∷ xs) = refl

empty_front : (service : ℕ) (body : List ℕ) → front_at request_widths request_path_len (service ∷ 0 ∷ body) ≡ Some ((service ∷ 0 ∷ [], take 0 body), drop 0 body)
empty_front service body =
    let some : ltb (length body) 0 ≡ false = le-ltb _ _ (omega arith) in
    rw (first_byte service (0 ∷ body), first_byte 0 body, some) refl

empty_plain : (service : ℕ) (path body : List ℕ) → path ≡ [] → IsPlainRequest (router_request_of service (with_target service body (target_reading path)))
empty_plain service path body is = subst (λ (p : List ℕ). IsPlainRequest (router_request_of service (with_target service body (target_reading p)))) (sym is) (pathless service body)

pub plain_reply : (service : ℕ) (rest : List ℕ) → IsPlainRequest (router_request_reading (service ∷ 0 ∷ rest))
unfolding router_request_reading request_reading
plain_reply service rest =
    subst (λ (f : Option (Tailed × List ℕ)). IsPlainRequest (router_request_of service (request_of f))) (sym (empty_front service rest))
    (empty_plain service (take 0 rest) (drop 0 rest) (none_taken rest))

reply_plain : (reply : ReplyFields) → IsPlainRequest (router_request_reading (reply_text reply))
unfolding opened_text closed_text object_reply_text refused_text own_reply_text intervals_text
reply_plain (opened large o) = plain_reply _ _
reply_plain (closed triad) = plain_reply _ _
reply_plain (object_reply by value) = plain_reply _ _
reply_plain (replies.refused service fault triad) = plain_reply _ _
reply_plain (unacceptable service a triad) = plain_reply _ _
reply_plain (own service general content) = plain_reply _ _
reply_plain (replies.no_route words) = plain_reply _ _

-- ---- frames

pub packet_plain : ItemsReadBack → (payload : List ℕ) (socket : Option SocketAddress) → 1 ≤ length payload → length payload ≤ 65535 → IsPlainRequest (router_request_reading payload) → PlainPacket (any_packet_reading (packet_text payload socket))
packet_plain back payload socket some few plain = subst PlainPacket (sym (any_back back payload socket some few)) plain

pub bad_plain : (payload : List ℕ) → any_packet_reading payload ≡ Err Bad → PlainPacket (any_packet_reading payload)
bad_plain payload is = subst PlainPacket (sym is) tt

read_plain : (m : MessageFields) (reading : Result MessageFields EncapFault) → message_reading (message_text m) ≡ reading → PlainPacket (any_packet_reading m.payload) → PlainMessage reading
read_plain m (Err fault) is plain = tt
read_plain m (Ok read) is plain =
    let same : MessageBack m read = message_back m read is in
    subst (λ (payload : List ℕ). PlainPacket (any_packet_reading payload)) (sym same.payload) plain

pub message_plain : (m : MessageFields) → PlainPacket (any_packet_reading m.payload) → IsPlainFrame (message_text m)
message_plain m plain = read_plain m (message_reading (message_text m)) refl plain

-- a reply over a stream
pub frame_reply_plain : ItemsReadBack → (echo : RequestHeader) (reply : FrameReply) → length (message_text (reply_message echo reply)) ≤ 2048 → IsPlainFrame (message_text (reply_message echo reply))
frame_reply_plain back echo (router_reply reply address) few =
    message_plain (reply_message echo (router_reply reply address))
    (packet_plain back (reply_text reply) (option_map socket_of address) (some_bytes reply) (few_bytes (reply_message echo (router_reply reply address)) (reply_text reply) (option_map socket_of address) refl few) (reply_plain reply))
frame_reply_plain back echo services few = message_plain (reply_message echo services) (bad_plain _ plain_services)
frame_reply_plain back echo (registered session) few = message_plain (reply_message echo (registered session)) (bad_plain _ plain_protocol)
frame_reply_plain back echo other_version few = message_plain (reply_message echo other_version) (bad_plain _ plain_protocol)
frame_reply_plain back echo (frames.refused why) few = message_plain (reply_message echo (frames.refused why)) (bad_plain _ plain_none)
frame_reply_plain back echo (connected connection count text) few = message_plain (reply_message echo (connected connection count text)) (bad_plain _ (connected_bad connection count text))
