-- What a text that was written can be read as: a success of an opening with its ids, and a request to open one.
use Rattle.std.proofs.Common.{◌≡◌, ◌⊎◌, inl, inr, ◌<◌, ℕ, zero, suc, get_or, ◌==◌, ltb, Bool, true, false, List, [], ◌∷◌, length, Option, Some, Result, Ok, Err, refl, sym, ◌∙◌, ap, subst, arith}
use Rattle.std.specs.Int.{w16, w32, w64, to_le_bytes, from_le_bytes}
use Rattle.std.proofs.lemmas.Nat.{le_bytes_8}
use Rattle.cip_fwdopen.specs.Close.{closed_text}
use Rattle.std.specs.Option.{option_map}
use Rattle.cip_types.specs.Fields.{fields_text}
use Rattle.cip_types.specs.Texts.{Found, whole as is_whole, found_image, Tailed, tail_found, fixed_found}
use Rattle.cip_encap.specs.declared.message.EncapFault.{EncapFault}
use Rattle.cip_encap.specs.declared.message.EncapFault.TheVariants as encap_fault
use Rattle.cip_encap.specs.Message.{MessageFields, header_widths, header_numbers, message_text}
use Rattle.cip_encap.specs.Reading as messages
use Rattle.cip_encap.specs.Reading.{message_reading}
use Rattle.cip_events.specs.declared.event.Reason.{Reason}
use Rattle.cip_fwdopen.specs.declared.reply.Opened.{Opened}
use Rattle.cip_fwdopen.specs.declared.reply.OpenAnswer.{OpenAnswer}
use Rattle.cip_fwdopen.specs.declared.reply.OpenAnswer.TheVariants as answer
use Rattle.cip_fwdopen.specs.Readings.{answer_of, seen}
use Rattle.cip_fwdopen.specs.Reply.{reply_service, opened_service, opened_widths, opened_numbers, opened_text, refused_text, intervals_text, extended_len, application_len, opened_of, opened_reading, answer_reading, with_answer, unread, unread_reading, reply_of, open_reply_reading}
use Rattle.cip_fwdopen.specs.Front.{parted}
use Rattle.cip_router.specs.Replies.{ReplyFields, opened, closed, object_reply, object_reply_text, own_reply_text, reply_text, no_route_text}
use Rattle.cip_router.specs.Replies as replies
use Rattle.scanner_table.specs.Replies.{reply_answer}
use Rattle.device_laws.specs.Ids.{RequestIds, ReplyIds, PayloadIds}
use Rattle.device_laws.specs.Lemmas.Texts.{either, cut, fields_cut, all_cut}
use Rattle.cip_router.specs.Requests.{router_request_reading}
use Rattle.device_laws.specs.Lemmas.Payloads.{OpensNone, AnswersNone, requests_none, replies_open_none, closed_ids, object_ids, refused_ids, unacceptable_ids, own_ids, own_refused_ids, front_bytes, no_route_ids}
use Rattle.device_laws.specs.Frames.{again, SuccessIs, ContextFits}

-- ---- a message that was written

-- where it reads, its command, context and data come back
pub record MessageBack (m : MessageFields) (read : MessageFields) : Type 0 where
  pub context : read.context ≡ again w64 m.context
  pub payload : read.payload ≡ m.payload

abbrev MessageReadSo : MessageFields → Result MessageFields EncapFault → Type 0
MessageReadSo m (Err why) = Unit {0}
MessageReadSo m (Ok read) = MessageBack m read

sized_so : (len : ℕ) (m read : MessageFields) → MessageBack m read → MessageReadSo m (messages.sized_reading len read)
sized_so len m read back =
    either (MessageReadSo m) (ltb (length read.payload) len) (Err encap_fault.Truncated) _ tt
    (either (MessageReadSo m) (ltb len (length read.payload)) (Err encap_fault.Trailing) (Ok read) tt back)

message_so : (m : MessageFields) → MessageReadSo m (message_reading (message_text m))
unfolding messages.message_reading
message_so m =
    subst (λ (found : Option Tailed). MessageReadSo m (messages.found_reading found)) (sym (fields_cut header_widths (header_numbers m) m.payload refl))
    (sized_so (again w16 (length m.payload)) m (record { command = again w16 m.command; session = again w32 m.session; status = again w32 m.status; context = again w64 m.context; options = again w32 m.options; payload = m.payload }) (record { context = refl; payload = refl }))

pub message_back : (m read : MessageFields) → message_reading (message_text m) ≡ Ok read → MessageBack m read
message_back m read is = subst (MessageReadSo m) is (message_so m)

-- ---- a sender context

byte_at : (n i : ℕ) → get_or (to_le_bytes w64 n) i 0 < 256
byte_at n zero = omega arith
byte_at n (suc zero) = omega arith
byte_at n (suc (suc zero)) = omega arith
byte_at n (suc (suc (suc zero))) = omega arith
byte_at n (suc (suc (suc (suc zero)))) = omega arith
byte_at n (suc (suc (suc (suc (suc zero))))) = omega arith
byte_at n (suc (suc (suc (suc (suc (suc zero)))))) = omega arith
byte_at n (suc (suc (suc (suc (suc (suc (suc zero))))))) = omega arith
byte_at n (suc (suc (suc (suc (suc (suc (suc (suc i)))))))) = omega arith

-- what a field brought back it brings back again
pub again_again : (n : ℕ) → again w64 (again w64 n) ≡ again w64 n
again_again n = ap (from_le_bytes w64) (le_bytes_8 (to_le_bytes w64 n) (again w64 n) refl (byte_at n) refl)

pub context_fits : (m : MessageFields) → ContextFits (message_text m)
context_fits m read is =
    let back : MessageBack m read = message_back m read is in
    ap (again w64) back.context ∙ again_again m.context ∙ sym back.context

-- ---- what a payload can be read as

-- it holds of each success that these bytes can be read as, and they are no request to open
pub record PayloadSays (Q : Opened → Type 0) (payload : List ℕ) : Type 0 where
  pub no_opening : RequestIds (λ id. ⊥) (router_request_reading payload)
  pub successes : (large : Bool) → SuccessIs Q (reply_answer large (open_reply_reading payload))

none_said : (Q : Opened → Type 0) (said : Result OpenAnswer Reason) → ReplyIds (λ id. ⊥) said → SuccessIs Q said
none_said Q (Err why) ids = tt
none_said Q (Ok (answer.Refused r)) ids = tt
none_said Q (Ok (answer.Opened o)) ids = absurd ids.0

pub payload_none : (Q : Opened → Type 0) (payload : List ℕ) → PayloadIds (λ id. ⊥) payload → PayloadSays Q payload
payload_none Q payload ids = record {
  no_opening = ids.requested;
  successes = λ large. none_said Q (reply_answer large (open_reply_reading payload)) (ids.replied large);
}

pub success_none : (Q : Opened → Type 0) (said : Result OpenAnswer Reason) → ReplyIds (λ id. ⊥) said → SuccessIs Q said
success_none Q said ids = none_said Q said ids

-- ids and packet intervals that come back as they were written
pub record IsReadBack (o read : Opened) : Type 0 where
  pub o_t_is : read.o_t_id.0 ≡ again w32 o.o_t_id.0
  pub t_o_is : read.t_o_id.0 ≡ again w32 o.t_o_id.0
  pub o_t_api_is : read.o_t_api_us ≡ again w32 o.o_t_api_us
  pub t_o_api_is : read.t_o_api_us ≡ again w32 o.t_o_api_us

opened_found : (Q : Opened → Type 0) (service : ℕ) (large : Bool) (found : Found Tailed) (p : Tailed) → found ≡ is_whole p → Q (opened_of p) → SuccessIs Q (reply_answer large (seen (with_answer service) (seen answer.Opened (answer_of (found_image opened_of found)))))
opened_found Q service large found p is holds = rw is (either (SuccessIs Q) (service == opened_service large) _ _ holds tt)

success_read : (Q : Opened → Type 0) (service : ℕ) (large : Bool) (o : Opened) → ((read : Opened) → IsReadBack o read → Q read) → SuccessIs Q (reply_answer large (seen (with_answer service) (seen answer.Opened (opened_reading (fields_text opened_widths (opened_numbers o 0 0))))))
success_read Q service large o holds =
    let numbers = cut opened_widths (opened_numbers o 0 0) in
    subst (λ (found : Option Tailed). SuccessIs Q (reply_answer large (seen (with_answer service) (seen answer.Opened (answer_of (found_image opened_of (fixed_found application_len found))))))) (sym (all_cut opened_widths (opened_numbers o 0 0) refl))
    (opened_found Q service large (tail_found (application_len numbers) (numbers, [])) (numbers, []) refl (holds (opened_of (numbers, [])) (record { o_t_is = refl; t_o_is = refl; o_t_api_is = refl; t_o_api_is = refl })))

success_front : (Q : Opened → Type 0) (service : ℕ) (large : Bool) (o : Opened) → ((read : Opened) → IsReadBack o read → Q read) → SuccessIs Q (reply_answer large (open_reply_reading (service ∷ 0 ∷ 0 ∷ 0 ∷ fields_text opened_widths (opened_numbers o 0 0))))
unfolding open_reply_reading unread_reading
success_front Q service large o holds =
    subst (λ (found : Option Tailed). SuccessIs Q (reply_answer large (reply_of with_answer answer_reading (option_map unread (parted extended_len found)))))
    (sym (front_bytes service 0 0 0 (fields_text opened_widths (opened_numbers o 0 0)))) (success_read Q service large o holds)

opened_requests_none : (large : Bool) → OpensNone (opened_service large)
opened_requests_none true = record { small = refl; large = refl }
opened_requests_none false = record { small = refl; large = refl }

-- the success of an opening has its two ids and its two packet intervals, each in its place
pub opened_says : (Q : Opened → Type 0) (large : Bool) (o : Opened) → ((read : Opened) → IsReadBack o read → Q read) → PayloadSays Q (opened_text large o)
unfolding opened_text
opened_says Q large o holds = record {
  no_opening = requests_none (λ id. ⊥) (opened_service large) _ (opened_requests_none large);
  successes = λ as_large. success_front Q (opened_service large) as_large o holds;
}

-- ---- what is replied to a request

-- a reply of a success is that of a connection with its ids and packet intervals
abbrev pub ReplyHolds : (Opened → Type 0) → ReplyFields → Type 0
ReplyHolds Q (opened large o) = (read : Opened) → IsReadBack o read → Q read
ReplyHolds Q (closed triad) = Unit {0}
ReplyHolds Q (object_reply by value) = Unit {0}
ReplyHolds Q (replies.refused service fault triad) = (fault.general == 0) ≡ false
ReplyHolds Q (replies.unacceptable service a triad) = Unit {0}
ReplyHolds Q (replies.own service general content) = AnswersNone (reply_service service) ⊎ ((general == 0) ≡ false)
ReplyHolds Q (replies.no_route words) = Unit {0}

-- the bytes of a reply are a success only where the reply is one
pub reply_says : (Q : Opened → Type 0) (reply : ReplyFields) → ReplyHolds Q reply → PayloadSays Q (reply_text reply)
reply_says Q (opened large o) holds = opened_says Q large o holds
reply_says Q (closed triad) holds = payload_none Q (closed_text triad) (closed_ids (λ id. ⊥) triad)
reply_says Q (object_reply by value) holds = payload_none Q (object_reply_text by value) (object_ids (λ id. ⊥) by value)
reply_says Q (replies.refused service fault triad) holds = payload_none Q (refused_text service fault triad) (refused_ids (λ id. ⊥) service fault triad holds)
reply_says Q (replies.unacceptable service a triad) holds = payload_none Q (intervals_text service a (Some triad)) (unacceptable_ids (λ id. ⊥) service a triad)
reply_says Q (replies.own service general content) (inl none) = payload_none Q (own_reply_text service general content) (own_ids (λ id. ⊥) service general content none)
reply_says Q (replies.own service general content) (inr fails) = payload_none Q (own_reply_text service general content) (own_refused_ids (λ id. ⊥) service general content fails)
reply_says Q (replies.no_route words) holds = payload_none Q (no_route_text words) (no_route_ids (λ id. ⊥) words)

-- ---- a reply of the application

none_opened : (said : Result OpenAnswer Reason) → SuccessIs (λ o. Unit {0}) said
none_opened (Err why) = tt
none_opened (Ok (answer.Refused r)) = tt
none_opened (Ok (answer.Opened o)) = tt

-- whatever it is, it is no request to open
pub own_opens_none : (service general : ℕ) (content : List ℕ) → PayloadSays (λ o. Unit {0}) (own_reply_text service general content)
unfolding own_reply_text
own_opens_none service general content = record {
  no_opening = requests_none (λ id. ⊥) (reply_service service) _ (replies_open_none service);
  successes = λ large. none_opened (reply_answer large (open_reply_reading (own_reply_text service general content)));
}
