-- The ids in requests and replies as they are read: a request to open has the T->O id that it requests, its successful
-- reply has both ids, and nothing else has any.
use Rattle.std.proofs.Common.{◌≡◌, ◌<◌, ℕ, ◌==◌, ltb, Bool, true, false, cond, List, [], ◌∷◌, ◌++◌, length, take, drop, slice_index, Option, Some, None, Result, Ok, Err, refl, sym, subst, arith}
use Rattle.std.specs.Int.{w8, w32, from_le_bytes}
use Rattle.std.specs.Option.{option_map}
use Rattle.std.proofs.lemmas.Bool.{le-ltb}
use Rattle.std.proofs.lemmas.Bool.Decides.{nat_tests}
use Rattle.cip_types.specs.declared.names.Fault.{Fault}
use Rattle.cip_types.specs.declared.names.Triad.{Triad}
use Rattle.cip_types.specs.Fields.{fields_text, field_at, fields_at, then_at}
use Rattle.cip_types.specs.Texts.{Found, whole, short, long, found_image, Tailed, tail_found, fixed_found}
use Rattle.cip_epath.specs.declared.fault.PathFault.{PathFault}
use Rattle.cip_epath.specs.declared.path.Target.{Target}
use Rattle.cip_epath.specs.Reading.{target_reading, segments_at, segment_at, logical_at, value_at}
use Rattle.cip_fwdopen.specs.declared.fault.ReadFault.{ReadFault}
use Rattle.cip_fwdopen.specs.declared.reply.Opened.{Opened}
use Rattle.cip_fwdopen.specs.declared.reply.OpenAnswer.{OpenAnswer}
use Rattle.cip_fwdopen.specs.declared.reply.OpenAnswer.TheVariants as answer
use Rattle.cip_fwdopen.specs.Readings.{answer_of, seen}
use Rattle.cip_fwdopen.specs.Front.{parted, front_at}
use Rattle.cip_fwdopen.specs.Request.{request_widths, request_path_len, with_target, request_of, request_reading}
use Rattle.cip_fwdopen.specs.Open.{OpenFields, open_widths, path_len, open_of, open_reading, open_numbers, open_text}
use Rattle.cip_fwdopen.specs.Close.{CloseFields, close_reading, closed_text}
use Rattle.cip_fwdopen.specs.declared.reply.AcceptableIntervals.{AcceptableIntervals}
use Rattle.cip_fwdopen.specs.Reply.{reply_service, opened_service, opened_widths, opened_numbers, opened_text, extended_text, failure_text, refused_text, intervals_words, intervals_text, reply_widths, extended_len, fault_of, application_len, opened_of, failure_reading, opened_reading, refused_by, answer_reading, with_answer, unread, unread_reading, reply_of, open_reply_reading}
use Rattle.cip_router.specs.Requests.{request_to_open, request_to_close, request_to_manager, is_manager, router_request_of, router_request_reading, object}
use Rattle.cip_router.specs.declared.object_service.ObjectService.{ObjectService}
use Rattle.cip_router.specs.declared.object_service.ObjectService.TheVariants as object_service
use Rattle.cip_router.specs.Replies.{no_route_text, object_reply_text, object_service_code, own_reply_text}
use Rattle.scanner_table.specs.Requests.{manager, manager_text}
use Rattle.scanner_table.specs.Replies.{serviced, reply_answer}
use Rattle.device_laws.specs.Ids.{RequestIds, ReplyIds, PayloadIds}
use Rattle.device_laws.specs.Lemmas.Texts.{either, again, cut, fields_cut, all_cut}

-- ---- requests

-- not a service that opens
pub record OpensNone (service : ℕ) : Type 0 where
  pub small : (service == 0x54) ≡ false
  pub large : (service == 0x5B) ≡ false

requested_manager_ids : (P : ℕ → Type 0) (service : ℕ) (attribute : Option ℕ) (body : List ℕ) → OpensNone service → RequestIds P (request_to_manager service attribute body)
requested_manager_ids P service attribute body none =
    rw (none.small, none.large)
    (either (RequestIds P) (service == 0x4E) (request_to_close service (close_reading body)) _ (closes (close_reading body))
    (either (RequestIds P) (service == 0x52) (object service 6 1 None body) (object service 6 1 attribute body) tt tt))
  where
    closes : (reading : Result CloseFields ReadFault) → RequestIds P (request_to_close service reading)
    closes (Ok request) = tt
    closes (Err fault) = tt

requested_of_ids : (P : ℕ → Type 0) (service : ℕ) (body : List ℕ) (reading : Result Target PathFault) → OpensNone service → RequestIds P (router_request_of service (with_target service body reading))
requested_of_ids P service body (Err fault) none = tt
requested_of_ids P service body (Ok target) none =
    either (RequestIds P) (is_manager target) (request_to_manager service target.attribute body) _ (requested_manager_ids P service target.attribute body none) tt

requested_front_ids : (P : ℕ → Type 0) (service : ℕ) (r : Option (List ℕ × List ℕ)) → OpensNone service → RequestIds P (router_request_of service (request_of (parted request_path_len (then_at r (λ ns after. Some (service ∷ ns, after))))))
requested_front_ids P service None none = tt
requested_front_ids P service (Some x) none =
    either (λ (f : Option (Tailed × List ℕ)). RequestIds P (router_request_of service (request_of f))) (ltb (length x.1) (request_path_len (service ∷ x.0))) None
    (Some ((service ∷ x.0, take (request_path_len (service ∷ x.0)) x.1), drop (request_path_len (service ∷ x.0)) x.1)) tt
    (requested_of_ids P service (drop (request_path_len (service ∷ x.0)) x.1) (target_reading (take (request_path_len (service ∷ x.0)) x.1)) none)

pub first_byte : (n : ℕ) (rest : List ℕ) → field_at w8 (n ∷ rest) ≡ Some (n, rest)
first_byte n rest =
    let some : ltb (length (n ∷ rest)) 1 ≡ false = le-ltb _ _ (omega arith) in
    let same : from_le_bytes w8 (n ∷ []) ≡ n = omega arith in
    rw (some, same) refl

-- a text that begins with another service requests no connection
pub requests_none : (P : ℕ → Type 0) (service : ℕ) (rest : List ℕ) → OpensNone service → RequestIds P (router_request_reading (service ∷ rest))
unfolding router_request_reading request_reading
requests_none P service rest none =
    subst (λ (first : Option (ℕ × List ℕ)). RequestIds P (router_request_of service (request_of (parted request_path_len (then_at first (λ n more. then_at (fields_at (w8 ∷ []) more) (λ ns after. Some (n ∷ ns, after))))))))
    (sym (first_byte service rest)) (requested_front_ids P service (fields_at (w8 ∷ []) rest) none)

-- ---- replies

-- not the service of a reply that opens
pub record AnswersNone (service : ℕ) : Type 0 where
  pub small : (service == 0xD4) ≡ false
  pub large : (service == 0xDB) ≡ false

serviced_none : (P : ℕ → Type 0) (service : ℕ) (large : Bool) (said : OpenAnswer) → AnswersNone service → ReplyIds P (serviced large (with_answer service said))
serviced_none P service true said none = rw (none.large) tt
serviced_none P service false said none = rw (none.small) tt

seen_none : (P : ℕ → Type 0) (service : ℕ) (large : Bool) (said : Result OpenAnswer ReadFault) → AnswersNone service → ReplyIds P (reply_answer large (seen (with_answer service) said))
seen_none P service large (Err fault) none = tt
seen_none P service large (Ok said) none = serviced_none P service large said none

reported_front_ids : (P : ℕ → Type 0) (service : ℕ) (large : Bool) (r : Option (List ℕ × List ℕ)) → AnswersNone service → ReplyIds P (reply_answer large (reply_of with_answer answer_reading (option_map unread (parted extended_len (then_at r (λ ns after. Some (service ∷ ns, after)))))))
reported_front_ids P service large None none = tt
reported_front_ids P service large (Some x) none =
    let front : Tailed = (service ∷ x.0, take (extended_len (service ∷ x.0)) x.1) in
    either (λ (f : Option (Tailed × List ℕ)). ReplyIds P (reply_answer large (reply_of with_answer answer_reading (option_map unread f)))) (ltb (length x.1) (extended_len (service ∷ x.0))) None
    (Some ((service ∷ x.0, take (extended_len (service ∷ x.0)) x.1), drop (extended_len (service ∷ x.0)) x.1)) tt
    (seen_none P service large (answer_reading (fault_of front) (drop (extended_len (service ∷ x.0)) x.1)) none)

-- a text that begins with another service opens no connection
pub reports_none : (P : ℕ → Type 0) (service : ℕ) (rest : List ℕ) (large : Bool) → AnswersNone service → ReplyIds P (reply_answer large (open_reply_reading (service ∷ rest)))
unfolding open_reply_reading unread_reading
reports_none P service rest large none =
    subst (λ (first : Option (ℕ × List ℕ)). ReplyIds P (reply_answer large (reply_of with_answer answer_reading (option_map unread (parted extended_len (then_at first (λ n more. then_at (fields_at (w8 ∷ w8 ∷ w8 ∷ []) more) (λ ns after. Some (n ∷ ns, after)))))))))
    (sym (first_byte service rest)) (reported_front_ids P service large (fields_at (w8 ∷ w8 ∷ w8 ∷ []) rest) none)

-- the four numbers in front of a reply
pub front_bytes : (a b c d : ℕ) (rest : List ℕ) → fields_at reply_widths (a ∷ b ∷ c ∷ d ∷ rest) ≡ Some (a ∷ b ∷ c ∷ d ∷ [], rest)
front_bytes a b c d rest = rw (first_byte a (b ∷ c ∷ d ∷ rest), first_byte b (c ∷ d ∷ rest), first_byte c (d ∷ rest), first_byte d rest) refl

refusal_seen : (P : ℕ → Type 0) (service : ℕ) (large : Bool) (fault : Fault) (said : Result (Option Triad) ReadFault) → ReplyIds P (reply_answer large (seen (with_answer service) (seen (refused_by fault) said)))
refusal_seen P service large fault (Err why) = tt
refusal_seen P service large fault (Ok triad) = either (ReplyIds P) (service == opened_service large) _ _ tt tt

refusal_front : (P : ℕ → Type 0) (service general words : ℕ) (rest : List ℕ) (large : Bool) → (general == 0) ≡ false → ReplyIds P (reply_answer large (reply_of with_answer answer_reading (option_map unread (parted extended_len (Some (service ∷ 0 ∷ general ∷ words ∷ [], rest))))))
refusal_front P service general words rest large fails =
    let numbers = service ∷ 0 ∷ general ∷ words ∷ [] in
    let n = extended_len (service ∷ 0 ∷ general ∷ words ∷ []) in
    either (λ (f : Option (Tailed × List ℕ)). ReplyIds P (reply_answer large (reply_of with_answer answer_reading (option_map unread f)))) (ltb (length rest) n) None
    (Some ((numbers, take n rest), drop n rest)) tt
    (rw fails (refusal_seen P service large (fault_of (numbers, take n rest)) (failure_reading (drop n rest))))

-- a refusal opens none, whatever its service
reports_refusal : (P : ℕ → Type 0) (service general words : ℕ) (rest : List ℕ) (large : Bool) → (general == 0) ≡ false → ReplyIds P (reply_answer large (open_reply_reading (service ∷ 0 ∷ general ∷ words ∷ rest)))
unfolding open_reply_reading unread_reading
reports_refusal P service general words rest large fails =
    subst (λ (found : Option Tailed). ReplyIds P (reply_answer large (reply_of with_answer answer_reading (option_map unread (parted extended_len found)))))
    (sym (front_bytes service 0 general words rest)) (refusal_front P service general words rest large fails)

-- ---- a success

opened_found : (P : ℕ → Type 0) (service : ℕ) (large : Bool) (found : Found Tailed) (p : Tailed) → found ≡ whole p → P (slice_index p.0 0) → P (slice_index p.0 1) → ReplyIds P (reply_answer large (seen (with_answer service) (seen answer.Opened (answer_of (found_image opened_of found)))))
opened_found P service large found p is first second =
    rw is (either (ReplyIds P) (service == opened_service large) _ _ (first, second) tt)

success_read : (P : ℕ → Type 0) (service : ℕ) (large : Bool) (o : Opened) → P (again w32 o.o_t_id.0) → P (again w32 o.t_o_id.0) → ReplyIds P (reply_answer large (seen (with_answer service) (seen answer.Opened (opened_reading (fields_text opened_widths (opened_numbers o 0 0))))))
success_read P service large o o_holds t_holds =
    let numbers = cut opened_widths (opened_numbers o 0 0) in
    subst (λ (found : Option Tailed). ReplyIds P (reply_answer large (seen (with_answer service) (seen answer.Opened (answer_of (found_image opened_of (fixed_found application_len found))))))) (sym (all_cut opened_widths (opened_numbers o 0 0) refl))
    (opened_found P service large (tail_found (application_len numbers) (numbers, [])) (numbers, []) refl o_holds t_holds)

success_front : (P : ℕ → Type 0) (service : ℕ) (large : Bool) (o : Opened) → P (again w32 o.o_t_id.0) → P (again w32 o.t_o_id.0) → ReplyIds P (reply_answer large (open_reply_reading (service ∷ 0 ∷ 0 ∷ 0 ∷ fields_text opened_widths (opened_numbers o 0 0))))
unfolding open_reply_reading unread_reading
success_front P service large o o_holds t_holds =
    subst (λ (found : Option Tailed). ReplyIds P (reply_answer large (reply_of with_answer answer_reading (option_map unread (parted extended_len found)))))
    (sym (front_bytes service 0 0 0 (fields_text opened_widths (opened_numbers o 0 0)))) (success_read P service large o o_holds t_holds)

opened_opens_none : (large : Bool) → OpensNone (opened_service large)
opened_opens_none true = record { small = refl; large = refl }
opened_opens_none false = record { small = refl; large = refl }

-- a successful reply has its two ids
pub opened_ids : (P : ℕ → Type 0) (large : Bool) (o : Opened) → P (again w32 o.o_t_id.0) → P (again w32 o.t_o_id.0) → PayloadIds P (opened_text large o)
unfolding opened_text
opened_ids P large o o_holds t_holds = record {
  requested = requests_none P (opened_service large) _ (opened_opens_none large);
  replied = λ as_large. success_front P (opened_service large) as_large o o_holds t_holds;
}

-- ---- other replies

pub other_ids : (P : ℕ → Type 0) (service : ℕ) (rest : List ℕ) → OpensNone service → AnswersNone service → PayloadIds P (service ∷ rest)
other_ids P service rest opens answers = record { requested = requests_none P service rest opens; replied = λ large. reports_none P service rest large answers }

pub closed_ids : (P : ℕ → Type 0) (triad : Triad) → PayloadIds P (closed_text triad)
unfolding closed_text
closed_ids P triad = other_ids P 0xCE _ (record { small = refl; large = refl }) (record { small = refl; large = refl })

pub object_ids : (P : ℕ → Type 0) (by : ObjectService) (value : List ℕ) → PayloadIds P (object_reply_text by value)
unfolding object_reply_text
object_ids P object_service.GetAll value = other_ids P 0x81 _ (record { small = refl; large = refl }) (record { small = refl; large = refl })
object_ids P object_service.GetList value = other_ids P 0x83 _ (record { small = refl; large = refl }) (record { small = refl; large = refl })
object_ids P object_service.SetList value = other_ids P 0x84 _ (record { small = refl; large = refl }) (record { small = refl; large = refl })
object_ids P object_service.Reset value = other_ids P 0x85 _ (record { small = refl; large = refl }) (record { small = refl; large = refl })
object_ids P object_service.Packet value = other_ids P 0x8A _ (record { small = refl; large = refl }) (record { small = refl; large = refl })
object_ids P object_service.GetSingle value = other_ids P 0x8E _ (record { small = refl; large = refl }) (record { small = refl; large = refl })

above : (n m : ℕ) → m < n → (n == m) ≡ false
above n m lt = grind (arith, nat_tests)

pub replies_open_none : (service : ℕ) → OpensNone (reply_service service)
replies_open_none service = record { small = above (reply_service service) 0x54 (omega arith); large = above (reply_service service) 0x5B (omega arith) }

refused_parts : (P : ℕ → Type 0) (service general : ℕ) (extended : Option ℕ) (more : List ℕ) → (general == 0) ≡ false → PayloadIds P (reply_service service ∷ 0 ∷ general ∷ extended_text extended ++ more)
refused_parts P service general None more fails = record {
  requested = requests_none P (reply_service service) _ (replies_open_none service);
  replied = λ large. reports_refusal P (reply_service service) general 0 more large fails;
}
refused_parts P service general (Some code) more fails = record {
  requested = requests_none P (reply_service service) _ (replies_open_none service);
  replied = λ large. reports_refusal P (reply_service service) general 1 _ large fails;
}

pub refused_ids : (P : ℕ → Type 0) (service : ℕ) (fault : Fault) (triad : Option Triad) → (fault.general == 0) ≡ false → PayloadIds P (refused_text service fault triad)
unfolding refused_text
refused_ids P service fault triad fails = refused_parts P service fault.general fault.extended (failure_text triad) fails

-- one that names acceptable intervals
pub unacceptable_ids : (P : ℕ → Type 0) (service : ℕ) (a : AcceptableIntervals) (triad : Triad) → PayloadIds P (intervals_text service a (Some triad))
unfolding intervals_text intervals_words
unacceptable_ids P service a triad = record {
  requested = requests_none P (reply_service service) _ (replies_open_none service);
  replied = λ large. reports_refusal P (reply_service service) 1 6 _ large refl;
}

-- the refusal of an Unconnected_Send
pub no_route_ids : (P : ℕ → Type 0) (words : ℕ) → PayloadIds P (no_route_text words)
no_route_ids P words = refused_parts P 0x52 1 (Some 0x0311) (words ∷ 0 ∷ []) refl

-- a reply of the application to a service whose reply opens none
pub own_ids : (P : ℕ → Type 0) (service status : ℕ) (content : List ℕ) → AnswersNone (reply_service service) → PayloadIds P (own_reply_text service status content)
unfolding own_reply_text
own_ids P service status content none = other_ids P (reply_service service) _ (replies_open_none service) none

-- the reply to no service of an object opens one
pub object_answers_none : (by : ObjectService) → AnswersNone (reply_service (object_service_code by))
object_answers_none object_service.GetAll = record { small = refl; large = refl }
object_answers_none object_service.GetList = record { small = refl; large = refl }
object_answers_none object_service.SetList = record { small = refl; large = refl }
object_answers_none object_service.Reset = record { small = refl; large = refl }
object_answers_none object_service.Packet = record { small = refl; large = refl }
object_answers_none object_service.GetSingle = record { small = refl; large = refl }

-- data of an object with any general status
pub own_object_ids : (P : ℕ → Type 0) (by : ObjectService) (status : ℕ) (content : List ℕ) → PayloadIds P (own_reply_text (object_service_code by) status content)
own_object_ids P by status content = own_ids P (object_service_code by) status content (object_answers_none by)

-- one with another status than that of a success opens none, whatever its service
pub own_refused_ids : (P : ℕ → Type 0) (service status : ℕ) (content : List ℕ) → (status == 0) ≡ false → PayloadIds P (own_reply_text service status content)
unfolding own_reply_text
own_refused_ids P service status content fails = record {
  requested = requests_none P (reply_service service) _ (replies_open_none service);
  replied = λ large. reports_refusal P (reply_service service) status 0 content large fails;
}

-- ---- requests of a scanner

pub manager_path : target_reading (0x20 ∷ 6 ∷ 0x24 ∷ 1 ∷ []) ≡ Ok manager
unfolding target_reading segments_at segment_at logical_at value_at
manager_path = refl

pub manager_front : (service : ℕ) (body : List ℕ) → front_at request_widths request_path_len (service ∷ 2 ∷ 0x20 ∷ 6 ∷ 0x24 ∷ 1 ∷ body) ≡ Some ((service ∷ 2 ∷ [], 0x20 ∷ 6 ∷ 0x24 ∷ 1 ∷ []), body)
manager_front service body =
    let path = 0x20 ∷ 6 ∷ 0x24 ∷ 1 ∷ body in
    let some : ltb (length (0x20 ∷ 6 ∷ 0x24 ∷ 1 ∷ body)) 4 ≡ false = le-ltb _ _ (omega arith) in
    rw (first_byte service (2 ∷ path), first_byte 2 path, some) refl

abbrev OpenedSo : (ℕ → Type 0) → Result OpenFields ReadFault → Type 0
OpenedSo P (Ok request) = P request.t_o_id.0
OpenedSo P (Err fault) = Unit {0}

requests_so : (P : ℕ → Type 0) (service : ℕ) (large : Bool) (reading : Result OpenFields ReadFault) → OpenedSo P reading → RequestIds P (request_to_open service large reading)
requests_so P service large (Ok request) holds = holds
requests_so P service large (Err fault) holds = tt

open_found : (P : ℕ → Type 0) (large : Bool) (len : ℕ) (p : Tailed) → P (slice_index p.0 3) → OpenedSo P (answer_of (found_image (open_of large) (tail_found len p)))
open_found P large len p holds =
    either (λ (f : Found Tailed). OpenedSo P (answer_of (found_image (open_of large) f))) (ltb (length p.1) len) short _ tt
    (either (λ (f : Found Tailed). OpenedSo P (answer_of (found_image (open_of large) f))) (ltb len (length p.1)) long (whole p) tt holds)

open_read : (P : ℕ → Type 0) (large : Bool) (request : OpenFields) → P (again w32 request.t_o_id.0) → OpenedSo P (open_reading large (open_text large request))
unfolding open_reading open_text
open_read P large request holds =
    let numbers = cut (open_widths large) (open_numbers large request) in
    subst (λ (found : Option Tailed). OpenedSo P (answer_of (found_image (open_of large) (fixed_found path_len found)))) (sym (fields_cut (open_widths large) (open_numbers large request) request.path refl))
    (open_found P large _ (numbers, request.path) holds)

abbrev open_service : Bool → ℕ
open_service large = cond large 0x5B 0x54

requested_of_manager : (P : ℕ → Type 0) (service : ℕ) (body : List ℕ) → RequestIds P (request_to_manager service None body) → RequestIds P (router_request_reading (service ∷ 2 ∷ 0x20 ∷ 6 ∷ 0x24 ∷ 1 ∷ body))
unfolding router_request_reading request_reading
requested_of_manager P service body holds =
    subst (λ (f : Option (Tailed × List ℕ)). RequestIds P (router_request_of service (request_of f))) (sym (manager_front service body))
    (subst (λ (r : Result Target PathFault). RequestIds P (router_request_of service (with_target service body r))) (sym manager_path) holds)

-- a request to open has the T->O id that it requests
pub request_ids : (P : ℕ → Type 0) (large : Bool) (request : OpenFields) → P (again w32 request.t_o_id.0) → PayloadIds P (manager_text (open_service large) (open_text large request))
request_ids P true request holds = record {
  requested = requested_of_manager P 0x5B (open_text true request) (requests_so P 0x5B true (open_reading true (open_text true request)) (open_read P true request holds));
  replied = λ large. reports_none P 0x5B _ large (record { small = refl; large = refl });
}
request_ids P false request holds = record {
  requested = requested_of_manager P 0x54 (open_text false request) (requests_so P 0x54 false (open_reading false (open_text false request)) (open_read P false request holds));
  replied = λ large. reports_none P 0x54 _ large (record { small = refl; large = refl });
}

-- and one to close none
pub close_request_ids : (P : ℕ → Type 0) (body : List ℕ) → PayloadIds P (manager_text 0x4E body)
close_request_ids P body = other_ids P 0x4E _ (record { small = refl; large = refl }) (record { small = refl; large = refl })
