-- Requests to open and to close connections, as the engine counts them.
use Rattle.std.proofs.Common.{◌≡◌, ◌&&◌, ℕ, nat_lt, not, Bool, true, false, cond, List, [], Option, Some, None, refl, sym, ap, ◌∙◌}
use Rattle.std.specs.Prelude.{Result, Ok}
use Rattle.cip_netparams.specs.Word.{is_message_trigger}
use Rattle.cip_fwdopen.specs.Open.{OpenFields}
use Rattle.cip_fwdopen.specs.declared.reply.AcceptableIntervals.{AcceptableIntervals}
use Rattle.cip_router.specs.declared.refusal.Refusal.{Refusal}
use Rattle.cip_router.specs.declared.refusal.Refusal.TheVariants as refusal
use Rattle.cip_router.specs.declared.refusal.Status.{Status}
use Rattle.cip_router.specs.Refusals.{refusal_code, status_fault}
use Rattle.cip_router.specs.Replies as replies
use Rattle.cip_router.specs.Requests.{opening}
use Rattle.cip_events.specs.declared.event.Answer.{Answer}
use Rattle.cip_events.specs.declared.event.StepFault.{StepFault}
use Rattle.adapter_table.specs.declared.counters.Tally.{Tally}
use Rattle.adapter_table.specs.declared.counters.Tally.TheVariants as tally
use Rattle.adapter_table.specs.declared.profile.Description.{Description}
use Rattle.adapter_table.specs.declared.profile.Profile.{Profile}
use Rattle.adapter_table.specs.declared.table.AdapterTable.{AdapterTable}
use Rattle.adapter_table.specs.Counters.{code_tally, counted_if, open_tally, opening_tally, refused_tally}
use Rattle.adapter_table.specs.Counting.{tallied, with_manager}
use Rattle.adapter_table.specs.Describing.{described_code, is_null_open, opening_code}
use Rattle.adapter_table.specs.Intervals.{is_described, is_interval_refusal, open_refusal, refused_with}
use Rattle.adapter_table.specs.Messages.{messages_table}
use Rattle.adapter_table.specs.Requests.{Next, Served, counted_by, open_service, refused_open, router_refusal}
use Rattle.adapter_replies.specs.declared.routes.Route.{Route}
use Rattle.adapter_replies.specs.declared.routes.Route.TheVariants as route
use Rattle.adapter_replies.specs.Routes.{kept_text, routed, routed_answer}
use Rattle.adapter_replies.specs.Serving.{finished, kept_on}

-- a count changes the counters of connections alone
pub tallied_counts : (t : AdapterTable) (kind : Option Tally) → with_manager t (counted_if kind t.counters.manager) ≡ tallied kind t
tallied_counts t None = refl
tallied_counts t (Some kind) = refl

-- and leaves what a class 3 connection keeps
pub kept_counted : (t : AdapterTable) (way : Route) (text : List ℕ) (kind : Option Tally) → tallied kind (kept_on t way text) ≡ kept_on (tallied kind t) way text
unfolding messages_table
kept_counted t (route.Peer peer) text None = refl
kept_counted t (route.Peer peer) text (Some kind) = refl
kept_counted t (route.Stream stream request_header) text None = refl
kept_counted t (route.Stream stream request_header) text (Some kind) = refl
kept_counted t (route.Connection way) text None = refl
kept_counted t (route.Connection way) text (Some kind) = refl

-- ---- a refusal of an opening

either_tally : (b : Bool) (x y : ℕ) (kind : Tally) → code_tally (Some x) ≡ kind → code_tally (Some y) ≡ kind → code_tally (Some (cond b x y)) ≡ kind
either_tally true x y kind one other = one
either_tally false x y kind one other = other

plain_tally : (why : Refusal) → code_tally (Some (refusal_code why)) ≡ open_tally why
plain_tally refusal.OutOfConnections = refl
plain_tally refusal.Segment = refl
plain_tally other = refl

described_tally : (request : OpenFields) (why : Refusal) → code_tally (Some (described_code request why)) ≡ open_tally why
described_tally request refusal.Parameter = either_tally (nat_lt 7 request.multiplier) 0x0133 0x0125 tally.OpenOther refl refl
described_tally request refusal.ConsumedType = either_tally (is_null_open request) 0x0132 0x0123 tally.OpenOther refl refl
described_tally request refusal.ConsumedSize = either_tally (request.o_t_params.variable && not (is_message_trigger request.trigger)) 0x011F 0x0127 tally.OpenOther refl refl
described_tally request refusal.ProducedSize = either_tally (request.t_o_params.variable && not (is_message_trigger request.trigger)) 0x0120 0x0128 tally.OpenOther refl refl
described_tally request why = plain_tally why

-- its status says as what it is counted
fault_tally : (description : Option Description) (request : OpenFields) (why : Refusal) → code_tally (Some (opening_code description request why)) ≡ open_tally why
fault_tally None request why = plain_tally why
fault_tally (Some d) request why = described_tally request why

-- acceptable intervals are named where an interval is refused alone
interval_tally : (why : Refusal) → is_interval_refusal why ≡ true → tally.OpenOther ≡ open_tally why
interval_tally refusal.OutOfConnections is = absurd cc
interval_tally refusal.Segment is = absurd cc
interval_tally other is = refl

said_tally : (profile : Profile) (names : Bool) (service : ℕ) (request : OpenFields) (why : Refusal) (a : AcceptableIntervals) → (names ≡ true → is_interval_refusal why ≡ true) → opening_tally (refused_with profile names service request why a) ≡ open_tally why
said_tally profile true service request why a is = interval_tally why (is refl)
said_tally profile false service request why a is = fault_tally profile.description request why

middle_is : (a b c : Bool) → (a && (b && c)) ≡ true → b ≡ true
middle_is true true c is = refl
middle_is true false c is = absurd cc
middle_is false b c is = absurd cc

-- so an opening that is refused is counted by its reason
pub refused_counts : (t : AdapterTable) (large : Bool) (request requested : OpenFields) (why : Refusal) → counted_by (opening large requested) (refused_open t large request why) ≡ record (refused_open t large request why) { table = tallied (Some (open_tally why)) t }
refused_counts t large request requested why =
    ap (λ (kind : Tally). record (refused_open t large request why) { table = tallied (Some kind) t })
    (said_tally t.profile _ (open_service large) request why _ (middle_is (is_described t.profile.description) (is_interval_refusal why) _))

both : (a b : Answer) (t u : AdapterTable) → a ≡ b → t ≡ u → ◌≡◌ {A = Result Next StepFault} (Ok (a, t)) (Ok (b, u))
both a b t u one other = rw (one, other) refl

pub opening_refused : (t : AdapterTable) (way : Route) (large : Bool) (request : OpenFields) (why : Refusal) (answer : Answer) (new : AdapterTable) → answer ≡ routed_answer way (open_refusal t.profile t.rows (open_service large) request why) None [] → new ≡ tallied (Some (open_tally why)) t → ◌≡◌ {A = Result Next StepFault} (Ok (routed t way (Some (counted_by (opening large request) (refused_open t large request why))))) (Ok (answer, new))
opening_refused t way large request why answer new said is =
    ap (λ (s : Served). let n : Result Next StepFault = Ok (routed t way (Some s)) in n) (refused_counts t large request request why)
    ∙ both (routed_answer way (open_refusal t.profile t.rows (open_service large) request why) None []) answer (tallied (Some (open_tally why)) t) new (sym said) (sym is)

-- ---- a refusal of the message router

ok_is : (x y : Next) → ◌≡◌ {A = Result Next StepFault} (Ok x) (Ok y) → x ≡ y
ok_is x y is = cc

-- is kept by a class 3 connection, and counted
pub refused_is : (t : AdapterTable) (way : Route) (service : ℕ) (why : Status) (text : List ℕ) (said answer : Answer) (kept new : AdapterTable) → said ≡ routed_answer way (replies.refused service (status_fault why) None) None [] → text ≡ kept_text way (replies.refused service (status_fault why) None) → ◌≡◌ {A = Result Next StepFault} (Ok (said, kept_on t way text)) (Ok (answer, kept)) → new ≡ tallied (refused_tally service why) kept → ◌≡◌ {A = Result Next StepFault} (Ok (finished t way (Some (record (router_refusal t service why) { table = tallied (refused_tally service why) t })))) (Ok (answer, new))
refused_is t way service why text said answer kept new said_is text_is keeps is =
    let reply = replies.refused service (status_fault why) None in
    let kind = refused_tally service why in
    let same = ok_is (said, kept_on t way text) (answer, kept) keeps in
    both (routed_answer way reply None []) answer (kept_on (tallied kind t) way (kept_text way reply)) new
    (sym said_is ∙ ap (λ (n : Next). n.0) same)
    (ap (kept_on (tallied kind t) way) (sym text_is) ∙ sym (kept_counted t way text kind) ∙ ap (λ (n : Next). tallied kind n.1) same ∙ sym is)
