-- The frames of a scanner are plain: it opens connections of class 1 alone, and its explicit requests have other services.
use Rattle.std.proofs.Common.{◌≡◌, ◌≤◌, inl, inr, ℕ, Bool, true, false, List, [], ◌∷◌, length, map, None, Result, Ok, Err, IfOk, refl, sym, ap, subst, arith}
use Rattle.std.specs.Int.{w8}
use Rattle.std.specs.List.{AllByRecursion}
use Rattle.cip_types.specs.declared.names.Node.{Node}
use Rattle.cip_encap.specs.Message.{message_text}
use Rattle.cip_encap.specs.AnyItems.{any_packet_reading}
use Rattle.cip_encap.specs.ReadsBack.{ItemsReadBack}
use Rattle.cip_events.specs.declared.event.Answer.{Answer}
use Rattle.cip_events.specs.declared.event.Event.{Event}
use Rattle.cip_events.specs.declared.event.Event.TheVariants as event
use Rattle.cip_events.specs.declared.event.StepFault.{StepFault}
use Rattle.cip_events.specs.declared.event.StepFault.TheVariants as fault
use Rattle.cip_fwdopen.specs.Close.{close_text}
use Rattle.cip_fwdopen.specs.Open.{OpenFields, open_text}
use Rattle.cip_fwdopen.specs.Services.{open_service}
use Rattle.cip_netparams.specs.declared.Trigger.{Trigger}
use Rattle.cip_netparams.specs.declared.Trigger.TheVariants.{Cyclic, ChangeOfState}
use Rattle.cip_netparams.specs.Word.{trigger_byte, is_message_trigger}
use Rattle.scanner_table.specs.declared.table.ScannerTable.{ScannerTable}
use Rattle.scanner_table.specs.Effects.{Next, done}
use Rattle.scanner_table.specs.Encapsulation.{registering_on, stream_opened}
use Rattle.scanner_table.specs.Requests.{Request, registering, opening, closing, requesting, Sent, manager_text, sent_message, sent_frame}
use Rattle.scanner_table.specs.Sessions.{is_taken}
use Rattle.scanner_table.specs.Step.{scanner_step}
use Rattle.answer_sizes.specs.Sizes.{IsShortFrame, IsSmall, AnswersAreSmall}
use Rattle.cip_tables.specs.declared.table.DeviceTable.{DeviceTable}
use Rattle.cip_tables.specs.declared.table.DeviceTable.TheVariants.{Scanner}
use Rattle.cip_tables.specs.Step.{DeviceNext, as_scanner, step}
use Rattle.cip_tables.specs.Whole.{IsWholeDevice}
use Rattle.device_laws.specs.Lemmas.AdapterIds.{few_bytes, plain_protocol}
use Rattle.device_laws.specs.Lemmas.ExplicitRequests.{IsExplicit, explicit_some}
use Rattle.device_laws.specs.Lemmas.Lists.{all_both}
use Rattle.device_laws.specs.Lemmas.ScannerEffects.{EffectsDo, NextDoes, OkDoes, event_does}
use Rattle.device_laws.specs.Lemmas.Texts.{either, again}
use Rattle.device_laws.specs.Plain.{IsPlainRequest, PlainPacket, IsPlainDevice, SendsPlainly}
use Rattle.device_laws.proofs.PlainTexts.{plain_open, plain_close, plain_service, plain_request, packet_plain, message_plain}
use Rattle.cip_router.specs.Requests.{router_request_reading}

-- ---- a request

-- the request, as it is read, is plain
abbrev AsksPlain : Request → Type 0
AsksPlain registering = Unit {0}
AsksPlain (opening large fields) = is_message_trigger (again w8 fields.trigger) ≡ false
AsksPlain (closing fields) = Unit {0}
AsksPlain (requesting bytes) = IsExplicit bytes

abbrev SentPlain : Sent → Type 0
SentPlain sent = AsksPlain sent.request

trigger_plain : (trigger : Trigger) → is_message_trigger (again w8 (trigger_byte trigger)) ≡ false
trigger_plain Cyclic = refl
trigger_plain ChangeOfState = refl

opening_plain : (large : Bool) (fields : OpenFields) → is_message_trigger (again w8 fields.trigger) ≡ false → IsPlainRequest (router_request_reading (manager_text (open_service large) (open_text large fields)))
opening_plain true fields is = plain_open true fields is
opening_plain false fields is = plain_open false fields is

explicit_plain : (bytes : List ℕ) → IsExplicit bytes → IsPlainRequest (router_request_reading bytes)
explicit_plain bytes is =
    subst (λ (text : List ℕ). IsPlainRequest (router_request_reading text)) (sym is.is) (plain_request is.service is.rest is.requests (plain_service is.service is.low is.requests))

sent_plain : ItemsReadBack → (sent : Sent) (request : Request) → sent.request ≡ request → AsksPlain request → length (message_text (sent_message sent)) ≤ 2048 → PlainPacket (any_packet_reading (sent_message sent).payload)
sent_plain back sent registering is asks few = rw is (subst PlainPacket (sym plain_protocol) tt)
sent_plain back sent (opening large fields) is asks few =
    let body = manager_text (open_service large) (open_text large fields) in
    rw is (packet_plain back body None (omega arith) (few_bytes (sent_message sent) body None (rw is refl) few) (opening_plain large fields asks))
sent_plain back sent (closing fields) is asks few =
    let body = manager_text 0x4E (close_text fields) in
    rw is (packet_plain back body None (omega arith) (few_bytes (sent_message sent) body None (rw is refl) few) (plain_close (close_text fields)))
sent_plain back sent (requesting bytes) is asks few =
    rw is (packet_plain back bytes None (explicit_some bytes asks) (few_bytes (sent_message sent) bytes None (rw is refl) few) (explicit_plain bytes asks))

all_plain : ItemsReadBack → (requests : List Sent) → AllByRecursion SentPlain requests → AllByRecursion IsShortFrame (map sent_frame requests) → AllByRecursion SendsPlainly (map sent_frame requests)
all_plain back [] asks few = tt
all_plain back (sent ∷ requests) asks few = (message_plain (sent_message sent) (sent_plain back sent sent.request refl asks.0 few.0), all_plain back requests asks.1 few.1)

-- ---- a step

-- each frame is such a request
record SendsSo (next : Next) : Type 0 where
  requests : List Sent
  frames : next.0.frames ≡ map sent_frame requests
  plain : AllByRecursion SentPlain requests

plain_effects : EffectsDo (λ t effect. AllByRecursion SentPlain effect.sent)
plain_effects = record {
  stays = λ t u notices like. tt;
  next = λ t first second one other. all_both SentPlain first.sent second.sent one other;
  opens = λ t place session can is. (trigger_plain place.config.trigger, tt);
  closes = λ t place link desired_up session is. (tt, tt);
  disowns = λ t config triad session is. (tt, tt);
  registers = λ t stream is_open. (tt, tt);
  requests = λ t target session number bytes goes. (goes.explicit, tt);
}

so_of : (t : ScannerTable) (next : Next) → NextDoes (λ u effect. AllByRecursion SentPlain effect.sent) t next → SendsSo next
so_of t next (inl none) = record { requests = []; frames = none; plain = tt }
so_of t next (inr of) = record { requests = of.effect.sent; frames = of.frames; plain = of.does }

ok_so : (t : ScannerTable) (said : Result Next StepFault) → OkDoes (λ u effect. AllByRecursion SentPlain effect.sent) t said → IfOk said SendsSo
ok_so t (Err why) does = tt
ok_so t (Ok next) does = so_of t next does

opens_so : (t : ScannerTable) (number : ℕ) (target : Node) → IfOk (stream_opened t number target) SendsSo
unfolding stream_opened
opens_so t number target =
    either (λ (said : Result Next StepFault). IfOk said SendsSo) (is_taken t.streams number target) (Err fault.NotAllowedNow) (Ok (done (registering_on t number target))) tt
    (record { requests = (registering_on t number target).sent; frames = refl; plain = (tt, tt) })

event_so : (t : ScannerTable) (happens : Event) → IfOk (scanner_step t happens) SendsSo
event_so t (event.Request peer bytes) = tt
event_so t (event.StreamOpened number peer) = opens_so t number peer
event_so t other = ok_so t (scanner_step t other) (event_does (λ u effect. AllByRecursion SentPlain effect.sent) plain_effects t other)

said_plain : ItemsReadBack → (ours : ℕ → Bool) (said : Result Next StepFault) (answer : Answer) (next : DeviceTable) → as_scanner said ≡ Ok (answer, next) → IfOk said SendsSo → IsSmall answer → IsPlainDevice ours next × AllByRecursion SendsPlainly answer.frames
said_plain back ours (Err why) answer next is sends small = absurd (let e = is in cc)
said_plain back ours (Ok n) answer next is sends small =
    let same = inside (n.0, Scanner n.1) (answer, next) is in
    let first : n.0 ≡ answer = ap (λ (p : DeviceNext). p.0) same in
    let second : Scanner n.1 ≡ next = ap (λ (p : DeviceNext). p.1) same in
    let short : IsSmall n.0 = subst IsSmall (sym first) small in (
      subst (IsPlainDevice ours) second tt,
      subst (λ (a : Answer). AllByRecursion SendsPlainly a.frames) first
          (subst (AllByRecursion SendsPlainly) (sym sends.frames) (all_plain back sends.requests sends.plain (subst (AllByRecursion IsShortFrame) sends.frames short.short_frames))),
    )
  where
    inside : (x y : DeviceNext) → ◌≡◌ {A = Result DeviceNext StepFault} (Ok x) (Ok y) → x ≡ y
    inside x y e = cc

pub scanner_plain : ItemsReadBack → AnswersAreSmall → (ours : ℕ → Bool) (t : ScannerTable) (happens : Event) (answer : Answer) (next : DeviceTable) → IsWholeDevice (Scanner t) → step (Scanner t) happens ≡ Ok (answer, next) → IsPlainDevice ours next × AllByRecursion SendsPlainly answer.frames
unfolding step
scanner_plain back few ours t happens answer next whole is = said_plain back ours (scanner_step t happens) answer next is (event_so t happens) (few (Scanner t) happens answer next whole is)
