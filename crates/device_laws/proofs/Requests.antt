-- A scanner's frames: each is a request, and none can be read as a success.
use Rattle.std.proofs.Common.{◌≡◌, ◌≤◌, ℕ, Bool, true, false, List, [], ◌∷◌, length, map, None, Result, Ok, Err, IfOk, refl, sym, ap, subst, arith}
use Rattle.std.specs.List.{AllByRecursion}
use Rattle.cip_encap.specs.declared.packet.ItemFault.{ItemFault}
use Rattle.cip_encap.specs.Message.{message_text}
use Rattle.cip_encap.specs.Packet.{PacketFields}
use Rattle.cip_encap.specs.PacketReading.{packet_reading}
use Rattle.cip_encap.specs.Lemmas.AnyItemLemmas.{packet_bad}
use Rattle.cip_encap.specs.ReadsBack.{ItemsReadBack}
use Rattle.cip_events.specs.declared.event.Event.{Event}
use Rattle.cip_events.specs.declared.event.StepFault.{StepFault}
use Rattle.cip_fwdopen.specs.declared.reply.Opened.{Opened}
use Rattle.cip_fwdopen.specs.Open.{open_text}
use Rattle.cip_fwdopen.specs.Close.{close_text}
use Rattle.cip_fwdopen.specs.Reply.{open_reply_reading}
use Rattle.cip_router.specs.Frames.{protocol_text}
use Rattle.scanner_table.specs.declared.table.ScannerTable.{ScannerTable}
use Rattle.cip_fwdopen.specs.Services.{open_service}
use Rattle.scanner_table.specs.Requests.{Request, registering, opening, closing, requesting, Sent, manager_text, sent_message, sent_frame}
use Rattle.scanner_table.specs.Effects.{Next}
use Rattle.scanner_table.specs.Replies.{reply_answer, packet_answer}
use Rattle.scanner_table.specs.Step.{scanner_step}
use Rattle.cip_tables.specs.declared.table.DeviceTable.TheVariants.{Scanner}
use Rattle.cip_tables.specs.Step.{as_scanner, step}
use Rattle.answer_sizes.specs.Sizes.{IsShortFrame, IsSmall, AnswersAreSmall}
use Rattle.device_laws.specs.Lemmas.AdapterIds.{plain_protocol, few_bytes}
use Rattle.device_laws.specs.Lemmas.ExplicitRequests.{IsExplicit, explicit_ids, explicit_some, IfExplicit, SendsIfExplicit}
use Rattle.device_laws.specs.Lemmas.Payloads.{AnswersNone, reports_none}
use Rattle.device_laws.specs.Frames.{SuccessIs, SuccessesAre}
use Rattle.device_laws.specs.Replies.{IsNoSuccess, ScannersSendNoSuccess}
use Rattle.device_laws.specs.Lemmas.ScannerEffects.{SendsRequests, event_sends}
use Rattle.device_laws.specs.Lemmas.ReplyTexts.{MessageBack, message_back, context_fits, success_none}
use Rattle.device_laws.proofs.Framing.{message_success}

-- ---- a request

abbrev Nothing : Opened → Type 0
Nothing opened = ⊥

abbrev PacketNone : Result PacketFields ItemFault → Type 0
PacketNone reading = (large : Bool) → SuccessIs Nothing (packet_answer large reading)

manager_none : (service : ℕ) (body : List ℕ) → AnswersNone service → (large : Bool) → SuccessIs Nothing (reply_answer large (open_reply_reading (manager_text service body)))
manager_none service body none large = success_none Nothing (reply_answer large (open_reply_reading (manager_text service body))) (reports_none (λ id. ⊥) service _ large none)

open_answers_none : (large : Bool) → AnswersNone (open_service large)
open_answers_none true = record { small = refl; large = refl }
open_answers_none false = record { small = refl; large = refl }

explicit_none : (bytes : List ℕ) → IsExplicit bytes → (large : Bool) → SuccessIs Nothing (reply_answer large (open_reply_reading bytes))
explicit_none bytes explicit large = success_none Nothing (reply_answer large (open_reply_reading bytes)) ((explicit_ids (λ id. ⊥) bytes explicit).replied large)

request_none : ItemsReadBack → (sent : Sent) (request : Request) → sent.request ≡ request → IfExplicit request → length (message_text (sent_message sent)) ≤ 2048 → PacketNone (packet_reading (sent_message sent).payload)
request_none back sent registering is explicit short = rw is (subst PacketNone (sym (packet_bad protocol_text plain_protocol)) (λ large. tt))
request_none back sent (opening large fields) is explicit short =
    let body = manager_text (open_service large) (open_text large fields) in
    rw is (subst PacketNone (sym (back body None (omega arith) (few_bytes (sent_message sent) body None (rw is refl) short))) (manager_none (open_service large) (open_text large fields) (open_answers_none large)))
request_none back sent (closing fields) is explicit short =
    let body = manager_text 0x4E (close_text fields) in
    rw is (subst PacketNone (sym (back body None (omega arith) (few_bytes (sent_message sent) body None (rw is refl) short))) (manager_none 0x4E (close_text fields) (record { small = refl; large = refl })))
request_none back sent (requesting bytes) is explicit short =
    rw is (subst PacketNone (sym (back bytes None (explicit_some bytes explicit) (few_bytes (sent_message sent) bytes None (rw is refl) short))) (explicit_none bytes explicit))

frame_none : ItemsReadBack → (sent : Sent) → SendsIfExplicit sent → length (message_text (sent_message sent)) ≤ 2048 → SuccessesAre (λ context opened. ⊥) (message_text (sent_message sent))
frame_none back sent explicit short m is large =
    let same : MessageBack (sent_message sent) m = message_back (sent_message sent) m is in
    message_success Nothing m large (subst (λ (payload : List ℕ). PacketNone (packet_reading payload)) (sym same.payload) (request_none back sent sent.request refl explicit short) large)

requests_none : ItemsReadBack → (requests : List Sent) → AllByRecursion SendsIfExplicit requests → AllByRecursion IsShortFrame (map sent_frame requests) → AllByRecursion IsNoSuccess (map sent_frame requests)
requests_none back [] explicit short = tt
requests_none back (request ∷ requests) explicit short =
    (record { successes = frame_none back request explicit.0 short.0; context = context_fits (sent_message request) }, requests_none back requests explicit.1 short.1)

-- ---- a step

abbrev NextNone : Next → Type 0
NextNone next = IsSmall next.0 → AllByRecursion IsNoSuccess next.0.frames

abbrev OkNone : Result Next StepFault → Type 0
OkNone said = IfOk said NextNone

said_none : ItemsReadBack → (said : Result Next StepFault) → IfOk said SendsRequests → OkNone said
said_none back (Err why) sends = tt
said_none back (Ok next) sends = λ small.
    subst (AllByRecursion IsNoSuccess) (sym sends.frames)
    (requests_none back sends.requests sends.explicit (subst (AllByRecursion IsShortFrame) sends.frames small.short_frames))

step_none : ItemsReadBack → (t : ScannerTable) (happens : Event) → OkNone (scanner_step t happens)
step_none back t happens = said_none back (scanner_step t happens) (event_sends t happens)

pub scanners_send_none : ItemsReadBack → AnswersAreSmall → ScannersSendNoSuccess
unfolding step
scanners_send_none back few t happens answer next is whole =
    let small = few (Scanner t) happens answer (Scanner next) whole (ap as_scanner is) in
    (subst OkNone is (step_none back t happens)) small
