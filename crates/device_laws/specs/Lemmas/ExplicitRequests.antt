-- Explicit requests of a scanner's application: which bytes it sends, and what holds of a request that is sent, and of a message
-- that ends one.
use Rattle.std.proofs.Common.{◌≡◌, ◌≤◌, ◌<◌, ℕ, ◌==◌, nat_le, Bool, true, false, cond, List, [], ◌∷◌, length, Option, Some, None, Result, Ok, Err, refl, sym, ap, subst, arith}
use Rattle.std.specs.List.{list_any}
use Rattle.std.proofs.lemmas.Bool.{or_parts}
use Rattle.std.proofs.lemmas.Bool.Decides.{nat_tests}
use Rattle.cip_types.specs.declared.names.Node.{Node}
use Rattle.cip_encap.specs.Message.{MessageFields}
use Rattle.cip_events.specs.declared.event.Answer.{Answer}
use Rattle.cip_events.specs.declared.event.StepFault.{StepFault}
use Rattle.cip_events.specs.declared.event.StepFault.TheVariants as fault
use Rattle.cip_events.specs.declared.event.Unanswered.{Unanswered}
use Rattle.cip_router.specs.RouterReplies.{RouterReplyFields}
use Rattle.scanner_table.specs.declared.explicit.PendingExplicit.{PendingExplicit}
use Rattle.scanner_table.specs.declared.table.ScannerTable.{ScannerTable}
use Rattle.scanner_table.specs.declared.table.Session.{Session}
use Rattle.scanner_table.specs.declared.table.TargetStream.{TargetStream}
use Rattle.scanner_table.specs.Effects.{Next, done}
use Rattle.scanner_table.specs.Encapsulation.{ends_session, session_renewed, message_answer, reported}
use Rattle.scanner_table.specs.Explicit.{service_of, is_for_slots, is_barred, connects_to, has_explicit_length, explicit_sent, explicit_within, explicit_sized, explicit_request, explicit_reply, explicit_answered, without_explicit}
use Rattle.scanner_table.specs.Requests.{Request, registering, opening, closing, requesting, Sent}
use Rattle.scanner_table.specs.Sessions.{session_with}
use Rattle.device_laws.specs.Ids.{PayloadIds}
use Rattle.device_laws.specs.Lemmas.Payloads.{OpensNone, AnswersNone, other_ids}

-- ---- which bytes

-- the bytes begin with a service that neither opens a connection nor replies to a request to open one
pub record IsExplicit (bytes : List ℕ) : Type 0 where
  pub service : ℕ
  pub rest : List ℕ
  pub is : bytes ≡ service ∷ rest
  pub requests : OpensNone service
  pub replies : AnswersNone service
  pub low : service < 128

-- so they have no ids
pub explicit_ids : (P : ℕ → Type 0) (bytes : List ℕ) → IsExplicit bytes → PayloadIds P bytes
explicit_ids P bytes explicit = subst (PayloadIds P) (sym explicit.is) (other_ids P explicit.service explicit.rest explicit.requests explicit.replies)

pub explicit_some : (bytes : List ℕ) → IsExplicit bytes → 1 ≤ length bytes
explicit_some bytes explicit = omega (arith, ap length explicit.is)

-- the bytes of a request are so, if it is an explicit one
abbrev pub IfExplicit : Request → Type 0
IfExplicit registering = Unit {0}
IfExplicit (opening large fields) = Unit {0}
IfExplicit (closing fields) = Unit {0}
IfExplicit (requesting bytes) = IsExplicit bytes

abbrev pub SendsIfExplicit : Sent → Type 0
SendsIfExplicit sent = IfExplicit sent.request

differs : (n m : ℕ) → nat_le 128 n ≡ false → 128 ≤ m → (n == m) ≡ false
differs n m low high = grind (arith, nat_tests)

below : (n : ℕ) → nat_le 128 n ≡ false → n < 128
below n low = grind (arith, nat_tests)

is_explicit : (service : ℕ) (rest : List ℕ) → is_for_slots service ≡ false → IsExplicit (service ∷ rest)
is_explicit service rest free =
    let first = or_parts (service == 0x54) _ free in
    let second = or_parts (service == 0x5B) _ first.1 in
    let third = or_parts (service == 0x4E) (nat_le 128 service) second.1 in
    record {
      service = service;
      rest = rest;
      is = refl;
      requests = record { small = first.0; large = second.0 };
      replies = record { small = differs service 0xD4 third.1 (omega arith); large = differs service 0xDB third.1 (omega arith) };
      low = below service third.1;
    }

none_short : has_explicit_length [] ≡ true → IsExplicit []
none_short is = absurd (let e : false ≡ true = is in cc)

unbarred : (t : ScannerTable) (number : ℕ) (bytes : List ℕ) → is_barred t number bytes ≡ false → is_for_slots (service_of bytes) ≡ false
unbarred t number bytes free = (or_parts (is_for_slots (service_of bytes)) _ free).0

explicit_by : (t : ScannerTable) (number : ℕ) (bytes : List ℕ) → has_explicit_length bytes ≡ true → is_barred t number bytes ≡ false → IsExplicit bytes
explicit_by t number [] long free = none_short long
explicit_by t number (service ∷ rest) long free = is_explicit service rest (unbarred t number (service ∷ rest) free)

-- ---- a request that is sent

-- the frame goes to a session with the target, and no slot sends such bytes
pub record GoesOut (t : ScannerTable) (target : Node) (bytes : List ℕ) (session : Session) : Type 0 where
  pub session_is : session_with t target ≡ Some session
  pub explicit : IsExplicit bytes

abbrev WhenSent : (Result Next StepFault → Type 0) → ScannerTable → Node → ℕ → List ℕ → Type 0
WhenSent Q t target number bytes = (session : Session) → GoesOut t target bytes session → Q (Ok (done (explicit_sent t session number bytes)))

barred_step : (Q : Result Next StepFault → Type 0) (t : ScannerTable) (target : Node) (number : ℕ) (bytes : List ℕ) (session : Session) (b : Bool) → ((why : StepFault) → Q (Err why)) → WhenSent Q t target number bytes → session_with t target ≡ Some session → has_explicit_length bytes ≡ true → is_barred t number bytes ≡ b → Q (cond b (Err fault.NotAllowedNow) (Ok (done (explicit_sent t session number bytes))))
barred_step Q t target number bytes session true refused sends is long free = refused fault.NotAllowedNow
barred_step Q t target number bytes session false refused sends is long free = sends session (record { session_is = is; explicit = explicit_by t number bytes long free })

within_step : (Q : Result Next StepFault → Type 0) (t : ScannerTable) (target : Node) (number : ℕ) (bytes : List ℕ) (session : Option Session) → ((why : StepFault) → Q (Err why)) → WhenSent Q t target number bytes → session_with t target ≡ session → has_explicit_length bytes ≡ true → Q (explicit_within t number bytes session)
within_step Q t target number bytes None refused sends is long = refused fault.NotAllowedNow
within_step Q t target number bytes (Some session) refused sends is long = barred_step Q t target number bytes session (is_barred t number bytes) refused sends is long refl

sized_step : (Q : Result Next StepFault → Type 0) (t : ScannerTable) (target : Node) (number : ℕ) (bytes : List ℕ) (b : Bool) → ((why : StepFault) → Q (Err why)) → WhenSent Q t target number bytes → has_explicit_length bytes ≡ b → Q (cond b (explicit_within t number bytes (session_with t target)) (Err fault.WrongLength))
sized_step Q t target number bytes true refused sends long = within_step Q t target number bytes (session_with t target) refused sends refl long
sized_step Q t target number bytes false refused sends long = refused fault.WrongLength

known_step : (Q : Result Next StepFault → Type 0) (t : ScannerTable) (target : Node) (number : ℕ) (bytes : List ℕ) (b : Bool) → ((why : StepFault) → Q (Err why)) → WhenSent Q t target number bytes → Q (cond b (explicit_sized t target number bytes) (Err fault.NoSuchSlot))
known_step Q t target number bytes true refused sends = sized_step Q t target number bytes (has_explicit_length bytes) refused sends refl
known_step Q t target number bytes false refused sends = refused fault.NoSuchSlot

-- what holds of a refusal, and of a request that is sent, holds of the event
pub explicit_holds : (Q : Result Next StepFault → Type 0) (t : ScannerTable) (target : Node) (number : ℕ) (bytes : List ℕ) → ((why : StepFault) → Q (Err why)) → WhenSent Q t target number bytes → Q (explicit_request t target number bytes)
unfolding explicit_request
explicit_holds Q t target number bytes refused sends = known_step Q t target number bytes (list_any (connects_to target) t.profile.slots) refused sends

-- ---- a message that ends a request

-- an answer without frames and datagrams, with the table in which the request waits no more
abbrev pub Ends : (Next → Type 0) → ScannerTable → Type 0
Ends Q t = (pending : PendingExplicit) (answer : Answer) → answer.frames ≡ [] → answer.datagrams ≡ [] → Q (answer, without_explicit t pending)

answered_ends : (Q : Next → Type 0) (t : ScannerTable) → Ends Q t → (pending : PendingExplicit) (reply : Result RouterReplyFields Unanswered) → Q (explicit_answered t pending reply)
answered_ends Q t ends pending (Ok reply) = ends pending (explicit_answered t pending (Ok reply)).0 refl refl
answered_ends Q t ends pending (Err why) = ends pending (explicit_answered t pending (Err why)).0 refl refl

ends_step : (b : Bool) (Q : Next → Type 0) (t : ScannerTable) (stream : TargetStream) → Q (done (session_renewed stream t)) → Ends Q t → (pending : PendingExplicit) (reply : Result RouterReplyFields Unanswered) → Q (cond b (done (session_renewed stream t)) (explicit_answered t pending reply))
ends_step true Q t stream renews ends pending reply = renews
ends_step false Q t stream renews ends pending reply = answered_ends Q t ends pending reply

-- what holds of a message that is none's, of one that ends the session, and of one that ends a request, holds of each message
pub message_ends : (Q : Next → Type 0) (t : ScannerTable) (stream : TargetStream) (m : MessageFields) → Q (reported t stream m stream.stage) → Q (done (session_renewed stream t)) → Ends Q t → (found : Option PendingExplicit) → Q (message_answer t stream m found)
message_ends Q t stream m reports renews ends None = reports
message_ends Q t stream m reports renews ends (Some pending) = ends_step (ends_session t m) Q t stream renews ends pending (explicit_reply pending.service m)
