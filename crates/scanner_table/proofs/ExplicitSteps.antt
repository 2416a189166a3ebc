-- Each step keeps the explicit requests few, distinct, over open streams and in time.
use Rattle.std.proofs.Common.{◌≡◌, ◌≤◌, ℕ, ◌+◌, Bool, true, false, cond, not, ◌||◌, ◌==◌, nat_le, nat_lt, List, [], ◌∷◌, ◌++◌, length, filter, find, option_and_then, Option, Some, None, Result, Ok, Err, IfOk, refl, sym, ◌∙◌, ap, subst, arith, length-append}
use Rattle.std.specs.List.{list_any, AllByRecursion}
use Rattle.std.proofs.lemmas.Bool.{or_parts}
use Rattle.std.proofs.lemmas.Bool.Decides.{nat_tests}
use Rattle.std.proofs.lemmas.List.Folds.{list_any-append}
use Rattle.std.proofs.lemmas.Option.{same_Some}
use Rattle.base_lemmas.specs.Numbers.{less_other, other_number}
use Rattle.cip_types.specs.declared.names.Ms.{Ms}
use Rattle.cip_types.specs.declared.names.Mismatch.{Mismatch}
use Rattle.cip_types.specs.declared.names.Node.{Node}
use Rattle.cip_types.specs.Cases.{first_case}
use Rattle.cip_encap.specs.declared.message.EncapFault.{EncapFault}
use Rattle.cip_encap.specs.Message.{MessageFields}
use Rattle.cip_encap.specs.Reading.{message_reading}
use Rattle.cip_events.specs.declared.event.Event.{Event}
use Rattle.cip_events.specs.declared.event.Event.TheVariants.{StreamOpened, Frame, StreamCut, Tick, Start, Stop, Explicit}
use Rattle.cip_events.specs.declared.event.Reason.{Reason}
use Rattle.cip_events.specs.declared.event.Reason.TheVariants as reason
use Rattle.cip_types.specs.declared.names.Triad.{Triad}
use Rattle.conn_state.specs.declared.names.Link.{Link}
use Rattle.cip_events.specs.declared.event.StepFault.{StepFault}
use Rattle.cip_events.specs.declared.event.StepFault.TheVariants as fault
use Rattle.cip_events.specs.declared.event.Unanswered.{Unanswered}
use Rattle.cip_events.specs.Clock.{longest_tick, clock_end}
use Rattle.cip_fwdopen.specs.declared.reply.Opened as made
use Rattle.cip_fwdopen.specs.declared.reply.OpenAnswer.{OpenAnswer}
use Rattle.cip_fwdopen.specs.declared.reply.OpenAnswer.TheVariants as answer
use Rattle.cip_router.specs.RouterReplies.{RouterReplyFields}
use Rattle.conn_state.specs.Answers.{answer_tests}
use Rattle.scanner_table.specs.declared.explicit.PendingExplicit.{PendingExplicit}
use Rattle.scanner_table.specs.declared.profile.ScannerProfile.{ScannerProfile}
use Rattle.scanner_table.specs.declared.profile.SlotConfig.{SlotConfig}
use Rattle.scanner_table.specs.declared.slot.PendingOpen as opening
use Rattle.scanner_table.specs.declared.slot.SlotState.{SlotState}
use Rattle.scanner_table.specs.declared.slot.SlotState.TheVariants.{Idle, Opening, Established, TimedOut, Closing}
use Rattle.scanner_table.specs.declared.table.ScannerTable.{ScannerTable}
use Rattle.scanner_table.specs.declared.table.Session.{Session}
use Rattle.scanner_table.specs.declared.table.Stage.{Stage}
use Rattle.scanner_table.specs.declared.table.Stage.TheVariants.{Waiting, Up, Unused}
use Rattle.scanner_table.specs.declared.table.TargetStream.{TargetStream}
use Rattle.scanner_table.specs.Slots.{IndexedSlot, indexed_slots, with_slot}
use Rattle.scanner_table.specs.Sessions.{is_stream, is_other_stream, is_to, is_taken, with_stream, without_stream, with_stage, session_at, session_on, session_with}
use Rattle.scanner_table.specs.Requests.{is_large}
use Rattle.scanner_table.specs.Effects.{Next, nothing, done}
use Rattle.scanner_table.specs.Opening.{has_request, can_open, exhausted, open_requested, opened_within, close_requested, cleared_within, opened_from, asking_session, opened, target_opened}
use Rattle.scanner_table.specs.Replies.{open_answer, is_id_free, refused, disowned, disowned_within, rejected, judged_success, answered}
use Rattle.scanner_table.specs.Closing.{idle_slot, closed, target_lost}
use Rattle.scanner_table.specs.Explicit.{has_number, is_request, is_over, awaits, others, with_explicit, connects_to, has_explicit_length, service_of, is_for_slots, is_barred, pending_explicit, explicit_sent, explicit_within, explicit_request, explicit_reply, explicit_answered, is_late, explicit_timed_out, explicit_lost}
use Rattle.scanner_table.specs.Encapsulation.{registering_on, ignored, stream_opened, cut_of, stream_cut, is_registered, session_begun, session_failed, registered, ends_session, session_renewed, is_awaiting, replied, replied_to, unserved_state, unserved, unserved_at, reported, message_answer, frame_answer, frame_of, frame}
use Rattle.scanner_table.specs.Productions.{produced_table}
use Rattle.scanner_table.specs.Ticks.{clocked_table, advanced, moved_on, ticked, tick}
use Rattle.scanner_table.specs.Step.{scanner_step, scanner_table}
use Rattle.scanner_table.specs.Runs.{StepsKeep, IsLaw}
use Rattle.scanner_table.specs.Pending.{ExplicitDiffer, IsPending, IsInTime, ArePending, ExplicitArePending}
use Rattle.scanner_table.specs.Lemmas.Moves.{Kept, target_leads, lost_leads, advanced_leads, start_leads, stop_leads}
use Rattle.scanner_table.specs.Lemmas.SlotEventLemmas.{DiffersInSlots, slots_hold}
use Rattle.scanner_table.specs.Lemmas.Events.{law_of}
use Rattle.scanner_table.proofs.WholeLemmas.{any_staged}

-- ---- tables that keep the pending requests

-- the pending requests, the profile and the clock stay, the next request number does not fall, and no stream ends
record Keeps (t u : ScannerTable) : Type 0 where
  profile : u.profile ≡ t.profile
  clock : u.clock ≡ t.clock
  explicit : u.explicit ≡ t.explicit
  requests : t.next_request ≤ u.next_request
  streams : (n : ℕ) → list_any (is_stream n) t.streams ≡ true → list_any (is_stream n) u.streams ≡ true

keeps_same : (t : ScannerTable) → Keeps t t
keeps_same t = record { profile = refl; clock = refl; explicit = refl; requests = omega arith; streams = λ n here. here }

keeps_after : (t u v : ScannerTable) → Keeps t u → Keeps u v → Keeps t v
keeps_after t u v first next = record {
  profile = next.profile ∙ first.profile;
  clock = next.clock ∙ first.clock;
  explicit = next.explicit ∙ first.explicit;
  requests = omega (arith, first.requests, next.requests);
  streams = λ n here. next.streams n (first.streams n here);
}

-- slots alone keep them
slots_keep : Kept Keeps
slots_keep = record {
  same = keeps_same;
  after = keeps_after;
  opening = λ t indexed stands closed_before place left. record { profile = refl; clock = refl; explicit = refl; requests = omega arith; streams = λ n here. here };
  idling = λ t indexed slot stands idle. record { profile = refl; clock = refl; explicit = refl; requests = omega arith; streams = λ n here. here };
  timing_out = λ t indexed link slot stands is becomes. record { profile = refl; clock = refl; explicit = refl; requests = omega arith; streams = λ n here. here };
  closing = λ t indexed link desired_up stands is. record { profile = refl; clock = refl; explicit = refl; requests = omega arith; streams = λ n here. here };
}

-- ---- each pending request

pending_on : (r s a b : ℕ) (old new : List TargetStream) (p : PendingExplicit) → r ≤ s → a ≤ b → ((n : ℕ) → list_any (is_stream n) old ≡ true → list_any (is_stream n) new ≡ true) → IsPending r a old p → IsPending s b new p
pending_on r s a b old new p up on opens is = record { request = omega (arith, is.request); stream = opens p.stream is.stream; deadline = omega (arith, is.deadline) }

each_on : (r s a b : ℕ) (old new : List TargetStream) (ps : List PendingExplicit) → r ≤ s → a ≤ b → ((n : ℕ) → list_any (is_stream n) old ≡ true → list_any (is_stream n) new ≡ true) → AllByRecursion (IsPending r a old) ps → AllByRecursion (IsPending s b new) ps
each_on r s a b old new [] up on opens all = tt
each_on r s a b old new (p ∷ ps) up on opens all = (pending_on r s a b old new p up on opens all.0, each_on r s a b old new ps up on opens all.1)

are_kept : (t u : ScannerTable) → Keeps t u → ExplicitArePending t → ArePending u.next_request t.clock t.profile.open_timeout u.streams t.explicit
are_kept t u keeps all = record {
  few = all.few;
  differ = all.differ;
  each = each_on t.next_request u.next_request _ _ t.streams u.streams t.explicit keeps.requests (omega arith) keeps.streams all.each;
  in_time = all.in_time;
}

fits_kept : (t u : ScannerTable) → Keeps t u → ExplicitArePending t → ExplicitArePending u
fits_kept t u keeps all =
    subst (λ (ps : List PendingExplicit). ArePending u.next_request u.clock u.profile.open_timeout u.streams ps) (sym keeps.explicit)
    (subst (λ (p : ScannerProfile). ArePending u.next_request u.clock p.open_timeout u.streams t.explicit) (sym keeps.profile)
    (subst (λ (c : Ms). ArePending u.next_request c t.profile.open_timeout u.streams t.explicit) (sym keeps.clock) (are_kept t u keeps all)))

-- ---- fewer requests

few_left : (test : PendingExplicit → Bool) (ps : List PendingExplicit) → length (filter test ps) ≤ length ps
few_left test [] = omega arith
few_left test (p ∷ ps) =
    elim (test p) as (λ b. length (cond b (p ∷ filter test ps) (filter test ps)) ≤ length (p ∷ ps)) [
      | true ↦ omega (arith, few_left test ps)
      | false ↦ omega (arith, few_left test ps)
    ]

any_left_step : (b : Bool) (q : PendingExplicit → Bool) (p : PendingExplicit) (ps : List PendingExplicit) → q p ≡ false → list_any q ps ≡ false → list_any q (cond b (p ∷ ps) ps) ≡ false
any_left_step true q p ps none rest = rw none rest
any_left_step false q p ps none rest = rest

any_left : (test q : PendingExplicit → Bool) (ps : List PendingExplicit) → list_any q ps ≡ false → list_any q (filter test ps) ≡ false
any_left test q [] none = refl
any_left test q (p ∷ ps) none =
    let parts = or_parts (q p) (list_any q ps) none in
    any_left_step (test p) q p (filter test ps) parts.0 (any_left test q ps parts.1)

differ_left_step : (b : Bool) (p : PendingExplicit) (ps : List PendingExplicit) → list_any (has_number p.number) ps ≡ false → list_any (is_request p.request) ps ≡ false → ExplicitDiffer ps → ExplicitDiffer (cond b (p ∷ ps) ps)
differ_left_step true p ps number request rest = (number, request, rest)
differ_left_step false p ps number request rest = rest

differ_left : (test : PendingExplicit → Bool) (ps : List PendingExplicit) → ExplicitDiffer ps → ExplicitDiffer (filter test ps)
differ_left test [] differ = tt
differ_left test (p ∷ ps) differ =
    differ_left_step (test p) p (filter test ps) (any_left test (has_number p.number) ps differ.0) (any_left test (is_request p.request) ps differ.1) (differ_left test ps differ.2)

-- what holds of each request holds of each that is left, which passes the test
each_left_step : (b : Bool) (P : PendingExplicit → Type 0) (p : PendingExplicit) (ps : List PendingExplicit) → (b ≡ true → P p) → AllByRecursion P ps → AllByRecursion P (cond b (p ∷ ps) ps)
each_left_step true P p ps here rest = (here refl, rest)
each_left_step false P p ps here rest = rest

each_left : (P Q : PendingExplicit → Type 0) (test : PendingExplicit → Bool) → ((p : PendingExplicit) → test p ≡ true → P p → Q p) → (ps : List PendingExplicit) → AllByRecursion P ps → AllByRecursion Q (filter test ps)
each_left P Q test more [] all = tt
each_left P Q test more (p ∷ ps) all = each_left_step (test p) Q p (filter test ps) (λ passes. more p passes all.0) (each_left P Q test more ps all.1)

fits_left : (test : PendingExplicit → Bool) (t : ScannerTable) → ExplicitArePending t → ExplicitArePending (with_explicit t (filter test t.explicit))
fits_left test t all = record {
  few = omega (arith, few_left test t.explicit, all.few);
  differ = differ_left test t.explicit all.differ;
  each = each_left (IsPending t.next_request (t.clock.0 + t.profile.open_timeout) t.streams) (IsPending t.next_request (t.clock.0 + t.profile.open_timeout) t.streams) test (λ p passes is. is) t.explicit all.each;
  in_time = λ some. each_left (IsInTime t.clock) (IsInTime t.clock) test (λ p passes is. is) t.explicit (all.in_time some);
}

-- ---- what a step gives

abbrev LeavesPending : Result Next StepFault → Type 0
LeavesPending said = IfOk said (λ next. ExplicitArePending next.1)

-- ---- one request more

any_more : {A : Type 0} → (q : A → Bool) (xs : List A) (x : A) → list_any q xs ≡ false → q x ≡ false → list_any q (xs ++ x ∷ []) ≡ false
any_more q xs x none new = rw (list_any-append q xs (x ∷ []), none, new) refl

differ_more : (ps : List PendingExplicit) (new : PendingExplicit) → ExplicitDiffer ps → list_any (has_number new.number) ps ≡ false → list_any (is_request new.request) ps ≡ false → ExplicitDiffer (ps ++ new ∷ [])
differ_more [] new differ number request = (refl, refl, tt)
differ_more (p ∷ ps) new differ number request =
    let numbers = or_parts (has_number new.number p) (list_any (has_number new.number) ps) number in
    let requests = or_parts (is_request new.request p) (list_any (is_request new.request) ps) request in (
      any_more (has_number p.number) ps new differ.0 (other_number p.number new.number numbers.0),
      any_more (is_request p.request) ps new differ.1 (other_number p.request new.request requests.0),
      differ_more ps new differ.2 numbers.1 requests.1,
    )

each_more : (P : PendingExplicit → Type 0) (ps : List PendingExplicit) (new : PendingExplicit) → AllByRecursion P ps → P new → AllByRecursion P (ps ++ new ∷ [])
each_more P [] new all here = (here, tt)
each_more P (p ∷ ps) new all here = (all.0, each_more P ps new all.1 here)

-- no request has the next number
none_next : (next latest : ℕ) (streams : List TargetStream) (ps : List PendingExplicit) → AllByRecursion (IsPending next latest streams) ps → list_any (is_request next) ps ≡ false
none_next next latest streams [] all = refl
none_next next latest streams (p ∷ ps) all = rw (less_other p.request next all.0.request) (none_next next latest streams ps all.1)

session_step : (b : Bool) (stream : TargetStream) (rest : Option TargetStream) (found : TargetStream) → cond b (Some stream) rest ≡ Some found → (b ≡ true → stream ≡ found) × (b ≡ false → rest ≡ Some found)
session_step true stream rest found is = ((λ yes. same_Some stream found is), (λ none. absurd cc))
session_step false stream rest found is = ((λ yes. absurd cc), (λ none. is))

same_stream : (n : ℕ) → (n == n) ≡ true
same_stream n = grind (arith, nat_tests)

or_true : (b : Bool) → (b || true) ≡ true
or_true true = refl
or_true false = refl

open_head : (stream found : TargetStream) (streams : List TargetStream) → stream ≡ found → list_any (is_stream found.number) (stream ∷ streams) ≡ true
open_head stream found streams is = rw (is, same_stream found.number) refl

open_tail : (n : ℕ) (stream : TargetStream) (streams : List TargetStream) → list_any (is_stream n) streams ≡ true → list_any (is_stream n) (stream ∷ streams) ≡ true
open_tail n stream streams here = rw here (or_true (is_stream n stream))

-- a stream that a lookup found is open
found_open : (test : TargetStream → Bool) (streams : List TargetStream) (found : TargetStream) → find test streams ≡ Some found → list_any (is_stream found.number) streams ≡ true
found_open test [] found is = absurd cc
found_open test (stream ∷ streams) found is =
    let step = session_step (test stream) stream (find test streams) found is in
    elim (test stream) as (λ b. (b ≡ true → stream ≡ found) × (b ≡ false → find test streams ≡ Some found) → list_any (is_stream found.number) (stream ∷ streams) ≡ true) [
      | true ↦ λ both. open_head stream found streams (both.0 refl)
      | false ↦ λ both. open_tail found.number stream streams (found_open test streams found (both.1 refl))
    ] step

stage_number : (number : ℕ) (stage : Stage) (session : Session) → session_at number stage ≡ Some session → session.stream ≡ number
stage_number number Waiting session is = absurd cc
stage_number number (Up handle) session is = ap (λ (s : Session). s.stream) (sym (same_Some _ session is))
stage_number number Unused session is = absurd cc

session_open_of : (test : TargetStream → Bool) (streams : List TargetStream) (found : Option TargetStream) (session : Session) → find test streams ≡ found → option_and_then session_on found ≡ Some session → list_any (is_stream session.stream) streams ≡ true
session_open_of test streams None session is has = absurd cc
session_open_of test streams (Some stream) session is has =
    subst (λ (n : ℕ). list_any (is_stream n) streams ≡ true) (sym (stage_number stream.number stream.stage session has)) (found_open test streams stream is)

-- the stream of a session is open
session_open : (t : ScannerTable) (target : Node) (session : Session) → session_with t target ≡ Some session → list_any (is_stream session.stream) t.streams ≡ true
session_open t target session is = session_open_of (is_to target) t.streams (find (is_to target) t.streams) session refl is

space_left : (ps : List PendingExplicit) → nat_le 16 (length ps) ≡ false → length ps + 1 ≤ 16
space_left ps free = grind (arith, nat_tests, free)

fits_sent : (t : ScannerTable) (session : Session) (number : ℕ) (bytes : List ℕ) → is_barred t number bytes ≡ false → list_any (is_stream session.stream) t.streams ≡ true → ExplicitArePending t → ExplicitArePending (explicit_sent t session number bytes).table
fits_sent t session number bytes free opens all =
    let new = pending_explicit t session number bytes in
    let first = or_parts (is_for_slots (service_of bytes)) _ free in
    let second = or_parts (nat_le 16 (length t.explicit)) _ first.1 in
    let third = or_parts (list_any (has_number number) t.explicit) (not (has_request t)) second.1 in
    record {
      few = simp length-append (omega (arith, space_left t.explicit second.0));
      differ = differ_more t.explicit new all.differ third.0 (none_next t.next_request (t.clock.0 + t.profile.open_timeout) t.streams t.explicit all.each);
      each =
          each_more (IsPending (t.next_request + 1) (t.clock.0 + t.profile.open_timeout) t.streams) t.explicit new
          (each_on t.next_request (t.next_request + 1) (t.clock.0 + t.profile.open_timeout) (t.clock.0 + t.profile.open_timeout) t.streams t.streams t.explicit (omega arith) (omega arith) (λ n here. here) all.each)
          (record { request = omega arith; stream = opens; deadline = omega arith });
      in_time = λ some. each_more (IsInTime t.clock) t.explicit new (all.in_time some) (omega (arith, some));
    }

barred_step : (b : Bool) (t : ScannerTable) (session : Session) (number : ℕ) (bytes : List ℕ) → is_barred t number bytes ≡ b → list_any (is_stream session.stream) t.streams ≡ true → ExplicitArePending t → LeavesPending (cond b (Err fault.NotAllowedNow) (Ok (done (explicit_sent t session number bytes))))
barred_step true t session number bytes is opens all = tt
barred_step false t session number bytes is opens all = fits_sent t session number bytes is opens all

within_pending : (t : ScannerTable) (target : Node) (number : ℕ) (bytes : List ℕ) (session : Option Session) → session_with t target ≡ session → ExplicitArePending t → LeavesPending (explicit_within t number bytes session)
within_pending t target number bytes None is all = tt
within_pending t target number bytes (Some session) is all = barred_step (is_barred t number bytes) t session number bytes refl (session_open t target session is) all

explicit_step : (a b : Bool) (t : ScannerTable) (target : Node) (number : ℕ) (bytes : List ℕ) → ExplicitArePending t → LeavesPending (cond a (cond b (explicit_within t number bytes (session_with t target)) (Err fault.WrongLength)) (Err fault.NoSuchSlot))
explicit_step true true t target number bytes all = within_pending t target number bytes (session_with t target) refl all
explicit_step true false t target number bytes all = tt
explicit_step false b t target number bytes all = tt

explicit_pending : (t : ScannerTable) (target : Node) (number : ℕ) (bytes : List ℕ) → ExplicitArePending t → LeavesPending (explicit_request t target number bytes)
unfolding explicit_request
explicit_pending t target number bytes all = explicit_step (list_any (connects_to target) t.profile.slots) (has_explicit_length bytes) t target number bytes all

-- ---- streams open and end

append_open : (n : ℕ) (streams more : List TargetStream) → list_any (is_stream n) streams ≡ true → list_any (is_stream n) (streams ++ more) ≡ true
append_open n streams more here = rw (list_any-append (is_stream n) streams more, here) refl

taken_step : (b : Bool) (t : ScannerTable) (number : ℕ) (target : Node) → ExplicitArePending t → LeavesPending (cond b (Err fault.NotAllowedNow) (Ok (done (registering_on t number target))))
taken_step true t number target all = tt
taken_step false t number target all =
    fits_kept t (with_stream t number target) (record { profile = refl; clock = refl; explicit = refl; requests = omega arith; streams = λ n here. append_open n t.streams _ here }) all

streamed_pending : (t : ScannerTable) (number : ℕ) (target : Node) → ExplicitArePending t → LeavesPending (stream_opened t number target)
unfolding stream_opened
streamed_pending t number target all = taken_step (is_taken t.streams number target) t number target all

-- another stream stays open
other_step : (b c : Bool) (n m : ℕ) (stream : TargetStream) (rest left : List TargetStream) → (stream.number == m) ≡ b → (stream.number == n) ≡ c → (n == m) ≡ false → (c || list_any (is_stream n) rest) ≡ true → (list_any (is_stream n) rest ≡ true → list_any (is_stream n) left ≡ true) → list_any (is_stream n) (cond (not b) (stream ∷ left) left) ≡ true
other_step true true n m stream rest left is same apart here more = absurd (grind (arith, nat_tests, is, same, apart))
other_step true false n m stream rest left is same apart here more = more here
other_step false true n m stream rest left is same apart here more = rw same refl
other_step false false n m stream rest left is same apart here more = rw same (more here)

other_open : (n m : ℕ) (streams : List TargetStream) → (n == m) ≡ false → list_any (is_stream n) streams ≡ true → list_any (is_stream n) (filter (is_other_stream m) streams) ≡ true
other_open n m [] apart here = absurd cc
other_open n m (stream ∷ streams) apart here =
    other_step (stream.number == m) (stream.number == n) n m stream streams (filter (is_other_stream m) streams) refl refl apart here (λ rest. other_open n m streams apart rest)

is_none : (b : Bool) → not b ≡ true → b ≡ false
is_none true is = absurd cc
is_none false is = refl

-- the requests of other streams are pending still
fits_lost_of : (t : ScannerTable) (stream : ℕ) → ExplicitArePending t → ArePending t.next_request t.clock t.profile.open_timeout (without_stream t stream).streams (others (is_over stream) t.explicit)
fits_lost_of t stream all = record {
  few = omega (arith, few_left (λ p. not (is_over stream p)) t.explicit, all.few);
  differ = differ_left (λ p. not (is_over stream p)) t.explicit all.differ;
  each =
      each_left (IsPending t.next_request (t.clock.0 + t.profile.open_timeout) t.streams) (IsPending t.next_request (t.clock.0 + t.profile.open_timeout) (without_stream t stream).streams)
      (λ p. not (is_over stream p))
      (λ p passes is. record { request = is.request; stream = other_open p.stream stream t.streams (is_none (p.stream == stream) passes) is.stream; deadline = is.deadline })
      t.explicit all.each;
  in_time = λ some. each_left (IsInTime t.clock) (IsInTime t.clock) (λ p. not (is_over stream p)) (λ p passes is. is) t.explicit (all.in_time some);
}

fits_lost : (t u : ScannerTable) (stream : ℕ) → Keeps (without_stream t stream) u → ExplicitArePending t → ExplicitArePending (explicit_lost stream u).table
unfolding explicit_lost
fits_lost t u stream keeps all =
    let now = with_explicit (without_stream t stream) (others (is_over stream) t.explicit) in
    let next = with_explicit u (others (is_over stream) u.explicit) in
    fits_kept now next
    (record { profile = keeps.profile; clock = keeps.clock; explicit = ap (λ (ps : List PendingExplicit). others (is_over stream) ps) keeps.explicit; requests = keeps.requests; streams = keeps.streams })
    (fits_lost_of t stream all)

cut_pending_of : (t : ScannerTable) (found : Option TargetStream) → ExplicitArePending t → LeavesPending (cut_of t found)
cut_pending_of t None all = tt
cut_pending_of t (Some stream) all =
    let now = without_stream t stream.number in
    fits_lost t (target_lost stream.peer now).table stream.number (lost_leads Keeps slots_keep stream.peer now) all

cut_pending : (t : ScannerTable) (number : ℕ) → ExplicitArePending t → LeavesPending (stream_cut t number)
unfolding stream_cut
cut_pending t number all = cut_pending_of t (find (is_stream number) t.streams) all

-- ---- frames

staged_keeps : (t : ScannerTable) (number : ℕ) (stage : Stage) → Keeps t (with_stage t number stage)
staged_keeps t number stage = record { profile = refl; clock = refl; explicit = refl; requests = omega arith; streams = λ n here. any_staged number n stage t.streams ∙ here }

registered_keeps : (b : Bool) (t : ScannerTable) (stream : TargetStream) (handle : ℕ) → Keeps t (cond b (session_begun t stream handle) (session_failed t stream)).table
registered_keeps true t stream handle =
    let now = with_stage t stream.number (Up handle) in
    keeps_after t now (target_opened stream.peer now).table (staged_keeps t stream.number (Up handle)) (target_leads Keeps slots_keep stream.peer now)
registered_keeps false t stream handle = staged_keeps t stream.number Unused

-- what closes or opens a slot keeps them
disown_keeps : (b : Bool) (t : ScannerTable) (config : SlotConfig) (triad : Triad) (session : Session) → Keeps t (cond b (disowned t config triad session) (nothing t)).table
disown_keeps true t config triad session = record { profile = refl; clock = refl; explicit = refl; requests = omega arith; streams = λ n here. here }
disown_keeps false t config triad session = keeps_same t

disowned_keeps : (t : ScannerTable) (config : SlotConfig) (triad : Triad) (session : Option Session) → Keeps t (disowned_within t config triad session).table
disowned_keeps t config triad None = keeps_same t
disowned_keeps t config triad (Some session) = disown_keeps (has_request t) t config triad session

reject_keeps : (b : Bool) (t : ScannerTable) (config : SlotConfig) (triad : Triad) → Keeps t (cond b (disowned_within t config triad (session_with t config.target)) (nothing t)).table
reject_keeps true t config triad = disowned_keeps t config triad (session_with t config.target)
reject_keeps false t config triad = keeps_same t

open_keeps : (b : Bool) (t : ScannerTable) (indexed : IndexedSlot) (session : Session) → Keeps t (cond b (open_requested t indexed session) (exhausted t indexed)).table
open_keeps true t indexed session = record { profile = refl; clock = refl; explicit = refl; requests = omega arith; streams = λ n here. here }
open_keeps false t indexed session = record { profile = refl; clock = refl; explicit = refl; requests = omega arith; streams = λ n here. here }

within_keeps : (t : ScannerTable) (indexed : IndexedSlot) (session : Option Session) → Keeps t (opened_within t indexed session).table
within_keeps t indexed None = keeps_same t
within_keeps t indexed (Some session) = open_keeps (can_open t indexed.config) t indexed session

close_keeps : (b : Bool) (t : ScannerTable) (indexed : IndexedSlot) (link : Link) (session : Session) → Keeps t (cond b (close_requested t indexed link indexed.slot.desired_up session) (exhausted t indexed)).table
close_keeps true t indexed link session = record { profile = refl; clock = refl; explicit = refl; requests = omega arith; streams = λ n here. here }
close_keeps false t indexed link session = record { profile = refl; clock = refl; explicit = refl; requests = omega arith; streams = λ n here. here }

cleared_keeps : (t : ScannerTable) (indexed : IndexedSlot) (link : Link) (session : Option Session) → Keeps t (cleared_within t indexed link session).table
cleared_keeps t indexed link None = keeps_same t
cleared_keeps t indexed link (Some session) = close_keeps (has_request t) t indexed link session

tidy_keeps : (b : Bool) (t : ScannerTable) (indexed : IndexedSlot) (link : Link) (session : Option Session) → Keeps t (cond b (cleared_within t indexed link session) (opened_within t indexed session)).table
tidy_keeps true t indexed link session = cleared_keeps t indexed link session
tidy_keeps false t indexed link session = within_keeps t indexed session

from_keeps : (t : ScannerTable) (indexed : IndexedSlot) (session : Option Session) (state : SlotState) → Keeps t (opened_from t indexed session state).table
from_keeps t indexed session (TimedOut link) = tidy_keeps t.profile.tidy t indexed link session
from_keeps t indexed session other = within_keeps t indexed session

opened_keeps : (t : ScannerTable) (indexed : IndexedSlot) → Keeps t (opened t indexed).table
unfolding opened
opened_keeps t indexed = from_keeps t indexed (asking_session t indexed) indexed.slot.state

reopen_keeps : (b : Bool) (t : ScannerTable) (indexed : IndexedSlot) → Keeps t (cond b (opened t indexed) (nothing t)).table
reopen_keeps true t indexed = opened_keeps t indexed
reopen_keeps false t indexed = keeps_same t

closed_keeps : (t : ScannerTable) (indexed : IndexedSlot) → Keeps t (closed t indexed).table
closed_keeps t indexed =
    let u = with_slot t indexed.number (idle_slot indexed.slot) in
    keeps_after t u (closed t indexed).table record { profile = refl; clock = refl; explicit = refl; requests = omega arith; streams = λ n here. here }
    (reopen_keeps indexed.slot.desired_up u (record indexed { slot = idle_slot indexed.slot }))

success_keeps : (t : ScannerTable) (indexed : IndexedSlot) (o : opening.PendingOpen) (success : made.Opened) (why : Option Mismatch) → Keeps t (judged_success t indexed o success why).table
success_keeps t indexed o success (Some why) =
    let u = (refused t indexed (reason.Mismatch why)).table in
    keeps_after t u (rejected indexed.config o.requested.triad u).table record { profile = refl; clock = refl; explicit = refl; requests = omega arith; streams = λ n here. here }
    (reject_keeps u.profile.tidy u indexed.config o.requested.triad)
success_keeps t indexed o success None = record { profile = refl; clock = refl; explicit = refl; requests = omega arith; streams = λ n here. here }

answered_keeps : (t : ScannerTable) (indexed : IndexedSlot) (o : opening.PendingOpen) (said : Result OpenAnswer Reason) → Keeps t (answered t indexed o said).table
unfolding answered
answered_keeps t indexed o (Err why) = record { profile = refl; clock = refl; explicit = refl; requests = omega arith; streams = λ n here. here }
answered_keeps t indexed o (Ok (answer.Refused r)) = record { profile = refl; clock = refl; explicit = refl; requests = omega arith; streams = λ n here. here }
answered_keeps t indexed o (Ok (answer.Opened success)) = success_keeps t indexed o success (first_case (answer_tests o.requested success (is_id_free t indexed success.t_o_id)))

replied_keeps : (t : ScannerTable) (indexed : IndexedSlot) (m : MessageFields) (state : SlotState) → Keeps t (replied t indexed m state).1
replied_keeps t indexed m Idle = keeps_same t
replied_keeps t indexed m (Opening o) = answered_keeps t indexed o (open_answer (is_large indexed.config) m)
replied_keeps t indexed m (Established c) = keeps_same t
replied_keeps t indexed m (TimedOut link) = keeps_same t
replied_keeps t indexed m (Closing c) = closed_keeps t indexed

replied_to_keeps : (t : ScannerTable) (m : MessageFields) (found : Option IndexedSlot) → Keeps t (replied_to t m found).1
replied_to_keeps t m None = keeps_same t
replied_to_keeps t m (Some indexed) = replied_keeps t indexed m indexed.slot.state

first_step : (b : Bool) (t : ScannerTable) (stream : TargetStream) (m : MessageFields) → Keeps t (cond b (done (registered t stream m)) (ignored t)).1
first_step true t stream m = registered_keeps (is_registered m) t stream m.session
first_step false t stream m = keeps_same t

-- the session on a stream ends, and a new one is registered: the requests of other streams are pending still
renewed_pending : (t : ScannerTable) (stream : TargetStream) → ExplicitArePending t → ExplicitArePending (session_renewed stream t).table
unfolding explicit_lost
renewed_pending t stream all =
    let now = with_stage t stream.number Waiting in
    let lost = (target_lost stream.peer now).table in
    fits_left (λ p. not (is_over stream.number p)) lost (fits_kept t lost (keeps_after t now lost (staged_keeps t stream.number Waiting) (lost_leads Keeps slots_keep stream.peer now)) all)

unserved_keeps : (t : ScannerTable) (indexed : IndexedSlot) (status : ℕ) (state : SlotState) → Keeps t (unserved_state status t indexed state).table
unserved_keeps t indexed status (Opening o) = record { profile = refl; clock = refl; explicit = refl; requests = omega arith; streams = λ n here. here }
unserved_keeps t indexed status other = keeps_same t

answered_at_pending : (b : Bool) (t : ScannerTable) (stream : TargetStream) (m : MessageFields) (found : Option IndexedSlot) → ExplicitArePending t → ExplicitArePending (cond b (unserved_at t stream m found) (replied_to t m found)).1
answered_at_pending true t stream m None all = all
answered_at_pending true t stream m (Some indexed) all =
    let u = (unserved m.status t indexed).table in
    renewed_pending u stream (fits_kept t u (unserved_keeps t indexed m.status indexed.slot.state) all)
answered_at_pending false t stream m found all = fits_kept t (replied_to t m found).1 (replied_to_keeps t m found) all

reported_pending : (t : ScannerTable) (stream : TargetStream) (m : MessageFields) (stage : Stage) → ExplicitArePending t → ExplicitArePending (reported t stream m stage).1
reported_pending t stream m Waiting all = fits_kept t (reported t stream m Waiting).1 (first_step (m.context == 0) t stream m) all
reported_pending t stream m (Up handle) all = answered_at_pending (ends_session t m) t stream m (find (is_awaiting stream.peer m.context) (indexed_slots t)) all
reported_pending t stream m Unused all = all

explicit_answered_pending : (t : ScannerTable) (pending : PendingExplicit) (reply : Result RouterReplyFields Unanswered) → ExplicitArePending t → ExplicitArePending (explicit_answered t pending reply).1
explicit_answered_pending t pending (Ok reply) all = fits_left (λ p. not (is_request pending.request p)) t all
explicit_answered_pending t pending (Err why) all = fits_left (λ p. not (is_request pending.request p)) t all

explicit_ends_pending : (b : Bool) (t : ScannerTable) (stream : TargetStream) (m : MessageFields) (pending : PendingExplicit) (reply : Result RouterReplyFields Unanswered) → ExplicitArePending t → ExplicitArePending (cond b (done (session_renewed stream t)) (explicit_answered t pending reply)).1
explicit_ends_pending true t stream m pending reply all = renewed_pending t stream all
explicit_ends_pending false t stream m pending reply all = explicit_answered_pending t pending reply all

message_pending : (t : ScannerTable) (stream : TargetStream) (m : MessageFields) (found : Option PendingExplicit) → ExplicitArePending t → ExplicitArePending (message_answer t stream m found).1
message_pending t stream m None all = reported_pending t stream m stream.stage all
message_pending t stream m (Some pending) all = explicit_ends_pending (ends_session t m) t stream m pending (explicit_reply pending.service m) all

frame_answer_pending : (t : ScannerTable) (stream : TargetStream) (reading : Result MessageFields EncapFault) → ExplicitArePending t → ExplicitArePending (frame_answer t stream reading).1
frame_answer_pending t stream (Err why) all = all
frame_answer_pending t stream (Ok m) all = message_pending t stream m (find (awaits stream.number m.context) t.explicit) all

frame_of_pending : (t : ScannerTable) (bytes : List ℕ) (found : Option TargetStream) → ExplicitArePending t → LeavesPending (frame_of t bytes found)
frame_of_pending t bytes None all = tt
frame_of_pending t bytes (Some stream) all = frame_answer_pending t stream (message_reading bytes) all

frame_pending : (t : ScannerTable) (number : ℕ) (bytes : List ℕ) → ExplicitArePending t → LeavesPending (frame t number bytes)
unfolding frame
frame_pending t number bytes all = frame_of_pending t bytes (find (is_stream number) t.streams) all

-- ---- ticks

in_time_of : (clock : Ms) (p : PendingExplicit) → not (is_late clock p) ≡ true → IsInTime clock p
in_time_of clock p is = let none = is_none (nat_le p.deadline.0 clock.0) is in grind (arith, nat_tests, none)

-- the late requests end, and the others are pending still
fits_moved : (t u : ScannerTable) (ms : ℕ) → Keeps (clocked_table t ms) u → ExplicitArePending t → ExplicitArePending (explicit_timed_out u).table
unfolding explicit_timed_out
fits_moved t u ms keeps all =
    let now = clocked_table t ms in
    let left = others (is_late now.clock) t.explicit in
    let next = with_explicit u (others (is_late u.clock) u.explicit) in
    fits_kept (with_explicit now left) next
    (record {
      profile = keeps.profile;
      clock = keeps.clock;
      explicit = ap (λ (c : Ms). others (is_late c) u.explicit) keeps.clock ∙ ap (λ (ps : List PendingExplicit). others (is_late now.clock) ps) keeps.explicit;
      requests = keeps.requests;
      streams = keeps.streams;
    })
    (record {
      few = omega (arith, few_left (λ p. not (is_late now.clock p)) t.explicit, all.few);
      differ = differ_left (λ p. not (is_late now.clock p)) t.explicit all.differ;
      each =
          each_left (IsPending t.next_request (t.clock.0 + t.profile.open_timeout) t.streams) (IsPending t.next_request (t.clock.0 + ms + t.profile.open_timeout) t.streams) (λ p. not (is_late now.clock p))
          (λ p passes is. pending_on t.next_request t.next_request (t.clock.0 + t.profile.open_timeout) (t.clock.0 + ms + t.profile.open_timeout) t.streams t.streams p (omega arith) (omega arith) (λ n here. here) is)
          t.explicit all.each;
      in_time = λ some. each_left (IsInTime t.clock) (IsInTime now.clock) (λ p. not (is_late now.clock p)) (λ p passes is. in_time_of now.clock p passes) t.explicit (all.in_time some);
    })

produced_keeps : (t : ScannerTable) → Keeps t (produced_table t)
unfolding produced_table
produced_keeps t = record { profile = refl; clock = refl; explicit = refl; requests = omega arith; streams = λ n here. here }

tick_step : (a b : Bool) (t : ScannerTable) (ms : ℕ) → ExplicitArePending t → LeavesPending (cond a (Err fault.TickTooLong) (cond b (Err fault.ClockEnd) (Ok (ticked (moved_on (clocked_table t ms))))))
tick_step true b t ms all = tt
tick_step false true t ms all = tt
tick_step false false t ms all =
    let now = clocked_table t ms in
    let moved = (advanced now).table in
    let left = (explicit_timed_out moved).table in
    fits_kept left (produced_table left) (produced_keeps left) (fits_moved t moved ms (advanced_leads Keeps slots_keep now) all)

tick_pending : (t : ScannerTable) (ms : ℕ) → ExplicitArePending t → LeavesPending (tick t ms)
unfolding tick
tick_pending t ms all = tick_step (nat_lt longest_tick ms) (nat_lt clock_end (t.clock.0 + ms)) t ms all

-- ---- each step

differs_keeps : (t u : ScannerTable) → DiffersInSlots t u → Keeps t u
differs_keeps t u differs = record {
  profile = differs.profile;
  clock = differs.clock;
  explicit = differs.explicit;
  requests = omega (arith, differs.next_request);
  streams = λ n here. subst (λ (streams : List TargetStream). list_any (is_stream n) streams ≡ true) (sym differs.streams) here;
}

led_pending : (t : ScannerTable) (said : Result Next StepFault) → ExplicitArePending t → IfOk said (λ next. Keeps t next.1) → LeavesPending said
led_pending t (Ok next) all leads = fits_kept t next.1 leads all
led_pending t (Err why) all leads = tt

step_pending : (t : ScannerTable) (event : Event) → ExplicitArePending t → LeavesPending (scanner_step t event)
step_pending t (StreamOpened stream peer) all = streamed_pending t stream peer all
step_pending t (Frame stream bytes) all = frame_pending t stream bytes all
step_pending t (StreamCut stream) all = cut_pending t stream all
step_pending t (Tick ms) all = tick_pending t ms all
step_pending t (Start slot) all = led_pending t (scanner_step t (Start slot)) all (start_leads Keeps slots_keep t slot)
step_pending t (Stop slot) all = led_pending t (scanner_step t (Stop slot)) all (stop_leads Keeps slots_keep t slot)
step_pending t (Explicit target number bytes) all = explicit_pending t target number bytes all
step_pending t other all = slots_hold LeavesPending t (λ why. tt) (λ verdict u differs. fits_kept t u (differs_keeps t u differs) all) other refl

next_pending : (said : Result Next StepFault) (next : Next) → said ≡ Ok next → LeavesPending said → ExplicitArePending next.1
next_pending said next is leaves = subst LeavesPending is leaves

steps_pending : StepsKeep ExplicitArePending
steps_pending t event next is all = next_pending (scanner_step t event) next is (step_pending t event all)

fresh_pending : (profile : ScannerProfile) → ExplicitArePending (scanner_table profile)
fresh_pending profile = record { few = omega arith; differ = tt; each = tt; in_time = λ some. tt }

pub pending_law : IsLaw ExplicitArePending
pending_law = law_of ExplicitArePending steps_pending fresh_pending
