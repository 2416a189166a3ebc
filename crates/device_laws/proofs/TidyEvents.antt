-- Events at a tidy scanner, while a request number is left: each connection stays with its slot, is closed, or is refused; and each
-- connection that is requested is that of a slot.
use Rattle.std.proofs.Common.{◌≡◌, ◌⊎◌, inl, inr, ◌≤◌, ℕ, ◌+◌, ◌==◌, nat_lt, nat_le, ◌^◌, Bool, true, false, cond, List, [], ◌∷◌, map, find, slice_get, Option, Some, None, option_and_then, Result, Ok, Err, IfOk, refl, sym, ◌∙◌, ap, subst, arith, eqb-true as number_is}
use Rattle.std.specs.List.{AllByRecursion, Contains, list_any}
use Rattle.std.proofs.lemmas.Bool.{and_parts, or_parts, eqb-false}
use Rattle.std.proofs.lemmas.Bool.Decides.{nat_tests}
use Rattle.base_lemmas.specs.Lists.{found_passes}
use Rattle.std.proofs.lemmas.List.Elements.{Contains-append_left, Contains-push}
use Rattle.std.proofs.lemmas.Option.{same_Some}
use Rattle.cip_types.specs.Cases.{first_case}
use Rattle.cip_types.specs.declared.names.Mismatch.{Mismatch}
use Rattle.cip_types.specs.declared.names.Ms.{Ms}
use Rattle.cip_types.specs.declared.names.Node.{Node}
use Rattle.cip_types.specs.declared.names.Triad.{Triad}
use Rattle.cip_datagram.specs.Datagram.{DatagramFields}
use Rattle.cip_encap.specs.declared.message.EncapFault.{EncapFault}
use Rattle.cip_encap.specs.declared.packet.ItemFault.{ItemFault}
use Rattle.cip_encap.specs.Message.{MessageFields}
use Rattle.cip_encap.specs.Packet.{PacketFields}
use Rattle.cip_encap.specs.PacketReading.{packet_reading}
use Rattle.cip_encap.specs.Reading.{message_reading}
use Rattle.cip_events.specs.Clock.{longest_tick, clock_end}
use Rattle.cip_events.specs.declared.event.Event.{Event}
use Rattle.cip_events.specs.declared.event.Event.TheVariants as event
use Rattle.cip_events.specs.declared.event.Notice.{Notice}
use Rattle.cip_events.specs.declared.event.Notice.TheVariants as notice
use Rattle.cip_events.specs.declared.event.Reason.{Reason}
use Rattle.cip_events.specs.declared.event.Reason.TheVariants as reason
use Rattle.cip_events.specs.declared.event.StepFault.{StepFault}
use Rattle.cip_events.specs.declared.event.StepFault.TheVariants as fault
use Rattle.cip_events.specs.declared.event.Unanswered.{Unanswered}
use Rattle.cip_events.specs.declared.event.Unanswered.TheVariants as unanswered
use Rattle.cip_fwdopen.specs.declared.fault.ReadFault.{ReadFault}
use Rattle.cip_fwdopen.specs.declared.reply.Opened as made
use Rattle.cip_fwdopen.specs.declared.reply.OpenAnswer.{OpenAnswer}
use Rattle.cip_fwdopen.specs.declared.reply.OpenAnswer.TheVariants as answer
use Rattle.cip_fwdopen.specs.declared.reply.OpenReply.{OpenReply}
use Rattle.cip_fwdopen.specs.Reply.{opened_service, open_reply_reading}
use Rattle.cip_productions.specs.Kinds.{is_owner}
use Rattle.conn_state.specs.Answers.{answer_tests}
use Rattle.conn_state.specs.declared.names.Link.{Link}
use Rattle.scanner_table.specs.declared.explicit.PendingExplicit.{PendingExplicit}
use Rattle.scanner_table.specs.declared.profile.ScannerProfile.{ScannerProfile}
use Rattle.scanner_table.specs.declared.profile.SlotConfig.{SlotConfig}
use Rattle.scanner_table.specs.declared.slot.PendingOpen as pending
use Rattle.scanner_table.specs.declared.slot.Slot.{Slot}
use Rattle.scanner_table.specs.declared.slot.SlotConnection.{SlotConnection}
use Rattle.scanner_table.specs.declared.slot.SlotState.{SlotState}
use Rattle.scanner_table.specs.declared.slot.SlotState.TheVariants.{Idle, Opening, Established, TimedOut, Closing}
use Rattle.scanner_table.specs.declared.table.ScannerTable.{ScannerTable}
use Rattle.scanner_table.specs.declared.table.Session.{Session}
use Rattle.scanner_table.specs.declared.table.Stage.{Stage}
use Rattle.scanner_table.specs.declared.table.Stage.TheVariants.{Waiting, Up, Unused}
use Rattle.scanner_table.specs.declared.table.TargetStream.{TargetStream}
use Rattle.scanner_table.specs.Closing.{idle_slot, requested_link, target_lost, reopened, closed, left_slot, closed_within, dropped, slot_resigned, stopped, stopped_at}
use Rattle.scanner_table.specs.Datagrams.{accepted_connection, accepted_table}
use Rattle.scanner_table.specs.Effects.{Next, Effect, nothing, after, and_then, counted, changed, done}
use Rattle.scanner_table.specs.Encapsulation.{registering_on, stream_opened, cut_of, stream_cut, is_registered, session_begun, session_failed, registered, ends_session, session_renewed, unserved_state, unserved_at, ignored, is_awaiting, waits_for, replied, replied_to, reported, frame_answer, frame_of, frame}
use Rattle.scanner_table.specs.Explicit.{is_late, is_over, awaits, explicit_sent, explicit_ended, without_explicit, explicit_request, explicit_timed_out, explicit_lost}
use Rattle.scanner_table.specs.Opening.{has_request, opened, resigned}
use Rattle.scanner_table.specs.Points.{desired_slot, started, start_state, start_at, start, stop_of, stop, output_slot, moded_table, same_mode, mode}
use Rattle.scanner_table.specs.Productions.{written_state, state_is_due, produced_state, produced_slot, produced_table}
use Rattle.scanner_table.specs.Replies.{reply_answer, packet_answer, command_answer, open_answer, is_id_free, new_connection, established_slot, failed_slot, refused, disowned, disowned_within, judged_success, answered}
use Rattle.scanner_table.specs.Requests.{Sent, is_large, closing, close_fields, numbered, registration, sent_frame}
use Rattle.scanner_table.specs.Sessions.{is_stream, is_to, is_taken, without_stream, with_stage, session_at, session_on, session_with}
use Rattle.scanner_table.specs.Slots.{IndexedSlot, indexed_slots, is_numbered, is_with, slot_at, with_slot}
use Rattle.scanner_table.specs.Step.{scanner_step, taken_table}
use Rattle.scanner_table.specs.Ticks.{advanced, clocked_table, moved_on, ticked, tick}
use Rattle.scanner_table.specs.WellFormed.{StreamsDiffer}
use Rattle.scanner_table.specs.Lemmas.Moves.{link_in, IsAccepted, stands_with, received_leads, write_leads}
use Rattle.scanner_table.specs.Lemmas.PassiveLemmas.{is_passive, passive_holds}
use Rattle.scanner_table.specs.Lemmas.SlotEventLemmas.{changes_more, ids_hold, slots_hold}
use Rattle.scanner_table.specs.Lemmas.SlotLookups.{Stands, each_found, each_stands, slot_stands, get_same, get_other}
use Rattle.scanner_table.specs.Lemmas.Slotwise.{get_map, Relation, moded_goes}
use Rattle.device_laws.specs.Lemmas.ExplicitRequests.{IsExplicit, explicit_holds, message_ends}
use Rattle.device_laws.specs.Lemmas.Texts.{either}
use Rattle.device_laws.specs.TidyScanners.{triad_in, is_mismatch, IsRefused}
use Rattle.device_laws.proofs.TidyEffects.{IsTidy, IsLeft, Keeps, Closes, KeepsOrCloses, HasSlot, SameAt, still_have, Cares, CaresAt, cares_of, then_cares, quiet_then_cares, cares_nothing, at_changed, at_close, at_opened, left_keeps, target_cares, lost_cares, lost_quiet, advanced_cares}

-- ---- an answer

-- what an answer does
pub record NextCares (t : ScannerTable) (next : Next) : Type 0 where
  pub requests : List Sent
  pub frames : next.0.frames ≡ map sent_frame requests
  pub profile : next.1.profile ≡ t.profile
  pub serial : t.next_serial ≤ 65535 → next.1.next_serial ≤ 65535
  pub slots :
      IsTidy t → IsLeft next.1 → (number : ℕ) (config : SlotConfig) (slot : Slot) (triad : Triad) →
      slice_get t.profile.slots number ≡ Some config → slice_get t.slots number ≡ Some slot → triad_in slot.state ≡ Some triad →
      KeepsOrCloses next.1 requests number config triad ⊎ IsRefused t number triad next
  pub opens : t.next_serial ≤ 65535 → AllByRecursion (HasSlot next.1) requests

abbrev pub OkCares : ScannerTable → Result Next StepFault → Type 0
OkCares t said = IfOk said (NextCares t)

-- each slot that has a connection has it in the other table
abbrev KeepsAll : ScannerTable → ScannerTable → Type 0
KeepsAll t u =
    (number : ℕ) (config : SlotConfig) (slot : Slot) (triad : Triad) →
    slice_get t.profile.slots number ≡ Some config → slice_get t.slots number ≡ Some slot → triad_in slot.state ≡ Some triad → Keeps u number triad

keeps_itself : (t u : ScannerTable) → u.slots ≡ t.slots → KeepsAll t u
keeps_itself t u same number config slot triad at there has = record { slot = slot; there = rw same there; has = has }

done_cares : (t u : ScannerTable) (effect : Effect) → u.profile ≡ t.profile → u.next_serial ≡ t.next_serial → KeepsAll t u → Cares u effect → NextCares t (done effect)
done_cares t u effect profile serial keep cares = record {
  requests = effect.sent;
  frames = refl;
  profile = cares.profile ∙ profile;
  serial = λ below. cares.serial (omega (arith, serial, below));
  slots = λ tidy left number config slot triad at there has.
      let kept = keep number config slot triad at there has in
      let still = subst (λ (p : ScannerProfile). slice_get p.slots number ≡ Some config) (sym profile) at in
      inl (cares.slots (ap (λ (p : ScannerProfile). p.tidy) profile ∙ tidy) left number config kept.slot triad still kept.there kept.has);
  opens = λ below. cares.opens (omega (arith, serial, below));
}

own_cares : (t : ScannerTable) (effect : Effect) → Cares t effect → NextCares t (done effect)
own_cares t effect cares = done_cares t t effect refl refl (keeps_itself t t refl) cares

quiet_cares : (t : ScannerTable) (next : Next) → next.0.frames ≡ [] → next.1.profile ≡ t.profile → next.1.next_serial ≡ t.next_serial → KeepsAll t next.1 → NextCares t next
quiet_cares t next none profile serial keep = record {
  requests = [];
  frames = none;
  profile = profile;
  serial = λ below. omega (arith, serial, below);
  slots = λ tidy left number config slot triad at there has. inl (inl (keep number config slot triad at there has));
  opens = λ below. tt;
}

ignored_cares : (t : ScannerTable) → NextCares t (ignored t)
ignored_cares t = quiet_cares t (ignored t) refl refl refl (keeps_itself t t refl)

tidy_not : (t : ScannerTable) → t.profile.tidy ≡ false → IsTidy t → ⊥
tidy_not t untidy tidy = absurd (let e : true ≡ false = sym tidy ∙ untidy in cc)

-- ---- one slot changes

set_step : (b : Bool) (t : ScannerTable) (place : IndexedSlot) (slot : Slot) → Stands t place → ((triad : Triad) → triad_in place.slot.state ≡ Some triad → triad_in slot.state ≡ Some triad) → (number : ℕ) (was : Slot) (triad : Triad) → (number == place.number) ≡ b → slice_get t.slots number ≡ Some was → triad_in was.state ≡ Some triad → Keeps (with_slot t place.number slot) number triad
set_step true t place slot stands still number was triad is there has =
    let same : number ≡ place.number = number_is number place.number is in
    let slots : was ≡ place.slot = same_Some was place.slot (sym (subst (λ (n : ℕ). slice_get t.slots n ≡ Some was) same there) ∙ stands.slot) in
    subst (λ (n : ℕ). Keeps (with_slot t place.number slot) n triad) (sym same)
    (record { slot = slot; there = get_same place.number t.slots slot place.slot stands.slot; has = still triad (subst (λ (s : Slot). triad_in s.state ≡ Some triad) slots has) })
set_step false t place slot stands still number was triad is there has =
    record { slot = was; there = get_other place.number number t.slots slot (eqb-false number place.number is) ∙ there; has = has }

set_keeps : (t : ScannerTable) (place : IndexedSlot) (slot : Slot) → Stands t place → ((triad : Triad) → triad_in place.slot.state ≡ Some triad → triad_in slot.state ≡ Some triad) → KeepsAll t (with_slot t place.number slot)
set_keeps t place slot stands still number config was triad at there has = set_step (number == place.number) t place slot stands still number was triad refl there has

no_triad : (state other : SlotState) (triad : Triad) → triad_in other ≡ None → state ≡ other → triad_in state ≡ Some triad → ⊥
no_triad state other triad none is has = absurd (let e : None ≡ Some triad = sym none ∙ sym (ap triad_in is) ∙ has in cc)

-- ---- replies to an opening

-- no reason is that a success does not suit
abbrev NoMismatch : Result OpenAnswer Reason → Type 0
NoMismatch (Err why) = is_mismatch why ≡ false
NoMismatch (Ok said) = Unit {0}

reply_none : (large : Bool) (reading : Result OpenReply ReadFault) → NoMismatch (reply_answer large reading)
reply_none large (Err why) = refl
reply_none large (Ok reply) = either NoMismatch (reply.service == opened_service large) (Ok reply.answer) (Err reason.Unreadable) tt refl

packet_none : (large : Bool) (reading : Result PacketFields ItemFault) → NoMismatch (packet_answer large reading)
packet_none large (Err why) = refl
packet_none large (Ok packet) = reply_none large (open_reply_reading packet.payload)

answer_none : (large : Bool) (m : MessageFields) → NoMismatch (open_answer large m)
unfolding open_answer
answer_none large m =
    either NoMismatch (m.status == 0) (command_answer large m) (Err (reason.Encap m.status))
    (either NoMismatch (m.command == 0x006F) (packet_answer large (packet_reading m.payload)) (Err reason.Unreadable) (packet_none large (packet_reading m.payload)) refl)
    refl

-- the first of several
contains_first : {X : Type 0} (x : X) (xs : List X) → Contains (x ∷ xs) x
contains_first x xs = Contains-append_left (x ∷ []) xs x (Contains-push [] x)

-- the target refuses the connection of this slot, and the others keep theirs
refuse_step : (b : Bool) (t : ScannerTable) (place : IndexedSlot) (o : pending.PendingOpen) (why : Reason) → is_mismatch why ≡ false → place.slot.state ≡ Opening o → Stands t place → (number : ℕ) (config : SlotConfig) (was : Slot) (triad : Triad) → (number == place.number) ≡ b → slice_get t.slots number ≡ Some was → triad_in was.state ≡ Some triad → KeepsOrCloses (refused t place why).table [] number config triad ⊎ IsRefused t number triad (done (refused t place why))
refuse_step true t place o why fits waits stands number config was triad is there has =
    let same : number ≡ place.number = number_is number place.number is in
    let slots : was ≡ place.slot = same_Some was place.slot (sym (subst (λ (n : ℕ). slice_get t.slots n ≡ Some was) same there) ∙ stands.slot) in
    let triads : Some o.requested.triad ≡ Some triad = sym (ap triad_in waits) ∙ subst (λ (s : Slot). triad_in s.state ≡ Some triad) slots has in
    inr (subst (λ (n : ℕ). IsRefused t n triad (done (refused t place why))) (sym same) (record {
      place = place;
      at = slot_stands t place stands;
      opening = o;
      waits = waits;
      triad_is = same_Some o.requested.triad triad triads;
      why = why;
      refuses = fits;
      said = contains_first (notice.Refused place.number why) _;
    }))
refuse_step false t place o why fits waits stands number config was triad is there has =
    inl (inl (record { slot = was; there = get_other place.number number t.slots (failed_slot t Idle place.slot) (eqb-false number place.number is) ∙ there; has = has }))

refused_cares : (t : ScannerTable) (place : IndexedSlot) (o : pending.PendingOpen) (why : Reason) → is_mismatch why ≡ false → place.slot.state ≡ Opening o → Stands t place → NextCares t (done (refused t place why))
refused_cares t place o why fits waits stands = record {
  requests = [];
  frames = refl;
  profile = refl;
  serial = λ below. below;
  slots = λ tidy left number config slot triad at there has. refuse_step (number == place.number) t place o why fits waits stands number config slot triad refl there has;
  opens = λ below. tt;
}

none_left : (n : ℕ) → nat_le n (2 ^ 48) ≡ false → n ≤ 2 ^ 48 → ⊥
none_left n none left = absurd (grind (arith, nat_tests))

-- a success does not suit: its connection is closed
mismatch_at : (tidies some : Bool) (t : ScannerTable) (place : IndexedSlot) (o : pending.PendingOpen) (why : Reason) (session : Session) → t.profile.tidy ≡ tidies → has_request t ≡ some → session_with t place.config.target ≡ Some session → place.slot.state ≡ Opening o → Stands t place → CaresAt t place (after (refused t place why) (cond tidies (cond some (disowned (refused t place why).table place.config o.requested.triad session) (nothing (refused t place why).table)) (nothing (refused t place why).table)))
mismatch_at true true t place o why session tidies is registers waits stands = record {
  profile = refl;
  streams = refl;
  requests = omega arith;
  serial = λ below. below;
  elsewhere = λ k other. get_other place.number k t.slots (failed_slot t Idle place.slot) other;
  own = λ tidy left triad has.
      let triads : o.requested.triad ≡ triad = same_Some o.requested.triad triad (sym (ap triad_in waits) ∙ has) in
      inr (subst (Closes (counted (refused t place why).table) (numbered session t.next_request (closing (close_fields place.config o.requested.triad)) ∷ []) place.config) triads
      (record { session = session; registered = registers; request = t.next_request; sent = Contains-push [] _ }));
  opens = λ below. (tt, tt);
}
mismatch_at true false t place o why session tidies is registers waits stands = record {
  profile = refl;
  streams = refl;
  requests = omega arith;
  serial = λ below. below;
  elsewhere = λ k other. get_other place.number k t.slots (failed_slot t Idle place.slot) other;
  own = λ tidy left triad has. absurd (none_left t.next_request is left);
  opens = λ below. tt;
}
mismatch_at false some t place o why session tidies is registers waits stands = record {
  profile = refl;
  streams = refl;
  requests = omega arith;
  serial = λ below. below;
  elsewhere = λ k other. get_other place.number k t.slots (failed_slot t Idle place.slot) other;
  own = λ tidy left triad has. absurd (tidy_not t tidies tidy);
  opens = λ below. tt;
}

success_at : (t : ScannerTable) (place : IndexedSlot) (o : pending.PendingOpen) (success : made.Opened) (said : Option Mismatch) (session : Session) → session_with t place.config.target ≡ Some session → place.slot.state ≡ Opening o → Stands t place → CaresAt t place (judged_success t place o success said)
success_at t place o success None session registers waits stands =
    at_changed t place (established_slot place (new_connection t place o success)) [] stands (λ tidy left triad has. sym (ap triad_in waits) ∙ has)
success_at t place o success (Some why) session registers waits stands =
    let u = (refused t place (reason.Mismatch why)).table in
    subst (λ (s : Option Session). CaresAt t place (after (refused t place (reason.Mismatch why)) (cond t.profile.tidy (disowned_within (refused t place (reason.Mismatch why)).table place.config o.requested.triad s) (nothing (refused t place (reason.Mismatch why)).table)))) (sym registers)
    (mismatch_at t.profile.tidy (has_request t) t place o (reason.Mismatch why) session refl refl registers waits stands)

answered_cares : (t : ScannerTable) (place : IndexedSlot) (o : pending.PendingOpen) (says : Result OpenAnswer Reason) (session : Session) → NoMismatch says → session_with t place.config.target ≡ Some session → place.slot.state ≡ Opening o → Stands t place → NextCares t (done (answered t place o says))
unfolding answered
answered_cares t place o (Err why) session none registers waits stands = refused_cares t place o why none waits stands
answered_cares t place o (Ok (answer.Refused r)) session none registers waits stands = refused_cares t place o (reason.Cip r.fault) refl waits stands
answered_cares t place o (Ok (answer.Opened success)) session none registers waits stands =
    let said = first_case (answer_tests o.requested success (is_id_free t place success.t_o_id)) in
    own_cares t (judged_success t place o success said) (cares_of t place (judged_success t place o success said) stands (success_at t place o success said session registers waits stands))

-- ---- replies to a close

closed_cares : (t : ScannerTable) (place : IndexedSlot) (state : SlotState) → triad_in state ≡ None → place.slot.state ≡ state → Stands t place → NextCares t (done (closed t place))
closed_cares t place state none is stands =
    let slot = idle_slot place.slot in
    let u = with_slot t place.number (idle_slot place.slot) in
    let now : IndexedSlot = record place { slot = idle_slot place.slot } in
    let first = changed t place (idle_slot place.slot) [] in
    let one = cares_of t place first stands (at_changed t place slot [] stands (λ tidy left triad has. absurd (no_triad place.slot.state state triad none is has))) in
    let there = stands_with t place slot stands in
    let two = either (Cares u) place.slot.desired_up (opened u now) (nothing u) (cares_of u now (opened u now) there (at_opened u now there refl)) (cares_nothing u) in
    own_cares t (closed t place) (quiet_then_cares t first (reopened now u) refl one two)

-- ---- sessions

none_of : (p q : TargetStream → Bool) (streams : List TargetStream) (stream : TargetStream) → list_any p streams ≡ false → find q streams ≡ Some stream → p stream ≡ false
none_of p q [] stream none is = absurd cc
none_of p q (s ∷ streams) stream none is =
    let parts = or_parts (p s) (list_any p streams) none in
    pick (q s) is parts.0 (λ more. none_of p q streams stream parts.1 more)
  where
    pick : (b : Bool) → cond b (Some s) (find q streams) ≡ Some stream → p s ≡ false → (find q streams ≡ Some stream → p stream ≡ false) → p stream ≡ false
    pick true is none more = subst (λ (x : TargetStream). p x ≡ false) (same_Some s stream is) none
    pick false is none more = more is

same_target : (a b c : ℕ) → (a == c) ≡ true → (b == c) ≡ true → (b == a) ≡ false → ⊥
same_target a b c first second apart = absurd (grind (arith, nat_tests))

-- the stream to a target is the only one
found_to : (number : ℕ) (target : Node) (streams : List TargetStream) (stream : TargetStream) → StreamsDiffer streams → find (is_stream number) streams ≡ Some stream → is_to target stream ≡ true → find (is_to target) streams ≡ Some stream
found_to number target [] stream differ is to = absurd cc
found_to number target (s ∷ streams) stream differ is to = pick (is_stream number s) (λ more. found_to number target streams stream differ.2 more to) is
  where
    other : (b : Bool) → is_to target s ≡ b → (find (is_stream number) streams ≡ Some stream → find (is_to target) streams ≡ Some stream) → find (is_stream number) streams ≡ Some stream → cond b (Some s) (find (is_to target) streams) ≡ Some stream
    other true here again more = absurd (same_target s.peer.0 stream.peer.0 target.0 here to (none_of (is_to s.peer) (is_stream number) streams stream differ.1 more))
    other false here again more = again more

    here_is : (b : Bool) → is_to target s ≡ b → s ≡ stream → cond b (Some s) (find (is_to target) streams) ≡ Some stream
    here_is true here same = ap (λ (x : TargetStream). Some x) same
    here_is false here same = absurd (let e : false ≡ true = sym here ∙ subst (λ (x : TargetStream). is_to target x ≡ true) (sym same) to in cc)

    pick : (b : Bool) → (find (is_stream number) streams ≡ Some stream → find (is_to target) streams ≡ Some stream) → cond b (Some s) (find (is_stream number) streams) ≡ Some stream → find (is_to target) (s ∷ streams) ≡ Some stream
    pick true again found = here_is (is_to target s) refl (same_Some s stream found)
    pick false again found = other (is_to target s) refl again found

session_is : (t : ScannerTable) (number : ℕ) (stream : TargetStream) (handle : ℕ) (target : Node) → StreamsDiffer t.streams → find (is_stream number) t.streams ≡ Some stream → stream.stage ≡ Up handle → is_to target stream ≡ true → session_with t target ≡ Some (record { stream = stream.number; handle = handle })
session_is t number stream handle target differ found stage to =
    ap (option_and_then session_on) (found_to number target t.streams stream differ found to) ∙ ap (session_at stream.number) stage

to_target : (a b : ℕ) → (a == b) ≡ true → (b == a) ≡ true
to_target a b is = grind (arith, nat_tests)

-- ---- messages

registered_cares : (t : ScannerTable) (stream : TargetStream) (m : MessageFields) → NextCares t (done (registered t stream m))
registered_cares t stream m =
    either (λ (e : Effect). NextCares t (done e)) (is_registered m) (session_begun t stream m.session) (session_failed t stream)
    (done_cares t (with_stage t stream.number (Up m.session)) (session_begun t stream m.session) refl refl (keeps_itself t (with_stage t stream.number (Up m.session)) refl) (target_cares stream.peer (with_stage t stream.number (Up m.session))))
    (done_cares t (with_stage t stream.number Unused) (session_failed t stream) refl refl (keeps_itself t (with_stage t stream.number Unused) refl) (cares_nothing (with_stage t stream.number Unused)))

replied_cares : (t : ScannerTable) (place : IndexedSlot) (m : MessageFields) (state : SlotState) (session : Session) → session_with t place.config.target ≡ Some session → place.slot.state ≡ state → Stands t place → NextCares t (replied t place m state)
replied_cares t place m Idle session registers is stands = ignored_cares t
replied_cares t place m (Opening o) session registers is stands = answered_cares t place o (open_answer (is_large place.config) m) session (answer_none (is_large place.config) m) registers is stands
replied_cares t place m (Established c) session registers is stands = ignored_cares t
replied_cares t place m (TimedOut link) session registers is stands = ignored_cares t
replied_cares t place m (Closing c) session registers is stands = closed_cares t place (Closing c) refl is stands

replied_to_cares : (t : ScannerTable) (number : ℕ) (stream : TargetStream) (handle : ℕ) (m : MessageFields) (found : Option IndexedSlot) → StreamsDiffer t.streams → find (is_stream number) t.streams ≡ Some stream → stream.stage ≡ Up handle → find (is_awaiting stream.peer m.context) (indexed_slots t) ≡ found → NextCares t (replied_to t m found)
replied_to_cares t number stream handle m None differ is stage found = ignored_cares t
replied_to_cares t number stream handle m (Some place) differ is stage found =
    let awaits = found_passes (is_awaiting stream.peer m.context) (indexed_slots t) place found in
    let to = to_target place.config.target.0 stream.peer.0 (and_parts (is_with stream.peer place) (waits_for m.context place.slot.state) awaits).0 in
    let stands = each_found (Stands t) (is_awaiting stream.peer m.context) (indexed_slots t) place found (each_stands t) in
    replied_cares t place m place.slot.state (record { stream = stream.number; handle = handle }) (session_is t number stream handle place.config.target differ is stage to) refl stands

ended_cares : (test : PendingExplicit → Bool) (why : Unanswered) (t : ScannerTable) → Cares t (explicit_ended test why t)
ended_cares test why t = record {
  profile = refl;
  streams = refl;
  requests = omega arith;
  serial = λ below. below;
  slots = λ tidy left number config slot triad at there has. inl (record { slot = slot; there = there; has = has });
  opens = λ below. tt;
}

explicit_lost_cares : (stream : ℕ) (t : ScannerTable) → Cares t (explicit_lost stream t)
unfolding explicit_lost
explicit_lost_cares stream t = ended_cares (is_over stream) unanswered.Lost t

lost_same : (stream : ℕ) (t : ScannerTable) (number : ℕ) → SameAt number t (explicit_lost stream t).table
unfolding explicit_lost
lost_same stream t number = record { profile = refl; streams = refl; keeps = λ triad keeps. record { slot = keeps.slot; there = keeps.there; has = keeps.has } }

-- the scanner registers a session again
again_cares : (u : ScannerTable) (stream : ℕ) → Cares u (record { sent = registration stream ∷ []; notices = []; table = u })
again_cares u stream = record {
  profile = refl;
  streams = refl;
  requests = omega arith;
  serial = λ below. below;
  slots = λ tidy left number config slot triad at there has. inl (record { slot = slot; there = there; has = has });
  opens = λ below. (record { number = 0; is = tt }, tt);
}

-- the session on a stream ends, and a new one is registered: from the table on in which the registration waits
renewed_cares : (u : ScannerTable) (stream : TargetStream) → Cares u (after (after (record { sent = registration stream.number ∷ []; notices = []; table = u }) (target_lost stream.peer u)) (explicit_lost stream.number (target_lost stream.peer u).table))
renewed_cares u stream =
    let first : Effect = record { sent = registration stream.number ∷ []; notices = []; table = u } in
    let second = target_lost stream.peer u in
    let third = explicit_lost stream.number second.table in
    let both = then_cares u first second (again_cares u stream.number) (λ below. (record { number = 0; is = tt }, tt)) (lost_cares stream.peer u) in
    then_cares u (after first second) third both (λ below. still_have second.table third.table (lost_same stream.number second.table) (after first second).sent (both.opens below)) (explicit_lost_cares stream.number second.table)

renews_cares : (t : ScannerTable) (stream : TargetStream) → NextCares t (done (session_renewed stream t))
renews_cares t stream =
    let u = with_stage t stream.number Waiting in
    done_cares t u (session_renewed stream t) refl refl (keeps_itself t u refl) (renewed_cares u stream)

-- a refusal, with more notices behind it
refused_still : (t : ScannerTable) (number : ℕ) (triad : Triad) (first next : Next) → ((n : Notice) → Contains first.0.notices n → Contains next.0.notices n) → IsRefused t number triad first → IsRefused t number triad next
refused_still t number triad first next more is = record {
  place = is.place;
  at = is.at;
  opening = is.opening;
  waits = is.waits;
  triad_is = is.triad_is;
  why = is.why;
  refuses = is.refuses;
  said = more (notice.Refused number is.why) is.said;
}

-- a slot that is not served is refused, and the session ends
unserved_step : (t : ScannerTable) (stream : TargetStream) (place : IndexedSlot) (status number : ℕ) (config : SlotConfig) (triad : Triad) → IsTidy t → IsLeft (done (and_then (refused t place (reason.Encap status)) (session_renewed stream))).1 → slice_get t.profile.slots number ≡ Some config → KeepsOrCloses (refused t place (reason.Encap status)).table [] number config triad ⊎ IsRefused t number triad (done (refused t place (reason.Encap status))) → KeepsOrCloses (done (and_then (refused t place (reason.Encap status)) (session_renewed stream))).1 (and_then (refused t place (reason.Encap status)) (session_renewed stream)).sent number config triad ⊎ IsRefused t number triad (done (and_then (refused t place (reason.Encap status)) (session_renewed stream)))
unserved_step t stream place status number config triad tidy left at (inl (inl keeps)) =
    inl ((renewed_cares (with_stage (refused t place (reason.Encap status)).table stream.number Waiting) stream).slots tidy left number config keeps.slot triad at keeps.there keeps.has)
unserved_step t stream place status number config triad tidy left at (inl (inr closes)) = absurd (omega (arith, closes.sent.1))
unserved_step t stream place status number config triad tidy left at (inr is) =
    let first = refused t place (reason.Encap status) in
    inr (refused_still t number triad (done first) (done (and_then first (session_renewed stream))) (λ n there. Contains-append_left first.notices (session_renewed stream first.table).notices n there) is)

unserved_cares : (t : ScannerTable) (stream : TargetStream) (place : IndexedSlot) (status : ℕ) (state : SlotState) → place.slot.state ≡ state → Stands t place → NextCares t (done (and_then (unserved_state status t place state) (session_renewed stream)))
unserved_cares t stream place status (Opening o) is stands =
    let why = reason.Encap status in
    let u = with_stage (refused t place (reason.Encap status)).table stream.number Waiting in
    let cares = renewed_cares u stream in
    record {
      requests = (session_renewed stream (refused t place why).table).sent;
      frames = refl;
      profile = cares.profile;
      serial = cares.serial;
      slots = λ tidy left number config slot triad at there has. unserved_step t stream place status number config triad tidy left at (refuse_step (number == place.number) t place o why refl is stands number config slot triad refl there has);
      opens = cares.opens;
    }
unserved_cares t stream place status Idle is stands = renews_cares t stream
unserved_cares t stream place status (Established c) is stands = renews_cares t stream
unserved_cares t stream place status (TimedOut link) is stands = renews_cares t stream
unserved_cares t stream place status (Closing c) is stands = renews_cares t stream

unserved_at_cares : (t : ScannerTable) (stream : TargetStream) (m : MessageFields) (found : Option IndexedSlot) → find (is_awaiting stream.peer m.context) (indexed_slots t) ≡ found → NextCares t (unserved_at t stream m found)
unserved_at_cares t stream m None found = ignored_cares t
unserved_at_cares t stream m (Some place) found =
    unserved_cares t stream place m.status place.slot.state refl (each_found (Stands t) (is_awaiting stream.peer m.context) (indexed_slots t) place found (each_stands t))

reported_cares : (t : ScannerTable) (number : ℕ) (stream : TargetStream) (m : MessageFields) (stage : Stage) → StreamsDiffer t.streams → find (is_stream number) t.streams ≡ Some stream → stream.stage ≡ stage → NextCares t (reported t stream m stage)
reported_cares t number stream m Waiting differ is stage =
    either (NextCares t) (m.context == 0) (done (registered t stream m)) (ignored t) (registered_cares t stream m) (ignored_cares t)
reported_cares t number stream m (Up handle) differ is stage =
    let found = find (is_awaiting stream.peer m.context) (indexed_slots t) in
    either (NextCares t) (ends_session t m) (unserved_at t stream m found) (replied_to t m found) (unserved_at_cares t stream m found refl) (replied_to_cares t number stream handle m found differ is stage refl)
reported_cares t number stream m Unused differ is stage = ignored_cares t

answer_cares : (t : ScannerTable) (number : ℕ) (stream : TargetStream) (reading : Result MessageFields EncapFault) → StreamsDiffer t.streams → find (is_stream number) t.streams ≡ Some stream → NextCares t (frame_answer t stream reading)
answer_cares t number stream (Err why) differ is = quiet_cares t (frame_answer t stream (Err why)) refl refl refl (keeps_itself t t refl)
answer_cares t number stream (Ok m) differ is =
    message_ends (NextCares t) t stream m (reported_cares t number stream m stream.stage differ is refl) (renews_cares t stream)
    (λ pending said silent quiet. quiet_cares t (said, without_explicit t pending) silent refl refl (keeps_itself t (without_explicit t pending) refl)) (find (awaits stream.number m.context) t.explicit)

frame_of_cares : (t : ScannerTable) (number : ℕ) (bytes : List ℕ) (found : Option TargetStream) → StreamsDiffer t.streams → find (is_stream number) t.streams ≡ found → OkCares t (frame_of t bytes found)
frame_of_cares t number bytes None differ is = tt
frame_of_cares t number bytes (Some stream) differ is = answer_cares t number stream (message_reading bytes) differ is

-- ---- streams

cut_cares : (t : ScannerTable) (found : Option TargetStream) → OkCares t (cut_of t found)
cut_cares t None = tt
cut_cares t (Some stream) =
    let u = without_stream t stream.number in
    let first = target_lost stream.peer u in
    done_cares t u (after first (explicit_lost stream.number first.table)) refl refl (keeps_itself t u refl)
    (quiet_then_cares u first (explicit_lost stream.number first.table) (lost_quiet stream.peer u) (lost_cares stream.peer u) (explicit_lost_cares stream.number first.table))

registering_cares : (t : ScannerTable) (number : ℕ) (target : Node) → NextCares t (done (registering_on t number target))
registering_cares t number target = record {
  requests = registration number ∷ [];
  frames = refl;
  profile = refl;
  serial = λ below. below;
  slots = λ tidy left n config slot triad at there has. inl (inl (record { slot = slot; there = there; has = has }));
  opens = λ below. (record { number = 0; is = tt }, tt);
}

stream_cares : (t : ScannerTable) (number : ℕ) (target : Node) → OkCares t (stream_opened t number target)
unfolding stream_opened
stream_cares t number target =
    either (OkCares t) (is_taken t.streams number target) (Err fault.NotAllowedNow) (Ok (done (registering_on t number target))) tt (registering_cares t number target)

-- ---- the application

explicit_sent_cares : (t : ScannerTable) (session : Session) (number : ℕ) (bytes : List ℕ) → IsExplicit bytes → NextCares t (done (explicit_sent t session number bytes))
explicit_sent_cares t session number bytes explicit = record {
  requests = (explicit_sent t session number bytes).sent;
  frames = refl;
  profile = refl;
  serial = λ below. below;
  slots = λ tidy left n config slot triad at there has. inl (inl (record { slot = slot; there = there; has = has }));
  opens = λ below. (record { number = 0; is = explicit }, tt);
}

explicit_cares : (t : ScannerTable) (target : Node) (number : ℕ) (bytes : List ℕ) → OkCares t (explicit_request t target number bytes)
explicit_cares t target number bytes =
    explicit_holds (OkCares t) t target number bytes (λ why. tt) (λ session goes. explicit_sent_cares t session number bytes goes.explicit)

started_cares : (t : ScannerTable) (place : IndexedSlot) → place.slot.state ≡ Idle → Stands t place → NextCares t (done (started t place (desired_slot t place.slot)))
started_cares t place is stands =
    let slot = desired_slot t place.slot in
    let u = with_slot t place.number (desired_slot t place.slot) in
    let now : IndexedSlot = record place { slot = desired_slot t place.slot } in
    let there = stands_with t place slot stands in
    done_cares t u (opened u now) refl refl (set_keeps t place slot stands (λ triad has. absurd (no_triad place.slot.state Idle triad refl is has)))
    (cares_of u now (opened u now) there (at_opened u now there (rw is refl)))

start_state_cares : (t : ScannerTable) (place : IndexedSlot) (state : SlotState) → place.slot.state ≡ state → Stands t place → OkCares t (start_state t place state)
start_state_cares t place Idle is stands =
    either (OkCares t) place.slot.desired_up (Err fault.NotAllowedNow) (Ok (done (started t place (desired_slot t place.slot)))) tt (started_cares t place is stands)
start_state_cares t place (Opening o) is stands = tt
start_state_cares t place (Established c) is stands = tt
start_state_cares t place (TimedOut link) is stands = tt
start_state_cares t place (Closing c) is stands = tt

start_at_cares : (t : ScannerTable) (number : ℕ) (found : Option IndexedSlot) → slot_at t number ≡ found → OkCares t (start_at t found)
start_at_cares t number None is = tt
start_at_cares t number (Some place) is = start_state_cares t place place.slot.state refl (each_found (Stands t) (is_numbered number) (indexed_slots t) place is (each_stands t))

at_closed_within : (t : ScannerTable) (place : IndexedSlot) (link : Link) (session : Option Session) → session_with t place.config.target ≡ session → link_in place.slot.state ≡ Some link → Stands t place → CaresAt t place (closed_within t place link session)
at_closed_within t place link None is from stands = at_changed t place (left_slot t link place.slot) [] stands (λ tidy left triad has. left_keeps t place link from tidy triad has)
at_closed_within t place link (Some session) is from stands = at_close (has_request t) t place link false session refl stands from is

dropped_step : (b : Bool) (t : ScannerTable) (place : IndexedSlot) (link : Link) → t.profile.tidy ≡ b → link_in place.slot.state ≡ Some link → Stands t place → CaresAt t place (cond b (closed_within t place link (session_with t place.config.target)) (slot_resigned t place))
dropped_step true t place link tidies from stands = at_closed_within t place link (session_with t place.config.target) refl from stands
dropped_step false t place link tidies from stands = at_changed t place (resigned place.slot) [] stands (λ tidy left triad has. absurd (tidy_not t tidies tidy))

one_cares : (t : ScannerTable) (place : IndexedSlot) (effect : Effect) → Stands t place → CaresAt t place effect → NextCares t (done effect)
one_cares t place effect stands cares = own_cares t effect (cares_of t place effect stands cares)

resigned_cares : (t : ScannerTable) (place : IndexedSlot) (state : SlotState) → triad_in state ≡ None → place.slot.state ≡ state → Stands t place → OkCares t (stop_of (cond place.slot.desired_up (Ok (slot_resigned t place)) (Err fault.NotAllowedNow)))
resigned_cares t place state none is stands =
    either (λ (said : Result Effect StepFault). OkCares t (stop_of said)) place.slot.desired_up (Ok (slot_resigned t place)) (Err fault.NotAllowedNow)
    (one_cares t place (slot_resigned t place) stands (at_changed t place (resigned place.slot) [] stands (λ tidy left triad has. absurd (no_triad place.slot.state state triad none is has)))) tt

stopped_cares : (t : ScannerTable) (place : IndexedSlot) (state : SlotState) → place.slot.state ≡ state → Stands t place → OkCares t (stop_of (stopped t place state))
stopped_cares t place Idle is stands = resigned_cares t place Idle refl is stands
stopped_cares t place (Opening o) is stands = one_cares t place (dropped t place (requested_link o.requested)) stands (dropped_step t.profile.tidy t place (requested_link o.requested) refl (ap link_in is) stands)
stopped_cares t place (Established c) is stands =
    one_cares t place (closed_within t place c.link (session_with t place.config.target)) stands (at_closed_within t place c.link (session_with t place.config.target) refl (ap link_in is) stands)
stopped_cares t place (TimedOut link) is stands = one_cares t place (dropped t place link) stands (dropped_step t.profile.tidy t place link refl (ap link_in is) stands)
stopped_cares t place (Closing c) is stands = resigned_cares t place (Closing c) refl is stands

stop_at_cares : (t : ScannerTable) (number : ℕ) (found : Option IndexedSlot) → slot_at t number ≡ found → OkCares t (stop_of (stopped_at t found))
stop_at_cares t number None is = tt
stop_at_cares t number (Some place) is = stopped_cares t place place.slot.state refl (each_found (Stands t) (is_numbered number) (indexed_slots t) place is (each_stands t))

-- ---- a tick

timed_out_cares : (t : ScannerTable) → Cares t (explicit_timed_out t)
unfolding explicit_timed_out
timed_out_cares t = ended_cares (is_late t.clock) unanswered.TimedOut t

ended_same : (t : ScannerTable) (number : ℕ) → SameAt number t (explicit_timed_out t).table
unfolding explicit_timed_out
ended_same t number = record { profile = refl; streams = refl; keeps = λ triad keeps. record { slot = keeps.slot; there = keeps.there; has = keeps.has } }

moved_cares : (t : ScannerTable) → Cares t (moved_on t)
moved_cares t =
    let first = advanced t in
    let one = advanced_cares t in
    then_cares t first (explicit_timed_out first.table) one
    (λ below. still_have first.table (explicit_timed_out first.table).table (ended_same first.table) first.sent (one.opens below)) (timed_out_cares first.table)

produced_same : (clock : Ms) (state : SlotState) → triad_in (produced_state clock state) ≡ triad_in state
produced_same clock Idle = refl
produced_same clock (Opening o) = refl
produced_same clock (Established c) = refl
produced_same clock (TimedOut link) = refl
produced_same clock (Closing c) = refl

due_same : (b : Bool) (clock : Ms) (slot : Slot) → triad_in (cond b (record slot { state = produced_state clock slot.state }) slot).state ≡ triad_in slot.state
due_same true clock slot = produced_same clock slot.state
due_same false clock slot = refl

produced_keeps : (t : ScannerTable) (number : ℕ) → SameAt number t (produced_table t)
unfolding produced_table
produced_keeps t number = record {
  profile = refl;
  streams = refl;
  keeps = λ triad keeps. record {
    slot = produced_slot t.clock keeps.slot;
    there = get_map (produced_slot t.clock) number t.slots keeps.slot keeps.there;
    has = due_same (state_is_due t.clock keeps.slot.state) t.clock keeps.slot ∙ keeps.has;
  };
}

produced_still : (t : ScannerTable) (requests : List Sent) (number : ℕ) (config : SlotConfig) (triad : Triad) → KeepsOrCloses t requests number config triad → KeepsOrCloses (produced_table t) requests number config triad
unfolding produced_table
produced_still t requests number config triad (inl keeps) = inl ((produced_keeps t number).keeps triad keeps)
produced_still t requests number config triad (inr closes) = inr (record { session = closes.session; registered = closes.registered; request = closes.request; sent = closes.sent })

-- the answer of a tick
ticked_cares : (t u : ScannerTable) (effect : Effect) → u.profile ≡ t.profile → u.next_serial ≡ t.next_serial → u.slots ≡ t.slots → Cares u effect → NextCares t (ticked effect)
unfolding produced_table
ticked_cares t u effect profile serial same cares =
    record {
      requests = effect.sent;
      frames = refl;
      profile = cares.profile ∙ profile;
      serial = λ below. cares.serial (omega (arith, serial, below));
      slots = λ tidy left number config slot triad at there has.
          let kept = keeps_itself t u same number config slot triad at there has in
          let still = subst (λ (p : ScannerProfile). slice_get p.slots number ≡ Some config) (sym profile) at in
          inl (produced_still effect.table effect.sent number config triad (cares.slots (ap (λ (p : ScannerProfile). p.tidy) profile ∙ tidy) left number config kept.slot triad still kept.there kept.has));
      opens = λ below. still_have effect.table (produced_table effect.table) (produced_keeps effect.table) effect.sent (cares.opens (omega (arith, serial, below)));
    }

tick_cares : (t : ScannerTable) (ms : ℕ) → OkCares t (tick t ms)
unfolding tick
tick_cares t ms =
    either (OkCares t) (nat_lt longest_tick ms) (Err fault.TickTooLong) _ tt
    (either (OkCares t) (nat_lt clock_end (t.clock.0 + ms)) (Err fault.ClockEnd) (Ok (ticked (moved_on (clocked_table t ms)))) tt
    (ticked_cares t (clocked_table t ms) (moved_on (clocked_table t ms)) refl refl refl (moved_cares (clocked_table t ms))))

-- ---- datagrams, writes and changes of mode

written_same : (state : SlotState) → triad_in (written_state state) ≡ triad_in state
written_same Idle = refl
written_same (Opening o) = refl
written_same (Established c) = refl
written_same (TimedOut link) = refl
written_same (Closing c) = refl

accepting_keeps : (t : ScannerTable) (place : IndexedSlot) (d : DatagramFields) (c : SlotConnection) (bytes : List ℕ) → Stands t place → IsAccepted place d c bytes → KeepsAll t (accepted_table t place d c bytes)
accepting_keeps t place d c bytes stands is =
    set_keeps t place (record place.slot { state = Established (accepted_connection t.clock d c); image = bytes }) stands (λ triad has. sym (ap triad_in is.established) ∙ has)

writing_keeps : (t : ScannerTable) (place : IndexedSlot) (bytes : List ℕ) → Stands t place → KeepsAll t (with_slot t place.number (output_slot bytes place.slot))
writing_keeps t place bytes stands = set_keeps t place (output_slot bytes place.slot) stands (λ triad has. written_same place.slot.state ∙ has)

-- the connection stays
abbrev SameTriad : Relation
SameTriad t u number config was now = triad_in now.state ≡ triad_in was.state

moded_same : (b : Bool) (slot : Slot) → triad_in (cond b (record slot { state = written_state slot.state }) slot).state ≡ triad_in slot.state
moded_same true slot = written_same slot.state
moded_same false slot = refl

moding_keeps : (t : ScannerTable) (run : Bool) → KeepsAll t (moded_table t run)
moding_keeps t run number config slot triad at there has =
    let goes = moded_goes SameTriad (λ u mode place. moded_same (is_owner place.config.kind) place.slot) t run in
    let becomes = goes.changes number config slot at there in
    record { slot = becomes.now; there = becomes.stands; has = becomes.holds ∙ has }

-- the event sends nothing and leaves profile and serial number
pub record IsQuiet (t : ScannerTable) (next : Next) : Type 0 where
  pub frames : next.0.frames ≡ []
  pub profile : next.1.profile ≡ t.profile
  pub serial : next.1.next_serial ≡ t.next_serial

both_quiet : (t : ScannerTable) (said : Result Next StepFault) → IfOk said (IsQuiet t) → IfOk said (λ next. KeepsAll t next.1) → OkCares t said
both_quiet t (Err why) quiet keep = tt
both_quiet t (Ok next) quiet keep = quiet_cares t next quiet.frames quiet.profile quiet.serial keep

slots_quiet : (t : ScannerTable) (happens : Event) → changes_more happens ≡ false → IfOk (scanner_step t happens) (IsQuiet t)
slots_quiet t happens few =
    slots_hold (λ said. IfOk said (IsQuiet t)) t (λ why. tt) (λ verdict u of. record { frames = refl; profile = of.profile; serial = of.next_serial }) happens few

mode_keeps : (t : ScannerTable) (run : Bool) → KeepsAll t (mode t run).1
unfolding mode
mode_keeps t run = either (λ (u : ScannerTable). KeepsAll t u) (same_mode run t.run) t (moded_table t run) (keeps_itself t t refl) (moding_keeps t run)

passive_keeps : (t : ScannerTable) (happens : Event) → is_passive happens ≡ true → IfOk (scanner_step t happens) (λ next. KeepsAll t next.1)
passive_keeps t happens passive = passive_holds (λ said. IfOk said (λ next. KeepsAll t next.1)) t (λ why. tt) (λ verdict. keeps_itself t t refl) happens passive

-- ---- a step

pub step_cares : (t : ScannerTable) (happens : Event) → StreamsDiffer t.streams → OkCares t (scanner_step t happens)
unfolding frame stream_cut start stop
step_cares t (event.StreamOpened number peer) differ = stream_cares t number peer
step_cares t (event.Frame number bytes) differ = frame_of_cares t number bytes (find (is_stream number) t.streams) differ refl
step_cares t (event.StreamCut number) differ = cut_cares t (find (is_stream number) t.streams)
step_cares t (event.Tick ms) differ = tick_cares t ms
step_cares t (event.Start number) differ = start_at_cares t number (slot_at t number) refl
step_cares t (event.Stop number) differ = stop_at_cares t number (slot_at t number) refl
step_cares t (event.Explicit target number bytes) differ = explicit_cares t target number bytes
step_cares t (event.Datagram peer bytes) differ =
    both_quiet t (scanner_step t (event.Datagram peer bytes)) (slots_quiet t (event.Datagram peer bytes) refl) (received_leads KeepsAll t (keeps_itself t t refl) (accepting_keeps t) peer bytes)
step_cares t (event.Write number bytes) differ =
    both_quiet t (scanner_step t (event.Write number bytes)) (slots_quiet t (event.Write number bytes) refl) (write_leads KeepsAll t (writing_keeps t) number bytes)
step_cares t (event.Mode run) differ = both_quiet t (scanner_step t (event.Mode run)) (slots_quiet t (event.Mode run) refl) (mode_keeps t run)
step_cares t (event.Ids block) differ =
    both_quiet t (scanner_step t (event.Ids block)) (slots_quiet t (event.Ids block) refl)
    (ids_hold (λ said. IfOk said (λ next. KeepsAll t next.1)) t block (λ why. tt) (λ may. keeps_itself t (taken_table t block) refl))
step_cares t other differ = both_quiet t (scanner_step t other) (slots_quiet t other refl) (passive_keeps t other refl)
