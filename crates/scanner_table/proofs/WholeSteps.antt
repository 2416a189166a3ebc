-- Each effect of an event keeps a scanner's table whole, and so does each step.
use Rattle.std.proofs.Common.{◌∙◌, ◌&&◌, replicate, sym, ◌≡◌, ◌≤◌, ◌<◌, ℕ, ◌+◌, ◌^◌, Bool, true, false, not, cond, ◌||◌, ◌==◌, nat_le, nat_lt, List, [], ◌∷◌, length, filter, find, slice_get, slice_set, Option, Some, None, Result, Ok, Err, IfOk, IsTrue, refl, ap, subst, arith, eqb-true}
use Rattle.std.specs.List.{list_any}
use Rattle.std.proofs.lemmas.Bool.{and_parts, or_parts, not-true}
use Rattle.std.proofs.lemmas.Bool.Decides.{nat_tests}
use Rattle.std.proofs.lemmas.List.{length-replicate, length-map}
use Rattle.std.proofs.lemmas.Option.{same_Some}
use Rattle.cip_types.specs.Cases.{first_case}
use Rattle.cip_types.specs.declared.names.Mismatch.{Mismatch}
use Rattle.cip_types.specs.declared.names.Mismatch.TheVariants as mismatch
use Rattle.cip_types.specs.declared.names.Node.{Node}
use Rattle.cip_netparams.specs.Rate.{is_interval, interval_ms}
use Rattle.cip_datagram.specs.declared.datagram.DatagramFault.{DatagramFault}
use Rattle.cip_datagram.specs.Datagram.{DatagramFields}
use Rattle.cip_datagram.specs.Reading.{datagram_reading}
use Rattle.cip_encap.specs.declared.message.EncapFault.{EncapFault}
use Rattle.cip_encap.specs.Message.{MessageFields}
use Rattle.cip_encap.specs.Reading.{message_reading}
use Rattle.cip_events.specs.declared.event.Delivery.TheVariants.{Applied, Duplicate, Old, WrongSize}
use Rattle.cip_events.specs.declared.event.Notice.{Notice}
use Rattle.cip_events.specs.declared.event.Notice.TheVariants as notice
use Rattle.cip_events.specs.declared.event.Reason.{Reason}
use Rattle.cip_events.specs.declared.event.Reason.TheVariants as reason
use Rattle.cip_events.specs.declared.event.StepFault.{StepFault}
use Rattle.cip_events.specs.declared.event.StepFault.TheVariants as fault
use Rattle.cip_fwdopen.specs.declared.reply.Opened as made
use Rattle.cip_fwdopen.specs.declared.reply.OpenAnswer.{OpenAnswer}
use Rattle.cip_fwdopen.specs.declared.reply.OpenAnswer.TheVariants as answer
use Rattle.cip_productions.specs.Acceptance.{is_duplicate}
use Rattle.cip_types.specs.declared.names.Triad.{Triad}
use Rattle.conn_state.specs.declared.names.Link.{Link}
use Rattle.conn_state.specs.Answers.{is_requested_id, answer_tests, has_intervals}
use Rattle.cip_types.specs.Ids.{end_number}
use Rattle.scanner_table.specs.declared.profile.SlotConfig.{SlotConfig}
use Rattle.cip_events.specs.declared.event.Unanswered.{Unanswered}
use Rattle.cip_router.specs.RouterReplies.{RouterReplyFields}
use Rattle.scanner_table.specs.declared.explicit.PendingExplicit.{PendingExplicit}
use Rattle.scanner_table.specs.declared.slot.SlotConnection.{SlotConnection}
use Rattle.scanner_table.specs.declared.slot.PendingOpen as opening
use Rattle.scanner_table.specs.declared.slot.Slot.{Slot}
use Rattle.scanner_table.specs.declared.slot.SlotState.{SlotState}
use Rattle.scanner_table.specs.declared.slot.SlotState.TheVariants.{Idle, Opening, Established, TimedOut, Closing}
use Rattle.scanner_table.specs.declared.table.ScannerTable.{ScannerTable}
use Rattle.scanner_table.specs.declared.table.Stage.{Stage}
use Rattle.scanner_table.specs.declared.table.Stage.TheVariants.{Waiting, Up, Unused}
use Rattle.scanner_table.specs.declared.table.TargetStream.{TargetStream}
use Rattle.scanner_table.specs.Slots.{indexed_from, IndexedSlot, indexed_slots, slot_at, is_numbered, is_with, with_slot, is_timed_out, needs_request}
use Rattle.scanner_table.specs.declared.table.Session.{Session}
use Rattle.scanner_table.specs.Sessions.{session_with, is_stream, is_other_stream, is_to, is_taken, with_stream, without_stream, with_stage}
use Rattle.scanner_table.specs.Requests.{is_large}
use Rattle.scanner_table.specs.Effects.{Next, nothing, and_then, changed, counted, done}
use Rattle.scanner_table.specs.Opening.{has_request, has_id, can_open, drawn, opening_slot, resigned, exhausted, open_requested, opened_within, closing_slot, close_requested, cleared_within, opened_from, asking_session, opened, is_ready_slot, ready_slots, ready_opened, target_opened}
use Rattle.scanner_table.specs.Replies.{uses_id, open_answer, is_id_free, new_connection, established_slot, failed_slot, refused, disowned, disowned_within, rejected, judged_success, answered}
use Rattle.scanner_table.specs.Closing.{requested_link, idle_slot, is_close_in_time, given_up_state, given_up, target_lost, closed, slot_resigned, closed_within, stopped, stopped_at}
use Rattle.scanner_table.specs.Explicit.{is_request, others, with_explicit, has_number, awaits, has_explicit_length, service_of, is_for_slots, is_barred, connects_to, explicit_sent, explicit_within, explicit_request, explicit_reply, explicit_answered, explicit_timed_out, explicit_lost}
use Rattle.scanner_table.specs.Encapsulation.{registering_on, ignored, stream_opened, message_answer, cut_of, stream_cut, is_registered, session_begun, session_failed, registered, ends_session, session_renewed, is_awaiting, replied, replied_to, unserved_state, unserved, unserved_at, reported, frame_answer, frame_of, frame}
use Rattle.scanner_table.specs.Datagrams.{accepts_at, delivered, is_for, accepted_connection, accepted_table, accepted, sized, state_received, received_at, received_as, received}
use Rattle.scanner_table.specs.Points.{stop_of, stop}
use Rattle.scanner_table.specs.WellFormed.{RequestsDiffer, IdsDiffer, FitsState, FitsSlot, StateIsDesired, IsWellFormed, IsWatched}
use Rattle.scanner_table.proofs.IdsLemmas.{Weaker, idle_weaker, opening_weaker, timed_out_weaker, closing_weaker, linked_weaker, all_set, differ_weaker, differ_established}
use Rattle.scanner_table.proofs.RequestLemmas.{Quieter, WaitsFor, idle_quieter, established_quieter, timed_out_quieter, set_quieter, differ_quieter, differ_numbered}
use Rattle.scanner_table.proofs.WholeLemmas.{IsNow, each_now, slots_later, later_later, IsAt, Each, each_filter, each_found, each_at, DesiredIn, whole_with, Keeps, keeps_nothing, KeepsAt, keeps_each, Any, each_any, each_passes, few_with, differ_with, few_left, differ_left, differ_staged}

-- ---- one slot is changed

-- no ids clash where the slot has no more than the one before it
differ_set : (t : ScannerTable) (indexed : IndexedSlot) (slot : Slot) → IsWellFormed t → ((old : SlotState) → Weaker old slot.state) → IdsDiffer (indexed_from 0 t.profile.slots (slice_set t.slots indexed.number slot))
differ_set t indexed slot whole weaker =
    differ_weaker 0 t.profile.slots t.slots (slice_set t.slots indexed.number slot) (all_set indexed.number t.slots slot (λ old is. weaker old.state)) whole.ids_differ

-- no requests are shared where the slot waits for nothing, or for what the one before it waits for
quiet_set : (t : ScannerTable) (indexed : IndexedSlot) (slot : Slot) → IsWellFormed t → ((old : SlotState) → Quieter old slot.state) → RequestsDiffer (slice_set t.slots indexed.number slot)
quiet_set t indexed slot whole quieter =
    differ_quieter t.slots (slice_set t.slots indexed.number slot) (set_quieter indexed.number t.slots slot (λ old is. quieter old.state)) whole.requests_differ

-- another slot under one number, and nothing else
pub keeps_changed : (t : ScannerTable) (indexed : IndexedSlot) (slot : Slot) (reported : List Notice) → IsWellFormed t → IsAt t indexed → FitsSlot t.next_request t.clock.0 indexed.config slot → DesiredIn t slot → ((old : SlotState) → Weaker old slot.state) → ((old : SlotState) → Quieter old slot.state) → Keeps t (changed t indexed slot reported)
keeps_changed t indexed slot reported whole at fits desires weaker quieter = record {
  whole = whole_with t indexed slot whole at.config fits desires (differ_set t indexed slot whole weaker) (quiet_set t indexed slot whole quieter);
  later = record { profile = refl; clock = refl; requests = omega arith };
}

-- a slot without a connection
idle_fits : (t : ScannerTable) (indexed : IndexedSlot) (slot : Slot) → IsAt t indexed → slot.output ≡ indexed.slot.output → slot.image ≡ indexed.slot.image → slot.state ≡ Idle → FitsSlot t.next_request t.clock.0 indexed.config slot
idle_fits t indexed slot at output image state = record {
  output = rw output at.fits.output;
  image = rw image at.fits.image;
  state = rw state tt;
  watchdog = rw state tt;
}

keeps_resigned : (reported : List Notice) (t : ScannerTable) (indexed : IndexedSlot) → IsWellFormed t → IsAt t indexed → Keeps t (changed t indexed (resigned indexed.slot) reported)
keeps_resigned reported t indexed whole at = keeps_changed t indexed (resigned indexed.slot) reported whole at (idle_fits t indexed (resigned indexed.slot) at refl refl refl) (λ untidy. tt) idle_weaker idle_quieter

keeps_failed : (reported : List Notice) (t : ScannerTable) (indexed : IndexedSlot) → IsWellFormed t → IsAt t indexed → Keeps t (changed t indexed (failed_slot t Idle indexed.slot) reported)
keeps_failed reported t indexed whole at = keeps_changed t indexed (failed_slot t Idle indexed.slot) reported whole at (idle_fits t indexed (failed_slot t Idle indexed.slot) at refl refl refl) (λ untidy. tt) idle_weaker idle_quieter

keeps_refused : (why : Reason) (t : ScannerTable) (indexed : IndexedSlot) → IsWellFormed t → IsAt t indexed → Keeps t (refused t indexed why)
keeps_refused why t indexed whole at = keeps_failed (notice.Refused indexed.number why ∷ []) t indexed whole at

keeps_idle : (t : ScannerTable) (indexed : IndexedSlot) → IsWellFormed t → IsAt t indexed → Keeps t (changed t indexed (idle_slot indexed.slot) [])
keeps_idle t indexed whole at = keeps_changed t indexed (idle_slot indexed.slot) [] whole at (idle_fits t indexed (idle_slot indexed.slot) at refl refl refl) (λ untidy. tt) idle_weaker idle_quieter

-- a connection that timed out
timed_out_fits : (t : ScannerTable) (indexed : IndexedSlot) (link : Link) (slot : Slot) → IsAt t indexed → slot.output ≡ indexed.slot.output → slot.image ≡ indexed.slot.image → slot.state ≡ TimedOut link → FitsSlot t.next_request t.clock.0 indexed.config slot
timed_out_fits t indexed link slot at output image state = record {
  output = rw output at.fits.output;
  image = rw image at.fits.image;
  state = rw state tt;
  watchdog = rw state tt;
}

-- nothing need hold without `tidy`
tidy_only : (t : ScannerTable) (slot : Slot) → t.profile.tidy ≡ true → DesiredIn t slot
tidy_only t slot tidy untidy = absurd (let e : true ≡ false = sym tidy ∙ untidy in cc)

-- ---- requests

request_left : (t : ScannerTable) → has_request t ≡ true → t.next_request ≤ 2 ^ 48
request_left t left = grind (arith, nat_tests, left)

whole_counted : (t : ScannerTable) → has_request t ≡ true → IsWellFormed t → IsWellFormed (counted t)
whole_counted t left whole = record {
  ids_differ = whole.ids_differ;
  requests_differ = whole.requests_differ;
  faultless = whole.faultless;
  slots = slots_later t.next_request (t.next_request + 1) t.clock.0 t.clock.0 t.profile.slots t.slots (omega arith) (omega arith) whole.slots;
  desires = whole.desires;
  clock = whole.clock;
  blocks = whole.blocks;
  ids_begin = whole.ids_begin;
  ids = whole.ids;
  serial_begins = whole.serial_begins;
  serial_ends = whole.serial_ends;
  requests = omega (arith, request_left t left);
  few_streams = whole.few_streams;
  streams_differ = whole.streams_differ;
}

id_fits : (multicast : Bool) (next end : ℕ) → (multicast || nat_lt next end) ≡ true → next ≤ end → cond multicast next (next + 1) ≤ end
id_fits true next end left fits = fits
id_fits false next end left fits = grind (arith, nat_tests, left)

id_begins : (multicast : Bool) (next : ℕ) → 1 ≤ next → 1 ≤ cond multicast next (next + 1)
id_begins true next begins = begins
id_begins false next begins = omega (arith, begins)

serial_step : (b : Bool) (serial : ℕ) → (serial == 65535) ≡ b → 1 ≤ serial → serial ≤ 65535 → (1 ≤ cond b 1 (serial + 1)) × (cond b 1 (serial + 1) ≤ 65535)
serial_step true serial is begins ends = (omega arith, omega arith)
serial_step false serial is begins ends = (omega arith, grind (arith, nat_tests, is, ends))

whole_drawn : (t : ScannerTable) (config : SlotConfig) → has_id t config ≡ true → IsWellFormed t → IsWellFormed (drawn t config)
whole_drawn t config left whole =
    let serial = serial_step (t.next_serial == 65535) t.next_serial refl whole.serial_begins whole.serial_ends in
    record {
      ids_differ = whole.ids_differ;
      requests_differ = whole.requests_differ;
      faultless = whole.faultless;
      slots = whole.slots;
      desires = whole.desires;
      clock = whole.clock;
      blocks = whole.blocks;
      ids_begin = id_begins config.multicast t.next_id whole.ids_begin;
      ids = id_fits config.multicast t.next_id (end_number t.ids) left whole.ids;
      serial_begins = serial.0;
      serial_ends = serial.1;
      requests = whole.requests;
      few_streams = whole.few_streams;
      streams_differ = whole.streams_differ;
    }

keeps_requested : (t : ScannerTable) (indexed : IndexedSlot) (slot : Slot) (reported : List Notice) → has_request t ≡ true → IsWellFormed t → slice_get t.profile.slots indexed.number ≡ Some indexed.config → FitsSlot (t.next_request + 1) t.clock.0 indexed.config slot → DesiredIn t slot → ((old : SlotState) → Weaker old slot.state) → WaitsFor t.next_request slot.state → Keeps t (changed (counted t) indexed slot reported)
keeps_requested t indexed slot reported left whole at fits desires weaker waits = record {
  whole = whole_with (counted t) indexed slot (whole_counted t left whole) at fits desires (differ_set t indexed slot whole weaker)
      (differ_numbered t.next_request t.clock.0 indexed.number t.profile.slots t.slots slot waits whole.slots whole.requests_differ);
  later = record { profile = refl; clock = refl; requests = omega arith };
}

-- ---- openings

opening_fits : (t : ScannerTable) (indexed : IndexedSlot) → IsAt t indexed → indexed.slot.desired_up ≡ true → FitsSlot (t.next_request + 1) t.clock.0 indexed.config (opening_slot t indexed)
opening_fits t indexed at desired_up = record { output = at.fits.output; image = at.fits.image; state = (desired_up, omega arith); watchdog = tt }

keeps_open_requested : (t : ScannerTable) (indexed : IndexedSlot) (session : Session) → can_open t indexed.config ≡ true → IsWellFormed t → IsAt t indexed → indexed.slot.desired_up ≡ true → Keeps t (open_requested t indexed session)
keeps_open_requested t indexed session can whole at desired_up =
    let left = and_parts (has_request t) (has_id t indexed.config) can in
    let kept = keeps_requested (drawn t indexed.config) indexed (opening_slot t indexed) [] left.0 (whole_drawn t indexed.config left.1 whole) at.config (opening_fits t indexed at desired_up) (λ untidy. tt) (λ old. opening_weaker old _) refl in
    record { whole = kept.whole; later = record { profile = refl; clock = refl; requests = kept.later.requests } }

can_step : (b : Bool) (t : ScannerTable) (indexed : IndexedSlot) (session : Session) → can_open t indexed.config ≡ b → IsWellFormed t → IsAt t indexed → indexed.slot.desired_up ≡ true → Keeps t (cond b (open_requested t indexed session) (exhausted t indexed))
can_step true t indexed session can whole at desired_up = keeps_open_requested t indexed session can whole at desired_up
can_step false t indexed session can whole at desired_up = keeps_resigned (notice.NoIds indexed.number ∷ []) t indexed whole at

keeps_within : (t : ScannerTable) (indexed : IndexedSlot) (session : Option Session) → IsWellFormed t → IsAt t indexed → indexed.slot.desired_up ≡ true → Keeps t (opened_within t indexed session)
keeps_within t indexed None whole at desired_up = keeps_nothing t whole
keeps_within t indexed (Some session) whole at desired_up = can_step (can_open t indexed.config) t indexed session refl whole at desired_up

-- ---- closing

closing_fits : (t : ScannerTable) (indexed : IndexedSlot) (link : Link) (desired_up : Bool) → IsAt t indexed → FitsSlot (t.next_request + 1) t.clock.0 indexed.config (closing_slot t link desired_up indexed.slot)
closing_fits t indexed link desired_up at = record { output = at.fits.output; image = at.fits.image; state = omega arith; watchdog = tt }

close_step : (b : Bool) (t : ScannerTable) (indexed : IndexedSlot) (link : Link) (desired_up : Bool) (session : Session) → has_request t ≡ b → IsWellFormed t → IsAt t indexed → DesiredIn t (closing_slot t link desired_up indexed.slot) → Keeps t (cond b (close_requested t indexed link desired_up session) (exhausted t indexed))
close_step true t indexed link desired_up session left whole at desires =
    let kept = keeps_requested t indexed (closing_slot t link desired_up indexed.slot) [] left whole at.config (closing_fits t indexed link desired_up at) desires (λ old. closing_weaker old _) refl in
    record { whole = kept.whole; later = kept.later }
close_step false t indexed link desired_up session left whole at desires = keeps_resigned (notice.NoIds indexed.number ∷ []) t indexed whole at

keeps_cleared : (t : ScannerTable) (indexed : IndexedSlot) (link : Link) (session : Option Session) → t.profile.tidy ≡ true → IsWellFormed t → IsAt t indexed → Keeps t (cleared_within t indexed link session)
keeps_cleared t indexed link None tidy whole at = keeps_nothing t whole
keeps_cleared t indexed link (Some session) tidy whole at =
    close_step (has_request t) t indexed link indexed.slot.desired_up session refl whole at (tidy_only t (closing_slot t link indexed.slot.desired_up indexed.slot) tidy)

-- the slot is to be open, or to be closed
abbrev pub NeedsRequest : IndexedSlot → Type 0
NeedsRequest indexed = needs_request indexed.slot ≡ true

needed_desired : (desired_up timed_out : Bool) → timed_out ≡ false → (desired_up || timed_out) ≡ true → desired_up ≡ true
needed_desired true timed_out is needed = refl
needed_desired false true is needed = absurd cc
needed_desired false false is needed = absurd cc

-- a slot of this state is desired
is_desired : (indexed : IndexedSlot) (state : SlotState) → indexed.slot.state ≡ state → is_timed_out state ≡ false → NeedsRequest indexed → indexed.slot.desired_up ≡ true
is_desired indexed state is none needed = needed_desired indexed.slot.desired_up (is_timed_out indexed.slot.state) (ap is_timed_out is ∙ none) needed

timed_out_desired : (t : ScannerTable) (indexed : IndexedSlot) (link : Link) → indexed.slot.state ≡ TimedOut link → t.profile.tidy ≡ false → IsAt t indexed → indexed.slot.desired_up ≡ true
timed_out_desired t indexed link is untidy at = subst (StateIsDesired indexed.slot.desired_up) is (at.desires untidy)

tidy_step : (b : Bool) (t : ScannerTable) (indexed : IndexedSlot) (link : Link) (session : Option Session) → t.profile.tidy ≡ b → indexed.slot.state ≡ TimedOut link → IsWellFormed t → IsAt t indexed → Keeps t (cond b (cleared_within t indexed link session) (opened_within t indexed session))
tidy_step true t indexed link session tidy is whole at = keeps_cleared t indexed link session tidy whole at
tidy_step false t indexed link session tidy is whole at = keeps_within t indexed session whole at (timed_out_desired t indexed link is tidy at)

keeps_from : (t : ScannerTable) (indexed : IndexedSlot) (session : Option Session) (state : SlotState) → indexed.slot.state ≡ state → IsWellFormed t → IsAt t indexed → NeedsRequest indexed → Keeps t (opened_from t indexed session state)
keeps_from t indexed session (TimedOut link) is whole at needed = tidy_step t.profile.tidy t indexed link session refl is whole at
keeps_from t indexed session other is whole at needed = keeps_within t indexed session whole at (is_desired indexed other is refl needed)

pub keeps_opened : KeepsAt NeedsRequest opened
unfolding opened
keeps_opened t indexed whole at needed = keeps_from t indexed (asking_session t indexed) indexed.slot.state refl whole at needed

needs_of : (clock : _) (rest : List IndexedSlot) → Each (λ indexed. is_ready_slot clock indexed ≡ true) rest → Each NeedsRequest rest
needs_of clock [] ready = tt
needs_of clock (indexed ∷ rest) ready = ((and_parts (needs_request indexed.slot) _ ready.0).0, needs_of clock rest ready.1)

pub keeps_ready : (t : ScannerTable) → IsWellFormed t → Keeps t (ready_opened t)
unfolding ready_opened
keeps_ready t whole =
    keeps_each NeedsRequest opened keeps_opened (ready_slots t) t whole (each_filter (IsAt t) (is_ready_slot t.clock) (indexed_slots t) (each_at t whole))
    (needs_of t.clock (ready_slots t) (each_passes (is_ready_slot t.clock) (indexed_slots t)))

keeps_target : (target : Node) (t : ScannerTable) → IsWellFormed t → Keeps t (target_opened target t)
unfolding target_opened
keeps_target target t whole =
    keeps_each NeedsRequest opened keeps_opened (filter (is_with target) (ready_slots t)) t whole
    (each_filter (IsAt t) (is_with target) (ready_slots t) (each_filter (IsAt t) (is_ready_slot t.clock) (indexed_slots t) (each_at t whole)))
    (each_filter NeedsRequest (is_with target) (ready_slots t) (needs_of t.clock (ready_slots t) (each_passes (is_ready_slot t.clock) (indexed_slots t))))

-- ---- replies

interval_fits : (rpi : ℕ) → IsTrue (is_interval rpi) → interval_ms rpi ≤ 10000
interval_fits rpi is = grind (arith, nat_tests)

has_both : (a b c : Bool) → cond a (Some mismatch.Triad) (cond b (Some mismatch.Id) (cond (not c) (Some mismatch.Api) None)) ≡ None → c ≡ true
has_both true b c none = absurd cc
has_both false true c none = absurd cc
has_both false false true none = refl
has_both false false false none = absurd cc

established_fits : (t : ScannerTable) (indexed : IndexedSlot) (o : opening.PendingOpen) (success : made.Opened) → IsAt t indexed → (indexed.slot.desired_up ≡ true) × (o.request < t.next_request) → has_intervals success ≡ true → FitsSlot t.next_request t.clock.0 indexed.config (established_slot indexed (new_connection t indexed o success))
established_fits t indexed o success at fits intervals =
    let both = and_parts (is_interval success.o_t_api_us) (is_interval success.t_o_api_us) intervals in
    record {
      output = at.fits.output;
      image = length-replicate indexed.config.in_len 0;
      state = (fits.0, record { opening = fits.1; o_t_api_ms = interval_fits success.o_t_api_us both.0; t_o_api_ms = interval_fits success.t_o_api_us both.1; due = omega arith });
      watchdog = refl;
    }

is_clear : (a x y c : Bool) → cond a (Some mismatch.Triad) (cond (not (x && y)) (Some mismatch.Id) (cond (not c) (Some mismatch.Api) None)) ≡ None → y ≡ true
is_clear true x y c none = absurd cc
is_clear false false y c none = absurd cc
is_clear false true true c none = refl
is_clear false true false c none = absurd cc

established_differ : (t : ScannerTable) (indexed : IndexedSlot) (o : opening.PendingOpen) (success : made.Opened) → IsAt t indexed → is_id_free t indexed success.t_o_id ≡ true → IsWellFormed t → IdsDiffer (indexed_from 0 t.profile.slots (slice_set t.slots indexed.number (established_slot indexed (new_connection t indexed o success))))
established_differ t indexed o success at clear whole =
    let free : list_any (uses_id indexed.number indexed.config.target success.t_o_id) (indexed_slots t) ≡ false = not-true _ clear in
    let same : indexed.number ≡ 0 + indexed.number = omega arith in
    let numbered : list_any (uses_id (0 + indexed.number) indexed.config.target success.t_o_id) (indexed_slots t) ≡ false = subst (λ (n : ℕ). list_any (uses_id n indexed.config.target success.t_o_id) (indexed_slots t) ≡ false) same free in
    differ_established 0 indexed.number indexed.config indexed.slot (new_connection t indexed o success) (replicate indexed.config.in_len 0) t.profile.slots t.slots at.config numbered whole.ids_differ

-- a request that no slot waits for
disown_step : (b : Bool) (t : ScannerTable) (config : SlotConfig) (triad : Triad) (session : Session) → has_request t ≡ b → IsWellFormed t → Keeps t (cond b (disowned t config triad session) (nothing t))
disown_step true t config triad session left whole = record { whole = whole_counted t left whole; later = record { profile = refl; clock = refl; requests = omega arith } }
disown_step false t config triad session left whole = keeps_nothing t whole

keeps_disowned : (t : ScannerTable) (config : SlotConfig) (triad : Triad) (session : Option Session) → IsWellFormed t → Keeps t (disowned_within t config triad session)
keeps_disowned t config triad None whole = keeps_nothing t whole
keeps_disowned t config triad (Some session) whole = disown_step (has_request t) t config triad session refl whole

reject_step : (b : Bool) (t : ScannerTable) (config : SlotConfig) (triad : Triad) → IsWellFormed t → Keeps t (cond b (disowned_within t config triad (session_with t config.target)) (nothing t))
reject_step true t config triad whole = keeps_disowned t config triad (session_with t config.target) whole
reject_step false t config triad whole = keeps_nothing t whole

keeps_rejected : (t : ScannerTable) (indexed : IndexedSlot) (why : Reason) (triad : Triad) → IsWellFormed t → IsAt t indexed → Keeps t (and_then (refused t indexed why) (rejected indexed.config triad))
keeps_rejected t indexed why triad whole at =
    let first = keeps_refused why t indexed whole at in
    let u = (refused t indexed why).table in
    let second = reject_step u.profile.tidy u indexed.config triad first.whole in
    record { whole = second.whole; later = later_later t u (rejected indexed.config triad u).table first.later second.later }

keeps_success : (t : ScannerTable) (indexed : IndexedSlot) (o : opening.PendingOpen) (success : made.Opened) (why : Option Mismatch) → first_case (answer_tests o.requested success (is_id_free t indexed success.t_o_id)) ≡ why → IsWellFormed t → IsAt t indexed → (indexed.slot.desired_up ≡ true) × (o.request < t.next_request) → Keeps t (judged_success t indexed o success why)
keeps_success t indexed o success (Some why) is whole at fits = keeps_rejected t indexed (reason.Mismatch why) o.requested.triad whole at
keeps_success t indexed o success None is whole at fits = record {
  whole = whole_with t indexed (established_slot indexed (new_connection t indexed o success)) whole at.config
      (established_fits t indexed o success at fits (has_both _ _ (has_intervals success) is))
      (λ untidy. tt)
      (established_differ t indexed o success at (is_clear _ (is_requested_id o.requested.t_o_id success.t_o_id) (is_id_free t indexed success.t_o_id) _ is) whole)
      (quiet_set t indexed (established_slot indexed (new_connection t indexed o success)) whole (λ old. established_quieter old (new_connection t indexed o success)));
  later = record { profile = refl; clock = refl; requests = omega arith };
}

keeps_answered : (t : ScannerTable) (indexed : IndexedSlot) (o : opening.PendingOpen) (said : Result OpenAnswer Reason) → IsWellFormed t → IsAt t indexed → (indexed.slot.desired_up ≡ true) × (o.request < t.next_request) → Keeps t (answered t indexed o said)
unfolding answered
keeps_answered t indexed o (Err why) whole at fits = keeps_refused why t indexed whole at
keeps_answered t indexed o (Ok (answer.Refused r)) whole at fits = keeps_refused (reason.Cip r.fault) t indexed whole at
keeps_answered t indexed o (Ok (answer.Opened success)) whole at fits =
    keeps_success t indexed o success (first_case (answer_tests o.requested success (is_id_free t indexed success.t_o_id))) refl whole at fits

-- ---- endings

-- an opening is not answered
keeps_unanswered : (b : Bool) (t : ScannerTable) (indexed : IndexedSlot) (link : Link) → t.profile.tidy ≡ b → IsWellFormed t → IsAt t indexed → Keeps t (changed t indexed (failed_slot t (cond b (TimedOut link) Idle) indexed.slot) [])
keeps_unanswered true t indexed link tidy whole at =
    let slot = failed_slot t (TimedOut link) indexed.slot in
    keeps_changed t indexed slot [] whole at (timed_out_fits t indexed link slot at refl refl refl) (tidy_only t slot tidy) (λ old. timed_out_weaker old link) (λ old. timed_out_quieter old link)
keeps_unanswered false t indexed link tidy whole at = keeps_failed [] t indexed whole at

-- a Forward_Close is not answered
keeps_unclosed : (b c : Bool) (t : ScannerTable) (indexed : IndexedSlot) (link : Link) → t.profile.tidy ≡ b → IsWellFormed t → IsAt t indexed → Keeps t (changed t indexed (cond (b && c) (failed_slot t (TimedOut link) indexed.slot) (idle_slot indexed.slot)) [])
keeps_unclosed true true t indexed link tidy whole at = keeps_unanswered true t indexed link tidy whole at
keeps_unclosed true false t indexed link tidy whole at = keeps_idle t indexed whole at
keeps_unclosed false c t indexed link tidy whole at = keeps_idle t indexed whole at

keeps_given_state : (t : ScannerTable) (indexed : IndexedSlot) (state : SlotState) → IsWellFormed t → IsAt t indexed → Keeps t (given_up_state t indexed state)
keeps_given_state t indexed Idle whole at = keeps_nothing t whole
keeps_given_state t indexed (Opening o) whole at = keeps_unanswered t.profile.tidy t indexed (requested_link o.requested) refl whole at
keeps_given_state t indexed (Established c) whole at = keeps_nothing t whole
keeps_given_state t indexed (TimedOut link) whole at = keeps_nothing t whole
keeps_given_state t indexed (Closing c) whole at = keeps_unclosed t.profile.tidy (is_close_in_time t c) t indexed c.link refl whole at

pub keeps_given : KeepsAt Any given_up
keeps_given t indexed whole at any = keeps_given_state t indexed indexed.slot.state whole at

keeps_lost : (target : Node) (t : ScannerTable) → IsWellFormed t → Keeps t (target_lost target t)
unfolding target_lost
keeps_lost target t whole =
    keeps_each Any given_up keeps_given (filter (is_with target) (indexed_slots t)) t whole (each_filter (IsAt t) (is_with target) (indexed_slots t) (each_at t whole)) (each_any _)

-- the slot is left with its connection timed out
keeps_left : (b : Bool) (t : ScannerTable) (indexed : IndexedSlot) (link : Link) → t.profile.tidy ≡ b → IsWellFormed t → IsAt t indexed → Keeps t (changed t indexed (record indexed.slot { state = cond b (TimedOut link) Idle; desired_up = false }) [])
keeps_left true t indexed link tidy whole at =
    let slot : Slot = record indexed.slot { state = TimedOut link; desired_up = false } in
    keeps_changed t indexed slot [] whole at (timed_out_fits t indexed link slot at refl refl refl) (tidy_only t slot tidy) (λ old. timed_out_weaker old link) (λ old. timed_out_quieter old link)
keeps_left false t indexed link tidy whole at = keeps_resigned [] t indexed whole at

keeps_closed : (t : ScannerTable) (indexed : IndexedSlot) (link : Link) (session : Option Session) → IsWellFormed t → IsAt t indexed → Keeps t (closed_within t indexed link session)
keeps_closed t indexed link None whole at = keeps_left t.profile.tidy t indexed link refl whole at
keeps_closed t indexed link (Some session) whole at = close_step (has_request t) t indexed link false session refl whole at (λ untidy. refl)

keeps_dropped : (b : Bool) (t : ScannerTable) (indexed : IndexedSlot) (link : Link) → IsWellFormed t → IsAt t indexed → Keeps t (cond b (closed_within t indexed link (session_with t indexed.config.target)) (slot_resigned t indexed))
keeps_dropped true t indexed link whole at = keeps_closed t indexed link (session_with t indexed.config.target) whole at
keeps_dropped false t indexed link whole at = keeps_resigned [] t indexed whole at

-- what is answered leaves a whole table
abbrev pub LeavesWhole : Result Next StepFault → Type 0
LeavesWhole said = IfOk said (λ next. IsWellFormed next.1)

stop_step : (b : Bool) (t : ScannerTable) (indexed : IndexedSlot) → IsWellFormed t → IsAt t indexed → LeavesWhole (stop_of (cond b (Ok (slot_resigned t indexed)) (Err fault.NotAllowedNow)))
stop_step true t indexed whole at = (keeps_resigned [] t indexed whole at).whole
stop_step false t indexed whole at = tt

stopped_whole : (t : ScannerTable) (indexed : IndexedSlot) (state : SlotState) → IsWellFormed t → IsAt t indexed → LeavesWhole (stop_of (stopped t indexed state))
stopped_whole t indexed Idle whole at = stop_step indexed.slot.desired_up t indexed whole at
stopped_whole t indexed (Opening o) whole at = (keeps_dropped t.profile.tidy t indexed (requested_link o.requested) whole at).whole
stopped_whole t indexed (Established c) whole at = (keeps_closed t indexed c.link (session_with t indexed.config.target) whole at).whole
stopped_whole t indexed (TimedOut link) whole at = (keeps_dropped t.profile.tidy t indexed link whole at).whole
stopped_whole t indexed (Closing c) whole at = stop_step indexed.slot.desired_up t indexed whole at

stop_at_whole : (t : ScannerTable) (number : ℕ) (found : Option IndexedSlot) → slot_at t number ≡ found → IsWellFormed t → LeavesWhole (stop_of (stopped_at t found))
stop_at_whole t number None is whole = tt
stop_at_whole t number (Some indexed) is whole = stopped_whole t indexed indexed.slot.state whole (each_found (IsAt t) (is_numbered number) (indexed_slots t) indexed is (each_at t whole))

pub stop_whole : (t : ScannerTable) (number : ℕ) → IsWellFormed t → LeavesWhole (stop t number)
unfolding stop
stop_whole t number whole = stop_at_whole t number (slot_at t number) refl whole

-- ---- streams

space_left : (streams : List TargetStream) → nat_le 16 (length streams) ≡ false → length streams + 1 ≤ 16
space_left streams free = grind (arith, nat_tests, free)

whole_streamed : (t : ScannerTable) (number : ℕ) (target : Node) → is_taken t.streams number target ≡ false → IsWellFormed t → IsWellFormed (with_stream t number target)
whole_streamed t number target free whole =
    let none = or_parts (list_any (is_stream number) t.streams) _ free in
    let alone = or_parts (list_any (is_to target) t.streams) (nat_le 16 (length t.streams)) none.1 in
    let new : TargetStream = record { number = number; peer = target; stage = Waiting } in
    record {
      ids_differ = whole.ids_differ;
      requests_differ = whole.requests_differ;
      faultless = whole.faultless;
      slots = whole.slots;
      desires = whole.desires;
      clock = whole.clock;
      blocks = whole.blocks;
      ids_begin = whole.ids_begin;
      ids = whole.ids;
      serial_begins = whole.serial_begins;
      serial_ends = whole.serial_ends;
      requests = whole.requests;
      few_streams = few_with t.streams new (space_left t.streams alone.1);
      streams_differ = differ_with t.streams new whole.streams_differ none.0 alone.0;
    }

taken_step : (b : Bool) (t : ScannerTable) (number : ℕ) (target : Node) → is_taken t.streams number target ≡ b → IsWellFormed t → LeavesWhole (cond b (Err fault.NotAllowedNow) (Ok (done (registering_on t number target))))
taken_step true t number target taken whole = tt
taken_step false t number target taken whole = whole_streamed t number target taken whole

pub streamed_whole : (t : ScannerTable) (number : ℕ) (target : Node) → IsWellFormed t → LeavesWhole (stream_opened t number target)
unfolding stream_opened
streamed_whole t number target whole = taken_step (is_taken t.streams number target) t number target refl whole

whole_without : (t : ScannerTable) (number : ℕ) → IsWellFormed t → IsWellFormed (without_stream t number)
whole_without t number whole = record {
  ids_differ = whole.ids_differ;
  requests_differ = whole.requests_differ;
  faultless = whole.faultless;
  slots = whole.slots;
  desires = whole.desires;
  clock = whole.clock;
  blocks = whole.blocks;
  ids_begin = whole.ids_begin;
  ids = whole.ids;
  serial_begins = whole.serial_begins;
  serial_ends = whole.serial_ends;
  requests = whole.requests;
  few_streams = omega (arith, few_left (is_other_stream number) t.streams, whole.few_streams);
  streams_differ = differ_left (is_other_stream number) t.streams whole.streams_differ;
}

-- ---- explicit requests

-- other requests are pending
whole_explicit : (t : ScannerTable) (pending : List PendingExplicit) → IsWellFormed t → IsWellFormed (with_explicit t pending)
whole_explicit t pending whole = record {
  ids_differ = whole.ids_differ;
  requests_differ = whole.requests_differ;
  faultless = whole.faultless;
  slots = whole.slots;
  desires = whole.desires;
  clock = whole.clock;
  blocks = whole.blocks;
  ids_begin = whole.ids_begin;
  ids = whole.ids;
  serial_begins = whole.serial_begins;
  serial_ends = whole.serial_ends;
  requests = whole.requests;
  few_streams = whole.few_streams;
  streams_differ = whole.streams_differ;
}

pub timed_out_whole : (t : ScannerTable) → IsWellFormed t → IsWellFormed (explicit_timed_out t).table
unfolding explicit_timed_out
timed_out_whole t whole = whole_explicit t _ whole

lost_whole : (stream : ℕ) (t : ScannerTable) → IsWellFormed t → IsWellFormed (explicit_lost stream t).table
unfolding explicit_lost
lost_whole stream t whole = whole_explicit t _ whole

is_left : (b : Bool) → not b ≡ false → b ≡ true
is_left true none = refl
is_left false none = absurd cc

-- a request that is not barred has a number
unbarred_left : (t : ScannerTable) (number : ℕ) (bytes : List ℕ) → is_barred t number bytes ≡ false → has_request t ≡ true
unbarred_left t number bytes free =
    let first = or_parts (is_for_slots (service_of bytes)) _ free in
    let second = or_parts (nat_le 16 (length t.explicit)) _ first.1 in
    is_left (has_request t) (or_parts (list_any (has_number number) t.explicit) (not (has_request t)) second.1).1

barred_step : (b : Bool) (t : ScannerTable) (session : Session) (number : ℕ) (bytes : List ℕ) → is_barred t number bytes ≡ b → IsWellFormed t → LeavesWhole (cond b (Err fault.NotAllowedNow) (Ok (done (explicit_sent t session number bytes))))
barred_step true t session number bytes is whole = tt
barred_step false t session number bytes is whole = whole_explicit (counted t) _ (whole_counted t (unbarred_left t number bytes is) whole)

explicit_within_whole : (t : ScannerTable) (number : ℕ) (bytes : List ℕ) (session : Option Session) → IsWellFormed t → LeavesWhole (explicit_within t number bytes session)
explicit_within_whole t number bytes None whole = tt
explicit_within_whole t number bytes (Some session) whole = barred_step (is_barred t number bytes) t session number bytes refl whole

explicit_step : (a b : Bool) (t : ScannerTable) (target : Node) (number : ℕ) (bytes : List ℕ) → IsWellFormed t → LeavesWhole (cond a (cond b (explicit_within t number bytes (session_with t target)) (Err fault.WrongLength)) (Err fault.NoSuchSlot))
explicit_step true true t target number bytes whole = explicit_within_whole t number bytes (session_with t target) whole
explicit_step true false t target number bytes whole = tt
explicit_step false b t target number bytes whole = tt

pub explicit_whole : (t : ScannerTable) (target : Node) (number : ℕ) (bytes : List ℕ) → IsWellFormed t → LeavesWhole (explicit_request t target number bytes)
unfolding explicit_request
explicit_whole t target number bytes whole = explicit_step (list_any (connects_to target) t.profile.slots) (has_explicit_length bytes) t target number bytes whole

cut_whole_of : (t : ScannerTable) (found : Option TargetStream) → IsWellFormed t → LeavesWhole (cut_of t found)
cut_whole_of t None whole = tt
cut_whole_of t (Some stream) whole =
    let now = without_stream t stream.number in
    lost_whole stream.number (target_lost stream.peer now).table (keeps_lost stream.peer now (whole_without t stream.number whole)).whole

pub cut_whole : (t : ScannerTable) (number : ℕ) → IsWellFormed t → LeavesWhole (stream_cut t number)
unfolding stream_cut
cut_whole t number whole = cut_whole_of t (find (is_stream number) t.streams) whole

whole_staged : (t : ScannerTable) (number : ℕ) (stage : Stage) → IsWellFormed t → IsWellFormed (with_stage t number stage)
whole_staged t number stage whole = record {
  ids_differ = whole.ids_differ;
  requests_differ = whole.requests_differ;
  faultless = whole.faultless;
  slots = whole.slots;
  desires = whole.desires;
  clock = whole.clock;
  blocks = whole.blocks;
  ids_begin = whole.ids_begin;
  ids = whole.ids;
  serial_begins = whole.serial_begins;
  serial_ends = whole.serial_ends;
  requests = whole.requests;
  few_streams = rw length-map whole.few_streams;
  streams_differ = differ_staged number stage t.streams whole.streams_differ;
}

registered_step : (b : Bool) (t : ScannerTable) (stream : TargetStream) (handle : ℕ) → IsWellFormed t → IsWellFormed (cond b (session_begun t stream handle) (session_failed t stream)).table
registered_step true t stream handle whole = (keeps_target stream.peer (with_stage t stream.number (Up handle)) (whole_staged t stream.number (Up handle) whole)).whole
registered_step false t stream handle whole = whole_staged t stream.number Unused whole

-- ---- messages

pub state_fits : (t : ScannerTable) (indexed : IndexedSlot) (state : SlotState) → indexed.slot.state ≡ state → IsAt t indexed → FitsState t.next_request t.clock.0 indexed.slot.desired_up state
state_fits t indexed state is at = subst (FitsState t.next_request t.clock.0 indexed.slot.desired_up) is at.fits.state

reopen_step : (b : Bool) (t : ScannerTable) (indexed : IndexedSlot) → indexed.slot.desired_up ≡ b → IsWellFormed t → IsAt t indexed → Keeps t (cond b (opened t indexed) (nothing t))
reopen_step true t indexed desired_up whole at = keeps_opened t indexed whole at (rw desired_up refl)
reopen_step false t indexed desired_up whole at = keeps_nothing t whole

closed_whole : (t : ScannerTable) (indexed : IndexedSlot) → IsWellFormed t → IsAt t indexed → IsWellFormed (closed t indexed).table
closed_whole t indexed whole at =
    let slot = idle_slot indexed.slot in
    (reopen_step indexed.slot.desired_up (with_slot t indexed.number slot) (record indexed { slot = slot }) refl (keeps_idle t indexed whole at).whole
    (record { config = at.config; fits = idle_fits t indexed slot at refl refl refl; desires = λ untidy. tt })).whole

replied_whole : (t : ScannerTable) (indexed : IndexedSlot) (m : MessageFields) (state : SlotState) → indexed.slot.state ≡ state → IsWellFormed t → IsAt t indexed → IsWellFormed (replied t indexed m state).1
replied_whole t indexed m Idle is whole at = whole
replied_whole t indexed m (Opening o) is whole at = (keeps_answered t indexed o (open_answer (is_large indexed.config) m) whole at (state_fits t indexed (Opening o) is at)).whole
replied_whole t indexed m (Established c) is whole at = whole
replied_whole t indexed m (TimedOut link) is whole at = whole
replied_whole t indexed m (Closing c) is whole at = closed_whole t indexed whole at

replied_to_whole : (t : ScannerTable) (m : MessageFields) (p : IndexedSlot → Bool) (found : Option IndexedSlot) → find p (indexed_slots t) ≡ found → IsWellFormed t → IsWellFormed (replied_to t m found).1
replied_to_whole t m p None is whole = whole
replied_to_whole t m p (Some indexed) is whole = replied_whole t indexed m indexed.slot.state refl whole (each_found (IsAt t) p (indexed_slots t) indexed is (each_at t whole))

-- the session on a stream ends, and a new one is registered
renewed_whole : (t : ScannerTable) (stream : TargetStream) → IsWellFormed t → IsWellFormed (session_renewed stream t).table
renewed_whole t stream whole =
    let now = with_stage t stream.number Waiting in
    lost_whole stream.number (target_lost stream.peer now).table (keeps_lost stream.peer now (whole_staged t stream.number Waiting whole)).whole

unserved_whole : (t : ScannerTable) (indexed : IndexedSlot) (status : ℕ) (state : SlotState) → IsWellFormed t → IsAt t indexed → IsWellFormed (unserved_state status t indexed state).table
unserved_whole t indexed status (Opening o) whole at = (keeps_refused (reason.Encap status) t indexed whole at).whole
unserved_whole t indexed status other whole at = whole

answered_at_whole : (b : Bool) (t : ScannerTable) (stream : TargetStream) (m : MessageFields) (p : IndexedSlot → Bool) (found : Option IndexedSlot) → find p (indexed_slots t) ≡ found → IsWellFormed t → IsWellFormed (cond b (unserved_at t stream m found) (replied_to t m found)).1
answered_at_whole true t stream m p None is whole = whole
answered_at_whole true t stream m p (Some indexed) is whole =
    renewed_whole (unserved m.status t indexed).table stream (unserved_whole t indexed m.status indexed.slot.state whole (each_found (IsAt t) p (indexed_slots t) indexed is (each_at t whole)))
answered_at_whole false t stream m p found is whole = replied_to_whole t m p found is whole

first_step : (b : Bool) (t : ScannerTable) (stream : TargetStream) (m : MessageFields) → IsWellFormed t → IsWellFormed (cond b (done (registered t stream m)) (ignored t)).1
first_step true t stream m whole = registered_step (is_registered m) t stream m.session whole
first_step false t stream m whole = whole

reported_whole : (t : ScannerTable) (stream : TargetStream) (m : MessageFields) (stage : Stage) → IsWellFormed t → IsWellFormed (reported t stream m stage).1
reported_whole t stream m Waiting whole = first_step (m.context == 0) t stream m whole
reported_whole t stream m (Up handle) whole = answered_at_whole (ends_session t m) t stream m (is_awaiting stream.peer m.context) (find (is_awaiting stream.peer m.context) (indexed_slots t)) refl whole
reported_whole t stream m Unused whole = whole

explicit_answered_whole : (t : ScannerTable) (pending : PendingExplicit) (reply : Result RouterReplyFields Unanswered) → IsWellFormed t → IsWellFormed (explicit_answered t pending reply).1
explicit_answered_whole t pending (Ok reply) whole = whole_explicit t (others (is_request pending.request) t.explicit) whole
explicit_answered_whole t pending (Err why) whole = whole_explicit t (others (is_request pending.request) t.explicit) whole

explicit_ends_whole : (b : Bool) (t : ScannerTable) (stream : TargetStream) (m : MessageFields) (pending : PendingExplicit) (reply : Result RouterReplyFields Unanswered) → IsWellFormed t → IsWellFormed (cond b (done (session_renewed stream t)) (explicit_answered t pending reply)).1
explicit_ends_whole true t stream m pending reply whole = renewed_whole t stream whole
explicit_ends_whole false t stream m pending reply whole = explicit_answered_whole t pending reply whole

message_whole : (t : ScannerTable) (stream : TargetStream) (m : MessageFields) (found : Option PendingExplicit) → IsWellFormed t → IsWellFormed (message_answer t stream m found).1
message_whole t stream m None whole = reported_whole t stream m stream.stage whole
message_whole t stream m (Some pending) whole = explicit_ends_whole (ends_session t m) t stream m pending (explicit_reply pending.service m) whole

frame_answer_whole : (t : ScannerTable) (stream : TargetStream) (reading : Result MessageFields EncapFault) → IsWellFormed t → IsWellFormed (frame_answer t stream reading).1
frame_answer_whole t stream (Err why) whole = whole
frame_answer_whole t stream (Ok m) whole = message_whole t stream m (find (awaits stream.number m.context) t.explicit) whole

frame_of_whole : (t : ScannerTable) (bytes : List ℕ) (found : Option TargetStream) → IsWellFormed t → LeavesWhole (frame_of t bytes found)
frame_of_whole t bytes None whole = tt
frame_of_whole t bytes (Some stream) whole = frame_answer_whole t stream (message_reading bytes) whole

pub frame_whole : (t : ScannerTable) (number : ℕ) (bytes : List ℕ) → IsWellFormed t → LeavesWhole (frame t number bytes)
unfolding frame
frame_whole t number bytes whole = frame_of_whole t bytes (find (is_stream number) t.streams) whole

-- ---- datagrams

-- the indexed slot is the table's now, in this state
pub record IsSame (t : ScannerTable) (indexed : IndexedSlot) (state : SlotState) : Type 0 where
  pub now : slice_get t.slots indexed.number ≡ Some indexed.slot
  pub stands : indexed.slot.state ≡ state

pub differ_same : (t : ScannerTable) (indexed : IndexedSlot) (slot : Slot) (state : SlotState) → IsSame t indexed state → Weaker state slot.state → IsWellFormed t → IdsDiffer (indexed_from 0 t.profile.slots (slice_set t.slots indexed.number slot))
differ_same t indexed slot state same weaker whole =
    let stands : (old : Slot) → slice_get t.slots indexed.number ≡ Some old → Weaker old.state slot.state = λ old is.
    let one : indexed.slot ≡ old = same_Some indexed.slot old (sym same.now ∙ is) in
    subst (λ (x : Slot). Weaker x.state slot.state) one (subst (λ (x : SlotState). Weaker x slot.state) (sym same.stands) weaker) in
    differ_weaker 0 t.profile.slots t.slots (slice_set t.slots indexed.number slot) (all_set indexed.number t.slots slot stands) whole.ids_differ

pub quiet_same : (t : ScannerTable) (indexed : IndexedSlot) (slot : Slot) (state : SlotState) → IsSame t indexed state → Quieter state slot.state → IsWellFormed t → RequestsDiffer (slice_set t.slots indexed.number slot)
quiet_same t indexed slot state same quieter whole =
    let stands : (old : Slot) → slice_get t.slots indexed.number ≡ Some old → Quieter old.state slot.state = λ old is.
    let one : indexed.slot ≡ old = same_Some indexed.slot old (sym same.now ∙ is) in
    subst (λ (x : Slot). Quieter x.state slot.state) one (subst (λ (x : SlotState). Quieter x slot.state) (sym same.stands) quieter) in
    differ_quieter t.slots (slice_set t.slots indexed.number slot) (set_quieter indexed.number t.slots slot stands) whole.requests_differ

accepted_fits : (t : ScannerTable) (indexed : IndexedSlot) (d : DatagramFields) (c : SlotConnection) (bytes : List ℕ) → IsAt t indexed → FitsState t.next_request t.clock.0 indexed.slot.desired_up (Established c) → length bytes ≡ indexed.config.in_len → IsSame t indexed (Established c) → IsWellFormed t → IsWellFormed (accepted_table t indexed d c bytes)
accepted_fits t indexed d c bytes at fits long now whole =
    whole_with t indexed (record indexed.slot { state = Established (accepted_connection t.clock d c); image = bytes }) whole at.config
    (record { output = at.fits.output; image = long; state = (fits.0, record { opening = fits.1.opening; o_t_api_ms = fits.1.o_t_api_ms; t_o_api_ms = fits.1.t_o_api_ms; due = fits.1.due }); watchdog = subst (IsWatched indexed.config.mult) now.stands at.fits.watchdog })
    (λ untidy. tt)
    (differ_same t indexed (record indexed.slot { state = Established (accepted_connection t.clock d c); image = bytes }) (Established c) now (linked_weaker c (accepted_connection t.clock d c) refl) whole)
    (quiet_set t indexed (record indexed.slot { state = Established (accepted_connection t.clock d c); image = bytes }) whole (λ old. established_quieter old (accepted_connection t.clock d c)))

accepted_step : (b : Bool) (t : ScannerTable) (indexed : IndexedSlot) (d : DatagramFields) (c : SlotConnection) → IsAt t indexed → FitsState t.next_request t.clock.0 indexed.slot.desired_up (Established c) → length d.payload ≡ indexed.config.in_len → IsSame t indexed (Established c) → IsWellFormed t → IsWellFormed (cond b (delivered Duplicate (accepted_table t indexed d c indexed.slot.image)) (delivered Applied (accepted_table t indexed d c d.payload))).1
accepted_step true t indexed d c at fits long now whole = accepted_fits t indexed d c indexed.slot.image at fits at.fits.image now whole
accepted_step false t indexed d c at fits long now whole = accepted_fits t indexed d c d.payload at fits long now whole

sequence_step : (b : Bool) (t : ScannerTable) (indexed : IndexedSlot) (d : DatagramFields) (c : SlotConnection) → IsAt t indexed → FitsState t.next_request t.clock.0 indexed.slot.desired_up (Established c) → length d.payload ≡ indexed.config.in_len → IsSame t indexed (Established c) → IsWellFormed t → IsWellFormed (cond b (accepted t indexed d c) (delivered Old t)).1
sequence_step true t indexed d c at fits long now whole = accepted_step (is_duplicate c.last d.count) t indexed d c at fits long now whole
sequence_step false t indexed d c at fits long now whole = whole

sized_step : (b : Bool) (t : ScannerTable) (indexed : IndexedSlot) (d : DatagramFields) (c : SlotConnection) → (length d.payload == indexed.config.in_len) ≡ b → IsAt t indexed → FitsState t.next_request t.clock.0 indexed.slot.desired_up (Established c) → IsSame t indexed (Established c) → IsWellFormed t → IsWellFormed (cond b (sized t indexed d c) (delivered WrongSize t)).1
sized_step true t indexed d c is at fits now whole = sequence_step (accepts_at t indexed c d.sequence) t indexed d c at fits (eqb-true (length d.payload) indexed.config.in_len is) now whole
sized_step false t indexed d c is at fits now whole = whole

state_received_whole : (t : ScannerTable) (indexed : IndexedSlot) (d : DatagramFields) (state : SlotState) → indexed.slot.state ≡ state → IsAt t indexed → slice_get t.slots indexed.number ≡ Some indexed.slot → IsWellFormed t → IsWellFormed (state_received t indexed d state).1
state_received_whole t indexed d Idle is at now whole = whole
state_received_whole t indexed d (Opening o) is at now whole = whole
state_received_whole t indexed d (Established c) is at now whole = sized_step (length d.payload == indexed.config.in_len) t indexed d c refl at (state_fits t indexed (Established c) is at) (record { now = now; stands = is }) whole
state_received_whole t indexed d (TimedOut link) is at now whole = whole
state_received_whole t indexed d (Closing c) is at now whole = whole

received_at_whole : (t : ScannerTable) (d : DatagramFields) (p : IndexedSlot → Bool) (found : Option IndexedSlot) → find p (indexed_slots t) ≡ found → IsWellFormed t → IsWellFormed (received_at t d found).1
received_at_whole t d p None is whole = whole
received_at_whole t d p (Some indexed) is whole = state_received_whole t indexed d indexed.slot.state refl (each_found (IsAt t) p (indexed_slots t) indexed is (each_at t whole)) (each_found (IsNow t) p (indexed_slots t) indexed is (each_now t)) whole

received_as_whole : (t : ScannerTable) (peer : Node) (reading : Result DatagramFields DatagramFault) → IsWellFormed t → IsWellFormed (received_as t peer reading).1
received_as_whole t peer (Err why) whole = whole
received_as_whole t peer (Ok d) whole = received_at_whole t d (is_for peer d.connection) (find (is_for peer d.connection) (indexed_slots t)) refl whole

pub received_whole : (t : ScannerTable) (peer : Node) (bytes : List ℕ) → IsWellFormed t → IsWellFormed (received t peer bytes).1
unfolding received
received_whole t peer bytes whole = received_as_whole t peer (datagram_reading bytes) whole
