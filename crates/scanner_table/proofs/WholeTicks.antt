-- Ticks and what the application does keep a scanner's table whole, and so does each step.
use Rattle.std.proofs.Common.{subst, sym, slice_set, ◌≡◌, ◌≤◌, ℕ, suc, ◌+◌, ◌^◌, Bool, true, false, not, ◌&&◌, cond, ◌==◌, nat_lt, nat_le, List, [], ◌∷◌, length, map, filter, Option, Some, None, Ok, Err, refl, arith, leb-true, eqb-true}
use Rattle.std.specs.List.{list_any, list_all, AllByRecursion}
use Rattle.std.proofs.lemmas.Bool.Decides.{nat_tests}
use Rattle.std.proofs.lemmas.List.{length-replicate}
use Rattle.base_lemmas.specs.Booleans.{and_none}
use Rattle.cip_types.specs.declared.ids.IdBlock.{IdBlock}
use Rattle.cip_types.specs.Ids.{are_ids, end_number, may_take}
use Rattle.cip_types.specs.IdLaws.{later_ends, stay_blocks}
use Rattle.cip_types.specs.declared.names.Ms.{Ms}
use Rattle.cip_types.specs.Cases.{first_case}
use Rattle.cip_types.specs.Order.{inserted, in_order}
use Rattle.cip_netparams.specs.declared.Trigger.{Trigger}
use Rattle.cip_netparams.specs.declared.Trigger.TheVariants.{Cyclic, ChangeOfState}
use Rattle.cip_events.specs.declared.profile_fault.ProfileFault.TheVariants.{Incarnation, Points, SameInstance, Length, Timing, Limits}
use Rattle.cip_events.specs.declared.event.Event.{Event}
use Rattle.cip_events.specs.declared.event.Event.TheVariants.{StreamOpened, Frame, StreamCut, Datagram, Write, Tick, Mode, Start, Stop, Explicit, Ids}
use Rattle.cip_events.specs.declared.event.StepFault.TheVariants as fault
use Rattle.cip_events.specs.declared.event.Verdict.TheVariants.{Done}
use Rattle.cip_events.specs.Answers.{plain_answer}
use Rattle.cip_events.specs.Clock.{longest_tick, clock_end}
use Rattle.cip_productions.specs.Kinds.{is_owner}
use Rattle.cip_productions.specs.Productions.{due_again}
use Rattle.scanner_table.specs.declared.profile.ScannerProfile.{ScannerProfile}
use Rattle.scanner_table.specs.declared.profile.SlotConfig.{SlotConfig}
use Rattle.scanner_table.specs.declared.slot.SlotConnection.{SlotConnection}
use Rattle.scanner_table.specs.declared.slot.Slot.{Slot}
use Rattle.scanner_table.specs.declared.slot.SlotState.{SlotState}
use Rattle.scanner_table.specs.declared.slot.SlotState.TheVariants.{Idle, Opening, Established, TimedOut, Closing}
use Rattle.scanner_table.specs.declared.table.ScannerTable.{ScannerTable}
use Rattle.scanner_table.proofs.FirstIds.{first_blocks, first_is_block}
use Rattle.scanner_table.specs.Profiles.{first_ids, profile_fault, are_served, are_apart, has_lengths, keeps_time, are_paced, are_openings, are_serials}
use Rattle.scanner_table.specs.Slots.{IndexedSlot, indexed_from, indexed_slots, slot_at, is_numbered, with_slot}
use Rattle.scanner_table.specs.Effects.{Effect, and_then, done}
use Rattle.scanner_table.specs.Opening.{ready_opened}
use Rattle.scanner_table.specs.Replies.{failed_slot}
use Rattle.scanner_table.specs.Closing.{given_up}
use Rattle.scanner_table.specs.Explicit.{explicit_timed_out}
use Rattle.scanner_table.specs.Productions.{due_on_change, written_connection, produced_connection, written_state, state_is_due, produced_state, produced_slot, produced_table}
use Rattle.scanner_table.specs.Ticks.{by_deadline, has_expired, expired_slots, expired_state, expired, all_expired, is_overdue, all_given_up, clocked_table, advanced, moved_on, ticked, tick}
use Rattle.scanner_table.specs.Points.{output_slot, output_written, write_length, write_at, write, same_mode, moded_slot, moded_table, mode, desired_slot, started, start_state, start_at, start}
use Rattle.scanner_table.specs.Step.{scanner_step, fresh_slot, first_serial, scanner_table, taken_table, take_ids}
use Rattle.scanner_table.specs.WellFormed.{RequestsDiffer, shares_request, clashes, IdsDiffer, FitsState, FitsSlot, SlotsFit, StateIsDesired, IsDesired, IsWellFormed, IsWatched}
use Rattle.scanner_table.proofs.IdsLemmas.{Weaker, idle_weaker, timed_out_weaker, same_weaker, linked_weaker, AllWeaker, all_set, all_map, differ_weaker}
use Rattle.scanner_table.proofs.RequestLemmas.{Quieter, AllQuieter, idle_quieter, established_quieter, timed_out_quieter, same_quieter, set_quieter, map_quieter, differ_quieter}
use Rattle.scanner_table.proofs.WholeLemmas.{IsNow, each_now, slots_later, later_later, IsAt, Each, each_filter, each_found, each_at, whole_with, Keeps, keeps_nothing, keeps_each, Any, each_any}
use Rattle.scanner_table.proofs.WholeSteps.{quiet_same, differ_same, keeps_changed, keeps_opened, keeps_ready, keeps_given, LeavesWhole, state_fits, stop_whole, streamed_whole, timed_out_whole, explicit_whole, cut_whole, frame_whole, received_whole}
use Rattle.scanner_table.specs.Lemmas.PassiveLemmas.{passive_holds}

-- ---- expiries and answers that do not come

inserted_step : (b : Bool) (P : IndexedSlot → Type 0) (before : IndexedSlot → IndexedSlot → Bool) (indexed first : IndexedSlot) (rest : List IndexedSlot) → P indexed → P first → Each P rest → Each P (inserted before indexed rest) → Each P (cond b (indexed ∷ first ∷ rest) (first ∷ inserted before indexed rest))
inserted_step true P before indexed first rest is here all more = (is, (here, all))
inserted_step false P before indexed first rest is here all more = (here, more)

each_inserted : (P : IndexedSlot → Type 0) (before : IndexedSlot → IndexedSlot → Bool) (indexed : IndexedSlot) (rest : List IndexedSlot) → P indexed → Each P rest → Each P (inserted before indexed rest)
each_inserted P before indexed [] is all = (is, tt)
each_inserted P before indexed (first ∷ rest) is all =
    inserted_step (before indexed first) P before indexed first rest is all.0 all.1 (each_inserted P before indexed rest is all.1)

each_in_order : (P : IndexedSlot → Type 0) (before : IndexedSlot → IndexedSlot → Bool) (rest : List IndexedSlot) → Each P rest → Each P (in_order before rest)
each_in_order P before [] all = tt
each_in_order P before (indexed ∷ rest) all = each_inserted P before indexed (in_order before rest) all.0 (each_in_order P before rest all.1)

expired_fits : (t : ScannerTable) (indexed : IndexedSlot) (c : SlotConnection) → indexed.slot.state ≡ Established c → IsAt t indexed → FitsSlot t.next_request t.clock.0 indexed.config (failed_slot t (TimedOut c.link) indexed.slot)
expired_fits t indexed c is at = record { output = at.fits.output; image = at.fits.image; state = tt; watchdog = tt }

keeps_expired_state : (t : ScannerTable) (indexed : IndexedSlot) (state : SlotState) → indexed.slot.state ≡ state → IsWellFormed t → IsAt t indexed → Keeps t (expired_state t indexed state)
keeps_expired_state t indexed Idle is whole at = keeps_nothing t whole
keeps_expired_state t indexed (Opening o) is whole at = keeps_nothing t whole
keeps_expired_state t indexed (Established c) is whole at = keeps_changed t indexed (failed_slot t (TimedOut c.link) indexed.slot) [] whole at (expired_fits t indexed c is at) (λ untidy. (state_fits t indexed (Established c) is at).0) (λ old. timed_out_weaker old c.link) (λ old. timed_out_quieter old c.link)
keeps_expired_state t indexed (TimedOut link) is whole at = keeps_nothing t whole
keeps_expired_state t indexed (Closing c) is whole at = keeps_nothing t whole

keeps_expired : (t : ScannerTable) → IsWellFormed t → Keeps t (all_expired t)
unfolding all_expired
keeps_expired t whole =
    keeps_each Any expired (λ u indexed is at any. keeps_expired_state u indexed indexed.slot.state refl is at) (expired_slots t) t whole
    (each_in_order (IsAt t) by_deadline (filter (has_expired t.clock) (indexed_slots t)) (each_filter (IsAt t) (has_expired t.clock) (indexed_slots t) (each_at t whole))) (each_any (expired_slots t))

keeps_overdue : (t : ScannerTable) → IsWellFormed t → Keeps t (all_given_up t)
unfolding all_given_up
keeps_overdue t whole =
    keeps_each Any given_up keeps_given (filter (is_overdue t.clock) (indexed_slots t)) t whole (each_filter (IsAt t) (is_overdue t.clock) (indexed_slots t) (each_at t whole))
    (each_any (filter (is_overdue t.clock) (indexed_slots t)))

keeps_then : (t : ScannerTable) (first : Effect) (next : ScannerTable → Effect) → Keeps t first → ((u : ScannerTable) → IsWellFormed u → Keeps u (next u)) → Keeps t (and_then first next)
keeps_then t first next kept keep =
    let more = keep first.table kept.whole in
    record { whole = more.whole; later = later_later t first.table (next first.table).table kept.later more.later }

keeps_advanced : (t : ScannerTable) → IsWellFormed t → Keeps t (advanced t)
keeps_advanced t whole = keeps_then t (and_then (all_expired t) all_given_up) ready_opened (keeps_then t (all_expired t) all_given_up (keeps_expired t whole) keeps_overdue) keeps_ready

-- ---- productions

again_step : (b : Bool) (clock due api : ℕ) → due ≤ clock → api ≤ 10000 → cond b (due + api) (clock + api) ≤ clock + 10000
again_step true clock due api late short = omega arith
again_step false clock due api late short = omega arith

again_fits : (trigger : Trigger) (clock due api : ℕ) → due ≤ clock → api ≤ 10000 → due_again trigger clock due api ≤ clock + 10000
again_fits Cyclic clock due api late short = again_step (nat_lt clock (due + api)) clock due api late short
again_fits ChangeOfState clock due api late short = omega arith

produced_fits : (r : ℕ) (clock : Ms) (desired_up : Bool) (state : SlotState) → state_is_due clock state ≡ true → FitsState r clock.0 desired_up state → FitsState r clock.0 desired_up (produced_state clock state)
produced_fits r clock desired_up Idle due fits = tt
produced_fits r clock desired_up (Opening o) due fits = fits
produced_fits r clock desired_up (Established c) due fits = (
  fits.0,
  record {
    opening = fits.1.opening;
    o_t_api_ms = fits.1.o_t_api_ms;
    t_o_api_ms = fits.1.t_o_api_ms;
    due = again_fits c.production.trigger clock.0 c.production.due.0 c.o_t_api_ms (leb-true c.production.due.0 clock.0 due) fits.1.o_t_api_ms;
  },
)
produced_fits r clock desired_up (TimedOut link) due fits = fits
produced_fits r clock desired_up (Closing c) due fits = fits

produced_watched : (mult : ℕ) (clock : Ms) (state : SlotState) → IsWatched mult state → IsWatched mult (produced_state clock state)
produced_watched mult clock Idle is = tt
produced_watched mult clock (Opening o) is = tt
produced_watched mult clock (Established c) is = is
produced_watched mult clock (TimedOut link) is = tt
produced_watched mult clock (Closing c) is = tt

due_step : (b : Bool) (r : ℕ) (clock : Ms) (config : SlotConfig) (slot : Slot) → state_is_due clock slot.state ≡ b → FitsSlot r clock.0 config slot → FitsSlot r clock.0 config (cond b (record slot { state = produced_state clock slot.state }) slot)
due_step true r clock config slot due fits = record { output = fits.output; image = fits.image; state = produced_fits r clock slot.desired_up slot.state due fits.state; watchdog = produced_watched config.mult clock slot.state fits.watchdog }
due_step false r clock config slot due fits = fits

slots_produced : (r : ℕ) (clock : Ms) (configs : List SlotConfig) (slots : List Slot) → SlotsFit r clock.0 configs slots → SlotsFit r clock.0 configs (map (produced_slot clock) slots)
slots_produced r clock [] [] fit = tt
slots_produced r clock [] (slot ∷ slots) fit = absurd fit
slots_produced r clock (config ∷ configs) [] fit = absurd fit
slots_produced r clock (config ∷ configs) (slot ∷ slots) fit = (due_step (state_is_due clock slot.state) r clock config slot refl fit.0, slots_produced r clock configs slots fit.1)

-- the slots are others, and each fits its configuration
whole_slots : (t : ScannerTable) (slots : List Slot) → IsWellFormed t → SlotsFit t.next_request t.clock.0 t.profile.slots slots → (t.profile.tidy ≡ false → AllByRecursion IsDesired slots) → AllWeaker t.slots slots → AllQuieter t.slots slots → IsWellFormed (record t { slots = slots })
whole_slots t slots whole fit desires weaker quieter = record {
  requests_differ = differ_quieter t.slots slots quieter whole.requests_differ;
  ids_differ = differ_weaker 0 t.profile.slots t.slots slots weaker whole.ids_differ;
  faultless = whole.faultless;
  slots = fit;
  desires = desires;
  clock = whole.clock;
  blocks = whole.blocks;
  ids_begin = whole.ids_begin;
  ids = whole.ids;
  serial_begins = whole.serial_begins;
  serial_ends = whole.serial_ends;
  requests = whole.requests;
  few_streams = whole.few_streams;
  streams_differ = whole.streams_differ;
}

produced_weaker : (clock : Ms) (state : SlotState) → Weaker state (produced_state clock state)
produced_weaker clock Idle = same_weaker Idle
produced_weaker clock (Opening o) = same_weaker (Opening o)
produced_weaker clock (Established c) = linked_weaker c (produced_connection clock c) refl
produced_weaker clock (TimedOut link) = same_weaker (TimedOut link)
produced_weaker clock (Closing c) = same_weaker (Closing c)

due_weaker_by : (b : Bool) (clock : Ms) (slot : Slot) → Weaker slot.state (cond b (record slot { state = produced_state clock slot.state }) slot).state
due_weaker_by true clock slot = produced_weaker clock slot.state
due_weaker_by false clock slot = same_weaker slot.state

due_weaker : (clock : Ms) (slot : Slot) → Weaker slot.state (produced_slot clock slot).state
due_weaker clock slot = due_weaker_by (state_is_due clock slot.state) clock slot

produced_quieter : (clock : Ms) (state : SlotState) → Quieter state (produced_state clock state)
produced_quieter clock Idle = same_quieter Idle
produced_quieter clock (Opening o) = same_quieter (Opening o)
produced_quieter clock (Established c) = established_quieter (Established c) (produced_connection clock c)
produced_quieter clock (TimedOut link) = same_quieter (TimedOut link)
produced_quieter clock (Closing c) = same_quieter (Closing c)

due_quieter_by : (b : Bool) (clock : Ms) (slot : Slot) → Quieter slot.state (cond b (record slot { state = produced_state clock slot.state }) slot).state
due_quieter_by true clock slot = produced_quieter clock slot.state
due_quieter_by false clock slot = same_quieter slot.state

due_quieter : (clock : Ms) (slot : Slot) → Quieter slot.state (produced_slot clock slot).state
due_quieter clock slot = due_quieter_by (state_is_due clock slot.state) clock slot

produced_desired : (clock : Ms) (desired_up : Bool) (state : SlotState) → StateIsDesired desired_up state → StateIsDesired desired_up (produced_state clock state)
produced_desired clock desired_up Idle desires = tt
produced_desired clock desired_up (Opening o) desires = tt
produced_desired clock desired_up (Established c) desires = tt
produced_desired clock desired_up (TimedOut link) desires = desires
produced_desired clock desired_up (Closing c) desires = desires

due_desired : (b : Bool) (clock : Ms) (slot : Slot) → IsDesired slot → IsDesired (cond b (record slot { state = produced_state clock slot.state }) slot)
due_desired true clock slot desires = produced_desired clock slot.desired_up slot.state desires
due_desired false clock slot desires = desires

all_desired : (clock : Ms) (slots : List Slot) → AllByRecursion IsDesired slots → AllByRecursion IsDesired (map (produced_slot clock) slots)
all_desired clock [] all = tt
all_desired clock (slot ∷ slots) all = (due_desired (state_is_due clock slot.state) clock slot all.0, all_desired clock slots all.1)

produced_whole : (t : ScannerTable) → IsWellFormed t → IsWellFormed (produced_table t)
unfolding produced_table
produced_whole t whole = whole_slots t (map (produced_slot t.clock) t.slots) whole (slots_produced t.next_request t.clock t.profile.slots t.slots whole.slots) (λ untidy. all_desired t.clock t.slots (whole.desires untidy)) (all_map (produced_slot t.clock) (due_weaker t.clock) t.slots) (map_quieter (produced_slot t.clock) (due_quieter t.clock) t.slots)

-- ---- a tick

clocked_whole : (t : ScannerTable) (ms : ℕ) → t.clock.0 + ms ≤ 2 ^ 48 → IsWellFormed t → IsWellFormed (clocked_table t ms)
clocked_whole t ms in_time whole = record {
  ids_differ = whole.ids_differ;
  requests_differ = whole.requests_differ;
  faultless = whole.faultless;
  slots = slots_later t.next_request t.next_request t.clock.0 (t.clock.0 + ms) t.profile.slots t.slots (omega arith) (omega arith) whole.slots;
  desires = whole.desires;
  clock = in_time;
  blocks = whole.blocks;
  ids_begin = whole.ids_begin;
  ids = whole.ids;
  serial_begins = whole.serial_begins;
  serial_ends = whole.serial_ends;
  requests = whole.requests;
  few_streams = whole.few_streams;
  streams_differ = whole.streams_differ;
}

in_time : (now : ℕ) → nat_lt (2 ^ 48) now ≡ false → now ≤ 2 ^ 48
in_time now is = grind (arith, nat_tests)

tick_step : (a b : Bool) (t : ScannerTable) (ms : ℕ) → nat_lt clock_end (t.clock.0 + ms) ≡ b → IsWellFormed t → LeavesWhole (cond a (Err fault.TickTooLong) (cond b (Err fault.ClockEnd) (Ok (ticked (moved_on (clocked_table t ms))))))
tick_step true b t ms ends whole = tt
tick_step false true t ms ends whole = tt
tick_step false false t ms ends whole =
    let clocked = clocked_whole t ms (in_time (t.clock.0 + ms) ends) whole in
    let moved = (advanced (clocked_table t ms)).table in
    produced_whole (explicit_timed_out moved).table (timed_out_whole moved (keeps_advanced (clocked_table t ms) clocked).whole)

tick_whole : (t : ScannerTable) (ms : ℕ) → IsWellFormed t → LeavesWhole (tick t ms)
unfolding tick
tick_whole t ms whole = tick_step (nat_lt longest_tick ms) (nat_lt clock_end (t.clock.0 + ms)) t ms refl whole

-- ---- outputs and modes

-- new data make a producer due no later
change_no_later : (trigger : Trigger) (last : Option Ms) (inhibit : ℕ) (due : Ms) → (due_on_change trigger last inhibit due).0 ≤ due.0
change_no_later Cyclic last inhibit due = omega arith
change_no_later ChangeOfState None inhibit due = omega arith
change_no_later ChangeOfState (Some last) inhibit due = omega arith

written_fits : (r k : ℕ) (desired_up : Bool) (state : SlotState) → FitsState r k desired_up state → FitsState r k desired_up (written_state state)
written_fits r k desired_up Idle fits = tt
written_fits r k desired_up (Opening o) fits = fits
written_fits r k desired_up (Established c) fits =
    let p = c.production in
    (fits.0, record { opening = fits.1.opening; o_t_api_ms = fits.1.o_t_api_ms; t_o_api_ms = fits.1.t_o_api_ms; due = omega (arith, fits.1.due, change_no_later p.trigger p.last p.inhibit p.due) })
written_fits r k desired_up (TimedOut link) fits = fits
written_fits r k desired_up (Closing c) fits = fits

written_desired : (desired_up : Bool) (state : SlotState) → StateIsDesired desired_up state → StateIsDesired desired_up (written_state state)
written_desired desired_up Idle desires = tt
written_desired desired_up (Opening o) desires = tt
written_desired desired_up (Established c) desires = tt
written_desired desired_up (TimedOut link) desires = desires
written_desired desired_up (Closing c) desires = desires

written_watched : (mult : ℕ) (state : SlotState) → IsWatched mult state → IsWatched mult (written_state state)
written_watched mult Idle is = tt
written_watched mult (Opening o) is = tt
written_watched mult (Established c) is = is
written_watched mult (TimedOut link) is = tt
written_watched mult (Closing c) is = tt

written_weaker : (state : SlotState) → Weaker state (written_state state)
written_weaker Idle = same_weaker Idle
written_weaker (Opening o) = same_weaker (Opening o)
written_weaker (Established c) = linked_weaker c (written_connection c) refl
written_weaker (TimedOut link) = same_weaker (TimedOut link)
written_weaker (Closing c) = same_weaker (Closing c)

written_quieter : (state : SlotState) → Quieter state (written_state state)
written_quieter Idle = same_quieter Idle
written_quieter (Opening o) = same_quieter (Opening o)
written_quieter (Established c) = established_quieter (Established c) (written_connection c)
written_quieter (TimedOut link) = same_quieter (TimedOut link)
written_quieter (Closing c) = same_quieter (Closing c)

length_step : (b : Bool) (t : ScannerTable) (indexed : IndexedSlot) (bytes : List ℕ) → (length bytes == indexed.config.out_len) ≡ b → IsWellFormed t → IsAt t indexed → IsNow t indexed → LeavesWhole (cond b (Ok (output_written t indexed bytes)) (Err fault.WrongLength))
length_step true t indexed bytes is whole at now =
    whole_with t indexed (output_slot bytes indexed.slot) whole at.config
    (record { output = eqb-true (length bytes) indexed.config.out_len is; image = at.fits.image; state = written_fits t.next_request t.clock.0 indexed.slot.desired_up indexed.slot.state at.fits.state; watchdog = written_watched indexed.config.mult indexed.slot.state at.fits.watchdog })
    (λ untidy. written_desired indexed.slot.desired_up indexed.slot.state (at.desires untidy))
    (differ_same t indexed (output_slot bytes indexed.slot) indexed.slot.state (record { now = now; stands = refl }) (written_weaker indexed.slot.state) whole)
    (quiet_same t indexed (output_slot bytes indexed.slot) indexed.slot.state (record { now = now; stands = refl }) (written_quieter indexed.slot.state) whole)
length_step false t indexed bytes is whole at now = tt

owner_step : (b : Bool) (t : ScannerTable) (indexed : IndexedSlot) (bytes : List ℕ) → IsWellFormed t → IsAt t indexed → IsNow t indexed → LeavesWhole (cond b (write_length t indexed bytes) (Err fault.NotAllowedNow))
owner_step true t indexed bytes whole at now = length_step (length bytes == indexed.config.out_len) t indexed bytes refl whole at now
owner_step false t indexed bytes whole at now = tt

write_at_whole : (t : ScannerTable) (number : ℕ) (bytes : List ℕ) (found : Option IndexedSlot) → slot_at t number ≡ found → IsWellFormed t → LeavesWhole (write_at t bytes found)
write_at_whole t number bytes None is whole = tt
write_at_whole t number bytes (Some indexed) is whole = owner_step (is_owner indexed.config.kind) t indexed bytes whole (each_found (IsAt t) (is_numbered number) (indexed_slots t) indexed is (each_at t whole)) (each_found (IsNow t) (is_numbered number) (indexed_slots t) indexed is (each_now t))

write_whole : (t : ScannerTable) (number : ℕ) (bytes : List ℕ) → IsWellFormed t → LeavesWhole (write t number bytes)
unfolding write
write_whole t number bytes whole = write_at_whole t number bytes (slot_at t number) refl whole

moded_step : (b : Bool) (r k : ℕ) (config : SlotConfig) (slot : Slot) → FitsSlot r k config slot → FitsSlot r k config (cond b (record slot { state = written_state slot.state }) slot)
moded_step true r k config slot fits = record { output = fits.output; image = fits.image; state = written_fits r k slot.desired_up slot.state fits.state; watchdog = written_watched config.mult slot.state fits.watchdog }
moded_step false r k config slot fits = fits

slots_moded : (r k number : ℕ) (configs : List SlotConfig) (slots : List Slot) → SlotsFit r k configs slots → SlotsFit r k configs (map moded_slot (indexed_from number configs slots))
slots_moded r k number [] [] fit = tt
slots_moded r k number [] (slot ∷ slots) fit = absurd fit
slots_moded r k number (config ∷ configs) [] fit = absurd fit
slots_moded r k number (config ∷ configs) (slot ∷ slots) fit = (moded_step (is_owner config.kind) r k config slot fit.0, slots_moded r k (suc number) configs slots fit.1)

moded_weaker : (b : Bool) (slot : Slot) → Weaker slot.state (cond b (record slot { state = written_state slot.state }) slot).state
moded_weaker true slot = written_weaker slot.state
moded_weaker false slot = same_weaker slot.state

all_moded : (r k number : ℕ) (configs : List SlotConfig) (slots : List Slot) → SlotsFit r k configs slots → AllWeaker slots (map moded_slot (indexed_from number configs slots))
all_moded r k number [] [] fit = tt
all_moded r k number [] (slot ∷ slots) fit = absurd fit
all_moded r k number (config ∷ configs) [] fit = absurd fit
all_moded r k number (config ∷ configs) (slot ∷ slots) fit = (moded_weaker (is_owner config.kind) slot, all_moded r k (suc number) configs slots fit.1)

moded_quieter : (b : Bool) (slot : Slot) → Quieter slot.state (cond b (record slot { state = written_state slot.state }) slot).state
moded_quieter true slot = written_quieter slot.state
moded_quieter false slot = same_quieter slot.state

quiet_moded : (r k number : ℕ) (configs : List SlotConfig) (slots : List Slot) → SlotsFit r k configs slots → AllQuieter slots (map moded_slot (indexed_from number configs slots))
quiet_moded r k number [] [] fit = tt
quiet_moded r k number [] (slot ∷ slots) fit = absurd fit
quiet_moded r k number (config ∷ configs) [] fit = absurd fit
quiet_moded r k number (config ∷ configs) (slot ∷ slots) fit = (moded_quieter (is_owner config.kind) slot, quiet_moded r k (suc number) configs slots fit.1)

moded_desire : (b : Bool) (slot : Slot) → IsDesired slot → IsDesired (cond b (record slot { state = written_state slot.state }) slot)
moded_desire true slot desires = written_desired slot.desired_up slot.state desires
moded_desire false slot desires = desires

desired_moded : (number : ℕ) (configs : List SlotConfig) (slots : List Slot) → AllByRecursion IsDesired slots → AllByRecursion IsDesired (map moded_slot (indexed_from number configs slots))
desired_moded number [] slots all = tt
desired_moded number (config ∷ configs) [] all = tt
desired_moded number (config ∷ configs) (slot ∷ slots) all = (moded_desire (is_owner config.kind) slot all.0, desired_moded (suc number) configs slots all.1)

moded_whole : (t : ScannerTable) (run : Bool) → IsWellFormed t → IsWellFormed (moded_table t run)
moded_whole t run whole = record {
  ids_differ = differ_weaker 0 t.profile.slots t.slots (map moded_slot (indexed_slots t)) (all_moded t.next_request t.clock.0 0 t.profile.slots t.slots whole.slots) whole.ids_differ;
  requests_differ = differ_quieter t.slots (map moded_slot (indexed_slots t)) (quiet_moded t.next_request t.clock.0 0 t.profile.slots t.slots whole.slots) whole.requests_differ;
  faultless = whole.faultless;
  slots = slots_moded t.next_request t.clock.0 0 t.profile.slots t.slots whole.slots;
  desires = λ untidy. desired_moded 0 t.profile.slots t.slots (whole.desires untidy);
  clock = whole.clock;
  blocks = whole.blocks;
  ids_begin = whole.ids_begin;
  ids = whole.ids;
  serial_begins = whole.serial_begins;
  serial_ends = whole.serial_ends;
  requests = whole.requests;
  few_streams = whole.few_streams;
  streams_differ = whole.streams_differ;
}

mode_step : (b : Bool) (t : ScannerTable) (run : Bool) → IsWellFormed t → IsWellFormed (cond b t (moded_table t run))
mode_step true t run whole = whole
mode_step false t run whole = moded_whole t run whole

mode_whole : (t : ScannerTable) (run : Bool) → IsWellFormed t → IsWellFormed (mode t run).1
unfolding mode
mode_whole t run whole = mode_step (same_mode run t.run) t run whole

-- ---- starts

desired_fits : (t : ScannerTable) (indexed : IndexedSlot) → indexed.slot.state ≡ Idle → IsAt t indexed → FitsSlot t.next_request t.clock.0 indexed.config (desired_slot t indexed.slot)
desired_fits t indexed is at = record { output = at.fits.output; image = at.fits.image; state = rw is tt; watchdog = rw is tt }

started_differ : (t : ScannerTable) (indexed : IndexedSlot) → indexed.slot.state ≡ Idle → IsWellFormed t → IdsDiffer (indexed_from 0 t.profile.slots (slice_set t.slots indexed.number (desired_slot t indexed.slot)))
started_differ t indexed is whole =
    differ_weaker 0 t.profile.slots t.slots (slice_set t.slots indexed.number (desired_slot t indexed.slot))
    (all_set indexed.number t.slots (desired_slot t indexed.slot) (λ old stands. subst (Weaker old.state) (sym is) (idle_weaker old.state))) whole.ids_differ

started_quiet : (t : ScannerTable) (indexed : IndexedSlot) → indexed.slot.state ≡ Idle → IsWellFormed t → RequestsDiffer (slice_set t.slots indexed.number (desired_slot t indexed.slot))
started_quiet t indexed is whole =
    differ_quieter t.slots (slice_set t.slots indexed.number (desired_slot t indexed.slot))
    (set_quieter indexed.number t.slots (desired_slot t indexed.slot) (λ old stands. subst (Quieter old.state) (sym is) (idle_quieter old.state))) whole.requests_differ

started_whole : (t : ScannerTable) (indexed : IndexedSlot) → indexed.slot.state ≡ Idle → IsWellFormed t → IsAt t indexed → IsWellFormed (started t indexed (desired_slot t indexed.slot)).table
started_whole t indexed is whole at =
    let fits = desired_fits t indexed is at in
    let slot = desired_slot t indexed.slot in
    (keeps_opened (with_slot t indexed.number slot) (record indexed { slot = slot }) (whole_with t indexed slot whole at.config fits (λ untidy. rw is tt) (started_differ t indexed is whole) (started_quiet t indexed is whole)) (record { config = at.config; fits = fits; desires = λ untidy. rw is tt }) refl).whole

start_step : (b : Bool) (t : ScannerTable) (indexed : IndexedSlot) → indexed.slot.state ≡ Idle → IsWellFormed t → IsAt t indexed → LeavesWhole (cond b (Err fault.NotAllowedNow) (Ok (done (started t indexed (desired_slot t indexed.slot)))))
start_step true t indexed is whole at = tt
start_step false t indexed is whole at = started_whole t indexed is whole at

start_state_whole : (t : ScannerTable) (indexed : IndexedSlot) (state : SlotState) → indexed.slot.state ≡ state → IsWellFormed t → IsAt t indexed → LeavesWhole (start_state t indexed state)
start_state_whole t indexed Idle is whole at = start_step indexed.slot.desired_up t indexed is whole at
start_state_whole t indexed (Opening o) is whole at = tt
start_state_whole t indexed (Established c) is whole at = tt
start_state_whole t indexed (TimedOut link) is whole at = tt
start_state_whole t indexed (Closing c) is whole at = tt

start_at_whole : (t : ScannerTable) (number : ℕ) (found : Option IndexedSlot) → slot_at t number ≡ found → IsWellFormed t → LeavesWhole (start_at t found)
start_at_whole t number None is whole = tt
start_at_whole t number (Some indexed) is whole = start_state_whole t indexed indexed.slot.state refl whole (each_found (IsAt t) (is_numbered number) (indexed_slots t) indexed is (each_at t whole))

start_whole : (t : ScannerTable) (number : ℕ) → IsWellFormed t → LeavesWhole (start t number)
unfolding start
start_whole t number whole = start_at_whole t number (slot_at t number) refl whole

-- ---- a further block of ids

taken_whole : (t : ScannerTable) (block : IdBlock) → may_take t.ids block ≡ true → IsWellFormed t → IsWellFormed (taken_table t block)
taken_whole t block may whole =
    let now = whole.ids in
    let more = later_ends t.ids block in
    record {
      ids_differ = whole.ids_differ;
      requests_differ = whole.requests_differ;
      faultless = whole.faultless;
      slots = whole.slots;
      desires = whole.desires;
      clock = whole.clock;
      blocks = stay_blocks t.ids block whole.blocks may;
      ids_begin = whole.ids_begin;
      ids = omega (arith, now, more);
      serial_begins = whole.serial_begins;
      serial_ends = whole.serial_ends;
      requests = whole.requests;
      few_streams = whole.few_streams;
      streams_differ = whole.streams_differ;
    }

ids_by : (b : Bool) (t : ScannerTable) (block : IdBlock) → may_take t.ids block ≡ b → IsWellFormed t → LeavesWhole (cond b (Ok (plain_answer Done, taken_table t block)) (Err fault.NotAllowedNow))
ids_by true t block may whole = taken_whole t block may whole
ids_by false t block may whole = tt

ids_whole : (t : ScannerTable) (block : IdBlock) → IsWellFormed t → LeavesWhole (take_ids t block)
unfolding take_ids
ids_whole t block whole = ids_by (may_take t.ids block) t block refl whole

-- ---- a step, and a fresh table

pub advancing_whole : (t : ScannerTable) (ms : ℕ) → t.clock.0 + ms ≤ 2 ^ 48 → IsWellFormed t → IsWellFormed (advanced (clocked_table t ms)).table
advancing_whole t ms in_time whole = (keeps_advanced (clocked_table t ms) (clocked_whole t ms in_time whole)).whole

pub step_whole : (t : ScannerTable) (event : Event) → IsWellFormed t → LeavesWhole (scanner_step t event)
step_whole t (StreamOpened stream peer) whole = streamed_whole t stream peer whole
step_whole t (Frame stream bytes) whole = frame_whole t stream bytes whole
step_whole t (StreamCut stream) whole = cut_whole t stream whole
step_whole t (Datagram peer bytes) whole = received_whole t peer bytes whole
step_whole t (Write point bytes) whole = write_whole t point bytes whole
step_whole t (Tick ms) whole = tick_whole t ms whole
step_whole t (Mode run) whole = mode_whole t run whole
step_whole t (Start slot) whole = start_whole t slot whole
step_whole t (Stop slot) whole = stop_whole t slot whole
step_whole t (Explicit target number bytes) whole = explicit_whole t target number bytes whole
step_whole t (Ids block) whole = ids_whole t block whole
step_whole t other whole = passive_holds LeavesWhole t (λ why. tt) (λ verdict. whole) other refl

fresh_fit : (configs : List SlotConfig) → SlotsFit 1 0 configs (map fresh_slot configs)
fresh_fit [] = tt
fresh_fit (config ∷ configs) = (record { output = length-replicate config.out_len 0; image = length-replicate config.in_len 0; state = tt; watchdog = tt }, fresh_fit configs)

fresh_desired : (configs : List SlotConfig) → AllByRecursion IsDesired (map fresh_slot configs)
fresh_desired [] = tt
fresh_desired (config ∷ configs) = (tt, fresh_desired configs)

none_fresh : (n m : ℕ) (config : SlotConfig) (configs : List SlotConfig) → list_any (clashes (record { number = n; config = config; slot = fresh_slot config })) (indexed_from m configs (map fresh_slot configs)) ≡ false
none_fresh n m config [] = refl
none_fresh n m config (c ∷ configs) = rw (and_none (c.target.0 == config.target.0)) (none_fresh n (suc m) config configs)

fresh_differ : (n : ℕ) (configs : List SlotConfig) → IdsDiffer (indexed_from n configs (map fresh_slot configs))
fresh_differ n [] = tt
fresh_differ n (config ∷ configs) = (none_fresh n (suc n) config configs, fresh_differ (suc n) configs)

none_waits : (config : SlotConfig) (configs : List SlotConfig) → list_any (shares_request (fresh_slot config)) (map fresh_slot configs) ≡ false
none_waits config [] = refl
none_waits config (c ∷ configs) = none_waits config configs

fresh_quiet : (configs : List SlotConfig) → RequestsDiffer (map fresh_slot configs)
fresh_quiet [] = tt
fresh_quiet (config ∷ configs) = (none_waits config configs, fresh_quiet configs)

last_passes : {A : Type 0} (a b c d e f g h : Bool) (q r s v w x y z : A) → first_case ((a, q) ∷ (b, r) ∷ (c, s) ∷ (d, v) ∷ (e, w) ∷ (f, x) ∷ (g, y) ∷ (not h, z) ∷ []) ≡ None → h ≡ true
last_passes true b c d e f g h q r s v w x y z is = absurd (cc)
last_passes false true c d e f g h q r s v w x y z is = absurd (cc)
last_passes false false true d e f g h q r s v w x y z is = absurd (cc)
last_passes false false false true e f g h q r s v w x y z is = absurd (cc)
last_passes false false false false true f g h q r s v w x y z is = absurd (cc)
last_passes false false false false false true g h q r s v w x y z is = absurd (cc)
last_passes false false false false false false true h q r s v w x y z is = absurd (cc)
last_passes false false false false false false false true q r s v w x y z is = refl
last_passes false false false false false false false false q r s v w x y z is = absurd (cc)

first_fits : (serials : Option ℕ) → are_serials serials ≡ true → (1 ≤ first_serial serials) × (first_serial serials ≤ 65535)
first_fits None is = (omega arith, omega arith)
first_fits (Some first) is = split (nat_le 1 first) (nat_le first 65535) refl refl is
  where
    split : (a b : Bool) → nat_le 1 first ≡ a → nat_le first 65535 ≡ b → (a && b) ≡ true → (1 ≤ first) × (first ≤ 65535)
    split true true low high is = (grind (arith, nat_tests), grind (arith, nat_tests))
    split true false low high is = absurd (cc)
    split false b low high is = absurd (cc)

-- the first serial number of a profile without a fault is one
serials_fit : (profile : ScannerProfile) → profile_fault profile ≡ None → (1 ≤ first_serial profile.serials) × (first_serial profile.serials ≤ 65535)
unfolding profile_fault
serials_fit profile faultless =
    first_fits profile.serials
    (last_passes (not (are_ids profile.incarnation profile.ids)) (not (are_served profile)) (not (are_apart profile.slots)) (not (list_all has_lengths profile.slots)) (not (keeps_time profile)) (not (are_paced profile.newer profile.slots)) (not (are_openings profile.openings)) (are_serials profile.serials) Incarnation Points SameInstance Length Timing Limits Limits Limits faultless)

pub fresh_whole : (profile : ScannerProfile) → profile_fault profile ≡ None → IsWellFormed (scanner_table profile)
fresh_whole profile faultless = record {
  ids_differ = fresh_differ 0 profile.slots;
  requests_differ = fresh_quiet profile.slots;
  faultless = faultless;
  slots = fresh_fit profile.slots;
  desires = λ untidy. fresh_desired profile.slots;
  clock = omega arith;
  blocks = first_blocks (first_ids profile) (first_is_block profile faultless);
  ids_begin = omega arith;
  ids = omega arith;
  serial_begins = (serials_fit profile faultless).0;
  serial_ends = (serials_fit profile faultless).1;
  requests = omega arith;
  few_streams = omega arith;
  streams_differ = tt;
}

pub whole_later : (t : ScannerTable) (counter : ℕ) → t.next_id ≤ counter → counter ≤ end_number t.ids → IsWellFormed t → IsWellFormed (record t { next_id = counter })
whole_later t counter later last whole = record {
  ids_differ = whole.ids_differ;
  requests_differ = whole.requests_differ;
  faultless = whole.faultless;
  slots = whole.slots;
  desires = whole.desires;
  clock = whole.clock;
  blocks = whole.blocks;
  ids_begin = let begins = whole.ids_begin in omega (arith, begins, later);
  ids = last;
  serial_begins = whole.serial_begins;
  serial_ends = whole.serial_ends;
  requests = whole.requests;
  few_streams = whole.few_streams;
  streams_differ = whole.streams_differ;
}
