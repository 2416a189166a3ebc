-- A step of a scanner: what its requests ask for, and which streams its table has.
use Rattle.cip_events.specs.Answers.{plain_answer}
use Rattle.std.proofs.Common.{◌≡◌, ◌⊎◌, inl, inr, ◌<◌, ◌≤◌, ℕ, suc, ◌+◌, ◌==◌, ◌&&◌, ◌||◌, nat_lt, Bool, true, false, cond, List, [], ◌∷◌, filter, find, Option, Some, None, Result, Ok, Err, IfOk, refl, sym, ◌∙◌, ap, subst, arith}
use Rattle.std.specs.List.{AllByRecursion, Contains, list_all}
use Rattle.std.proofs.lemmas.Bool.{and_parts, or_parts}
use Rattle.std.proofs.lemmas.Bool.Decides.{nat_tests}
use Rattle.cip_types.specs.Cases.{first_case}
use Rattle.cip_types.specs.Ids.{are_blocks, end_number, id_at}
use Rattle.cip_types.specs.declared.ids.IdBlock.{IdBlock}
use Rattle.cip_types.specs.declared.names.Mismatch.{Mismatch}
use Rattle.cip_types.specs.declared.names.Node.{Node}
use Rattle.cip_types.specs.declared.names.Triad.{Triad}
use Rattle.cip_encap.specs.declared.message.EncapFault.{EncapFault}
use Rattle.cip_encap.specs.Message.{MessageFields}
use Rattle.cip_encap.specs.Reading.{message_reading}
use Rattle.cip_encap.specs.ReadsBack.{ItemsReadBack}
use Rattle.cip_events.specs.declared.event.Event.{Event}
use Rattle.cip_events.specs.declared.event.Event.TheVariants as event
use Rattle.cip_events.specs.declared.event.Reason.{Reason}
use Rattle.cip_events.specs.declared.event.Reason.TheVariants as reason
use Rattle.cip_events.specs.declared.event.StepFault.{StepFault}
use Rattle.cip_events.specs.declared.event.StepFault.TheVariants as fault
use Rattle.cip_events.specs.Clock.{longest_tick, clock_end}
use Rattle.cip_fwdopen.specs.declared.reply.Opened as made
use Rattle.cip_fwdopen.specs.declared.reply.OpenAnswer.{OpenAnswer}
use Rattle.cip_fwdopen.specs.declared.reply.OpenAnswer.TheVariants as answer
use Rattle.conn_state.specs.Answers.{answer_tests}
use Rattle.conn_state.specs.declared.names.Link.{Link}
use Rattle.scanner_table.specs.declared.profile.ScannerProfile.{ScannerProfile}
use Rattle.scanner_table.specs.declared.profile.SlotConfig.{SlotConfig}
use Rattle.scanner_table.specs.declared.slot.PendingOpen as pending
use Rattle.scanner_table.specs.declared.slot.Slot.{Slot}
use Rattle.scanner_table.specs.declared.slot.SlotState.{SlotState}
use Rattle.scanner_table.specs.declared.slot.SlotState.TheVariants.{Idle, Opening, Established, TimedOut, Closing}
use Rattle.scanner_table.specs.declared.table.ScannerTable.{ScannerTable}
use Rattle.scanner_table.specs.declared.table.Session.{Session}
use Rattle.scanner_table.specs.declared.table.Stage.{Stage}
use Rattle.scanner_table.specs.declared.table.Stage.TheVariants.{Waiting, Up, Unused}
use Rattle.scanner_table.specs.declared.table.TargetStream.{TargetStream}
use Rattle.scanner_table.specs.Requests.{o_t_size, t_o_size, is_large, next_requested, open_fields}
use Rattle.scanner_table.specs.Closing.{idle_slot, requested_link, given_up_state, given_up, target_lost, reopened, closed, closed_within, dropped, stopped, stopped_at, slot_resigned}
use Rattle.scanner_table.specs.Effects.{Next, Effect, nothing, and_then, on_each, changed, done}
use Rattle.scanner_table.specs.Explicit.{awaits, without_explicit, explicit_sent, explicit_request, explicit_timed_out, explicit_lost}
use Rattle.scanner_table.specs.Encapsulation.{registering_on, stream_opened, stream_lost, cut_of, stream_cut, is_registered, session_begun, session_failed, registered, ends_session, registering_again, session_renewed, unserved_state, unserved, unserved_at, ignored, is_awaiting, replied, replied_to, reported, frame_answer, frame_of, frame}
use Rattle.scanner_table.specs.Opening.{has_request, has_id, can_open, open_requested, exhausted, opened_within, close_requested, cleared_within, opened_from, opened, is_ready_slot, ready_slots, ready_opened, target_opened, asking_session}
use Rattle.scanner_table.specs.Points.{desired_slot, started, start_state, start_at, start, stop_of, stop}
use Rattle.scanner_table.specs.Productions.{produced_table}
use Rattle.scanner_table.specs.Profiles.{is_point_len, is_out_len, is_config, has_lengths, profile_fault}
use Rattle.scanner_table.specs.Replies.{is_id_free, refused, disowned, disowned_within, rejected, judged_success, open_answer, answered}
use Rattle.scanner_table.specs.Sessions.{is_stream, is_other_stream, is_taken, with_stream, without_stream, staged_stream, with_stage, session_with}
use Rattle.scanner_table.specs.Slots.{IndexedSlot, indexed_from, indexed_slots, slot_at, is_numbered, is_with, with_slot}
use Rattle.scanner_table.specs.Step.{scanner_step}
use Rattle.scanner_table.specs.Ticks.{clocked_table, expired_state, expired, expired_slots, all_expired, is_overdue, all_given_up, advanced, moved_on, ticked, tick}
use Rattle.cip_tables.specs.declared.table.DeviceTable.TheVariants.{Scanner}
use Rattle.cip_tables.specs.Step.{as_scanner, step}
use Rattle.answer_sizes.specs.Sizes.{IsSmall, AnswersAreSmall}
use Rattle.device_laws.specs.Lemmas.Lists.{all_both, all_filtered, all_mapped, all_more, all_found}
use Rattle.device_laws.specs.Lemmas.ExplicitRequests.{explicit_holds, message_ends}
use Rattle.device_laws.specs.Lemmas.Texts.{either}
use Rattle.std.specs.Option.{IfSome}
use Rattle.device_laws.specs.OwnIds.{IsDrawnId, FrameAsks, ScannersAskOwnIds}
use Rattle.device_laws.specs.TargetStreams.{StreamCame, StreamsComeWithEvents}
use Rattle.device_laws.specs.Lemmas.RequestTexts.{SizeFits, IsMulticast, SentAsks, requests_ask}
use Rattle.device_laws.specs.Lemmas.RowIds.{all_contained}
use Rattle.answer_sizes.specs.Lemmas.SlotLengths.{has_all_lengths, point_short, small_size}
use Rattle.scanner_table.specs.Lemmas.SlotEventLemmas.{slots_hold}
use Rattle.scanner_table.specs.Lemmas.Slotwise.{id_later}

-- ---- slots of a profile without a fault

abbrev IsShort : IndexedSlot → Type 0
IsShort indexed = indexed.config.in_len ≤ 1400

config_short : (config : SlotConfig) → has_lengths config ≡ true → config.in_len ≤ 1400
config_short config is = point_short config.in_len (and_parts (is_point_len config.in_len) (is_out_len config.kind config.out_len && is_config config.config config.config_data) is).0

from_short : (number : ℕ) (configs : List SlotConfig) (slots : List Slot) → list_all has_lengths configs ≡ true → AllByRecursion IsShort (indexed_from number configs slots)
from_short number [] slots all = tt
from_short number (config ∷ configs) [] all = tt
from_short number (config ∷ configs) (slot ∷ slots) all =
    let parts = and_parts (has_lengths config) (list_all has_lengths configs) all in
    (config_short config parts.0, from_short (suc number) configs slots parts.1)

slots_short : (t : ScannerTable) → profile_fault t.profile ≡ None → AllByRecursion IsShort (indexed_slots t)
slots_short t none = from_short 0 t.profile.slots t.slots (has_all_lengths t.profile none)

-- ---- effects

-- what no effect changes
record Base : Type 0 where
  profile : ScannerProfile
  ids : List IdBlock

abbrev base_of : ScannerTable → Base
base_of t = record { profile = t.profile; ids = t.ids }

-- the table has it, and its ids are numbered from 1
abbrev Stays : Base → ScannerTable → Type 0
Stays base now = (base_of now ≡ base) × (1 ≤ now.next_id)

-- the effect's requests ask so, and it leaves profile, blocks of ids and streams
record Asks (base : Base) (streams : List TargetStream) (effect : Effect) : Type 0 where
  sent : AllByRecursion (SentAsks base.ids) effect.sent
  stays : Stays base effect.table
  streams_are : effect.table.streams ≡ streams

asks_then : (base : Base) (streams : List TargetStream) (first : Effect) (next : ScannerTable → Effect) → Asks base streams first → Asks base first.table.streams (next first.table) → Asks base streams (and_then first next)
asks_then base streams first next one two = record {
  sent = all_both (SentAsks base.ids) first.sent (next first.table).sent one.sent two.sent;
  stays = two.stays;
  streams_are = two.streams_are ∙ one.streams_are;
}

each_asks : (base : Base) (effect : ScannerTable → IndexedSlot → Effect) → ((now : ScannerTable) (indexed : IndexedSlot) → Stays base now → IsShort indexed → Asks base now.streams (effect now indexed)) → (all : List IndexedSlot) (now : ScannerTable) → Stays base now → AllByRecursion IsShort all → Asks base now.streams (on_each effect all now)
each_asks base effect asks [] now same few = record { sent = tt; stays = same; streams_are = refl }
each_asks base effect asks (indexed ∷ rest) now same few =
    let one = asks now indexed same few.0 in
    asks_then base now.streams (effect now indexed) (on_each effect rest) one (each_asks base effect asks rest (effect now indexed).table one.stays few.1)

each_quiet : (base : Base) (effect : ScannerTable → IndexedSlot → Effect) → ((now : ScannerTable) (indexed : IndexedSlot) → Stays base now → Asks base now.streams (effect now indexed)) → (all : List IndexedSlot) (now : ScannerTable) → Stays base now → Asks base now.streams (on_each effect all now)
each_quiet base effect asks [] now same = record { sent = tt; stays = same; streams_are = refl }
each_quiet base effect asks (indexed ∷ rest) now same =
    let one = asks now indexed same in
    asks_then base now.streams (effect now indexed) (on_each effect rest) one (each_quiet base effect asks rest (effect now indexed).table one.stays)

-- ---- a request to open

fits_large : (config : SlotConfig) → config.in_len ≤ 1400 → SizeFits true (t_o_size config)
fits_large config short = omega (arith, short)

size_fits : (large : Bool) (config : SlotConfig) → is_large config ≡ large → config.in_len ≤ 1400 → SizeFits large (t_o_size config)
size_fits true config is short = fits_large config short
size_fits false config is short = small_size (t_o_size config) (or_parts (nat_lt 511 (o_t_size config)) (nat_lt 511 (t_o_size config)) is).1

id_left : (n end : ℕ) → nat_lt n end ≡ true → n < end
id_left n end is = grind (arith, nat_tests)

asks_of : (multicast : Bool) (base : Base) (now : ScannerTable) (config : SlotConfig) → config.multicast ≡ multicast → Stays base now → config.in_len ≤ 1400 → (multicast || nat_lt now.next_id (end_number now.ids)) ≡ true → IsMulticast (is_large config) (open_fields now.profile config (next_requested now config)) ⊎ IsDrawnId base.ids (open_fields now.profile config (next_requested now config)).t_o_id.0
asks_of true base now config is same short left = inl (record { size = t_o_size config; fits = size_fits (is_large config) config refl short; params = rw is refl })
asks_of false base now config is same short left = inr (record {
  number = now.next_id;
  is = rw is (ap (λ (b : Base). (id_at b.ids now.next_id).0) same.0);
  begins = same.1;
  ends = subst (λ (b : Base). now.next_id < end_number b.ids) same.0 (id_left now.next_id (end_number now.ids) left);
})

one_later : (n m : ℕ) → 1 ≤ n → n ≤ m → 1 ≤ m
one_later n m one more = omega (arith, one, more)

within_step : (b : Bool) (base : Base) (now : ScannerTable) (indexed : IndexedSlot) (session : Session) → can_open now indexed.config ≡ b → Stays base now → IsShort indexed → Asks base now.streams (cond b (open_requested now indexed session) (exhausted now indexed))
within_step true base now indexed session is same short =
    let left = (and_parts (has_request now) (has_id now indexed.config) is).1 in
    record {
      sent = (asks_of indexed.config.multicast base now indexed.config refl same short left, tt);
      stays = (same.0, one_later now.next_id _ same.1 (id_later indexed.config.multicast now.next_id));
      streams_are = refl;
    }
within_step false base now indexed session is same short = record { sent = tt; stays = same; streams_are = refl }

within_asks : (base : Base) (now : ScannerTable) (indexed : IndexedSlot) (session : Option Session) → Stays base now → IsShort indexed → Asks base now.streams (opened_within now indexed session)
within_asks base now indexed None same short = record { sent = tt; stays = same; streams_are = refl }
within_asks base now indexed (Some session) same short = within_step (can_open now indexed.config) base now indexed session refl same short

close_asks : (base : Base) (now : ScannerTable) (indexed : IndexedSlot) (link : Link) (desired_up : Bool) (session : Session) → Stays base now → Asks base now.streams (cond (has_request now) (close_requested now indexed link desired_up session) (exhausted now indexed))
close_asks base now indexed link desired_up session same =
    either (Asks base now.streams) (has_request now) (close_requested now indexed link desired_up session) (exhausted now indexed)
    (record { sent = (tt, tt); stays = same; streams_are = refl }) (record { sent = tt; stays = same; streams_are = refl })

cleared_asks : (base : Base) (now : ScannerTable) (indexed : IndexedSlot) (link : Link) (session : Option Session) → Stays base now → Asks base now.streams (cleared_within now indexed link session)
cleared_asks base now indexed link None same = record { sent = tt; stays = same; streams_are = refl }
cleared_asks base now indexed link (Some session) same = close_asks base now indexed link indexed.slot.desired_up session same

from_asks : (base : Base) (now : ScannerTable) (indexed : IndexedSlot) (session : Option Session) (state : SlotState) → Stays base now → IsShort indexed → Asks base now.streams (opened_from now indexed session state)
from_asks base now indexed session (TimedOut link) same short =
    either (Asks base now.streams) now.profile.tidy (cleared_within now indexed link session) (opened_within now indexed session) (cleared_asks base now indexed link session same) (within_asks base now indexed session same short)
from_asks base now indexed session other same short = within_asks base now indexed session same short

opened_asks : (base : Base) (now : ScannerTable) (indexed : IndexedSlot) → Stays base now → IsShort indexed → Asks base now.streams (opened now indexed)
unfolding opened
opened_asks base now indexed same short = from_asks base now indexed (asking_session now indexed) indexed.slot.state same short

none_wrong : (base : Base) (now : ScannerTable) → Stays base now → profile_fault base.profile ≡ None → profile_fault now.profile ≡ None
none_wrong base now same none = ap (λ (b : Base). profile_fault b.profile) same.0 ∙ none

ready_short : (base : Base) (now : ScannerTable) → Stays base now → profile_fault base.profile ≡ None → AllByRecursion IsShort (ready_slots now)
ready_short base now same none = all_filtered IsShort (is_ready_slot now.clock) (indexed_slots now) (slots_short now (none_wrong base now same none))

ready_asks : (base : Base) (now : ScannerTable) → profile_fault base.profile ≡ None → Stays base now → Asks base now.streams (ready_opened now)
unfolding ready_opened
ready_asks base now none same = each_asks base opened (opened_asks base) (ready_slots now) now same (ready_short base now same none)

target_asks : (base : Base) (target : Node) (now : ScannerTable) → profile_fault base.profile ≡ None → Stays base now → Asks base now.streams (target_opened target now)
unfolding target_opened
target_asks base target now none same =
    each_asks base opened (opened_asks base) (filter (is_with target) (ready_slots now)) now same (all_filtered IsShort (is_with target) (ready_slots now) (ready_short base now same none))

-- ---- effects without a request to open

given_asks : (base : Base) (now : ScannerTable) (indexed : IndexedSlot) (state : SlotState) → Stays base now → Asks base now.streams (given_up_state now indexed state)
given_asks base now indexed (Opening o) same = record { sent = tt; stays = same; streams_are = refl }
given_asks base now indexed other same = record { sent = tt; stays = same; streams_are = refl }

expired_asks : (base : Base) (now : ScannerTable) (indexed : IndexedSlot) (state : SlotState) → Stays base now → Asks base now.streams (expired_state now indexed state)
expired_asks base now indexed (Established c) same = record { sent = tt; stays = same; streams_are = refl }
expired_asks base now indexed other same = record { sent = tt; stays = same; streams_are = refl }

lost_asks : (base : Base) (target : Node) (now : ScannerTable) → Stays base now → Asks base now.streams (target_lost target now)
unfolding target_lost
lost_asks base target now same = each_quiet base given_up (λ u indexed is. given_asks base u indexed indexed.slot.state is) (filter (is_with target) (indexed_slots now)) now same

all_expired_asks : (base : Base) (now : ScannerTable) → Stays base now → Asks base now.streams (all_expired now)
unfolding all_expired
all_expired_asks base now same = each_quiet base expired (λ u indexed is. expired_asks base u indexed indexed.slot.state is) (expired_slots now) now same

all_given_asks : (base : Base) (now : ScannerTable) → Stays base now → Asks base now.streams (all_given_up now)
unfolding all_given_up
all_given_asks base now same = each_quiet base given_up (λ u indexed is. given_asks base u indexed indexed.slot.state is) (filter (is_overdue now.clock) (indexed_slots now)) now same

advanced_asks : (base : Base) (now : ScannerTable) → profile_fault base.profile ≡ None → Stays base now → Asks base now.streams (advanced now)
advanced_asks base now none same =
    let one = all_expired_asks base now same in
    let two = all_given_asks base (all_expired now).table one.stays in
    let both = asks_then base now.streams (all_expired now) all_given_up one two in
    asks_then base now.streams (and_then (all_expired now) all_given_up) ready_opened both (ready_asks base (all_given_up (all_expired now).table).table none two.stays)

disowned_asks : (base : Base) (now : ScannerTable) (config : SlotConfig) (triad : Triad) (session : Option Session) → Stays base now → Asks base now.streams (disowned_within now config triad session)
disowned_asks base now config triad None same = record { sent = tt; stays = same; streams_are = refl }
disowned_asks base now config triad (Some session) same =
    either (Asks base now.streams) (has_request now) (disowned now config triad session) (nothing now)
    (record { sent = (tt, tt); stays = same; streams_are = refl }) (record { sent = tt; stays = same; streams_are = refl })

rejected_asks : (base : Base) (now : ScannerTable) (config : SlotConfig) (triad : Triad) → Stays base now → Asks base now.streams (rejected config triad now)
rejected_asks base now config triad same =
    either (Asks base now.streams) now.profile.tidy (disowned_within now config triad (session_with now config.target)) (nothing now) (disowned_asks base now config triad (session_with now config.target) same) (record { sent = tt; stays = same; streams_are = refl })

success_asks : (t : ScannerTable) (one : 1 ≤ t.next_id) (indexed : IndexedSlot) (o : pending.PendingOpen) (success : made.Opened) (why : Option Mismatch) → Asks (base_of t) t.streams (judged_success t indexed o success why)
success_asks t one indexed o success None = record { sent = tt; stays = (refl, one); streams_are = refl }
success_asks t one indexed o success (Some why) =
    asks_then (base_of t) t.streams (refused t indexed (reason.Mismatch why)) (rejected indexed.config o.requested.triad) (record { sent = tt; stays = (refl, one); streams_are = refl }) (rejected_asks (base_of t) (refused t indexed (reason.Mismatch why)).table indexed.config o.requested.triad (refl, one))

answered_asks : (t : ScannerTable) (one : 1 ≤ t.next_id) (indexed : IndexedSlot) (o : pending.PendingOpen) (says : Result OpenAnswer Reason) → Asks (base_of t) t.streams (answered t indexed o says)
unfolding answered
answered_asks t one indexed o (Err why) = record { sent = tt; stays = (refl, one); streams_are = refl }
answered_asks t one indexed o (Ok (answer.Refused r)) = record { sent = tt; stays = (refl, one); streams_are = refl }
answered_asks t one indexed o (Ok (answer.Opened success)) = success_asks t one indexed o success (first_case (answer_tests o.requested success (is_id_free t indexed success.t_o_id)))

closed_asks : (t : ScannerTable) (one : 1 ≤ t.next_id) (indexed : IndexedSlot) (link : Link) (session : Option Session) → Asks (base_of t) t.streams (closed_within t indexed link session)
closed_asks t one indexed link None = record { sent = tt; stays = (refl, one); streams_are = refl }
closed_asks t one indexed link (Some session) = close_asks (base_of t) t indexed link false session (refl, one)

dropped_asks : (t : ScannerTable) (one : 1 ≤ t.next_id) (indexed : IndexedSlot) (link : Link) → Asks (base_of t) t.streams (dropped t indexed link)
dropped_asks t one indexed link =
    either (Asks (base_of t) t.streams) t.profile.tidy (closed_within t indexed link (session_with t indexed.config.target)) (slot_resigned t indexed) (closed_asks t one indexed link (session_with t indexed.config.target)) (record { sent = tt; stays = (refl, one); streams_are = refl })

-- any reply to a Forward_Close
reopened_asks : (base : Base) (now : ScannerTable) (indexed : IndexedSlot) → Stays base now → IsShort indexed → Asks base now.streams (reopened indexed now)
reopened_asks base now indexed same short =
    either (Asks base now.streams) indexed.slot.desired_up (opened now indexed) (nothing now) (opened_asks base now indexed same short) (record { sent = tt; stays = same; streams_are = refl })

close_ends_asks : (t : ScannerTable) (one : 1 ≤ t.next_id) (indexed : IndexedSlot) → IsShort indexed → Asks (base_of t) t.streams (closed t indexed)
close_ends_asks t one indexed short =
    let idle : Effect = changed t indexed (idle_slot indexed.slot) [] in
    let now : IndexedSlot = record indexed { slot = idle_slot indexed.slot } in
    asks_then (base_of t) t.streams idle (reopened now) (record { sent = tt; stays = (refl, one); streams_are = refl }) (reopened_asks (base_of t) idle.table now (refl, one) short)

-- ---- streams

were_open : (t : ScannerTable) (happens : Event) → AllByRecursion (StreamCame t happens) t.streams
were_open t happens = all_more (Contains t.streams) (StreamCame t happens) (λ s there. inl (record { old = s; there = there; number = refl; peer = refl })) t.streams (all_contained t.streams [] t.streams refl)

were_staged : (t : ScannerTable) (happens : Event) (number : ℕ) (stage : Stage) → AllByRecursion (StreamCame t happens) (with_stage t number stage).streams
were_staged t happens number stage =
    all_mapped (Contains t.streams) (StreamCame t happens) (staged_stream number stage)
    (λ s there. either (StreamCame t happens) (is_stream number s) (record s { stage = stage }) s (inl (record { old = s; there = there; number = refl; peer = refl })) (inl (record { old = s; there = there; number = refl; peer = refl })))
    t.streams (all_contained t.streams [] t.streams refl)

were_left : (t : ScannerTable) (happens : Event) (number : ℕ) → AllByRecursion (StreamCame t happens) (without_stream t number).streams
were_left t happens number = all_filtered (StreamCame t happens) (is_other_stream number) t.streams (were_open t happens)

-- ---- an answer

-- what its frames ask for, if they are short, and the streams of the next table
record NextAsks (t : ScannerTable) (happens : Event) (next : Next) : Type 0 where
  frames : are_blocks t.ids ≡ true → IsSmall next.0 → AllByRecursion (FrameAsks t.ids) next.0.frames
  streams : AllByRecursion (StreamCame t happens) next.1.streams

abbrev OkAsks : ScannerTable → Event → Result Next StepFault → Type 0
OkAsks t happens said = IfOk said (NextAsks t happens)

-- nothing is sent, and the streams stay
quiet_next : (t : ScannerTable) (happens : Event) (next : Next) → next.0.frames ≡ [] → next.1.streams ≡ t.streams → NextAsks t happens next
quiet_next t happens next none same = record {
  frames = λ are small. subst (AllByRecursion (FrameAsks t.ids)) (sym none) tt;
  streams = subst (AllByRecursion (StreamCame t happens)) (sym same) (were_open t happens);
}

done_asks : ItemsReadBack → (t : ScannerTable) (happens : Event) (streams : List TargetStream) (effect : Effect) → Asks (base_of t) streams effect → AllByRecursion (StreamCame t happens) streams → NextAsks t happens (done effect)
done_asks back t happens streams effect asks came = record {
  frames = λ are small. requests_ask back t.ids are effect.sent asks.sent small.short_frames;
  streams = subst (AllByRecursion (StreamCame t happens)) (sym asks.streams_are) came;
}

own_asks : ItemsReadBack → (t : ScannerTable) (happens : Event) (effect : Effect) → Asks (base_of t) t.streams effect → NextAsks t happens (done effect)
own_asks back t happens effect asks = done_asks back t happens t.streams effect asks (were_open t happens)

-- ---- messages

replied_asks : ItemsReadBack → (t : ScannerTable) (one : 1 ≤ t.next_id) (happens : Event) (indexed : IndexedSlot) (m : MessageFields) (state : SlotState) → IsShort indexed → NextAsks t happens (replied t indexed m state)
replied_asks back t one happens indexed m (Opening o) short = own_asks back t happens (answered t indexed o (open_answer (is_large indexed.config) m)) (answered_asks t one indexed o (open_answer (is_large indexed.config) m))
replied_asks back t one happens indexed m (Closing c) short = own_asks back t happens (closed t indexed) (close_ends_asks t one indexed short)
replied_asks back t one happens indexed m Idle short = quiet_next t happens (ignored t) refl refl
replied_asks back t one happens indexed m (Established c) short = quiet_next t happens (ignored t) refl refl
replied_asks back t one happens indexed m (TimedOut link) short = quiet_next t happens (ignored t) refl refl

awaited_asks : ItemsReadBack → (t : ScannerTable) (one : 1 ≤ t.next_id) (happens : Event) (m : MessageFields) (found : Option IndexedSlot) → IfSome found IsShort → NextAsks t happens (replied_to t m found)
awaited_asks back t one happens m None short = quiet_next t happens (ignored t) refl refl
awaited_asks back t one happens m (Some indexed) short = replied_asks back t one happens indexed m indexed.slot.state short

registered_asks : ItemsReadBack → (t : ScannerTable) (one : 1 ≤ t.next_id) (happens : Event) (stream : TargetStream) (m : MessageFields) → profile_fault t.profile ≡ None → NextAsks t happens (done (registered t stream m))
registered_asks back t one happens stream m none =
    either (λ (e : Effect). NextAsks t happens (done e)) (is_registered m) (session_begun t stream m.session) (session_failed t stream)
    (done_asks back t happens (with_stage t stream.number (Up m.session)).streams (session_begun t stream m.session)
    (target_asks (base_of t) stream.peer (with_stage t stream.number (Up m.session)) none (refl, one)) (were_staged t happens stream.number (Up m.session)))
    (done_asks back t happens (with_stage t stream.number Unused).streams (session_failed t stream) (record { sent = tt; stays = (refl, one); streams_are = refl }) (were_staged t happens stream.number Unused))

ended_asks : (base : Base) (stream : ℕ) (now : ScannerTable) → Stays base now → Asks base now.streams (explicit_lost stream now)
unfolding explicit_lost
ended_asks base stream now same = record { sent = tt; stays = same; streams_are = refl }

-- the session on a stream ends, and a new one is registered
renewed_asks : (base : Base) (now : ScannerTable) (stream : TargetStream) → Stays base now → Asks base (with_stage now stream.number Waiting).streams (session_renewed stream now)
renewed_asks base now stream same =
    let staged = with_stage now stream.number Waiting in
    let first = registering_again now stream in
    let lost = lost_asks base stream.peer staged same in
    asks_then base staged.streams (and_then first (target_lost stream.peer)) (explicit_lost stream.number) (asks_then base staged.streams first (target_lost stream.peer) (record { sent = (tt, tt); stays = same; streams_are = refl }) lost)
    (ended_asks base stream.number (target_lost stream.peer staged).table lost.stays)

-- behind a slot that is not served
unserved_asks : (t : ScannerTable) (one : 1 ≤ t.next_id) (stream : TargetStream) (indexed : IndexedSlot) (status : ℕ) (state : SlotState) → Asks (base_of t) (with_stage t stream.number Waiting).streams (and_then (unserved_state status t indexed state) (session_renewed stream))
unserved_asks t one stream indexed status (Opening o) = let is = renewed_asks (base_of t) (refused t indexed (reason.Encap status)).table stream (refl, one) in record { sent = is.sent; stays = is.stays; streams_are = is.streams_are }
unserved_asks t one stream indexed status Idle = let is = renewed_asks (base_of t) t stream (refl, one) in record { sent = is.sent; stays = is.stays; streams_are = is.streams_are }
unserved_asks t one stream indexed status (Established c) = let is = renewed_asks (base_of t) t stream (refl, one) in record { sent = is.sent; stays = is.stays; streams_are = is.streams_are }
unserved_asks t one stream indexed status (TimedOut link) = let is = renewed_asks (base_of t) t stream (refl, one) in record { sent = is.sent; stays = is.stays; streams_are = is.streams_are }
unserved_asks t one stream indexed status (Closing c) = let is = renewed_asks (base_of t) t stream (refl, one) in record { sent = is.sent; stays = is.stays; streams_are = is.streams_are }

unserved_at_asks : ItemsReadBack → (t : ScannerTable) (one : 1 ≤ t.next_id) (happens : Event) (stream : TargetStream) (m : MessageFields) (found : Option IndexedSlot) → NextAsks t happens (unserved_at t stream m found)
unserved_at_asks back t one happens stream m None = quiet_next t happens (ignored t) refl refl
unserved_at_asks back t one happens stream m (Some indexed) =
    done_asks back t happens (with_stage t stream.number Waiting).streams (and_then (unserved m.status t indexed) (session_renewed stream)) (unserved_asks t one stream indexed m.status indexed.slot.state) (were_staged t happens stream.number Waiting)

message_asks : ItemsReadBack → (t : ScannerTable) (one : 1 ≤ t.next_id) (happens : Event) (stream : TargetStream) (m : MessageFields) (stage : Stage) → profile_fault t.profile ≡ None → NextAsks t happens (reported t stream m stage)
message_asks back t one happens stream m Waiting none =
    either (NextAsks t happens) (m.context == 0) (done (registered t stream m)) (ignored t) (registered_asks back t one happens stream m none) (quiet_next t happens (ignored t) refl refl)
message_asks back t one happens stream m (Up handle) none =
    let found = find (is_awaiting stream.peer m.context) (indexed_slots t) in
    either (NextAsks t happens) (ends_session t m) (unserved_at t stream m found) (replied_to t m found) (unserved_at_asks back t one happens stream m found)
    (awaited_asks back t one happens m found (all_found IsShort (is_awaiting stream.peer m.context) (indexed_slots t) (slots_short t none)))
message_asks back t one happens stream m Unused none = quiet_next t happens (ignored t) refl refl

answer_asks : ItemsReadBack → (t : ScannerTable) (one : 1 ≤ t.next_id) (happens : Event) (stream : TargetStream) (reading : Result MessageFields EncapFault) → profile_fault t.profile ≡ None → NextAsks t happens (frame_answer t stream reading)
answer_asks back t one happens stream (Err why) none = quiet_next t happens (frame_answer t stream (Err why)) refl refl
answer_asks back t one happens stream (Ok m) none =
    message_ends (NextAsks t happens) t stream m (message_asks back t one happens stream m stream.stage none)
    (done_asks back t happens (with_stage t stream.number Waiting).streams (session_renewed stream t) (renewed_asks (base_of t) t stream (refl, one)) (were_staged t happens stream.number Waiting))
    (λ pending answer silent quiet. quiet_next t happens (answer, without_explicit t pending) silent refl) (find (awaits stream.number m.context) t.explicit)

frame_of_asks : ItemsReadBack → (t : ScannerTable) (one : 1 ≤ t.next_id) (happens : Event) (bytes : List ℕ) (found : Option TargetStream) → profile_fault t.profile ≡ None → OkAsks t happens (frame_of t bytes found)
frame_of_asks back t one happens bytes None none = tt
frame_of_asks back t one happens bytes (Some stream) none = answer_asks back t one happens stream (message_reading bytes) none

cut_asks : ItemsReadBack → (t : ScannerTable) (one : 1 ≤ t.next_id) (happens : Event) (found : Option TargetStream) → OkAsks t happens (cut_of t found)
cut_asks back t one happens None = tt
cut_asks back t one happens (Some stream) =
    let now = without_stream t stream.number in
    let lost = lost_asks (base_of t) stream.peer (without_stream t stream.number) (refl, one) in
    done_asks back t happens (without_stream t stream.number).streams (stream_lost t stream)
    (asks_then (base_of t) now.streams (target_lost stream.peer now) (explicit_lost stream.number) lost (ended_asks (base_of t) stream.number (target_lost stream.peer now).table lost.stays))
    (were_left t happens stream.number)

-- ---- the application

explicit_asks : ItemsReadBack → (t : ScannerTable) (one : 1 ≤ t.next_id) (happens : Event) (target : Node) (number : ℕ) (bytes : List ℕ) → OkAsks t happens (explicit_request t target number bytes)
explicit_asks back t one happens target number bytes =
    explicit_holds (OkAsks t happens) t target number bytes (λ why. tt)
    (λ session goes. own_asks back t happens (explicit_sent t session number bytes) (record { sent = (goes.explicit, tt); stays = (refl, one); streams_are = refl }))

started_asks : ItemsReadBack → (t : ScannerTable) (one : 1 ≤ t.next_id) (happens : Event) (indexed : IndexedSlot) (state : SlotState) → IsShort indexed → OkAsks t happens (start_state t indexed state)
started_asks back t one happens indexed Idle short =
    let slot = desired_slot t indexed.slot in
    either (OkAsks t happens) indexed.slot.desired_up (Err fault.NotAllowedNow) (Ok (done (started t indexed (desired_slot t indexed.slot)))) tt
    (own_asks back t happens (started t indexed slot) (opened_asks (base_of t) (with_slot t indexed.number slot) (record indexed { slot = slot }) (refl, one) short))
started_asks back t one happens indexed (Opening o) short = tt
started_asks back t one happens indexed (Established c) short = tt
started_asks back t one happens indexed (TimedOut link) short = tt
started_asks back t one happens indexed (Closing c) short = tt

start_asks : ItemsReadBack → (t : ScannerTable) (one : 1 ≤ t.next_id) (happens : Event) (found : Option IndexedSlot) → IfSome found IsShort → OkAsks t happens (start_at t found)
start_asks back t one happens None short = tt
start_asks back t one happens (Some indexed) short = started_asks back t one happens indexed indexed.slot.state short

resigned_asks : ItemsReadBack → (t : ScannerTable) (one : 1 ≤ t.next_id) (happens : Event) (indexed : IndexedSlot) → NextAsks t happens (done (slot_resigned t indexed))
resigned_asks back t one happens indexed = own_asks back t happens (slot_resigned t indexed) (record { sent = tt; stays = (refl, one); streams_are = refl })

stopped_asks : ItemsReadBack → (t : ScannerTable) (one : 1 ≤ t.next_id) (happens : Event) (indexed : IndexedSlot) (state : SlotState) → OkAsks t happens (stop_of (stopped t indexed state))
stopped_asks back t one happens indexed Idle = either (λ said. OkAsks t happens (stop_of said)) indexed.slot.desired_up (Ok (slot_resigned t indexed)) (Err fault.NotAllowedNow) (resigned_asks back t one happens indexed) tt
stopped_asks back t one happens indexed (Opening o) = own_asks back t happens (dropped t indexed (requested_link o.requested)) (dropped_asks t one indexed (requested_link o.requested))
stopped_asks back t one happens indexed (Established c) =
    own_asks back t happens (closed_within t indexed c.link (session_with t indexed.config.target)) (closed_asks t one indexed c.link (session_with t indexed.config.target))
stopped_asks back t one happens indexed (TimedOut link) = own_asks back t happens (dropped t indexed link) (dropped_asks t one indexed link)
stopped_asks back t one happens indexed (Closing c) = either (λ said. OkAsks t happens (stop_of said)) indexed.slot.desired_up (Ok (slot_resigned t indexed)) (Err fault.NotAllowedNow) (resigned_asks back t one happens indexed) tt

stop_asks : ItemsReadBack → (t : ScannerTable) (one : 1 ≤ t.next_id) (happens : Event) (found : Option IndexedSlot) → OkAsks t happens (stop_of (stopped_at t found))
stop_asks back t one happens None = tt
stop_asks back t one happens (Some indexed) = stopped_asks back t one happens indexed indexed.slot.state

-- ---- a tick

timed_out_asks : (base : Base) (now : ScannerTable) → Stays base now → Asks base now.streams (explicit_timed_out now)
unfolding explicit_timed_out
timed_out_asks base now same = record { sent = tt; stays = same; streams_are = refl }

moved_asks : (base : Base) (now : ScannerTable) → profile_fault base.profile ≡ None → Stays base now → Asks base now.streams (moved_on now)
moved_asks base now none same =
    let first = advanced_asks base now none same in
    asks_then base now.streams (advanced now) explicit_timed_out first (timed_out_asks base (advanced now).table first.stays)

ticked_asks : ItemsReadBack → (t : ScannerTable) (happens : Event) (effect : Effect) → Asks (base_of t) t.streams effect → NextAsks t happens (ticked effect)
unfolding produced_table
ticked_asks back t happens effect asks = record {
  frames = λ are small. requests_ask back t.ids are effect.sent asks.sent small.short_frames;
  streams = subst (AllByRecursion (StreamCame t happens)) (sym asks.streams_are) (were_open t happens);
}

tick_asks : ItemsReadBack → (t : ScannerTable) (one : 1 ≤ t.next_id) (happens : Event) (ms : ℕ) → profile_fault t.profile ≡ None → OkAsks t happens (tick t ms)
unfolding tick
tick_asks back t one happens ms none =
    either (OkAsks t happens) (nat_lt longest_tick ms) (Err fault.TickTooLong) _ tt
    (either (OkAsks t happens) (nat_lt clock_end (t.clock.0 + ms)) (Err fault.ClockEnd) (Ok (ticked (moved_on (clocked_table t ms)))) tt
    (ticked_asks back t happens (moved_on (clocked_table t ms)) (moved_asks (base_of t) (clocked_table t ms) none (refl, one))))

-- ---- the step

opens_ask : ItemsReadBack → (t : ScannerTable) (one : 1 ≤ t.next_id) (number : ℕ) (target : Node) → OkAsks t (event.StreamOpened number target) (stream_opened t number target)
unfolding stream_opened
opens_ask back t one number target =
    let happens = event.StreamOpened number target in
    either (OkAsks t happens) (is_taken t.streams number target) (Err fault.NotAllowedNow) (Ok (done (registering_on t number target))) tt
    (done_asks back t happens (with_stream t number target).streams (registering_on t number target) (record { sent = (tt, tt); stays = (refl, one); streams_are = refl })
    (all_both (StreamCame t happens) t.streams _ (were_open t happens) (inr refl, tt)))

found_short : (t : ScannerTable) (number : ℕ) → profile_fault t.profile ≡ None → IfSome (slot_at t number) IsShort
found_short t number none = all_found IsShort (is_numbered number) (indexed_slots t) (slots_short t none)

step_asks : ItemsReadBack → (t : ScannerTable) (one : 1 ≤ t.next_id) (happens : Event) → profile_fault t.profile ≡ None → OkAsks t happens (scanner_step t happens)
unfolding frame stream_cut start stop
step_asks back t one (event.StreamOpened number peer) none = opens_ask back t one number peer
step_asks back t one (event.Frame number bytes) none = frame_of_asks back t one (event.Frame number bytes) bytes (find (is_stream number) t.streams) none
step_asks back t one (event.StreamCut number) none = cut_asks back t one (event.StreamCut number) (find (is_stream number) t.streams)
step_asks back t one (event.Tick ms) none = tick_asks back t one (event.Tick ms) ms none
step_asks back t one (event.Start number) none = start_asks back t one (event.Start number) (slot_at t number) (found_short t number none)
step_asks back t one (event.Stop number) none = stop_asks back t one (event.Stop number) (slot_at t number)
step_asks back t one (event.Explicit target number bytes) none = explicit_asks back t one (event.Explicit target number bytes) target number bytes
step_asks back t one other none = slots_hold (OkAsks t other) t (λ why. tt) (λ verdict u of. quiet_next t other (plain_answer verdict, u) refl of.streams) other refl

pub scanners_ask : ItemsReadBack → AnswersAreSmall → ScannersAskOwnIds
unfolding step
scanners_ask back few t happens answer next is whole =
    let small = few (Scanner t) happens answer (Scanner next) whole (ap as_scanner is) in
    let asks : NextAsks t happens (answer, next) = subst (OkAsks t happens) is (step_asks back t whole.table.ids_begin happens whole.table.faultless) in
    asks.frames whole.table.blocks small

pub streams_come : ItemsReadBack → StreamsComeWithEvents
streams_come back t happens answer next is whole =
    let asks : NextAsks t happens (answer, next) = subst (OkAsks t happens) is (step_asks back t whole.table.ids_begin happens whole.table.faultless) in
    asks.streams
