-- A property of each slot of a scanner, by its number, its configuration and its state, and how a step keeps it: slots
-- become idle, open, are established by replies, go on, time out and close.
use Rattle.std.proofs.Common.{◌≡◌, ◌≤◌, ◌<◌, ℕ, zero, suc, ◌+◌, ◌&&◌, not, Bool, true, false, cond, List, [], ◌∷◌, map, filter, slice_get, slice_set, Option, Some, None, Result, Ok, Err, refl, sym, ◌∙◌, ap, subst, arith}
use Rattle.std.specs.List.{AllByRecursion}
use Rattle.std.proofs.lemmas.Bool.{and_parts, cond_both}
use Rattle.std.proofs.lemmas.Option.{same_Some}
use Rattle.scanner_table.specs.Lemmas.Slotwise.{id_later}
use Rattle.cip_types.specs.Cases.{first_case}
use Rattle.cip_types.specs.declared.names.Mismatch.{Mismatch}
use Rattle.cip_types.specs.declared.names.Node.{Node}
use Rattle.cip_events.specs.declared.event.Event.{Event}
use Rattle.cip_events.specs.declared.event.Notice.{Notice}
use Rattle.cip_events.specs.declared.event.Notice.TheVariants as notice
use Rattle.cip_events.specs.declared.event.Reason.{Reason}
use Rattle.cip_events.specs.declared.event.Reason.TheVariants as reason
use Rattle.cip_fwdopen.specs.declared.reply.Opened as made
use Rattle.cip_fwdopen.specs.declared.reply.OpenAnswer.{OpenAnswer}
use Rattle.cip_fwdopen.specs.declared.reply.OpenAnswer.TheVariants as answer
use Rattle.conn_state.specs.Answers.{answer_tests, is_requested_id, link_of}
use Rattle.cip_types.specs.declared.names.Triad.{Triad}
use Rattle.conn_state.specs.declared.names.Link.{Link}
use Rattle.scanner_table.specs.declared.profile.ScannerProfile.{ScannerProfile}
use Rattle.scanner_table.specs.declared.profile.SlotConfig.{SlotConfig}
use Rattle.scanner_table.specs.declared.slot.PendingClose as closing_slots
use Rattle.scanner_table.specs.declared.slot.SlotConnection.{SlotConnection}
use Rattle.scanner_table.specs.declared.slot.PendingOpen as pending
use Rattle.scanner_table.specs.declared.slot.Slot.{Slot}
use Rattle.scanner_table.specs.declared.slot.SlotState.{SlotState}
use Rattle.scanner_table.specs.declared.slot.SlotState.TheVariants.{Idle, Opening, Established, TimedOut, Closing}
use Rattle.scanner_table.specs.declared.table.ScannerTable.{ScannerTable}
use Rattle.scanner_table.specs.declared.table.Session.{Session}
use Rattle.scanner_table.specs.Slots.{IndexedSlot, indexed_from, indexed_slots, is_with, with_slot}
use Rattle.scanner_table.specs.Requests.{Request, registering, opening, closing, requesting, Sent, next_t_o_id, next_requested, id_or_zero}
use Rattle.scanner_table.specs.Effects.{Effect, nothing, after, and_then, on_each, changed, counted}
use Rattle.scanner_table.specs.Opening.{has_id, has_request, closing_slot, close_requested, cleared_within, opened_from, can_open, drawn, opening_slot, resigned, exhausted, open_requested, opened_within, opened, is_ready_slot, ready_slots, ready_opened, target_opened, asking_session}
use Rattle.scanner_table.specs.Closing.{requested_link, left_state, idle_slot, is_close_in_time, unclosed_slot, given_up_state, given_up, target_lost}
use Rattle.scanner_table.specs.Replies.{is_id_free, new_connection, established_slot, failed_slot, refused, disowned, disowned_within, rejected, judged_success, answered}
use Rattle.scanner_table.specs.Lemmas.Moves.{link_in}
use Rattle.scanner_table.specs.Sessions.{session_with}
use Rattle.scanner_table.specs.Ticks.{by_deadline, has_expired, expired_slots, expired_state, expired, all_expired, is_overdue, all_given_up, advanced}
use Rattle.device_laws.specs.Ids.{Replied}
use Rattle.device_laws.specs.Carrying.{Waits}
use Rattle.device_laws.specs.Lemmas.ExplicitRequests.{IsExplicit}
use Rattle.device_laws.specs.Lemmas.Lists.{all_both, all_filtered, all_ordered}
use Rattle.device_laws.specs.Lemmas.Texts.{either}

abbrev pub OfSlots : Type 1
OfSlots = ℕ → SlotConfig → SlotState → Type 0

abbrev pub SlotHolds : OfSlots → IndexedSlot → Type 0
SlotHolds G indexed = G indexed.number indexed.config indexed.slot.state

-- it holds of each slot
abbrev pub SlotsHold : OfSlots → ScannerTable → Type 0
SlotsHold G t = AllByRecursion (SlotHolds G) (indexed_slots t)

-- ---- indexed slots

-- the indexed slot has one of these configurations, and it holds of its slot
pub record IsSlotOf (G : OfSlots) (all : List SlotConfig) (indexed : IndexedSlot) : Type 0 where
  pub there : slice_get all indexed.number ≡ Some indexed.config
  pub holds : SlotHolds G indexed

slots_from : (G : OfSlots) (n : ℕ) (all configs : List SlotConfig) (slots : List Slot) → ((k : ℕ) → slice_get all (n + k) ≡ slice_get configs k) → AllByRecursion (SlotHolds G) (indexed_from n configs slots) → AllByRecursion (IsSlotOf G all) (indexed_from n configs slots)
slots_from G n all [] slots at holds = tt
slots_from G n all (config ∷ configs) [] at holds = tt
slots_from G n all (config ∷ configs) (slot ∷ slots) at holds =
    let here : slice_get all n ≡ Some config = ap (slice_get all) (let e : n ≡ n + 0 = omega arith in e) ∙ at 0 in
    (record { there = here; holds = holds.0 }, slots_from G (suc n) all configs slots (λ k. ap (slice_get all) (let e : suc n + k ≡ n + suc k = omega arith in e) ∙ at (suc k)) holds.1)

pub all_slots : (G : OfSlots) (t : ScannerTable) → SlotsHold G t → AllByRecursion (IsSlotOf G t.profile.slots) (indexed_slots t)
all_slots G t holds = slots_from G 0 t.profile.slots t.profile.slots t.slots (λ k. ap (slice_get t.profile.slots) (let e : 0 + k ≡ k = omega arith in e)) holds

set_slots : (G : OfSlots) (n k : ℕ) (configs : List SlotConfig) (slots : List Slot) (slot : Slot) → AllByRecursion (SlotHolds G) (indexed_from n configs slots) → ((config : SlotConfig) → slice_get configs k ≡ Some config → G (n + k) config slot.state) → AllByRecursion (SlotHolds G) (indexed_from n configs (slice_set slots k slot))
set_slots G n k [] slots slot holds new = tt
set_slots G n k (config ∷ configs) [] slot holds new = tt
set_slots G n zero (config ∷ configs) (old ∷ slots) slot holds new =
    (subst (λ (m : ℕ). G m config slot.state) (let e : n + 0 ≡ n = omega arith in e) (new config refl), holds.1)
set_slots G n (suc k) (config ∷ configs) (old ∷ slots) slot holds new =
    (holds.0, set_slots G (suc n) k configs slots slot holds.1 (λ c at. subst (λ (m : ℕ). G m c slot.state) (let e : n + suc k ≡ suc n + k = omega arith in e) (new c at)))

-- another slot under one number
pub with_slot_holds : (G : OfSlots) (all : List SlotConfig) (t : ScannerTable) (indexed : IndexedSlot) (slot : Slot) → t.profile.slots ≡ all → slice_get all indexed.number ≡ Some indexed.config → G indexed.number indexed.config slot.state → SlotsHold G t → SlotsHold G (with_slot t indexed.number slot)
with_slot_holds G all t indexed slot same there new holds =
    set_slots G 0 indexed.number t.profile.slots t.slots slot holds
    (λ config at. subst (λ (n : ℕ). G n config slot.state) (let e : indexed.number ≡ 0 + indexed.number = omega arith in e) (subst (λ (c : SlotConfig). G indexed.number c slot.state) (same_Some indexed.config config (sym there ∙ ap (λ (l : List SlotConfig). slice_get l indexed.number) (sym same) ∙ at)) new))

pub mapped_indexed : (G : OfSlots) (f : IndexedSlot → Slot) → ((indexed : IndexedSlot) → SlotHolds G indexed → G indexed.number indexed.config (f indexed).state) → (n : ℕ) (configs : List SlotConfig) (slots : List Slot) → AllByRecursion (SlotHolds G) (indexed_from n configs slots) → AllByRecursion (SlotHolds G) (indexed_from n configs (map f (indexed_from n configs slots)))
mapped_indexed G f keeps n [] slots holds = tt
mapped_indexed G f keeps n (config ∷ configs) [] holds = tt
mapped_indexed G f keeps n (config ∷ configs) (slot ∷ slots) holds =
    (keeps (record { number = n; config = config; slot = slot }) holds.0, mapped_indexed G f keeps (suc n) configs slots holds.1)

pub mapped_slots : (G : OfSlots) (f : Slot → Slot) → ((number : ℕ) (config : SlotConfig) (slot : Slot) → G number config slot.state → G number config (f slot).state) → (n : ℕ) (configs : List SlotConfig) (slots : List Slot) → AllByRecursion (SlotHolds G) (indexed_from n configs slots) → AllByRecursion (SlotHolds G) (indexed_from n configs (map f slots))
mapped_slots G f keeps n [] slots holds = tt
mapped_slots G f keeps n (config ∷ configs) [] holds = tt
mapped_slots G f keeps n (config ∷ configs) (slot ∷ slots) holds = (keeps n config slot holds.0, mapped_slots G f keeps (suc n) configs slots holds.1)

-- ---- what keeps it

-- nothing but counters differs, and they have not fallen
pub record Counts (old new : ScannerTable) : Type 0 where
  pub profile : new.profile ≡ old.profile
  pub blocks : new.ids ≡ old.ids
  pub ids : old.next_id ≤ new.next_id
  pub requests : old.next_request ≤ new.next_request

-- a table within the event at which a slot of this configuration opens, with the id counter within the limit
pub record CanDraw (old : ScannerTable) (to : ℕ) (now : ScannerTable) (config : SlotConfig) : Type 0 where
  pub counts : Counts old now
  pub has : has_id now config ≡ true
  pub left : config.multicast ≡ false → now.next_id < to

pub record Kept (G : OfSlots) (old : ScannerTable) (to : ℕ) (happens : Event) : Type 0 where
  pub rests : (number : ℕ) (config : SlotConfig) → G number config Idle
  pub times_out : (number : ℕ) (config : SlotConfig) (link : Link) (state : SlotState) → link_in state ≡ Some link → G number config state → G number config (TimedOut link)
  pub closes : (number : ℕ) (config : SlotConfig) (link : Link) (state : SlotState) (close : closing_slots.PendingClose) → close.link ≡ link → link_in state ≡ Some link → G number config state → G number config (Closing close)
  pub goes_on : (number : ℕ) (config : SlotConfig) (c d : SlotConnection) → d.opening ≡ c.opening → d.link ≡ c.link → G number config (Established c) → G number config (Established d)
  pub opens : (number : ℕ) (config : SlotConfig) (now : ScannerTable) (o : pending.PendingOpen) → CanDraw old to now config → o.request ≡ now.next_request → o.requested ≡ next_requested now config → G number config (Opening o)
  pub establishes : (number : ℕ) (config : SlotConfig) (o : pending.PendingOpen) (success : made.Opened) (c : SlotConnection) → Waits old number config o → Replied old happens config.target o.request success → is_requested_id o.requested.t_o_id success.t_o_id ≡ true → c.opening ≡ o.request → c.link ≡ link_of o.requested success → G number config (Opening o) → G number config (Established c)

-- the ids of requests; an explicit request has none
abbrev pub RequestId : (ℕ → Type 0) → Request → Type 0
RequestId P registering = Unit {0}
RequestId P (opening large fields) = P fields.t_o_id.0
RequestId P (closing fields) = Unit {0}
RequestId P (requesting bytes) = IsExplicit bytes

abbrev pub SentId : (ℕ → Type 0) → Sent → Type 0
SentId P sent = RequestId P sent.request

abbrev pub RequestIdsHold : (ℕ → Type 0) → ScannerTable → ℕ → Type 0
RequestIdsHold P old to = (now : ScannerTable) (config : SlotConfig) → CanDraw old to now config → P (id_or_zero (next_t_o_id now config)).0

-- an effect keeps it, and its requests have the requested ids
pub record EffectHolds (G : OfSlots) (P : ℕ → Type 0) (effect : Effect) : Type 0 where
  pub slots : SlotsHold G effect.table
  pub sent : AllByRecursion (SentId P) effect.sent

-- ---- counters

pub same_counts : (t : ScannerTable) → Counts t t
same_counts t = record { profile = refl; blocks = refl; ids = omega arith; requests = omega arith }

pub more_counts : (a b c : ScannerTable) → Counts a b → Counts b c → Counts a c
more_counts a b c first next = record { profile = next.profile ∙ first.profile; blocks = next.blocks ∙ first.blocks; ids = omega (arith, first.ids, next.ids); requests = omega (arith, first.requests, next.requests) }

left_below : (multicast : Bool) (counter to : ℕ) → cond multicast counter (counter + 1) ≤ to → multicast ≡ false → counter < to
left_below true counter to below is = absurd cc
left_below false counter to below is = omega (arith, below)

pub changed_counts : (t : ScannerTable) (indexed : IndexedSlot) (slot : Slot) → Counts t (with_slot t indexed.number slot)
changed_counts t indexed slot = record { profile = refl; blocks = refl; ids = omega arith; requests = omega arith }

requested_counts : (t : ScannerTable) (indexed : IndexedSlot) (slot : Slot) → Counts t (with_slot (counted (drawn t indexed.config)) indexed.number slot)
requested_counts t indexed slot = record { profile = refl; blocks = refl; ids = id_later indexed.config.multicast t.next_id; requests = omega arith }

within_counts : (t : ScannerTable) (indexed : IndexedSlot) (session : Option Session) → Counts t (opened_within t indexed session).table
within_counts t indexed None = same_counts t
within_counts t indexed (Some session) =
    either (λ (e : Effect). Counts t e.table) (can_open t indexed.config) (open_requested t indexed session) (exhausted t indexed)
    (requested_counts t indexed (opening_slot t indexed)) (changed_counts t indexed (resigned indexed.slot))

closing_counts : (t : ScannerTable) (indexed : IndexedSlot) (slot : Slot) → Counts t (with_slot (counted t) indexed.number slot)
closing_counts t indexed slot = record { profile = refl; blocks = refl; ids = omega arith; requests = omega arith }

cleared_counts : (t : ScannerTable) (indexed : IndexedSlot) (link : Link) (session : Option Session) → Counts t (cleared_within t indexed link session).table
cleared_counts t indexed link None = same_counts t
cleared_counts t indexed link (Some session) =
    either (λ (e : Effect). Counts t e.table) (has_request t) (close_requested t indexed link indexed.slot.desired_up session) (exhausted t indexed)
    (closing_counts t indexed (closing_slot t link indexed.slot.desired_up indexed.slot)) (changed_counts t indexed (resigned indexed.slot))

from_counts : (t : ScannerTable) (indexed : IndexedSlot) (session : Option Session) (state : SlotState) → Counts t (opened_from t indexed session state).table
from_counts t indexed session (TimedOut link) =
    either (λ (e : Effect). Counts t e.table) t.profile.tidy (cleared_within t indexed link session) (opened_within t indexed session) (cleared_counts t indexed link session) (within_counts t indexed session)
from_counts t indexed session other = within_counts t indexed session

opened_counts : (t : ScannerTable) (indexed : IndexedSlot) → Counts t (opened t indexed).table
unfolding opened
opened_counts t indexed = from_counts t indexed (asking_session t indexed) indexed.slot.state

given_counts : (t : ScannerTable) (indexed : IndexedSlot) (state : SlotState) → Counts t (given_up_state t indexed state).table
given_counts t indexed (Opening o) = changed_counts t indexed (failed_slot t (left_state t (requested_link o.requested)) indexed.slot)
given_counts t indexed (Closing c) = changed_counts t indexed (unclosed_slot t c indexed.slot)
given_counts t indexed Idle = same_counts t
given_counts t indexed (Established c) = same_counts t
given_counts t indexed (TimedOut link) = same_counts t

expired_counts : (t : ScannerTable) (indexed : IndexedSlot) (state : SlotState) → Counts t (expired_state t indexed state).table
expired_counts t indexed (Established c) = changed_counts t indexed (failed_slot t (TimedOut c.link) indexed.slot)
expired_counts t indexed Idle = same_counts t
expired_counts t indexed (Opening o) = same_counts t
expired_counts t indexed (TimedOut link) = same_counts t
expired_counts t indexed (Closing c) = same_counts t

abbrev pub AllCount : (ScannerTable → IndexedSlot → Effect) → Type 0
AllCount effect = (t : ScannerTable) (indexed : IndexedSlot) → Counts t (effect t indexed).table

each_counts : (effect : ScannerTable → IndexedSlot → Effect) → AllCount effect → (all : List IndexedSlot) (t : ScannerTable) → Counts t (on_each effect all t).table
each_counts effect count [] t = same_counts t
each_counts effect count (indexed ∷ rest) t = more_counts t (effect t indexed).table (on_each effect rest (effect t indexed).table).table (count t indexed) (each_counts effect count rest (effect t indexed).table)

-- ---- one effect after another

-- an effect on a slot keeps it, wherever it comes within the event
abbrev pub AllKeep : OfSlots → (ℕ → Type 0) → ScannerTable → ℕ → (ScannerTable → IndexedSlot → Effect) → Type 0
AllKeep G P old to effect =
    (now : ScannerTable) (indexed : IndexedSlot) → Counts old now → (effect now indexed).table.next_id ≤ to → SlotsHold G now → IsSlotOf G old.profile.slots indexed → EffectHolds G P (effect now indexed)

pub both_hold : (G : OfSlots) (P : ℕ → Type 0) (first next : Effect) → EffectHolds G P first → EffectHolds G P next → EffectHolds G P (after first next)
both_hold G P first next one other = record { slots = other.slots; sent = all_both (SentId P) first.sent next.sent one.sent other.sent }

each_holds : (G : OfSlots) (P : ℕ → Type 0) (old : ScannerTable) (to : ℕ) (effect : ScannerTable → IndexedSlot → Effect) → AllCount effect → AllKeep G P old to effect → (all : List IndexedSlot) (now : ScannerTable) → Counts old now → (on_each effect all now).table.next_id ≤ to → SlotsHold G now → AllByRecursion (IsSlotOf G old.profile.slots) all → EffectHolds G P (on_each effect all now)
each_holds G P old to effect count keep [] now counts below holds is_slot = record { slots = holds; sent = tt }
each_holds G P old to effect count keep (indexed ∷ rest) now counts below holds is_slot =
    let first = effect now indexed in
    let behind = each_counts effect count rest (effect now indexed).table in
    let one = keep now indexed counts (omega (arith, below, behind.ids)) holds is_slot.0 in
    let other = each_holds G P old to effect count keep rest (effect now indexed).table (more_counts old now (effect now indexed).table counts (count now indexed)) below one.slots is_slot.1 in
    both_hold G P (effect now indexed) (on_each effect rest (effect now indexed).table) one other

pub changed_holds : (G : OfSlots) (P : ℕ → Type 0) (old now : ScannerTable) (indexed : IndexedSlot) (slot : Slot) (reported : List Notice) → Counts old now → slice_get old.profile.slots indexed.number ≡ Some indexed.config → G indexed.number indexed.config slot.state → SlotsHold G now → EffectHolds G P (changed now indexed slot reported)
changed_holds G P old now indexed slot reported counts there new holds =
    record { slots = with_slot_holds G old.profile.slots now indexed slot (ap (λ (p : ScannerProfile). p.slots) counts.profile) there new holds; sent = tt }

-- ---- openings

within_holds : (G : OfSlots) (P : ℕ → Type 0) (old : ScannerTable) (to : ℕ) (happens : Event) → Kept G old to happens → RequestIdsHold P old to → (now : ScannerTable) (indexed : IndexedSlot) (session : Option Session) → Counts old now → (opened_within now indexed session).table.next_id ≤ to → SlotsHold G now → IsSlotOf G old.profile.slots indexed → EffectHolds G P (opened_within now indexed session)
within_holds G P old to happens kept requested_ids now indexed None counts below holds is_slot = record { slots = holds; sent = tt }
within_holds G P old to happens kept requested_ids now indexed (Some session) counts below holds is_slot =
    cond_both (can_open now indexed.config) (open_requested now indexed session) (exhausted now indexed) (λ (e : Effect). e.table.next_id ≤ to → EffectHolds G P e)
    (λ may under.
    let can : CanDraw old to now indexed.config = record { counts = counts; has = (and_parts (has_request now) (has_id now indexed.config) may).1; left = left_below indexed.config.multicast now.next_id to under } in
    let slots = with_slot_holds G old.profile.slots (counted (drawn now indexed.config)) indexed (opening_slot now indexed) (ap (λ (p : ScannerProfile). p.slots) counts.profile) is_slot.there
    (kept.opens indexed.number indexed.config now _ can refl refl) holds in
    record { slots = slots; sent = (requested_ids now indexed.config can, tt) })
    (λ full under. changed_holds G P old now indexed (resigned indexed.slot) (notice.NoIds indexed.number ∷ []) counts is_slot.there (kept.rests indexed.number indexed.config) holds) below

-- the slot closes its connection
pub closing_holds : (G : OfSlots) (P : ℕ → Type 0) (old : ScannerTable) (to : ℕ) (happens : Event) → Kept G old to happens → (now : ScannerTable) (indexed : IndexedSlot) (link : Link) (desired_up : Bool) (session : Session) (state : SlotState) → link_in state ≡ Some link → G indexed.number indexed.config state → Counts old now → slice_get old.profile.slots indexed.number ≡ Some indexed.config → SlotsHold G now → EffectHolds G P (cond (has_request now) (close_requested now indexed link desired_up session) (exhausted now indexed))
closing_holds G P old to happens kept now indexed link desired_up session state from is counts there holds =
    either (EffectHolds G P) (has_request now) (close_requested now indexed link desired_up session) (exhausted now indexed)
    (record {
      slots = with_slot_holds G old.profile.slots (counted now) indexed (closing_slot now link desired_up indexed.slot) (ap (λ (p : ScannerProfile). p.slots) counts.profile) there (kept.closes indexed.number indexed.config link state _ refl from is) holds;
      sent = (tt, tt);
    })
    (changed_holds G P old now indexed (resigned indexed.slot) (notice.NoIds indexed.number ∷ []) counts there (kept.rests indexed.number indexed.config) holds)

cleared_holds : (G : OfSlots) (P : ℕ → Type 0) (old : ScannerTable) (to : ℕ) (happens : Event) → Kept G old to happens → (now : ScannerTable) (indexed : IndexedSlot) (link : Link) (session : Option Session) → indexed.slot.state ≡ TimedOut link → Counts old now → SlotsHold G now → IsSlotOf G old.profile.slots indexed → EffectHolds G P (cleared_within now indexed link session)
cleared_holds G P old to happens kept now indexed link None is counts holds is_slot = record { slots = holds; sent = tt }
cleared_holds G P old to happens kept now indexed link (Some session) is counts holds is_slot =
    closing_holds G P old to happens kept now indexed link indexed.slot.desired_up session indexed.slot.state (ap link_in is) is_slot.holds counts is_slot.there holds

from_holds : (G : OfSlots) (P : ℕ → Type 0) (old : ScannerTable) (to : ℕ) (happens : Event) → Kept G old to happens → RequestIdsHold P old to → (now : ScannerTable) (indexed : IndexedSlot) (session : Option Session) (state : SlotState) → indexed.slot.state ≡ state → Counts old now → (opened_from now indexed session state).table.next_id ≤ to → SlotsHold G now → IsSlotOf G old.profile.slots indexed → EffectHolds G P (opened_from now indexed session state)
from_holds G P old to happens kept requested_ids now indexed session (TimedOut link) is counts below holds is_slot =
    either (λ (e : Effect). e.table.next_id ≤ to → EffectHolds G P e) now.profile.tidy (cleared_within now indexed link session) (opened_within now indexed session)
    (λ under. cleared_holds G P old to happens kept now indexed link session is counts holds is_slot)
    (λ under. within_holds G P old to happens kept requested_ids now indexed session counts under holds is_slot) below
from_holds G P old to happens kept requested_ids now indexed session other is counts below holds is_slot = within_holds G P old to happens kept requested_ids now indexed session counts below holds is_slot

pub opened_holds : (G : OfSlots) (P : ℕ → Type 0) (old : ScannerTable) (to : ℕ) (happens : Event) → Kept G old to happens → RequestIdsHold P old to → AllKeep G P old to opened
unfolding opened
opened_holds G P old to happens kept requested_ids now indexed counts below holds is_slot =
    from_holds G P old to happens kept requested_ids now indexed (asking_session now indexed) indexed.slot.state refl counts below holds is_slot

slots_now : (G : OfSlots) (old now : ScannerTable) → Counts old now → SlotsHold G now → AllByRecursion (IsSlotOf G old.profile.slots) (indexed_slots now)
slots_now G old now counts holds = subst (λ (p : ScannerProfile). AllByRecursion (IsSlotOf G p.slots) (indexed_slots now)) counts.profile (all_slots G now holds)

pub ready_holds : (G : OfSlots) (P : ℕ → Type 0) (old : ScannerTable) (to : ℕ) (happens : Event) → Kept G old to happens → RequestIdsHold P old to → (now : ScannerTable) → Counts old now → (ready_opened now).table.next_id ≤ to → SlotsHold G now → EffectHolds G P (ready_opened now)
unfolding ready_opened
ready_holds G P old to happens kept requested_ids now counts below holds =
    each_holds G P old to opened opened_counts (opened_holds G P old to happens kept requested_ids) (ready_slots now) now counts below holds
    (all_filtered (IsSlotOf G old.profile.slots) (is_ready_slot now.clock) (indexed_slots now) (slots_now G old now counts holds))

pub target_holds : (G : OfSlots) (P : ℕ → Type 0) (old : ScannerTable) (to : ℕ) (happens : Event) → Kept G old to happens → RequestIdsHold P old to → (target : Node) (now : ScannerTable) → Counts old now → (target_opened target now).table.next_id ≤ to → SlotsHold G now → EffectHolds G P (target_opened target now)
unfolding target_opened
target_holds G P old to happens kept requested_ids target now counts below holds =
    each_holds G P old to opened opened_counts (opened_holds G P old to happens kept requested_ids) (filter (is_with target) (ready_slots now)) now counts below holds
    (all_filtered (IsSlotOf G old.profile.slots) (is_with target) (ready_slots now)
    (all_filtered (IsSlotOf G old.profile.slots) (is_ready_slot now.clock) (indexed_slots now) (slots_now G old now counts holds)))

-- ---- endings

-- the state that an ended connection leaves
pub left_holds : (G : OfSlots) (old : ScannerTable) (to : ℕ) (happens : Event) → Kept G old to happens → (now : ScannerTable) (indexed : IndexedSlot) (link : Link) (state : SlotState) → link_in state ≡ Some link → G indexed.number indexed.config state → G indexed.number indexed.config (left_state now link)
left_holds G old to happens kept now indexed link state from is =
    either (G indexed.number indexed.config) now.profile.tidy (TimedOut link) Idle (kept.times_out indexed.number indexed.config link state from is) (kept.rests indexed.number indexed.config)

given_holds : (G : OfSlots) (P : ℕ → Type 0) (old : ScannerTable) (to : ℕ) (happens : Event) → Kept G old to happens → (now : ScannerTable) (indexed : IndexedSlot) (state : SlotState) → indexed.slot.state ≡ state → Counts old now → SlotsHold G now → IsSlotOf G old.profile.slots indexed → EffectHolds G P (given_up_state now indexed state)
given_holds G P old to happens kept now indexed (Opening o) is counts holds is_slot =
    changed_holds G P old now indexed (failed_slot now (left_state now (requested_link o.requested)) indexed.slot) [] counts is_slot.there
    (left_holds G old to happens kept now indexed (requested_link o.requested) (Opening o) refl (subst (G indexed.number indexed.config) is is_slot.holds)) holds
given_holds G P old to happens kept now indexed (Closing c) is counts holds is_slot =
    changed_holds G P old now indexed (unclosed_slot now c indexed.slot) [] counts is_slot.there
    (either (λ (slot : Slot). G indexed.number indexed.config slot.state) (now.profile.tidy && is_close_in_time now c) (failed_slot now (TimedOut c.link) indexed.slot) (idle_slot indexed.slot)
    (kept.times_out indexed.number indexed.config c.link (Closing c) refl (subst (G indexed.number indexed.config) is is_slot.holds)) (kept.rests indexed.number indexed.config)) holds
given_holds G P old to happens kept now indexed Idle is counts holds is_slot = record { slots = holds; sent = tt }
given_holds G P old to happens kept now indexed (Established c) is counts holds is_slot = record { slots = holds; sent = tt }
given_holds G P old to happens kept now indexed (TimedOut link) is counts holds is_slot = record { slots = holds; sent = tt }

given_up_holds : (G : OfSlots) (P : ℕ → Type 0) (old : ScannerTable) (to : ℕ) (happens : Event) → Kept G old to happens → AllKeep G P old to given_up
given_up_holds G P old to happens kept now indexed counts below holds is_slot = given_holds G P old to happens kept now indexed indexed.slot.state refl counts holds is_slot

pub lost_holds : (G : OfSlots) (P : ℕ → Type 0) (old : ScannerTable) (to : ℕ) (happens : Event) → Kept G old to happens → (target : Node) (now : ScannerTable) → Counts old now → (target_lost target now).table.next_id ≤ to → SlotsHold G now → EffectHolds G P (target_lost target now)
unfolding target_lost
lost_holds G P old to happens kept target now counts below holds =
    each_holds G P old to given_up (λ t indexed. given_counts t indexed indexed.slot.state) (given_up_holds G P old to happens kept) (filter (is_with target) (indexed_slots now)) now counts below holds
    (all_filtered (IsSlotOf G old.profile.slots) (is_with target) (indexed_slots now) (slots_now G old now counts holds))

expiry_holds : (G : OfSlots) (P : ℕ → Type 0) (old : ScannerTable) (to : ℕ) (happens : Event) → Kept G old to happens → (now : ScannerTable) (indexed : IndexedSlot) (state : SlotState) → Counts old now → SlotsHold G now → slice_get old.profile.slots indexed.number ≡ Some indexed.config → G indexed.number indexed.config state → EffectHolds G P (expired_state now indexed state)
expiry_holds G P old to happens kept now indexed (Established c) counts holds there is = changed_holds G P old now indexed (failed_slot now (TimedOut c.link) indexed.slot) [] counts there (kept.times_out indexed.number indexed.config c.link (Established c) refl is) holds
expiry_holds G P old to happens kept now indexed Idle counts holds there is = record { slots = holds; sent = tt }
expiry_holds G P old to happens kept now indexed (Opening o) counts holds there is = record { slots = holds; sent = tt }
expiry_holds G P old to happens kept now indexed (TimedOut link) counts holds there is = record { slots = holds; sent = tt }
expiry_holds G P old to happens kept now indexed (Closing c) counts holds there is = record { slots = holds; sent = tt }

expired_holds : (G : OfSlots) (P : ℕ → Type 0) (old : ScannerTable) (to : ℕ) (happens : Event) → Kept G old to happens → AllKeep G P old to expired
expired_holds G P old to happens kept now indexed counts below holds is_slot = expiry_holds G P old to happens kept now indexed indexed.slot.state counts holds is_slot.there is_slot.holds

-- ---- a tick

all_expired_counts : (t : ScannerTable) → Counts t (all_expired t).table
unfolding all_expired
all_expired_counts t = each_counts expired (λ u indexed. expired_counts u indexed indexed.slot.state) (expired_slots t) t

all_given_counts : (t : ScannerTable) → Counts t (all_given_up t).table
unfolding all_given_up
all_given_counts t = each_counts given_up (λ u indexed. given_counts u indexed indexed.slot.state) (filter (is_overdue t.clock) (indexed_slots t)) t

ready_counts : (t : ScannerTable) → Counts t (ready_opened t).table
unfolding ready_opened
ready_counts t = each_counts opened opened_counts (ready_slots t) t

all_expired_holds : (G : OfSlots) (P : ℕ → Type 0) (old : ScannerTable) (to : ℕ) (happens : Event) → Kept G old to happens → (now : ScannerTable) → Counts old now → (all_expired now).table.next_id ≤ to → SlotsHold G now → EffectHolds G P (all_expired now)
unfolding all_expired
all_expired_holds G P old to happens kept now counts below holds =
    each_holds G P old to expired (λ u indexed. expired_counts u indexed indexed.slot.state) (expired_holds G P old to happens kept) (expired_slots now) now counts below holds
    (all_ordered (IsSlotOf G old.profile.slots) by_deadline (filter (has_expired now.clock) (indexed_slots now)) (all_filtered (IsSlotOf G old.profile.slots) (has_expired now.clock) (indexed_slots now) (slots_now G old now counts holds)))

all_given_holds : (G : OfSlots) (P : ℕ → Type 0) (old : ScannerTable) (to : ℕ) (happens : Event) → Kept G old to happens → (now : ScannerTable) → Counts old now → (all_given_up now).table.next_id ≤ to → SlotsHold G now → EffectHolds G P (all_given_up now)
unfolding all_given_up
all_given_holds G P old to happens kept now counts below holds =
    each_holds G P old to given_up (λ t indexed. given_counts t indexed indexed.slot.state) (given_up_holds G P old to happens kept) (filter (is_overdue now.clock) (indexed_slots now)) now counts below holds
    (all_filtered (IsSlotOf G old.profile.slots) (is_overdue now.clock) (indexed_slots now) (slots_now G old now counts holds))

pub advanced_holds : (G : OfSlots) (P : ℕ → Type 0) (old : ScannerTable) (to : ℕ) (happens : Event) → Kept G old to happens → RequestIdsHold P old to → (now : ScannerTable) → Counts old now → (advanced now).table.next_id ≤ to → SlotsHold G now → EffectHolds G P (advanced now)
advanced_holds G P old to happens kept requested_ids now counts below holds =
    let first = all_expired now in
    let second = all_given_up (all_expired now).table in
    let third = ready_opened (all_given_up (all_expired now).table).table in
    let c1 = all_expired_counts now in
    let c2 = all_given_counts (all_expired now).table in
    let c3 = ready_counts (all_given_up (all_expired now).table).table in
    let o1 = more_counts old now first.table counts c1 in
    let o2 = more_counts old first.table second.table o1 c2 in
    let h1 = all_expired_holds G P old to happens kept now counts (omega (arith, below, c2.ids, c3.ids)) holds in
    let h2 = all_given_holds G P old to happens kept first.table o1 (omega (arith, below, c3.ids)) h1.slots in
    let h3 = ready_holds G P old to happens kept requested_ids second.table o2 below h2.slots in
    both_hold G P (and_then (all_expired now) all_given_up) third (both_hold G P first second h1 h2) h3

-- ---- replies

tests_pass : (a b : Bool) (rest : Option Mismatch) (one other : Mismatch) → cond a (Some one) (cond (not b) (Some other) rest) ≡ None → b ≡ true
tests_pass true b rest one other is = absurd cc
tests_pass false true rest one other is = refl
tests_pass false false rest one other is = absurd cc

disowned_holds : (G : OfSlots) (P : ℕ → Type 0) (now : ScannerTable) (config : SlotConfig) (triad : Triad) (session : Option Session) → SlotsHold G now → EffectHolds G P (disowned_within now config triad session)
disowned_holds G P now config triad None holds = record { slots = holds; sent = tt }
disowned_holds G P now config triad (Some session) holds =
    either (EffectHolds G P) (has_request now) (disowned now config triad session) (nothing now) (record { slots = holds; sent = (tt, tt) }) (record { slots = holds; sent = tt })

rejected_holds : (G : OfSlots) (P : ℕ → Type 0) (config : SlotConfig) (triad : Triad) (now : ScannerTable) → SlotsHold G now → EffectHolds G P (rejected config triad now)
rejected_holds G P config triad now holds =
    either (EffectHolds G P) now.profile.tidy (disowned_within now config triad (session_with now config.target)) (nothing now) (disowned_holds G P now config triad (session_with now config.target) holds) (record { slots = holds; sent = tt })

success_holds : (G : OfSlots) (P : ℕ → Type 0) (old : ScannerTable) (to : ℕ) (happens : Event) → Kept G old to happens → (indexed : IndexedSlot) (o : pending.PendingOpen) (success : made.Opened) (said : Option Mismatch) → first_case (answer_tests o.requested success (is_id_free old indexed success.t_o_id)) ≡ said → Waits old indexed.number indexed.config o → Replied old happens indexed.config.target o.request success → SlotsHold G old → slice_get old.profile.slots indexed.number ≡ Some indexed.config → G indexed.number indexed.config (Opening o) → EffectHolds G P (judged_success old indexed o success said)
success_holds G P old to happens kept indexed o success (Some why) is in_wait replied holds there waits =
    let first = refused old indexed (reason.Mismatch why) in
    let one = changed_holds G P old old indexed (failed_slot old Idle indexed.slot) (notice.Refused indexed.number (reason.Mismatch why) ∷ []) (same_counts old) there (kept.rests indexed.number indexed.config) holds in
    both_hold G P first (rejected indexed.config o.requested.triad first.table) one (rejected_holds G P indexed.config o.requested.triad first.table one.slots)
success_holds G P old to happens kept indexed o success None is in_wait replied holds there waits =
    let passes = tests_pass _ _ _ _ _ is in
    let requested = and_parts (is_requested_id o.requested.t_o_id success.t_o_id) (is_id_free old indexed success.t_o_id) passes in
    changed_holds G P old old indexed (established_slot indexed (new_connection old indexed o success)) [] (same_counts old) there
    (kept.establishes indexed.number indexed.config o success (new_connection old indexed o success) in_wait replied requested.0 refl refl waits) holds

-- the reply is the event's
abbrev pub SaysSo : ScannerTable → Event → Node → ℕ → Result OpenAnswer Reason → Type 0
SaysSo old happens target request (Err why) = Unit {0}
SaysSo old happens target request (Ok (answer.Refused r)) = Unit {0}
SaysSo old happens target request (Ok (answer.Opened success)) = Replied old happens target request success

pub answered_holds : (G : OfSlots) (P : ℕ → Type 0) (old : ScannerTable) (to : ℕ) (happens : Event) → Kept G old to happens → (indexed : IndexedSlot) (o : pending.PendingOpen) (says : Result OpenAnswer Reason) → Waits old indexed.number indexed.config o → SaysSo old happens indexed.config.target o.request says → SlotsHold G old → slice_get old.profile.slots indexed.number ≡ Some indexed.config → G indexed.number indexed.config (Opening o) → EffectHolds G P (answered old indexed o says)
unfolding answered
answered_holds G P old to happens kept indexed o (Err why) in_wait so holds there waits = changed_holds G P old old indexed (failed_slot old Idle indexed.slot) (notice.Refused indexed.number why ∷ []) (same_counts old) there (kept.rests indexed.number indexed.config) holds
answered_holds G P old to happens kept indexed o (Ok (answer.Refused r)) in_wait so holds there waits = changed_holds G P old old indexed (failed_slot old Idle indexed.slot) (notice.Refused indexed.number (reason.Cip r.fault) ∷ []) (same_counts old) there (kept.rests indexed.number indexed.config) holds
answered_holds G P old to happens kept indexed o (Ok (answer.Opened success)) in_wait so holds there waits =
    success_holds G P old to happens kept indexed o success (first_case (answer_tests o.requested success (is_id_free old indexed success.t_o_id))) refl in_wait so holds there waits
