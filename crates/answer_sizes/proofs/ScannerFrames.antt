-- The frames of a scanner: an event sends one request at most for each slot, and each request is short.
use Rattle.std.proofs.Common.{◌≡◌, ◌≤◌, ℕ, suc, ◌+◌, Bool, true, false, cond, List, [], ◌∷◌, ◌++◌, length, filter, Option, Some, None, Result, Ok, Err, refl, sym, ◌∙◌, subst, arith}
use Rattle.std.specs.List.{AllByRecursion, list_all}
use Rattle.std.proofs.lemmas.Bool.{not-false, and_parts}
use Rattle.std.proofs.lemmas.Bool.Decides.{nat_tests}
use Rattle.cip_types.specs.Cases.{first_case}
use Rattle.cip_types.specs.declared.names.Mismatch.{Mismatch}
use Rattle.cip_types.specs.declared.names.Node.{Node}
use Rattle.cip_types.specs.declared.names.Triad.{Triad}
use Rattle.cip_events.specs.declared.event.Reason.{Reason}
use Rattle.cip_events.specs.declared.event.Reason.TheVariants as reason
use Rattle.cip_fwdopen.specs.declared.reply.Opened as made
use Rattle.cip_fwdopen.specs.declared.reply.OpenAnswer.{OpenAnswer}
use Rattle.cip_fwdopen.specs.declared.reply.OpenAnswer.TheVariants as answer
use Rattle.conn_state.specs.Answers.{answer_tests}
use Rattle.conn_state.specs.declared.names.Link.{Link}
use Rattle.adapter_table.specs.Shaping.{all_pass}
use Rattle.scanner_table.specs.declared.profile.ScannerProfile.{ScannerProfile}
use Rattle.scanner_table.specs.declared.profile.SlotConfig.{SlotConfig}
use Rattle.scanner_table.specs.declared.slot.PendingOpen as opening
use Rattle.scanner_table.specs.declared.slot.Slot.{Slot}
use Rattle.scanner_table.specs.declared.slot.SlotState.{SlotState}
use Rattle.scanner_table.specs.declared.slot.SlotState.TheVariants.{Opening, Established, TimedOut}
use Rattle.scanner_table.specs.declared.table.ScannerTable.{ScannerTable}
use Rattle.scanner_table.specs.declared.table.Session.{Session}
use Rattle.scanner_table.specs.Requests.{is_large, next_requested}
use Rattle.scanner_table.specs.Closing.{idle_slot, given_up_state, given_up, target_lost, reopened, closed, slot_resigned, closed_within, dropped}
use Rattle.scanner_table.specs.Effects.{Effect, nothing, and_then, on_each}
use Rattle.scanner_table.specs.Opening.{has_request, can_open, open_requested, exhausted, opened_within, close_requested, cleared_within, opened_from, asking_session, opened, is_ready_slot, ready_slots, ready_opened, target_opened}
use Rattle.scanner_table.specs.Profiles.{are_few, listens_to_group, is_config, has_lengths, profile_tests, profile_fault}
use Rattle.scanner_table.specs.Replies.{is_id_free, refused, disowned, disowned_within, rejected, judged_success, answered}
use Rattle.scanner_table.specs.Sessions.{session_with}
use Rattle.scanner_table.specs.Slots.{IndexedSlot, indexed_from, indexed_slots, is_with, with_slot}
use Rattle.scanner_table.specs.Ticks.{expired_state, expired, expired_slots, all_expired, is_overdue, all_given_up, advanced}
use Rattle.answer_sizes.proofs.Few.{Few, few_none, few_one, few_more, few_most, few_both, few_filtered, either}
use Rattle.answer_sizes.proofs.ScannerRequests.{HasFewData, IsShortRequest, open_short, close_short}

-- ---- a profile without a fault

pub record Faultless (profile : ScannerProfile) : Type 0 where
  pub few : length profile.slots ≤ 64
  pub lengths : list_all has_lengths profile.slots ≡ true

slots_few : (slots : List SlotConfig) → are_few slots ≡ true → length slots ≤ 64
slots_few slots few = grind (arith, nat_tests)

pub faultless : (profile : ScannerProfile) → profile_fault profile ≡ None → Faultless profile
unfolding profile_fault
faultless profile none =
    let passed = all_pass (profile_tests profile) none in
    let served = and_parts (are_few profile.slots) (list_all listens_to_group profile.slots) (not-false _ passed.1.0) in
    record { few = slots_few profile.slots served.0; lengths = not-false (list_all has_lengths profile.slots) passed.1.1.1.0 }

named_few : (config : Option ℕ) (content : List ℕ) → is_config config content ≡ true → length content ≤ 400
named_few None content is = grind (arith, nat_tests)
named_few (Some n) content is = grind (arith, nat_tests)

config_few : (config : SlotConfig) → has_lengths config ≡ true → HasFewData config
config_few config is = named_few config.config config.config_data (and_parts _ (is_config config.config config.config_data) (and_parts _ _ is).1).1

-- ---- slots

abbrev pub HasShortRequests : IndexedSlot → Type 0
HasShortRequests indexed = HasFewData indexed.config

own_slots : (number : ℕ) (configs : List SlotConfig) (slots : List Slot) → list_all has_lengths configs ≡ true → Few (length configs) HasShortRequests (indexed_from number configs slots)
own_slots number [] slots all = few_none 0 HasShortRequests
own_slots number (config ∷ configs) [] all = few_none (suc (length configs)) HasShortRequests
own_slots number (config ∷ configs) (slot ∷ slots) all =
    let parts = and_parts (has_lengths config) (list_all has_lengths configs) all in
    few_more (length configs) HasShortRequests (record { number = number; config = config; slot = slot }) (indexed_from (suc number) configs slots) (config_few config parts.0) (own_slots (suc number) configs slots parts.1)

pub few_slots : (t : ScannerTable) → profile_fault t.profile ≡ None → Few 64 HasShortRequests (indexed_slots t)
few_slots t none =
    let has = faultless t.profile none in
    few_most 64 (length t.profile.slots) HasShortRequests (indexed_slots t) has.few (own_slots 0 t.profile.slots t.slots has.lengths)

-- ---- effects with few requests

abbrev pub SendsRequests : ℕ → Effect → Type 0
SendsRequests most effect = Few most IsShortRequest effect.sent

-- ---- openings

within_sends : (t : ScannerTable) (indexed : IndexedSlot) (session : Option Session) → HasShortRequests indexed → SendsRequests 1 (opened_within t indexed session)
within_sends t indexed None few = few_none 1 IsShortRequest
within_sends t indexed (Some session) few =
    either (SendsRequests 1) (can_open t indexed.config) (open_requested t indexed session) (exhausted t indexed)
    (few_one 1 IsShortRequest _ (omega arith) (open_short session t.next_request (is_large indexed.config) t.profile indexed.config (next_requested t indexed.config) few)) (few_none 1 IsShortRequest)

-- a Forward_Close of a slot
close_sends : (t : ScannerTable) (indexed : IndexedSlot) (link : Link) (desired_up : Bool) (session : Session) → HasShortRequests indexed → SendsRequests 1 (cond (has_request t) (close_requested t indexed link desired_up session) (exhausted t indexed))
close_sends t indexed link desired_up session few =
    either (SendsRequests 1) (has_request t) (close_requested t indexed link desired_up session) (exhausted t indexed)
    (few_one 1 IsShortRequest _ (omega arith) (close_short session t.next_request indexed.config link.triad few)) (few_none 1 IsShortRequest)

cleared_sends : (t : ScannerTable) (indexed : IndexedSlot) (link : Link) (session : Option Session) → HasShortRequests indexed → SendsRequests 1 (cleared_within t indexed link session)
cleared_sends t indexed link None few = few_none 1 IsShortRequest
cleared_sends t indexed link (Some session) few = close_sends t indexed link indexed.slot.desired_up session few

from_sends : (t : ScannerTable) (indexed : IndexedSlot) (session : Option Session) (state : SlotState) → HasShortRequests indexed → SendsRequests 1 (opened_from t indexed session state)
from_sends t indexed session (TimedOut link) few =
    either (SendsRequests 1) t.profile.tidy (cleared_within t indexed link session) (opened_within t indexed session) (cleared_sends t indexed link session few) (within_sends t indexed session few)
from_sends t indexed session other few = within_sends t indexed session few

pub opened_sends : (t : ScannerTable) (indexed : IndexedSlot) → HasShortRequests indexed → SendsRequests 1 (opened t indexed)
unfolding opened
opened_sends t indexed few = from_sends t indexed (asking_session t indexed) indexed.slot.state few

each_sends : (all : List IndexedSlot) → AllByRecursion HasShortRequests all → (t : ScannerTable) → SendsRequests (length all) (on_each opened all t)
each_sends [] few t = few_none 0 IsShortRequest
each_sends (indexed ∷ rest) few t =
    let first = opened t indexed in
    let next = on_each opened rest first.table in
    few_most (suc (length rest)) (1 + length rest) IsShortRequest (first.sent ++ next.sent) (omega arith) (few_both 1 (length rest) IsShortRequest first.sent next.sent (opened_sends t indexed few.0) (each_sends rest few.1 first.table))

-- each slot sends one request at most
few_send : (all : List IndexedSlot) (t : ScannerTable) → Few 64 HasShortRequests all → SendsRequests 64 (on_each opened all t)
few_send all t few = few_most 64 (length all) IsShortRequest (on_each opened all t).sent few.count (each_sends all few.each t)

few_ready : (t : ScannerTable) → profile_fault t.profile ≡ None → Few 64 HasShortRequests (ready_slots t)
few_ready t none = few_filtered 64 HasShortRequests (is_ready_slot t.clock) (indexed_slots t) (few_slots t none)

pub ready_sends : (t : ScannerTable) → profile_fault t.profile ≡ None → SendsRequests 64 (ready_opened t)
unfolding ready_opened
ready_sends t none = few_send (ready_slots t) t (few_ready t none)

pub target_sends : (target : Node) (t : ScannerTable) → profile_fault t.profile ≡ None → SendsRequests 64 (target_opened target t)
unfolding target_opened
target_sends target t none = few_send (filter (is_with target) (ready_slots t)) t (few_filtered 64 HasShortRequests (is_with target) (ready_slots t) (few_ready t none))

-- ---- closings

pub closed_sends : (t : ScannerTable) (indexed : IndexedSlot) (link : Link) (session : Option Session) → HasShortRequests indexed → SendsRequests 1 (closed_within t indexed link session)
closed_sends t indexed link None few = few_none 1 IsShortRequest
closed_sends t indexed link (Some session) few = close_sends t indexed link false session few

pub dropped_sends : (t : ScannerTable) (indexed : IndexedSlot) (link : Link) → HasShortRequests indexed → SendsRequests 1 (dropped t indexed link)
dropped_sends t indexed link few =
    either (SendsRequests 1) t.profile.tidy (closed_within t indexed link (session_with t indexed.config.target)) (slot_resigned t indexed) (closed_sends t indexed link (session_with t indexed.config.target) few) (few_none 1 IsShortRequest)

-- any reply to a Forward_Close
reopened_sends : (t : ScannerTable) (indexed : IndexedSlot) → HasShortRequests indexed → SendsRequests 1 (reopened indexed t)
reopened_sends t indexed few = either (SendsRequests 1) indexed.slot.desired_up (opened t indexed) (nothing t) (opened_sends t indexed few) (few_none 1 IsShortRequest)

pub ended_sends : (t : ScannerTable) (indexed : IndexedSlot) → HasShortRequests indexed → SendsRequests 1 (closed t indexed)
ended_sends t indexed few =
    let slot : Slot = idle_slot indexed.slot in
    reopened_sends (with_slot t indexed.number slot) (record indexed { slot = slot }) few

-- ---- replies

disowned_sends : (t : ScannerTable) (config : SlotConfig) (triad : Triad) (session : Option Session) → HasFewData config → SendsRequests 1 (disowned_within t config triad session)
disowned_sends t config triad None few = few_none 1 IsShortRequest
disowned_sends t config triad (Some session) few =
    either (SendsRequests 1) (has_request t) (disowned t config triad session) (nothing t)
    (few_one 1 IsShortRequest _ (omega arith) (close_short session t.next_request config triad few)) (few_none 1 IsShortRequest)

rejected_sends : (t : ScannerTable) (config : SlotConfig) (triad : Triad) → HasFewData config → SendsRequests 1 (rejected config triad t)
rejected_sends t config triad few =
    either (SendsRequests 1) t.profile.tidy (disowned_within t config triad (session_with t config.target)) (nothing t) (disowned_sends t config triad (session_with t config.target) few) (few_none 1 IsShortRequest)

success_sends : (t : ScannerTable) (indexed : IndexedSlot) (o : opening.PendingOpen) (success : made.Opened) (why : Option Mismatch) → HasShortRequests indexed → SendsRequests 1 (judged_success t indexed o success why)
success_sends t indexed o success None few = few_none 1 IsShortRequest
success_sends t indexed o success (Some why) few = rejected_sends (refused t indexed (reason.Mismatch why)).table indexed.config o.requested.triad few

pub answered_sends : (t : ScannerTable) (indexed : IndexedSlot) (o : opening.PendingOpen) (says : Result OpenAnswer Reason) → HasShortRequests indexed → SendsRequests 1 (answered t indexed o says)
unfolding answered
answered_sends t indexed o (Err why) few = few_none 1 IsShortRequest
answered_sends t indexed o (Ok (answer.Refused r)) few = few_none 1 IsShortRequest
answered_sends t indexed o (Ok (answer.Opened success)) few = success_sends t indexed o success (first_case (answer_tests o.requested success (is_id_free t indexed success.t_o_id))) few

-- ---- effects without a request

-- the effect sends no request, and the profile stays
pub record IsQuiet (t : ScannerTable) (effect : Effect) : Type 0 where
  pub silent : effect.sent ≡ []
  pub profile : effect.table.profile ≡ t.profile

quiet_then : (t : ScannerTable) (first : Effect) (next : ScannerTable → Effect) → IsQuiet t first → IsQuiet first.table (next first.table) → IsQuiet t (and_then first next)
quiet_then t first next before behind =
    let a = before.silent in
    let b = behind.silent in
    record { silent = rw (a, b) refl; profile = behind.profile ∙ before.profile }

each_quiet : (effect : ScannerTable → IndexedSlot → Effect) → ((t : ScannerTable) (indexed : IndexedSlot) → IsQuiet t (effect t indexed)) → (all : List IndexedSlot) (t : ScannerTable) → IsQuiet t (on_each effect all t)
each_quiet effect quiet [] t = record { silent = refl; profile = refl }
each_quiet effect quiet (indexed ∷ rest) t = quiet_then t (effect t indexed) (on_each effect rest) (quiet t indexed) (each_quiet effect quiet rest (effect t indexed).table)

given_quiet : (t : ScannerTable) (indexed : IndexedSlot) (state : SlotState) → IsQuiet t (given_up_state t indexed state)
given_quiet t indexed (Opening o) = record { silent = refl; profile = refl }
given_quiet t indexed other = record { silent = refl; profile = refl }

expired_quiet : (t : ScannerTable) (indexed : IndexedSlot) (state : SlotState) → IsQuiet t (expired_state t indexed state)
expired_quiet t indexed (Established c) = record { silent = refl; profile = refl }
expired_quiet t indexed other = record { silent = refl; profile = refl }

pub lost_quiet : (target : Node) (t : ScannerTable) → IsQuiet t (target_lost target t)
unfolding target_lost
lost_quiet target t = each_quiet given_up (λ u indexed. given_quiet u indexed indexed.slot.state) (filter (is_with target) (indexed_slots t)) t

-- ---- a tick

all_expired_quiet : (t : ScannerTable) → IsQuiet t (all_expired t)
unfolding all_expired
all_expired_quiet t = each_quiet expired (λ u indexed. expired_quiet u indexed indexed.slot.state) (expired_slots t) t

all_given_quiet : (t : ScannerTable) → IsQuiet t (all_given_up t)
unfolding all_given_up
all_given_quiet t = each_quiet given_up (λ u indexed. given_quiet u indexed indexed.slot.state) (filter (is_overdue t.clock) (indexed_slots t)) t

-- only openings send requests, so each slot sends one at most
pub advanced_sends : (t : ScannerTable) → profile_fault t.profile ≡ None → SendsRequests 64 (advanced t)
advanced_sends t none =
    let before = and_then (all_expired t) all_given_up in
    let quiet = quiet_then t (all_expired t) all_given_up (all_expired_quiet t) (all_given_quiet (all_expired t).table) in
    let ready = ready_sends before.table (subst (λ (p : ScannerProfile). profile_fault p ≡ None) (sym quiet.profile) none) in
    let silent = quiet.silent in
    rw silent ready
