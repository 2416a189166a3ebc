-- Ticks before the bounds.
use Rattle.std.proofs.Common.{◌≡◌, ◌<◌, ℕ, suc, Bool, true, false, cond, ◌&&◌, List, [], ◌∷◌, map, filter, Option, Some, None, refl, ap, ◌∙◌, arith}
use Rattle.std.specs.Prelude.{nat_le}
use Rattle.std.specs.Option.{is_some}
use Rattle.std.specs.List.{filter_map}
use Rattle.std.proofs.lemmas.Bool.Decides.{nat_tests}
use Rattle.cip_types.specs.declared.names.Ms.{Ms}
use Rattle.cip_types.specs.declared.names.Node.{Node}
use Rattle.cip_types.specs.Order.{in_order}
use Rattle.scanner_table.specs.declared.slot.Slot.{Slot}
use Rattle.scanner_table.specs.declared.slot.SlotState.{SlotState}
use Rattle.scanner_table.specs.declared.slot.SlotState.TheVariants.{Idle, Opening, Established, TimedOut, Closing}
use Rattle.scanner_table.specs.declared.profile.SlotConfig.{SlotConfig}
use Rattle.scanner_table.specs.declared.table.ScannerTable.{ScannerTable}
use Rattle.scanner_table.specs.declared.table.Session.{Session}
use Rattle.scanner_table.specs.Sessions.{session_with}
use Rattle.scanner_table.specs.Slots.{IndexedSlot, indexed_from, indexed_slots, is_closed, needs_request}
use Rattle.scanner_table.specs.Lemmas.Moves.{from_none}
use Rattle.scanner_table.specs.Effects.{Effect, nothing, on_each, and_then, after}
use Rattle.scanner_table.specs.Closing.{given_up}
use Rattle.scanner_table.specs.Opening.{has_place, open_session, asking_in, asking_session, opened, opened_from, is_ready_slot, ready_opened}
use Rattle.scanner_table.specs.Productions.{is_due, state_is_due, by_due, slot_production, due_productions, produced_slot, produced_table}
use Rattle.scanner_table.specs.Ticks.{has_expired, state_has_expired, by_deadline, expired, all_expired, is_overdue, state_is_overdue, all_given_up, advanced}
use Rattle.scanner_table.specs.WellFormed.{SlotsFit, IsWellFormed}
use Rattle.cip_tables.specs.Wakes.{has_session, can_ask}
use Rattle.scanner_slots.specs.declared.bounds.Bounds.{Bounds}
use Rattle.scanner_slots.specs.Bounding.{EndsFrom, IsDueFrom, has_target, IsBounded, AreBounded, IsHinted, IsTimed, at_time}

not_yet : (early late : ℕ) → early < late → nat_le late early ≡ false
not_yet early late lt = grind (arith, nat_tests)

-- ---- deadlines

not_expired : (bound : ℕ) (clock : Ms) (state : SlotState) → clock.0 < bound → EndsFrom bound state → state_has_expired clock state ≡ false
not_expired bound clock Idle early ends = refl
not_expired bound clock (Opening o) early ends = refl
not_expired bound clock (Established c) early ends = not_yet clock.0 c.deadline.0 (omega (arith, early, ends))
not_expired bound clock (TimedOut link) early ends = refl
not_expired bound clock (Closing c) early ends = refl

not_overdue : (bound : ℕ) (clock : Ms) (state : SlotState) → clock.0 < bound → EndsFrom bound state → state_is_overdue clock state ≡ false
not_overdue bound clock Idle early ends = refl
not_overdue bound clock (Opening o) early ends = not_yet clock.0 o.deadline.0 (omega (arith, early, ends))
not_overdue bound clock (Established c) early ends = refl
not_overdue bound clock (TimedOut link) early ends = refl
not_overdue bound clock (Closing c) early ends = not_yet clock.0 c.deadline.0 (omega (arith, early, ends))

none_expires : (bounds : Bounds) (asks : IndexedSlot → Bool) (clock : Ms) (all : List IndexedSlot) → clock.0 < bounds.deadlines.0 → AreBounded bounds asks all → filter (has_expired clock) all ≡ []
none_expires bounds asks clock [] early hold = refl
none_expires bounds asks clock (indexed ∷ rest) early hold = rw (not_expired bounds.deadlines.0 clock indexed.slot.state early hold.0.deadlines) (none_expires bounds asks clock rest early hold.1)

none_overdue : (bounds : Bounds) (asks : IndexedSlot → Bool) (clock : Ms) (all : List IndexedSlot) → clock.0 < bounds.deadlines.0 → AreBounded bounds asks all → filter (is_overdue clock) all ≡ []
none_overdue bounds asks clock [] early hold = refl
none_overdue bounds asks clock (indexed ∷ rest) early hold = rw (not_overdue bounds.deadlines.0 clock indexed.slot.state early hold.0.deadlines) (none_overdue bounds asks clock rest early hold.1)

-- ---- retries

no_session : (session : Option Session) → is_some session ≡ false → session ≡ None
no_session None is = refl
no_session (Some s) is = absurd (let e : true ≡ false = is in cc)

-- a slot that is ready before the bound has no session
unopened : (up closed late session : Bool) → (up && (closed && late)) ≡ true → ((up && (closed && session)) ≡ true → late ≡ false) → session ≡ false
unopened true true true true ready rests = absurd (let e : true ≡ false = rests refl in cc)
unopened true true true false ready rests = refl
unopened true true false session ready rests = absurd (let e : false ≡ true = ready in cc)
unopened true false late session ready rests = absurd (let e : false ≡ true = ready in cc)
unopened false closed late session ready rests = absurd (let e : false ≡ true = ready in cc)

opens_nothing : (bounds : Bounds) (t : ScannerTable) (clock : Ms) (indexed : IndexedSlot) → clock.0 < bounds.retries.0 → IsBounded bounds (can_ask t indexed) indexed → is_ready_slot clock indexed ≡ true → opened (at_time t clock) indexed ≡ nothing (at_time t clock)
unfolding opened
opens_nothing bounds t clock indexed early bounded ready =
    let none : can_ask t indexed ≡ false = unopened (needs_request indexed.slot) (is_closed indexed.slot.state) (nat_le indexed.slot.retry_at.0 clock.0) (can_ask t indexed) ready (λ can. let at = bounded.retries can in not_yet clock.0 indexed.slot.retry_at.0 (omega (arith, early, at))) in
    ap (λ (s : Option Session). opened_from (at_time t clock) indexed s indexed.slot.state) (no_session (asking_session t indexed) none)
    ∙ from_none (at_time t clock) indexed indexed.slot.state

ready_step : (b : Bool) (t : ScannerTable) (indexed : IndexedSlot) (rest : List IndexedSlot) → (b ≡ true → opened t indexed ≡ nothing t) → on_each opened rest t ≡ nothing t → on_each opened (cond b (indexed ∷ rest) rest) t ≡ nothing t
ready_step true t indexed rest none more = ap (λ (e : Effect). after e (on_each opened rest e.table)) (none refl) ∙ ap (after (nothing t)) more
ready_step false t indexed rest none more = more

none_opens : (bounds : Bounds) (t : ScannerTable) (clock : Ms) (all : List IndexedSlot) → clock.0 < bounds.retries.0 → AreBounded bounds (can_ask t) all → on_each opened (filter (is_ready_slot clock) all) (at_time t clock) ≡ nothing (at_time t clock)
none_opens bounds t clock [] early hold = refl
none_opens bounds t clock (indexed ∷ rest) early hold =
    ready_step (is_ready_slot clock indexed) (at_time t clock) indexed (filter (is_ready_slot clock) rest) (opens_nothing bounds t clock indexed early hold.0) (none_opens bounds t clock rest early hold.1)

-- ---- slots that wait for their turn

-- a slot that can ask its target has a session with it
asks_within : (b : Bool) (session : Option Session) → is_some (cond b session None) ≡ true → is_some session ≡ true
asks_within true session can = can
asks_within false session can = absurd (let e : false ≡ true = can in cc)

asks_either : (b : Bool) (session turn : Option Session) → (is_some turn ≡ true → is_some session ≡ true) → is_some (cond b session turn) ≡ true → is_some session ≡ true
asks_either true session turn leads can = can
asks_either false session turn leads can = leads can

asks_registered : (t : ScannerTable) (target : Node) (state : SlotState) → is_some (asking_in t target state) ≡ true → has_session t.streams target ≡ true
asks_registered t target Idle can = asks_within (has_place t target) (session_with t target) can
asks_registered t target (Opening o) can = asks_within (has_place t target) (session_with t target) can
asks_registered t target (Established c) can = asks_within (has_place t target) (session_with t target) can
asks_registered t target (TimedOut link) can = asks_either t.profile.tidy (session_with t target) (open_session t target) (asks_within (has_place t target) (session_with t target)) can
asks_registered t target (Closing c) can = asks_within (has_place t target) (session_with t target) can

retry_within : (up closed asks session : Bool) → (asks ≡ true → session ≡ true) → (up && (closed && asks)) ≡ true → (up && (closed && session)) ≡ true
retry_within true true true session leads can = leads refl
retry_within true true false session leads can = absurd (let e : false ≡ true = can in cc)
retry_within true false asks session leads can = absurd (let e : false ≡ true = can in cc)
retry_within false closed asks session leads can = absurd (let e : false ≡ true = can in cc)

timed_one : (bounds : Bounds) (t : ScannerTable) (indexed : IndexedSlot) → IsBounded bounds (has_target t.streams indexed) indexed → IsBounded bounds (can_ask t indexed) indexed
timed_one bounds t indexed one = record {
  deadlines = one.deadlines;
  retries = λ can. one.retries (retry_within (needs_request indexed.slot) (is_closed indexed.slot.state) (can_ask t indexed) (has_target t.streams indexed) (asks_registered t indexed.config.target indexed.slot.state) can);
  dues = one.dues;
}

timed_all : (bounds : Bounds) (t : ScannerTable) (all : List IndexedSlot) → AreBounded bounds (has_target t.streams) all → AreBounded bounds (can_ask t) all
timed_all bounds t [] hold = tt
timed_all bounds t (indexed ∷ rest) hold = (timed_one bounds t indexed hold.0, timed_all bounds t rest hold.1)

pub timed_hints : (bounds : Bounds) (t : ScannerTable) → IsHinted bounds t → IsTimed bounds t
timed_hints bounds t hinted = record { slots = timed_all bounds t (indexed_slots t) hinted.slots }

-- ---- ticks before the bounds

no_expiry : (t : ScannerTable) → filter (has_expired t.clock) (indexed_slots t) ≡ [] → all_expired t ≡ nothing t
unfolding all_expired
no_expiry t is = ap (λ l. on_each expired (in_order by_deadline l) t) is

no_giving_up : (t : ScannerTable) → filter (is_overdue t.clock) (indexed_slots t) ≡ [] → all_given_up t ≡ nothing t
unfolding all_given_up
no_giving_up t is = ap (λ l. on_each given_up l t) is

no_opening : (bounds : Bounds) (t : ScannerTable) (clock : Ms) → clock.0 < bounds.retries.0 → IsTimed bounds t → ready_opened (at_time t clock) ≡ nothing (at_time t clock)
unfolding ready_opened
no_opening bounds t clock early hinted = none_opens bounds t clock (indexed_slots t) early hinted.slots

pub connections_rest : (bounds : Bounds) (t : ScannerTable) (clock : Ms) → IsTimed bounds t → clock.0 < bounds.deadlines.0 → clock.0 < bounds.retries.0 → advanced (at_time t clock) ≡ nothing (at_time t clock)
connections_rest bounds t clock hinted early before =
    ap (λ (e : Effect). and_then (and_then e all_given_up) ready_opened) (no_expiry (at_time t clock) (none_expires bounds (can_ask t) clock (indexed_slots t) early hinted.slots))
    ∙ ap (λ (e : Effect). and_then e ready_opened) (ap (λ (e : Effect). and_then (nothing (at_time t clock)) (λ u. e)) (no_giving_up (at_time t clock) (none_overdue bounds (can_ask t) clock (indexed_slots t) early hinted.slots)))
    ∙ ap (λ (e : Effect). e) (no_opening bounds t clock before hinted)

-- ---- productions

not_due : (bound : ℕ) (clock : Ms) (state : SlotState) → clock.0 < bound → IsDueFrom bound state → state_is_due clock state ≡ false
not_due bound clock Idle early due = refl
not_due bound clock (Opening o) early due = refl
not_due bound clock (Established c) early due = not_yet clock.0 c.production.due.0 (omega (arith, early, due))
not_due bound clock (TimedOut link) early due = refl
not_due bound clock (Closing c) early due = refl

none_due : (bounds : Bounds) (asks : IndexedSlot → Bool) (clock : Ms) (all : List IndexedSlot) → clock.0 < bounds.dues.0 → AreBounded bounds asks all → filter (is_due clock) all ≡ []
none_due bounds asks clock [] early hold = refl
none_due bounds asks clock (indexed ∷ rest) early hold = rw (not_due bounds.dues.0 clock indexed.slot.state early hold.0.dues) (none_due bounds asks clock rest early hold.1)

pub nothing_sent : (bounds : Bounds) (t : ScannerTable) (clock : Ms) → IsTimed bounds t → clock.0 < bounds.dues.0 → due_productions (at_time t clock) ≡ []
nothing_sent bounds t clock hinted early = ap (λ l. filter_map (slot_production t.run) (in_order by_due l)) (none_due bounds (can_ask t) clock (indexed_slots t) early hinted.slots)

same_slots : (bounds : Bounds) (asks : IndexedSlot → Bool) (clock : Ms) (r k number : ℕ) (configs : List SlotConfig) (slots : List Slot) → clock.0 < bounds.dues.0 → SlotsFit r k configs slots → AreBounded bounds asks (indexed_from number configs slots) → map (produced_slot clock) slots ≡ slots
same_slots bounds asks clock r k number [] [] early fit hold = refl
same_slots bounds asks clock r k number [] (slot ∷ slots) early fit hold = absurd fit
same_slots bounds asks clock r k number (config ∷ configs) [] early fit hold = absurd fit
same_slots bounds asks clock r k number (config ∷ configs) (slot ∷ slots) early fit hold =
    rw (not_due bounds.dues.0 clock slot.state early hold.0.dues) (ap (λ l. slot ∷ l) (same_slots bounds asks clock r k (suc number) configs slots early fit.1 hold.1))

pub nothing_produced : (bounds : Bounds) (t : ScannerTable) (clock : Ms) → IsWellFormed t → IsTimed bounds t → clock.0 < bounds.dues.0 → produced_table (at_time t clock) ≡ at_time t clock
unfolding produced_table
nothing_produced bounds t clock whole hinted early = ap (λ (slots : List Slot). record t { clock = clock; slots = slots }) (same_slots bounds (can_ask t) clock t.next_request t.clock.0 0 t.profile.slots t.slots early whole.slots hinted.slots)
