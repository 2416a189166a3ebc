-- All numbers of the slots stay below the next ones, and no two slots have one id.
use Rattle.std.proofs.Common.{◌≡◌, ◌≢◌, ◌≤◌, ℕ, ◌+◌, ◌==◌, ◌||◌, nat_lt, Bool, true, false, cond, List, slice_get, slice_set, Option, Some, None, refl, sym, ◌∙◌, ap, subst, arith, eqb-true}
use Rattle.std.proofs.lemmas.Bool.Decides.{nat_tests}
use Rattle.std.proofs.lemmas.Option.{same_Some}
use Rattle.std.proofs.lemmas.Bool.{eqb-false}
use Rattle.cip_types.specs.declared.names.ConnId.{ConnId}
use Rattle.cip_types.specs.declared.names.Ms.{Ms}
use Rattle.cip_fwdopen.specs.declared.reply.Opened as made
use Rattle.cip_productions.specs.Kinds.{is_owner}
use Rattle.conn_state.specs.declared.names.Link.{Link}
use Rattle.conn_state.specs.Answers.{is_requested_id}
use Rattle.scanner_table.specs.declared.profile.ScannerProfile.{ScannerProfile}
use Rattle.scanner_table.specs.declared.profile.SlotConfig.{SlotConfig}
use Rattle.scanner_table.specs.declared.slot.PendingOpen as pending
use Rattle.scanner_table.specs.declared.slot.Slot.{Slot}
use Rattle.scanner_table.specs.declared.slot.SlotState.{SlotState}
use Rattle.scanner_table.specs.declared.slot.SlotState.TheVariants.{Idle, Opening, Established, TimedOut, Closing}
use Rattle.scanner_table.specs.declared.table.ScannerTable.{ScannerTable}
use Rattle.scanner_table.specs.Slots.{IndexedSlot, with_slot}
use Rattle.cip_types.specs.declared.ids.IdBlock.{IdBlock}
use Rattle.cip_types.specs.Ids.{are_blocks, end_number, id_at, ids_in, with_block, Extends}
use Rattle.cip_types.specs.IdLaws.{ids_differ, stay_blocks}
use Rattle.scanner_table.specs.Profiles.{first_ids, profile_fault}
use Rattle.scanner_table.proofs.FirstIds.{first_blocks, first_is_block}
use Rattle.scanner_table.specs.Effects.{counted}
use Rattle.scanner_table.specs.Requests.{id_or_zero}
use Rattle.scanner_table.specs.Opening.{has_id, drawn, opening_slot, closing_slot}
use Rattle.scanner_table.specs.Replies.{new_connection, established_slot}
use Rattle.scanner_table.specs.Closing.{requested_link}
use Rattle.scanner_table.specs.Datagrams.{accepted_connection}
use Rattle.scanner_table.specs.Points.{output_slot, moded_slot, moded_table}
use Rattle.scanner_table.specs.Productions.{written_state, state_is_due, produced_state, produced_slot, produced_table}
use Rattle.scanner_table.specs.Ticks.{clocked_table}
use Rattle.scanner_table.specs.Step.{scanner_table}
use Rattle.scanner_table.specs.Runs.{StepsKeep, OfEachSlot}
use Rattle.scanner_table.specs.Drawn.{IsDrawn, WantsDrawn, LinkIsDrawn, StateIsDrawn, NumbersAreDrawn, drawn_id, IdsAreOwn, NumbersAreOwn}
use Rattle.scanner_table.specs.Lemmas.SlotLookups.{get_same, get_other, Stands, indexed_at, slot_is, slot_stands}
use Rattle.scanner_table.specs.Lemmas.Moves.{link_in, Kept, KeptAlways}
use Rattle.scanner_table.specs.Lemmas.Events.{steps_lead}
use Rattle.scanner_table.specs.Lemmas.Slotwise.{Later, set_later, counted_later, Relation, StaysSo, SlotwiseAlways, Goes, stays_goes, set_goes, moded_goes, produced_goes, goes_always, Property, Stays, InSlot, id_later, was_of, of_each_slot}
use Rattle.scanner_table.specs.Lemmas.FreshSlots.{fresh_rests}

-- ---- numbers are allocated

-- with the next number, which is 1 or above
abbrev Drawn : Property
Drawn t number config slot = (1 ≤ t.next_id) × StateIsDrawn t.ids t.next_id t.next_request config.multicast slot.state

drawn_later_id : (ids other : List IdBlock) (n m : ℕ) (id : ConnId) → Extends ids other → n ≤ m → IsDrawn ids 1 n id → IsDrawn other 1 m id
drawn_later_id ids other n m id more up drawn =
    let within = drawn.within in
    let all = more.more in
    let ends = drawn.ends in
    record {
      number = drawn.number;
      is = drawn.is ∙ sym (more.same drawn.number drawn.begins drawn.within);
      within = omega (arith, within, all);
      begins = drawn.begins;
      ends = omega (arith, ends, up);
    }

wants_on : (ids other : List IdBlock) (n m : ℕ) (multicast : Bool) (requested : Option ConnId) → Extends ids other → n ≤ m → WantsDrawn ids 1 n multicast requested → WantsDrawn other 1 m multicast requested
wants_on ids other n m true None more up wants = tt
wants_on ids other n m true (Some id) more up wants = absurd wants
wants_on ids other n m false None more up wants = absurd wants
wants_on ids other n m false (Some id) more up wants = drawn_later_id ids other n m id more up wants

link_on : (ids other : List IdBlock) (n m : ℕ) (multicast : Bool) (link : Link) → Extends ids other → n ≤ m → LinkIsDrawn ids n multicast link → LinkIsDrawn other m multicast link
link_on ids other n m true link more up drawn = tt
link_on ids other n m false link more up drawn = drawn_later_id ids other n m link.t_o_id more up drawn

state_on : (ids other : List IdBlock) (n m r s : ℕ) (multicast : Bool) (state : SlotState) → Extends ids other → n ≤ m → r ≤ s → StateIsDrawn ids n r multicast state → StateIsDrawn other m s multicast state
state_on ids other n m r s multicast Idle more up on drawn = tt
state_on ids other n m r s multicast (Opening o) more up on drawn = (omega (arith, drawn.0), wants_on ids other n m multicast o.requested.t_o_id more up drawn.1)
state_on ids other n m r s multicast (Established c) more up on drawn = (omega (arith, drawn.0), link_on ids other n m multicast c.link more up drawn.1)
state_on ids other n m r s multicast (TimedOut link) more up on drawn = link_on ids other n m multicast link more up drawn
state_on ids other n m r s multicast (Closing c) more up on drawn = (omega (arith, drawn.0), link_on ids other n m multicast c.link more up drawn.1)

-- the number has an id of the blocks
within_blocks : (ids : List IdBlock) (n : ℕ) → nat_lt n (end_number ids) ≡ true → n ≤ ids_in ids
within_blocks ids n left = grind (arith, nat_tests)

wants_next : (ids : List IdBlock) (n : ℕ) (multicast : Bool) → 1 ≤ n → (multicast || nat_lt n (end_number ids)) ≡ true → WantsDrawn ids 1 (cond multicast n (n + 1)) multicast (cond multicast None (Some (id_at ids n)))
wants_next ids n true begins left = tt
wants_next ids n false begins left = record { number = n; is = refl; within = within_blocks ids n left; begins = begins; ends = omega arith }

same_id : (a b : ConnId) → (a.0 == b.0) ≡ true → a ≡ b
same_id a b is = let same : a.0 ≡ b.0 = grind (arith, nat_tests) in ap (λ (n : ℕ). let id : ConnId = record { 0 = n } in id) same

link_made : (ids : List IdBlock) (n : ℕ) (multicast : Bool) (requested : Option ConnId) (id : ConnId) → is_requested_id requested id ≡ true → WantsDrawn ids 1 n multicast requested → cond multicast (Unit {0}) (IsDrawn ids 1 n id)
link_made ids n true requested id is wants = tt
link_made ids n false None id is wants = absurd wants
link_made ids n false (Some requested) id is wants = subst (IsDrawn ids 1 n) (same_id requested id is) wants

link_is : (ids : List IdBlock) (n : ℕ) (multicast : Bool) (link : Link) → cond multicast (Unit {0}) (IsDrawn ids 1 n link.t_o_id) → LinkIsDrawn ids n multicast link
link_is ids n true link drawn = tt
link_is ids n false link drawn = drawn

state_is : (t : ScannerTable) (multicast : Bool) (state other : SlotState) → state ≡ other → StateIsDrawn t.ids t.next_id t.next_request multicast state → StateIsDrawn t.ids t.next_id t.next_request multicast other
state_is t multicast state other same drawn = subst (StateIsDrawn t.ids t.next_id t.next_request multicast) same drawn

written_drawn : (t : ScannerTable) (multicast : Bool) (state : SlotState) → StateIsDrawn t.ids t.next_id t.next_request multicast state → StateIsDrawn t.ids t.next_id t.next_request multicast (written_state state)
written_drawn t multicast Idle drawn = tt
written_drawn t multicast (Opening o) drawn = drawn
written_drawn t multicast (Established c) drawn = drawn
written_drawn t multicast (TimedOut link) drawn = drawn
written_drawn t multicast (Closing c) drawn = drawn

produced_drawn : (t : ScannerTable) (multicast : Bool) (state : SlotState) → StateIsDrawn t.ids t.next_id t.next_request multicast state → StateIsDrawn t.ids t.next_id t.next_request multicast (produced_state t.clock state)
produced_drawn t multicast Idle drawn = tt
produced_drawn t multicast (Opening o) drawn = drawn
produced_drawn t multicast (Established c) drawn = drawn
produced_drawn t multicast (TimedOut link) drawn = drawn
produced_drawn t multicast (Closing c) drawn = drawn

due_drawn : (b : Bool) (t : ScannerTable) (multicast : Bool) (slot : Slot) → StateIsDrawn t.ids t.next_id t.next_request multicast slot.state → StateIsDrawn t.ids t.next_id t.next_request multicast (cond b (record slot { state = produced_state t.clock slot.state }) slot).state
due_drawn true t multicast slot drawn = produced_drawn t multicast slot.state drawn
due_drawn false t multicast slot drawn = drawn

table_drawn : (t : ScannerTable) (number : ℕ) (config : SlotConfig) (slot : Slot) → Drawn t number config slot → Drawn (produced_table t) number config (produced_slot t.clock slot)
unfolding produced_table
table_drawn t number config slot drawn = (drawn.0, due_drawn (state_is_due t.clock slot.state) t config.multicast slot drawn.1)

moded_drawn : (b : Bool) (t : ScannerTable) (multicast : Bool) (slot : Slot) → StateIsDrawn t.ids t.next_id t.next_request multicast slot.state → StateIsDrawn t.ids t.next_id t.next_request multicast (cond b (record slot { state = written_state slot.state }) slot).state
moded_drawn true t multicast slot drawn = written_drawn t multicast slot.state drawn
moded_drawn false t multicast slot drawn = drawn

idle_drawn : (t : ScannerTable) (multicast : Bool) (state : SlotState) → state ≡ Idle → StateIsDrawn t.ids t.next_id t.next_request multicast state
idle_drawn t multicast state is = rw is tt

-- a requested id was allocated
requested_drawn : (ids : List IdBlock) (next : ℕ) (id : Option ConnId) → WantsDrawn ids 1 next false id → IsDrawn ids 1 next (id_or_zero id)
requested_drawn ids next None wants = absurd wants
requested_drawn ids next (Some id) wants = wants

-- so was the id of the connection that the slot has, or asked for
link_drawn : (t : ScannerTable) (multicast : Bool) (state : SlotState) (link : Link) → link_in state ≡ Some link → StateIsDrawn t.ids t.next_id t.next_request multicast state → LinkIsDrawn t.ids t.next_id multicast link
link_drawn t true state link is drawn = tt
link_drawn t false Idle link is drawn = absurd cc
link_drawn t false (Opening o) link is drawn = subst (LinkIsDrawn t.ids t.next_id false) (same_Some (requested_link o.requested) link is) (requested_drawn t.ids t.next_id o.requested.t_o_id drawn.1)
link_drawn t false (Established c) link is drawn = subst (LinkIsDrawn t.ids t.next_id false) (same_Some c.link link is) drawn.1
link_drawn t false (TimedOut other) link is drawn = subst (LinkIsDrawn t.ids t.next_id false) (same_Some other link is) drawn
link_drawn t false (Closing c) link is drawn = subst (LinkIsDrawn t.ids t.next_id false) (same_Some c.link link is) drawn.1

timed_out_drawn : (t : ScannerTable) (multicast : Bool) (state : SlotState) (link : Link) → state ≡ TimedOut link → LinkIsDrawn t.ids t.next_id multicast link → StateIsDrawn t.ids t.next_id t.next_request multicast state
timed_out_drawn t multicast state link is drawn = rw is drawn

drawn_always : SlotwiseAlways (Stays Drawn)
drawn_always = record {
  widely = record {
    stays = λ t u number config slot later drawn.
        let begins = drawn.0 in
        let ids = later.ids in
        (omega (arith, begins, ids), state_on t.ids u.ids t.next_id u.next_id t.next_request u.next_request config.multicast slot.state later.blocks later.ids later.requests drawn.1);
    after = λ t u v number config a b c first next before behind drawn. behind (before drawn);
    opening = λ t indexed closed_before left drawn.
        let begins = drawn.0 in
        let up = id_later indexed.config.multicast t.next_id in
        (omega (arith, begins, up), (omega arith, wants_next t.ids t.next_id indexed.config.multicast drawn.0 left));
    idling = λ t indexed slot idle drawn. (drawn.0, idle_drawn t indexed.config.multicast slot.state idle.state);
    timing_out = λ t indexed link slot is becomes drawn. (drawn.0, timed_out_drawn t indexed.config.multicast slot.state link becomes.state (link_drawn t indexed.config.multicast indexed.slot.state link is drawn.1));
    closing = λ t indexed link desired_up is drawn. (drawn.0, (omega arith, link_drawn t indexed.config.multicast indexed.slot.state link is drawn.1));
    producing = table_drawn;
    moding = λ t run indexed drawn. (drawn.0, moded_drawn (is_owner indexed.config.kind) t indexed.config.multicast indexed.slot drawn.1);
  };
  establishing = λ t indexed o success is requested drawn.
      let was = state_is t indexed.config.multicast indexed.slot.state (Opening o) is drawn.1 in
      (drawn.0, (was.0, link_is t.ids t.next_id indexed.config.multicast (new_connection t indexed o success).link (link_made t.ids t.next_id indexed.config.multicast o.requested.t_o_id success.t_o_id requested was.1)));
  writing = λ t indexed bytes drawn. (drawn.0, written_drawn t indexed.config.multicast indexed.slot.state drawn.1);
  accepting = λ t indexed d c bytes is drawn. (drawn.0, state_is t indexed.config.multicast indexed.slot.state (Established c) is.established drawn.1);
}

drawn_goes : KeptAlways (Goes (Stays Drawn))
drawn_goes = goes_always (Stays Drawn) drawn_always

-- all of it of each slot
abbrev AllDrawn : ScannerTable → Type 0
AllDrawn t = OfEachSlot (InSlot Drawn t) t

all_drawn : (t : ScannerTable) → 1 ≤ t.next_id → NumbersAreDrawn t → AllDrawn t
all_drawn t begins drawn = λ number indexed is. (begins, drawn number indexed is)

numbers_drawn : (t : ScannerTable) → AllDrawn t → NumbersAreDrawn t
numbers_drawn t all = λ number indexed is. (all number indexed is).1

numbers_stay : (t u : ScannerTable) → Goes (Stays Drawn) t u → AllDrawn t → AllDrawn u
numbers_stay t u goes drawn = of_each_slot Drawn t u goes drawn

-- ---- ids are own

-- the id of a slot of a configuration
abbrev slot_id : SlotConfig → SlotState → Option ConnId
slot_id config state = cond config.multicast None (drawn_id state)

-- no two slots have one id
abbrev Own : ScannerTable → Type 0
Own t = (a b : IndexedSlot) (id : ConnId) → a.number ≢ b.number → Stands t a → Stands t b → slot_id a.config a.slot.state ≡ Some id → slot_id b.config b.slot.state ≢ Some id

own_ids : (t : ScannerTable) → Own t → IdsAreOwn t
own_ids t own = λ a b id apart first second. own a b id apart (slot_is t a.number a first).stands (slot_is t b.number b second).stands

ids_own : (t : ScannerTable) → IdsAreOwn t → Own t
ids_own t own = λ a b id apart first second. own a b id apart (slot_stands t a first) (slot_stands t b second)

-- a slot that keeps its numbers has no id but the one that it had
abbrev IdStays : Relation
IdStays t u number config was now = Drawn t number config was → (id : ConnId) → slot_id config now.state ≡ Some id → slot_id config was.state ≡ Some id

id_stays : StaysSo IdStays
id_stays t u number config slot later = λ drawn id is. is

own_where : (t u : ScannerTable) → Goes IdStays t u → AllDrawn t → Own t → Own u
own_where t u goes drawn own a b id apart first second = λ is other.
    let was = was_of IdStays t u a goes first in
    let had = was_of IdStays t u b goes second in
    let before = indexed_at a.number a.config was.slot in
    let behind = indexed_at b.number b.config had.slot in
    own before behind id apart was.stands had.stands
    (was.holds (drawn a.number before (slot_stands t before was.stands)) id is)
    (had.holds (drawn b.number behind (slot_stands t behind had.stands)) id other)

-- ids are own in the later table
record Owns (t u : ScannerTable) : Type 0 where
  goes : Goes (Stays Drawn) t u
  blocks : are_blocks t.ids ≡ true → are_blocks u.ids ≡ true
  own : are_blocks t.ids ≡ true → AllDrawn t → Own t → Own u

owns_by : (t u : ScannerTable) → u.ids ≡ t.ids → Goes (Stays Drawn) t u → Goes IdStays t u → Owns t u
owns_by t u same goes stays = record { goes = goes; blocks = λ are. rw same are; own = λ are. own_where t u stays }

owns_after : (t u v : ScannerTable) → Owns t u → Owns u v → Owns t v
owns_after t u v first next = record {
  goes = drawn_goes.widely.slots.after t u v first.goes next.goes;
  blocks = λ are. next.blocks (first.blocks are);
  own = λ are drawn own. next.own (first.blocks are) (numbers_stay t u first.goes drawn) (first.own are drawn own);
}

-- ---- an opening has an id of its own

-- the slot is another one than the slot that opens, and stays as it was
others_stand : (t : ScannerTable) (indexed other : IndexedSlot) → other.number ≢ indexed.number → Stands (with_slot (counted (drawn t indexed.config)) indexed.number (opening_slot t indexed)) other → Stands t other
others_stand t indexed other apart stands = record { config = stands.config; slot = sym (get_other indexed.number other.number t.slots (opening_slot t indexed) apart) ∙ stands.slot }

next_id_is : (t : ScannerTable) (multicast : Bool) (id : ConnId) → cond multicast None (cond multicast None (Some (id_at t.ids t.next_id))) ≡ Some id → id ≡ id_at t.ids t.next_id
next_id_is t true id is = absurd cc
next_id_is t false id is = sym (same_Some (id_at t.ids t.next_id) id is)

-- the id of the slot that opens is the next one
opened_id : (t : ScannerTable) (indexed other : IndexedSlot) (id : ConnId) → Stands t indexed → other.number ≡ indexed.number → Stands (with_slot (counted (drawn t indexed.config)) indexed.number (opening_slot t indexed)) other → slot_id other.config other.slot.state ≡ Some id → id ≡ id_at t.ids t.next_id
opened_id t indexed other id there same stands is =
    let config : indexed.config ≡ other.config = same_Some indexed.config other.config (sym there.config ∙ subst (λ (n : ℕ). slice_get t.profile.slots n ≡ Some other.config) same stands.config) in
    let now : slice_get (slice_set t.slots indexed.number (opening_slot t indexed)) indexed.number ≡ Some other.slot = subst (λ (n : ℕ). slice_get (slice_set t.slots indexed.number (opening_slot t indexed)) n ≡ Some other.slot) same stands.slot in
    let slot : opening_slot t indexed ≡ other.slot = same_Some (opening_slot t indexed) other.slot (sym (get_same indexed.number t.slots (opening_slot t indexed) indexed.slot there.slot) ∙ now) in
    next_id_is t indexed.config.multicast id
    (subst (λ (c : SlotConfig). slot_id c (opening_slot t indexed).state ≡ Some id) (sym config)
    (subst (λ (s : Slot). slot_id other.config s.state ≡ Some id) (sym slot) is))

drawn_below : (t : ScannerTable) (multicast : Bool) (state : SlotState) (id : ConnId) → StateIsDrawn t.ids t.next_id t.next_request multicast state → cond multicast None (drawn_id state) ≡ Some id → IsDrawn t.ids 1 t.next_id id
drawn_below t true state id drawn is = absurd cc
drawn_below t false Idle id drawn is = absurd cc
drawn_below t false (Opening o) id drawn is = below o.requested.t_o_id is drawn.1 where
  below : (requested : Option ConnId) → requested ≡ Some id → WantsDrawn t.ids 1 t.next_id false requested → IsDrawn t.ids 1 t.next_id id
  below None none wants = absurd wants
  below (Some other) same wants = subst (IsDrawn t.ids 1 t.next_id) (same_Some other id same) wants
drawn_below t false (Established c) id drawn is = subst (IsDrawn t.ids 1 t.next_id) (same_Some c.link.t_o_id id is) drawn.1
drawn_below t false (TimedOut link) id drawn is = subst (IsDrawn t.ids 1 t.next_id) (same_Some link.t_o_id id is) drawn
drawn_below t false (Closing c) id drawn is = subst (IsDrawn t.ids 1 t.next_id) (same_Some c.link.t_o_id id is) drawn.1

not_drawn : (ids : List IdBlock) (next : ℕ) (id : ConnId) → are_blocks ids ≡ true → next ≤ ids_in ids → id ≡ id_at ids next → IsDrawn ids 1 next id → ⊥
not_drawn ids next id are within is drawn =
    let begins = drawn.begins in
    let ends = drawn.ends in
    let same : drawn.number ≡ next = ids_differ ids drawn.number next are drawn.begins drawn.within (omega (arith, begins, ends)) within (ap (λ (i : ConnId). i.0) (sym drawn.is ∙ is)) in
    absurd (omega (arith, same, ends))

-- of two slots of one id, where one draws the next one
next_within : (t : ScannerTable) (config : SlotConfig) (state : SlotState) (id : ConnId) → has_id t config ≡ true → slot_id config state ≡ Some id → t.next_id ≤ ids_in t.ids
next_within t config state id left has = step config.multicast left has where
  step : (m : Bool) → (m || nat_lt t.next_id (end_number t.ids)) ≡ true → cond m None (drawn_id state) ≡ Some id → t.next_id ≤ ids_in t.ids
  step true left has = absurd cc
  step false left has = within_blocks t.ids t.next_id left

opening_owns : (t : ScannerTable) (indexed : IndexedSlot) → Stands t indexed → has_id t indexed.config ≡ true → are_blocks t.ids ≡ true → AllDrawn t → Own t → Own (with_slot (counted (drawn t indexed.config)) indexed.number (opening_slot t indexed))
opening_owns t indexed there left are all own a b id apart first second is other = step (a.number == indexed.number) (b.number == indexed.number) refl refl where
  -- the slot that opens is point to point, so an id is left
  within : (other : IndexedSlot) → other.number ≡ indexed.number → Stands (with_slot (counted (drawn t indexed.config)) indexed.number (opening_slot t indexed)) other → slot_id other.config other.slot.state ≡ Some id → t.next_id ≤ ids_in t.ids
  within other same stands has =
      let config : other.config ≡ indexed.config = sym (same_Some indexed.config other.config (sym there.config ∙ subst (λ (n : ℕ). slice_get t.profile.slots n ≡ Some other.config) same stands.config)) in
      next_within t indexed.config other.slot.state id left (subst (λ (c : SlotConfig). slot_id c other.slot.state ≡ Some id) config has)

  step : (x y : Bool) → (a.number == indexed.number) ≡ x → (b.number == indexed.number) ≡ y → ⊥
  step true true one two = apart (eqb-true a.number indexed.number one ∙ sym (eqb-true b.number indexed.number two))
  step true false one two =
      let stands = others_stand t indexed b (eqb-false b.number indexed.number two) second in
      not_drawn t.ids t.next_id id are (within a (eqb-true a.number indexed.number one) first is) (opened_id t indexed a id there (eqb-true a.number indexed.number one) first is)
      (drawn_below t b.config.multicast b.slot.state id (all b.number b (slot_stands t b stands)).1 other)
  step false true one two =
      let stands = others_stand t indexed a (eqb-false a.number indexed.number one) first in
      not_drawn t.ids t.next_id id are (within b (eqb-true b.number indexed.number two) second other) (opened_id t indexed b id there (eqb-true b.number indexed.number two) second other)
      (drawn_below t a.config.multicast a.slot.state id (all a.number a (slot_stands t a stands)).1 is)
  step false false one two =
      own a b id apart (others_stand t indexed a (eqb-false a.number indexed.number one) first) (others_stand t indexed b (eqb-false b.number indexed.number two) second) is other

-- ---- the id of one slot

no_id : (multicast : Bool) (state : SlotState) (id : ConnId) → state ≡ Idle → cond multicast None (drawn_id state) ≡ Some id → ⊥
no_id true state id idle is = absurd cc
no_id false Idle id idle is = absurd cc
no_id false (Opening o) id idle is = absurd cc
no_id false (Established c) id idle is = absurd cc
no_id false (TimedOut link) id idle is = absurd cc
no_id false (Closing c) id idle is = absurd cc

-- a requested id is that of the opening
requested_t_o : (ids : List IdBlock) (next : ℕ) (requested : Option ConnId) (id : ConnId) → WantsDrawn ids 1 next false requested → Some (id_or_zero requested) ≡ Some id → requested ≡ Some id
requested_t_o ids next None id wants is = absurd wants
requested_t_o ids next (Some other) id wants is = is

-- the id of the connection that the slot has, or asked for, is the slot's
link_id : (t : ScannerTable) (multicast : Bool) (state : SlotState) (link : Link) (id : ConnId) → link_in state ≡ Some link → StateIsDrawn t.ids t.next_id t.next_request multicast state → cond multicast None (Some link.t_o_id) ≡ Some id → cond multicast None (drawn_id state) ≡ Some id
link_id t true state link id is drawn same = absurd cc
link_id t false Idle link id is drawn same = absurd cc
link_id t false (Opening o) link id is drawn same = requested_t_o t.ids t.next_id o.requested.t_o_id id drawn.1 (ap (λ (l : Link). Some l.t_o_id) (same_Some (requested_link o.requested) link is) ∙ same)
link_id t false (Established c) link id is drawn same = ap (λ (l : Link). Some l.t_o_id) (same_Some c.link link is) ∙ same
link_id t false (TimedOut other) link id is drawn same = ap (λ (l : Link). Some l.t_o_id) (same_Some other link is) ∙ same
link_id t false (Closing c) link id is drawn same = ap (λ (l : Link). Some l.t_o_id) (same_Some c.link link is) ∙ same

-- the state before had this id
same_state_id : (config : SlotConfig) (state other next : SlotState) (id : ConnId) → state ≡ other → drawn_id other ≡ drawn_id next → slot_id config next ≡ Some id → slot_id config state ≡ Some id
same_state_id config state other next id same ids is = ap (λ (x : Option ConnId). cond config.multicast None x) (ap drawn_id same ∙ ids) ∙ is

written_id : (state : SlotState) → drawn_id state ≡ drawn_id (written_state state)
written_id Idle = refl
written_id (Opening o) = refl
written_id (Established c) = refl
written_id (TimedOut link) = refl
written_id (Closing c) = refl

produced_id : (clock : Ms) (state : SlotState) → drawn_id state ≡ drawn_id (produced_state clock state)
produced_id clock Idle = refl
produced_id clock (Opening o) = refl
produced_id clock (Established c) = refl
produced_id clock (TimedOut link) = refl
produced_id clock (Closing c) = refl

due_id : (b : Bool) (clock : Ms) (slot : Slot) → drawn_id slot.state ≡ drawn_id (cond b (record slot { state = produced_state clock slot.state }) slot).state
due_id true clock slot = produced_id clock slot.state
due_id false clock slot = refl

moded_id : (b : Bool) (slot : Slot) → drawn_id slot.state ≡ drawn_id (cond b (record slot { state = written_state slot.state }) slot).state
moded_id true slot = written_id slot.state
moded_id false slot = refl

success_id : (t : ScannerTable) (multicast : Bool) (requested : Option ConnId) (made_id id : ConnId) → is_requested_id requested made_id ≡ true → WantsDrawn t.ids 1 t.next_id multicast requested → cond multicast None (Some made_id) ≡ Some id → cond multicast None requested ≡ Some id
success_id t true requested made_id id is wants same = absurd cc
success_id t false None made_id id is wants same = absurd wants
success_id t false (Some requested) made_id id is wants same = ap (λ (x : ConnId). Some x) (same_id requested made_id is) ∙ same

-- the slot's id stays, and its numbers were allocated
set_owns : (t u : ScannerTable) (indexed : IndexedSlot) (slot : Slot) → Goes (Stays Drawn) t (with_slot u indexed.number slot) → Later t (with_slot u indexed.number slot) → u.slots ≡ t.slots → u.ids ≡ t.ids → Stands t indexed → IdStays t (with_slot u indexed.number slot) indexed.number indexed.config indexed.slot slot → Owns t (with_slot u indexed.number slot)
set_owns t u indexed slot goes later same ids stands stays = owns_by t (with_slot u indexed.number slot) ids goes (set_goes IdStays id_stays t u indexed slot later same stands stays)

owns_kept : Kept Owns
owns_kept = record {
  same = λ t. owns_by t t refl (drawn_goes.widely.slots.same t) (stays_goes IdStays id_stays t t (drawn_goes.widely.slots.same t).later refl);
  after = owns_after;
  opening = λ t indexed stands closed_before place left. record { goes = drawn_goes.widely.slots.opening t indexed stands closed_before place left; blocks = λ are. are; own = opening_owns t indexed stands left };
  idling = λ t indexed slot stands idle. set_owns t t indexed slot (drawn_goes.widely.slots.idling t indexed slot stands idle) (set_later t indexed.number slot) refl refl stands (λ drawn id is. absurd (no_id indexed.config.multicast slot.state id idle.state is));
  timing_out = λ t indexed link slot stands is becomes.
      set_owns t t indexed slot (drawn_goes.widely.slots.timing_out t indexed link slot stands is becomes) (set_later t indexed.number slot) refl refl stands
      (λ drawn id same. link_id t indexed.config.multicast indexed.slot.state link id is drawn.1 (same_state_id indexed.config (TimedOut link) slot.state slot.state id (sym becomes.state) refl same));
  closing = λ t indexed link desired_up stands is.
      let slot = closing_slot t link desired_up indexed.slot in
      set_owns t (counted t) indexed slot (drawn_goes.widely.slots.closing t indexed link desired_up stands is) (counted_later t indexed.number slot) refl refl stands (λ drawn id same. link_id t indexed.config.multicast indexed.slot.state link id is drawn.1 same);
}

produced_ids : (t : ScannerTable) → (produced_table t).ids ≡ t.ids
unfolding produced_table
produced_ids t = refl

produced_owns : (t : ScannerTable) → Owns t (produced_table t)
produced_owns t = owns_by t (produced_table t) (produced_ids t) (drawn_goes.widely.producing t)
    (produced_goes IdStays (λ u number config slot drawn id. same_state_id config slot.state slot.state (produced_slot u.clock slot).state id refl (due_id (state_is_due u.clock slot.state) u.clock slot)) t)

moded_owns : (t : ScannerTable) (run : Bool) → Owns t (moded_table t run)
moded_owns t run = owns_by t (moded_table t run) refl (drawn_goes.widely.moding t run)
    (moded_goes IdStays (λ u mode indexed drawn id. same_state_id indexed.config indexed.slot.state indexed.slot.state (moded_slot indexed).state id refl (moded_id (is_owner indexed.config.kind) indexed.slot)) t run)

established_owns : (t : ScannerTable) (indexed : IndexedSlot) (o : pending.PendingOpen) (success : made.Opened) → Stands t indexed → indexed.slot.state ≡ Opening o → is_requested_id o.requested.t_o_id success.t_o_id ≡ true → Owns t (with_slot t indexed.number (established_slot indexed (new_connection t indexed o success)))
established_owns t indexed o success stands is requested =
    let slot = established_slot indexed (new_connection t indexed o success) in
    set_owns t t indexed slot (drawn_goes.establishing t indexed o success stands is requested) (set_later t indexed.number slot) refl refl stands
    (λ drawn id same. same_state_id indexed.config indexed.slot.state (Opening o) (Opening o) id is refl
    (success_id t indexed.config.multicast o.requested.t_o_id success.t_o_id id requested (state_is t indexed.config.multicast indexed.slot.state (Opening o) is drawn.1).1 same))

owns_always : KeptAlways Owns
owns_always = record {
  widely = record {
    slots = owns_kept;
    streams = λ t streams. owns_by t (record t { streams = streams }) refl (drawn_goes.widely.streams t streams) (stays_goes IdStays id_stays t (record t { streams = streams }) (drawn_goes.widely.streams t streams).later refl);
    clocked = λ t ms. owns_by t (clocked_table t ms) refl (drawn_goes.widely.clocked t ms) (stays_goes IdStays id_stays t (clocked_table t ms) (drawn_goes.widely.clocked t ms).later refl);
    producing = produced_owns;
    moding = moded_owns;
    explicit = λ t pending request later.
        let next : ScannerTable = record t { next_request = request; explicit = pending } in
        let goes = drawn_goes.widely.explicit t pending request later in
        owns_by t next refl goes (stays_goes IdStays id_stays t next goes.later refl);
  };
  taken = λ t block may.
      let next : ScannerTable = record t { ids = with_block t.ids block } in
      let goes = drawn_goes.taken t block may in
      record { goes = goes; blocks = λ are. stay_blocks t.ids block are may; own = λ are. own_where t next (stays_goes IdStays id_stays t next goes.later refl) };
  establishing = established_owns;
  writing = λ t indexed bytes stands.
      let slot = output_slot bytes indexed.slot in
      set_owns t t indexed slot (drawn_goes.writing t indexed bytes stands) (set_later t indexed.number slot) refl refl stands (λ drawn id. same_state_id indexed.config indexed.slot.state indexed.slot.state slot.state id refl (written_id indexed.slot.state));
  accepting = λ t indexed d c bytes stands is.
      let slot : Slot = record indexed.slot { state = Established (accepted_connection t.clock d c); image = bytes } in
      set_owns t t indexed slot (drawn_goes.accepting t indexed d c bytes stands is) (set_later t indexed.number slot) refl refl stands (λ drawn id. same_state_id indexed.config indexed.slot.state (Established c) slot.state id is.established refl);
}

pub steps_own : StepsKeep NumbersAreOwn
steps_own t event next is own =
    let does = steps_lead Owns owns_always t event next is in
    let all = all_drawn t own.begins own.drawn in
    let begins = own.begins in
    let up = does.goes.later.ids in
    record {
      blocks = does.blocks own.blocks;
      begins = omega (arith, begins, up);
      drawn = numbers_drawn next.1 (numbers_stay t next.1 does.goes all);
      own = own_ids next.1 (does.own own.blocks all (ids_own t own.own));
    }

-- ---- fresh scanners

pub fresh_own : (profile : ScannerProfile) → profile_fault profile ≡ None → NumbersAreOwn (scanner_table profile)
fresh_own profile faultless = record {
  blocks = first_blocks (first_ids profile) (first_is_block profile faultless);
  begins = omega arith;
  drawn = λ number indexed is. idle_drawn (scanner_table profile) indexed.config.multicast indexed.slot.state (fresh_rests profile number indexed is);
  own = λ a b id apart first second is. absurd (no_id a.config.multicast a.slot.state id (fresh_rests profile a.number a first) is);
}
