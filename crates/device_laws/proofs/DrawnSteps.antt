-- The numbers of an opening are allocated when it begins, and stay.
use Rattle.std.proofs.Common.{◌≡◌, ◌≤◌, ◌⊎◌, inl, inr, ◌<◌, ℕ, ◌+◌, ◌||◌, nat_lt, Bool, true, false, cond, List, Option, Some, None, refl, sym, ◌∙◌, subst, arith}
use Rattle.std.proofs.lemmas.Bool.Decides.{nat_tests}
use Rattle.cip_types.specs.IdLaws.{extends_itself}
use Rattle.cip_types.specs.Ids.{Extends, end_number, id_at}
use Rattle.cip_types.specs.declared.ids.IdBlock.{IdBlock}
use Rattle.cip_types.specs.declared.names.ConnId.{ConnId}
use Rattle.cip_types.specs.declared.names.Ms.{Ms}
use Rattle.cip_productions.specs.Kinds.{is_owner}
use Rattle.conn_state.specs.declared.names.Link.{Link}
use Rattle.scanner_table.specs.declared.profile.SlotConfig.{SlotConfig}
use Rattle.scanner_table.specs.declared.slot.PendingOpen as pending
use Rattle.scanner_table.specs.declared.slot.Slot.{Slot}
use Rattle.scanner_table.specs.declared.slot.SlotState.{SlotState}
use Rattle.scanner_table.specs.declared.slot.SlotState.TheVariants.{Idle, Opening, Established, TimedOut, Closing}
use Rattle.scanner_table.specs.declared.table.ScannerTable.{ScannerTable}
use Rattle.scanner_table.specs.Opening.{opening_slot}
use Rattle.scanner_table.specs.Productions.{written_state, state_is_due, produced_state}
use Rattle.scanner_table.specs.Runs.{StepsLead, EventsLead}
use Rattle.scanner_table.specs.Drawn.{WantsDrawn}
use Rattle.device_laws.specs.ScannerOpenings.{Began, OpeningsBegin}
use Rattle.scanner_table.specs.Lemmas.Events.{steps_lead, events_lead}
use Rattle.scanner_table.specs.Lemmas.Slotwise.{Later, Relation, SlotwiseAlways, Goes, goes_always, of_each_change}

-- ---- openings that begin

opens_is : (a b : pending.PendingOpen) → Opening a ≡ Opening b → a ≡ b
opens_is a b is = cc

wants_later : (old new : List IdBlock) (f g n m : ℕ) (multicast : Bool) (requested : Option ConnId) → Extends old new → 1 ≤ f → g ≤ f → n ≤ m → WantsDrawn old f n multicast requested → WantsDrawn new g m multicast requested
wants_later old new f g n m true None more one down up wants = tt
wants_later old new f g n m true (Some id) more one down up wants = absurd wants
wants_later old new f g n m false None more one down up wants = absurd wants
wants_later old new f g n m false (Some id) more one down up wants =
    let begins = wants.begins in
    let ends = wants.ends in
    let within = wants.within in
    let grows = more.more in
    record {
      number = wants.number;
      is = wants.is ∙ sym (more.same wants.number (omega (arith, one, begins)) within);
      within = omega (arith, within, grows);
      begins = omega (arith, down, begins);
      ends = omega (arith, up, ends);
    }

-- a slot that is opening has the opening that it had before, or one that began since
abbrev Opens : Relation
Opens t u number config was now = (opening : pending.PendingOpen) → now.state ≡ Opening opening → (was.state ≡ Opening opening) ⊎ Began t u config opening

began_after : (t u v : ScannerTable) (config : SlotConfig) (opening : pending.PendingOpen) → Later t u → Began u v config opening → Began t v config opening
began_after t u v config opening later began = record {
  begins = omega (arith, later.requests, began.begins);
  ends = began.ends;
  id = λ one.
      let up = later.ids in
      wants_later v.ids v.ids u.next_id t.next_id v.next_id v.next_id config.multicast opening.requested.t_o_id (extends_itself v.ids) (omega (arith, one, up)) later.ids (omega arith) (began.id (omega (arith, one, up)));
}

began_before : (t u v : ScannerTable) (config : SlotConfig) (opening : pending.PendingOpen) → Later u v → Began t u config opening → Began t v config opening
began_before t u v config opening later began = record {
  begins = began.begins;
  ends = omega (arith, later.requests, began.ends);
  id = λ one. wants_later u.ids v.ids t.next_id t.next_id u.next_id v.next_id config.multicast opening.requested.t_o_id later.blocks one (omega arith) later.ids (began.id one);
}

before_step : (t u v : ScannerTable) (config : SlotConfig) (was : SlotState) (opening : pending.PendingOpen) → Later u v → (was ≡ Opening opening) ⊎ Began t u config opening → (was ≡ Opening opening) ⊎ Began t v config opening
before_step t u v config was opening later (inl same) = inl same
before_step t u v config was opening later (inr began) = inr (began_before t u v config opening later began)

opens_after : (t u v : ScannerTable) (number : ℕ) (config : SlotConfig) (a b c : Slot) → Later t u → Later u v → Opens t u number config a b → Opens u v number config b c → Opens t v number config a c
opens_after t u v number config a b c first next before behind = λ opening is. after_step opening (behind opening is) where
  after_step : (opening : pending.PendingOpen) → (b.state ≡ Opening opening) ⊎ Began u v config opening → (a.state ≡ Opening opening) ⊎ Began t v config opening
  after_step opening (inl same) = before_step t u v config a.state opening next (before opening same)
  after_step opening (inr began) = inr (began_after t u v config opening first began)

next_drawn : (ids : List IdBlock) (n : ℕ) (multicast : Bool) → (multicast || nat_lt n (end_number ids)) ≡ true → WantsDrawn ids n (cond multicast n (n + 1)) multicast (cond multicast None (Some (id_at ids n)))
next_drawn ids n true left = tt
next_drawn ids n false left =
    let under : n < end_number ids = grind (arith, nat_tests, left) in
    record { number = n; is = refl; within = omega (arith, under); begins = omega arith; ends = omega arith }

-- the same state, if it is opening
written_opening : (state : SlotState) (opening : pending.PendingOpen) → written_state state ≡ Opening opening → state ≡ Opening opening
written_opening Idle opening is = is
written_opening (Opening o) opening is = is
written_opening (Established c) opening is = absurd cc
written_opening (TimedOut link) opening is = is
written_opening (Closing c) opening is = is

produced_opening : (clock : Ms) (state : SlotState) (opening : pending.PendingOpen) → produced_state clock state ≡ Opening opening → state ≡ Opening opening
produced_opening clock Idle opening is = is
produced_opening clock (Opening o) opening is = is
produced_opening clock (Established c) opening is = absurd cc
produced_opening clock (TimedOut link) opening is = is
produced_opening clock (Closing c) opening is = is

due_opening : (b : Bool) (clock : Ms) (slot : Slot) (opening : pending.PendingOpen) → (cond b (record slot { state = produced_state clock slot.state }) slot).state ≡ Opening opening → slot.state ≡ Opening opening
due_opening true clock slot opening is = produced_opening clock slot.state opening is
due_opening false clock slot opening is = is

moded_opening : (b : Bool) (slot : Slot) (opening : pending.PendingOpen) → (cond b (record slot { state = written_state slot.state }) slot).state ≡ Opening opening → slot.state ≡ Opening opening
moded_opening true slot opening is = written_opening slot.state opening is
moded_opening false slot opening is = is

idle_opens_none : (state : SlotState) (opening : pending.PendingOpen) → state ≡ Idle → state ≡ Opening opening → ⊥
idle_opens_none state opening idle is = absurd cc

timed_out_opens_none : (state : SlotState) (link : Link) (opening : pending.PendingOpen) → state ≡ TimedOut link → state ≡ Opening opening → ⊥
timed_out_opens_none state link opening timed_out is = absurd (let e : TimedOut link ≡ Opening opening = sym timed_out ∙ is in cc)

opens_always : SlotwiseAlways Opens
opens_always = record {
  widely = record {
    stays = λ t u number config slot later opening is. inl is;
    after = opens_after;
    opening = λ t indexed closed_before left opening is.
        let same : (opening_slot t indexed).state ≡ Opening opening = is in
        inr (subst (Began t _ indexed.config) (opens_is _ opening is) (record { begins = omega arith; ends = omega arith; id = λ one. next_drawn t.ids t.next_id indexed.config.multicast left }));
    idling = λ t indexed slot idle opening is. absurd (idle_opens_none slot.state opening idle.state is);
    timing_out = λ t indexed link slot was becomes opening is. absurd (timed_out_opens_none slot.state link opening becomes.state is);
    closing = λ t indexed link desired_up was opening is. absurd cc;
    producing = λ t number config slot opening is. inl (due_opening (state_is_due t.clock slot.state) t.clock slot opening is);
    moding = λ t run indexed opening is. inl (moded_opening (is_owner indexed.config.kind) indexed.slot opening is);
  };
  establishing = λ t indexed o success was requested opening is. absurd cc;
  writing = λ t indexed bytes opening is. inl (written_opening indexed.slot.state opening is);
  accepting = λ t indexed d c bytes was opening is. absurd cc;
}

openings_begin : (t u : ScannerTable) → Goes Opens t u → OpeningsBegin t u
openings_begin t u goes = of_each_change Opens t u goes

pub steps_begin : StepsLead OpeningsBegin
steps_begin t event next is = openings_begin t next.1 (steps_lead (Goes Opens) (goes_always Opens opens_always) t event next is)

pub events_begin : EventsLead OpeningsBegin
events_begin t events = openings_begin t _ (events_lead (Goes Opens) (goes_always Opens opens_always) t events)

-- the numbers never fall, and the blocks grow
pub events_later : EventsLead Later
events_later t events = (events_lead (Goes Opens) (goes_always Opens opens_always) t events).later
