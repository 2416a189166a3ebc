-- After each event an established slot was established before it with its image and its deadline, or the event is a datagram that it
-- accepted, or the reply that established it.
use Rattle.std.proofs.Common.{◌≡◌, ◌⊎◌, inl, inr, ℕ, ◌+◌, ◌==◌, Bool, true, false, cond, List, [], ◌∷◌, find, replicate, Option, Some, None, Result, Ok, Err, refl, sym, ◌∙◌, ap, subst, eq-eqb, eqb-true}
use Rattle.base_lemmas.specs.Booleans.{and_none}
use Rattle.base_lemmas.specs.Numbers.{other_number, number_same}
use Rattle.cip_types.specs.declared.names.Ms.{Ms}
use Rattle.cip_types.specs.declared.names.Node.{Node}
use Rattle.cip_datagram.specs.declared.datagram.DatagramFault.{DatagramFault}
use Rattle.cip_datagram.specs.Datagram.{DatagramFields}
use Rattle.cip_datagram.specs.Reading.{datagram_reading}
use Rattle.cip_events.specs.declared.event.Delivery.{Delivery}
use Rattle.cip_events.specs.declared.event.Delivery.TheVariants as delivery
use Rattle.cip_events.specs.declared.event.Event.{Event}
use Rattle.cip_events.specs.declared.event.Event.TheVariants.{Frame, Datagram, Write}
use Rattle.cip_events.specs.declared.event.StepFault.{StepFault}
use Rattle.cip_events.specs.declared.event.Verdict.TheVariants.{Delivered}
use Rattle.cip_events.specs.Answers.{is_accepted}
use Rattle.cip_fwdopen.specs.declared.reply.Opened as made
use Rattle.cip_productions.specs.declared.acceptance.Accepted.{Accepted}
use Rattle.cip_productions.specs.Acceptance.{is_duplicate}
use Rattle.cip_productions.specs.Kinds.{is_owner}
use Rattle.scanner_table.specs.declared.profile.SlotConfig.{SlotConfig}
use Rattle.scanner_table.specs.declared.slot.PendingOpen as pending
use Rattle.scanner_table.specs.declared.slot.SlotConnection.{SlotConnection}
use Rattle.scanner_table.specs.declared.slot.Slot.{Slot}
use Rattle.scanner_table.specs.declared.slot.SlotState.{SlotState}
use Rattle.scanner_table.specs.declared.slot.SlotState.TheVariants.{Idle, Opening, Established, TimedOut, Closing}
use Rattle.scanner_table.specs.declared.table.ScannerTable.{ScannerTable}
use Rattle.scanner_table.specs.Slots.{IndexedSlot, indexed_slots, slot_at}
use Rattle.scanner_table.specs.Effects.{Next}
use Rattle.scanner_table.specs.Replies.{new_connection, established_slot}
use Rattle.scanner_table.specs.Datagrams.{accepts_at, is_for, accepted_connection, accepted_table, delivered, accepted, sized, state_received, received_at, received_as, received}
use Rattle.scanner_table.specs.Points.{output_slot}
use Rattle.scanner_table.specs.Productions.{written_state, state_is_due, produced_state}
use Rattle.scanner_table.specs.Step.{scanner_step}
use Rattle.device_laws.specs.Newest.{Acceptance, acceptance_of, is_connection, accepted_found, accepted_read, accepted_at}
use Rattle.scanner_table.specs.Lemmas.SlotLookups.{Stands, indexed_at, slot_is, slot_stands, each_found, each_stands}
use Rattle.scanner_table.specs.Lemmas.Moves.{KeptWidely, OrEstablished, Leads, Writes, frame_leads, write_leads, bare_leads}
use Rattle.scanner_table.specs.Lemmas.Events.{leads_next}
use Rattle.scanner_table.specs.Lemmas.Slotwise.{same_later, set_later, Relation, StaysSo, Slotwise, Goes, stays_goes, set_goes, apart_goes, goes_taken, goes_widely, was_of}
use Rattle.freshness_laws.specs.InTime.{first_timeout}
use Rattle.freshness_laws.specs.Images.{taken_found, taken_read, taken_at}

-- ---- a connection that stays

-- the slot was established before with this connection, whose last datagram, deadline, and image stay
pub record Kept (was now : Slot) (c : SlotConnection) : Type 0 where
  pub old : SlotConnection
  pub is : was.state ≡ Established old
  pub opening : old.opening ≡ c.opening
  pub last : old.last ≡ c.last
  pub deadline : old.deadline ≡ c.deadline
  pub watchdog : old.watchdog ≡ c.watchdog
  pub image : now.image ≡ was.image

abbrev Calm : Relation
Calm t u number config was now = (c : SlotConnection) → now.state ≡ Established c → Kept was now c

established_is : (a b : SlotConnection) → ◌≡◌ {A = SlotState} (Established a) (Established b) → a ≡ b
established_is a b is = cc

kept_same : (slot : Slot) → (c : SlotConnection) → slot.state ≡ Established c → Kept slot slot c
kept_same slot c is = record { old = c; is = is; opening = refl; last = refl; deadline = refl; watchdog = refl; image = refl }

kept_after : (a b d : Slot) (c : SlotConnection) (behind : Kept b d c) → Kept a b behind.old → Kept a d c
kept_after a b d c behind before = record {
  old = before.old;
  is = before.is;
  opening = before.opening ∙ behind.opening;
  last = before.last ∙ behind.last;
  deadline = before.deadline ∙ behind.deadline;
  watchdog = before.watchdog ∙ behind.watchdog;
  image = behind.image ∙ before.image;
}

not_established : (state : SlotState) (c : SlotConnection) → state ≡ Idle → state ≡ Established c → ⊥
not_established state c idle is = cc

-- the connection of a state that is changed, but for what it produces
abbrev KeptState : SlotState → SlotConnection → Type 0
KeptState state c = (old : SlotConnection) × (state ≡ Established old) × (old.opening ≡ c.opening) × (old.last ≡ c.last) × (old.deadline ≡ c.deadline) × (old.watchdog ≡ c.watchdog)

produced_kept : (clock : Ms) (state : SlotState) (c : SlotConnection) → produced_state clock state ≡ Established c → KeptState state c
produced_kept clock Idle c is = absurd (let e = is in cc)
produced_kept clock (Opening o) c is = absurd (let e = is in cc)
produced_kept clock (Established old) c is =
    let same = established_is _ c is in
    (old, refl, ap (λ (x : SlotConnection). x.opening) same, ap (λ (x : SlotConnection). x.last) same, ap (λ (x : SlotConnection). x.deadline) same, ap (λ (x : SlotConnection). x.watchdog) same)
produced_kept clock (TimedOut link) c is = absurd (let e = is in cc)
produced_kept clock (Closing p) c is = absurd (let e = is in cc)

written_kept : (state : SlotState) (c : SlotConnection) → written_state state ≡ Established c → KeptState state c
written_kept Idle c is = absurd (let e = is in cc)
written_kept (Opening o) c is = absurd (let e = is in cc)
written_kept (Established old) c is =
    let same = established_is _ c is in
    (old, refl, ap (λ (x : SlotConnection). x.opening) same, ap (λ (x : SlotConnection). x.last) same, ap (λ (x : SlotConnection). x.deadline) same, ap (λ (x : SlotConnection). x.watchdog) same)
written_kept (TimedOut link) c is = absurd (let e = is in cc)
written_kept (Closing p) c is = absurd (let e = is in cc)

kept_by : (was now : Slot) (c : SlotConnection) → KeptState was.state c → now.image ≡ was.image → Kept was now c
kept_by was now c kept image = record { old = kept.0; is = kept.1; opening = kept.2; last = kept.3; deadline = kept.4; watchdog = kept.5; image = image }

due_kept : (b : Bool) (clock : Ms) (slot : Slot) (c : SlotConnection) → (cond b (record slot { state = produced_state clock slot.state }) slot).state ≡ Established c → Kept slot (cond b (record slot { state = produced_state clock slot.state }) slot) c
due_kept true clock slot c is = kept_by slot _ c (produced_kept clock slot.state c is) refl
due_kept false clock slot c is = kept_same slot c is

moded_kept : (b : Bool) (slot : Slot) (c : SlotConnection) → (cond b (record slot { state = written_state slot.state }) slot).state ≡ Established c → Kept slot (cond b (record slot { state = written_state slot.state }) slot) c
moded_kept true slot c is = kept_by slot _ c (written_kept slot.state c is) refl
moded_kept false slot c is = kept_same slot c is

calm_slotwise : Slotwise Calm
calm_slotwise = record {
  stays = λ t u number config slot later c is. kept_same slot c is;
  after = λ t u v number config a b d first next before behind c is. kept_after a b d c (behind c is) (before (behind c is).old (behind c is).is);
  opening = λ t indexed closed_before left c is. absurd (let e = is in cc);
  idling = λ t indexed slot idle c is. absurd (not_established slot.state c idle.state is);
  timing_out = λ t indexed link slot was becomes c is. absurd (let e : TimedOut link ≡ Established c = sym becomes.state ∙ is in cc);
  closing = λ t indexed link desired_up was c is. absurd (let e = is in cc);
  producing = λ t number config slot c is. due_kept (state_is_due t.clock slot.state) t.clock slot c is;
  moding = λ t run indexed c is. moded_kept (is_owner indexed.config.kind) indexed.slot c is;
}

calm_widely : KeptWidely (Goes Calm)
calm_widely = goes_widely Calm calm_slotwise

-- ---- what an event does

-- the datagram had new data, which are the image
pub record Renews (accepted : Acceptance) (taken : Option DatagramFields) (now : Slot) : Type 0 where
  pub d : DatagramFields
  pub is : taken ≡ Some d
  pub count : accepted.datagram.count ≡ d.count
  pub image : now.image ≡ d.payload

-- it repeated the count of the last one, and the image stays
pub record Again (accepted : Acceptance) (last : Option Accepted) (was now : Slot) : Type 0 where
  pub before : Accepted
  pub is : last ≡ Some before
  pub count : accepted.datagram.count ≡ before.count
  pub image : now.image ≡ was.image

-- the connection accepted a datagram, which set its deadline
pub record Takes (accepted : List Acceptance) (taken : Option DatagramFields) (t : ScannerTable) (was now : Slot) (c : SlotConnection) : Type 0 where
  pub old : SlotConnection
  pub is : was.state ≡ Established old
  pub opening : old.opening ≡ c.opening
  pub watchdog : old.watchdog ≡ c.watchdog
  pub one : Acceptance
  pub accepts : accepted ≡ one ∷ []
  pub last : c.last ≡ Some one.datagram
  pub deadline : c.deadline.0 ≡ t.clock.0 + c.watchdog.0
  pub data_is : Renews one taken now ⊎ Again one old.last was now

-- the slot became established, with zeros and a first deadline
pub record Begins (accepted : List Acceptance) (t : ScannerTable) (config : SlotConfig) (was now : Slot) (c : SlotConnection) : Type 0 where
  pub opens : pending.PendingOpen
  pub is : was.state ≡ Opening opens
  pub silent : accepted ≡ []
  pub last : c.last ≡ None
  pub deadline : c.deadline.0 ≡ t.clock.0 + first_timeout c.watchdog.0
  pub image : now.image ≡ replicate config.in_len 0

abbrev pub SlotGoes : List Acceptance → Option DatagramFields → ScannerTable → SlotConfig → Slot → Slot → SlotConnection → Type 0
SlotGoes accepted taken t config was now c = (Kept was now c × (accepted ≡ [])) ⊎ (Takes accepted taken t was now c ⊎ Begins accepted t config was now c)

-- by what each slot's connection of an opening accepts
abbrev Accepting : Type 0
Accepting = ℕ → ℕ → List Acceptance

abbrev Taking : Type 0
Taking = ℕ → ℕ → Option DatagramFields

abbrev Moves : Accepting → Taking → Relation
Moves accepted taken t u number config was now = (c : SlotConnection) → now.state ≡ Established c → SlotGoes (accepted number c.opening) (taken number c.opening) t config was now c

-- ---- all but datagrams

abbrev no_one : Accepting
no_one number opening = []

abbrev nothing_taken : Taking
nothing_taken number opening = None

calm_moves : (accepted : Accepting) (taken : Taking) (t u : ScannerTable) → ((number opening : ℕ) → accepted number opening ≡ []) → Goes Calm t u → Goes (Moves accepted taken) t u
calm_moves accepted taken t u none goes = record {
  later = goes.later;
  fewer = goes.fewer;
  changes = λ number config was at there.
      let end = goes.changes number config was at there in
      record { now = end.now; stands = end.stands; holds = λ c is. inl (end.holds c is, none number c.opening) };
}

moves_stay : (accepted : Accepting) (taken : Taking) → ((number opening : ℕ) → accepted number opening ≡ []) → StaysSo (Moves accepted taken)
moves_stay accepted taken none t u number config slot later c is = inl (kept_same slot c is, none number c.opening)

begins : (t : ScannerTable) (indexed : IndexedSlot) (o : pending.PendingOpen) (success : made.Opened) → indexed.slot.state ≡ Opening o → (c : SlotConnection) → Established (new_connection t indexed o success) ≡ Established c → Begins [] t indexed.config indexed.slot (established_slot indexed (new_connection t indexed o success)) c
begins t indexed o success is c now =
    let same = established_is (new_connection t indexed o success) c now in
    record {
      opens = o;
      is = is;
      silent = refl;
      last = ap (λ (x : SlotConnection). x.last) (sym same);
      deadline = subst (λ (x : SlotConnection). x.deadline.0 ≡ t.clock.0 + first_timeout x.watchdog.0) same refl;
      image = refl;
    }

or_established : (t : ScannerTable) → OrEstablished (Goes Calm) (Goes (Moves no_one nothing_taken)) t
or_established t = record {
  kept = calm_widely;
  weaker = λ u goes. calm_moves no_one nothing_taken t u (λ number opening. refl) goes;
  establishing = λ indexed o success stands is requested.
      let slot = established_slot indexed (new_connection t indexed o success) in
      set_goes (Moves no_one nothing_taken) (moves_stay no_one nothing_taken (λ number opening. refl)) t t indexed slot (set_later t indexed.number slot) refl stands
      (λ c now. inr (inr (begins t indexed o success is c now)));
}

calm_leads : (t : ScannerTable) (said : Result Next StepFault) → Leads (Goes Calm) t said → Leads (Goes (Moves no_one nothing_taken)) t said
calm_leads t (Ok next) leads = calm_moves no_one nothing_taken t next.1 (λ number opening. refl) leads
calm_leads t (Err why) leads = tt

calm_writes : (t : ScannerTable) → Writes (Goes Calm) t
calm_writes t indexed bytes stands =
    set_goes Calm calm_slotwise.stays t t indexed (output_slot bytes indexed.slot) (set_later t indexed.number (output_slot bytes indexed.slot)) refl stands (λ c is. kept_by indexed.slot _ c (written_kept indexed.slot.state c is) refl)

-- ---- a datagram

-- what the slots' connections accept of a datagram with this delivery, and take
abbrev accepts_of : Option IndexedSlot → DatagramFields → Delivery → Accepting
accepts_of found d what number opening = accepted_found number opening d (Delivered what) found

abbrev takes_of : Option IndexedSlot → DatagramFields → Delivery → Taking
takes_of found d what number opening = taken_found number opening d (Delivered what) found

none_accepted : (found : Option IndexedSlot) (d : DatagramFields) (what : Delivery) → is_accepted what ≡ false → (number opening : ℕ) → accepts_of found d what number opening ≡ []
none_accepted None d what is number opening = refl
none_accepted (Some indexed) d what is number opening = rw (is, and_none (is_connection number opening indexed)) refl

-- one that is not accepted
unfed : (t : ScannerTable) (found : Option IndexedSlot) (d : DatagramFields) (what : Delivery) → is_accepted what ≡ false → Goes (Moves (accepts_of found d what) (takes_of found d what)) t t
unfed t found d what is = stays_goes (Moves (accepts_of found d what) (takes_of found d what)) (moves_stay (accepts_of found d what) (takes_of found d what) (none_accepted found d what is)) t t (same_later t) refl

-- what an accepted datagram does to its slot
abbrev fed_slot : ScannerTable → IndexedSlot → DatagramFields → SlotConnection → List ℕ → Slot
fed_slot t indexed d c bytes = record indexed.slot { state = Established (accepted_connection t.clock d c); image = bytes }

own_accepts : (indexed : IndexedSlot) (d : DatagramFields) (c : SlotConnection) (what : Delivery) → indexed.slot.state ≡ Established c → is_accepted what ≡ true → accepts_of (Some indexed) d what indexed.number c.opening ≡ acceptance_of d (Delivered what) ∷ []
own_accepts indexed d c what is accepted = rw (number_same indexed.number, is, eq-eqb c.opening c.opening refl, accepted) refl

own_takes : (indexed : IndexedSlot) (d : DatagramFields) (c : SlotConnection) → indexed.slot.state ≡ Established c → takes_of (Some indexed) d delivery.Applied indexed.number c.opening ≡ Some d
own_takes indexed d c is = rw (number_same indexed.number, is, eq-eqb c.opening c.opening refl) refl

other_accepts : (indexed : IndexedSlot) (d : DatagramFields) (what : Delivery) (number opening : ℕ) → (number == indexed.number) ≡ false → accepts_of (Some indexed) d what number opening ≡ []
other_accepts indexed d what number opening apart = rw (other_number number indexed.number apart) refl

takes_by : (t : ScannerTable) (indexed : IndexedSlot) (d : DatagramFields) (c : SlotConnection) (bytes : List ℕ) (what : Delivery) → indexed.slot.state ≡ Established c → is_accepted what ≡ true → Renews (acceptance_of d (Delivered what)) (takes_of (Some indexed) d what indexed.number c.opening) (fed_slot t indexed d c bytes) ⊎ Again (acceptance_of d (Delivered what)) c.last indexed.slot (fed_slot t indexed d c bytes) → Takes (accepts_of (Some indexed) d what indexed.number c.opening) (takes_of (Some indexed) d what indexed.number c.opening) t indexed.slot (fed_slot t indexed d c bytes) (accepted_connection t.clock d c)
takes_by t indexed d c bytes what is accepted data_is = record {
  old = c;
  is = is;
  opening = refl;
  watchdog = refl;
  one = acceptance_of d (Delivered what);
  accepts = own_accepts indexed d c what is accepted;
  last = refl;
  deadline = refl;
  data_is = data_is;
}

fed_goes : (t : ScannerTable) (indexed : IndexedSlot) (d : DatagramFields) (c : SlotConnection) (bytes : List ℕ) (what : Delivery) → Stands t indexed → indexed.slot.state ≡ Established c → is_accepted what ≡ true → Renews (acceptance_of d (Delivered what)) (takes_of (Some indexed) d what indexed.number c.opening) (fed_slot t indexed d c bytes) ⊎ Again (acceptance_of d (Delivered what)) c.last indexed.slot (fed_slot t indexed d c bytes) → Goes (Moves (accepts_of (Some indexed) d what) (takes_of (Some indexed) d what)) t (accepted_table t indexed d c bytes)
fed_goes t indexed d c bytes what stands is accepted data_is =
    let S = Moves (accepts_of (Some indexed) d what) (takes_of (Some indexed) d what) in
    let slot = fed_slot t indexed d c bytes in
    apart_goes S t t indexed slot
    (λ number config other apart c' now. inl (kept_same other c' now, other_accepts indexed d what number c'.opening apart))
    (set_later t indexed.number slot) refl stands
    (λ c' now. inr (inl (subst (λ (x : SlotConnection). Takes (accepts_of (Some indexed) d what indexed.number x.opening) (takes_of (Some indexed) d what indexed.number x.opening) t indexed.slot slot x) (established_is (accepted_connection t.clock d c) c' now)
    (takes_by t indexed d c bytes what is accepted data_is))))

again : (t : ScannerTable) (indexed : IndexedSlot) (d : DatagramFields) (c : SlotConnection) (last : Option Accepted) → c.last ≡ last → is_duplicate last d.count ≡ true → Again (acceptance_of d (Delivered delivery.Duplicate)) c.last indexed.slot (fed_slot t indexed d c indexed.slot.image)
again t indexed d c None is duplicate = absurd (let e = duplicate in cc)
again t indexed d c (Some last) is duplicate = record { before = last; is = is; count = same d.count last.count duplicate; image = refl } where
  same : (a b : ℕ) → (a == b) ≡ true → a ≡ b
  same a b is = eqb-true a b is

-- a datagram at the slot that the lookup found
abbrev FoundGoes : ScannerTable → Option IndexedSlot → DatagramFields → Next → Type 0
FoundGoes t found d next = Goes (Moves (λ number opening. accepted_found number opening d next.0.verdict found) (λ number opening. taken_found number opening d next.0.verdict found)) t next.1

duplicate_step : (b : Bool) (t : ScannerTable) (indexed : IndexedSlot) (d : DatagramFields) (c : SlotConnection) → is_duplicate c.last d.count ≡ b → Stands t indexed → indexed.slot.state ≡ Established c → FoundGoes t (Some indexed) d (cond b (delivered delivery.Duplicate (accepted_table t indexed d c indexed.slot.image)) (delivered delivery.Applied (accepted_table t indexed d c d.payload)))
duplicate_step true t indexed d c is stands opens = fed_goes t indexed d c indexed.slot.image delivery.Duplicate stands opens refl (inr (again t indexed d c c.last refl is))
duplicate_step false t indexed d c is stands opens = fed_goes t indexed d c d.payload delivery.Applied stands opens refl (inl (record { d = d; is = own_takes indexed d c opens; count = refl; image = refl }))

sequence_step : (b : Bool) (t : ScannerTable) (indexed : IndexedSlot) (d : DatagramFields) (c : SlotConnection) → Stands t indexed → indexed.slot.state ≡ Established c → FoundGoes t (Some indexed) d (cond b (accepted t indexed d c) (delivered delivery.Old t))
sequence_step true t indexed d c stands opens = duplicate_step (is_duplicate c.last d.count) t indexed d c refl stands opens
sequence_step false t indexed d c stands opens = unfed t (Some indexed) d delivery.Old refl

sized_step : (b : Bool) (t : ScannerTable) (indexed : IndexedSlot) (d : DatagramFields) (c : SlotConnection) → Stands t indexed → indexed.slot.state ≡ Established c → FoundGoes t (Some indexed) d (cond b (sized t indexed d c) (delivered delivery.WrongSize t))
sized_step true t indexed d c stands opens = sequence_step (accepts_at t indexed c d.sequence) t indexed d c stands opens
sized_step false t indexed d c stands opens = unfed t (Some indexed) d delivery.WrongSize refl

state_step : (t : ScannerTable) (indexed : IndexedSlot) (d : DatagramFields) (state : SlotState) → indexed.slot.state ≡ state → Stands t indexed → FoundGoes t (Some indexed) d (state_received t indexed d state)
state_step t indexed d Idle is stands = unfed t (Some indexed) d delivery.UnknownId refl
state_step t indexed d (Opening o) is stands = unfed t (Some indexed) d delivery.UnknownId refl
state_step t indexed d (Established c) is stands = sized_step _ t indexed d c stands is
state_step t indexed d (TimedOut link) is stands = unfed t (Some indexed) d delivery.UnknownId refl
state_step t indexed d (Closing c) is stands = unfed t (Some indexed) d delivery.UnknownId refl

found_goes : (t : ScannerTable) (d : DatagramFields) (p : IndexedSlot → Bool) (found : Option IndexedSlot) → find p (indexed_slots t) ≡ found → FoundGoes t found d (received_at t d found)
found_goes t d p None is = unfed t None d delivery.UnknownId refl
found_goes t d p (Some indexed) is = state_step t indexed d indexed.slot.state refl (each_found (Stands t) p (indexed_slots t) indexed is (each_stands t))

abbrev ReadGoes : ScannerTable → Node → Result DatagramFields DatagramFault → Next → Type 0
ReadGoes t peer reading next = Goes (Moves (λ number opening. accepted_read number opening t peer next.0.verdict reading) (λ number opening. taken_read number opening t peer next.0.verdict reading)) t next.1

read_goes : (t : ScannerTable) (peer : Node) (reading : Result DatagramFields DatagramFault) → ReadGoes t peer reading (received_as t peer reading)
read_goes t peer (Err why) = stays_goes (Moves no_one nothing_taken) (moves_stay no_one nothing_taken (λ number opening. refl)) t t (same_later t) refl
read_goes t peer (Ok d) = found_goes t d (is_for peer d.connection) (find (is_for peer d.connection) (indexed_slots t)) refl

-- ---- an event

abbrev EventGoes : ScannerTable → Event → ScannerTable → Type 0
EventGoes t event u = Goes (Moves (λ number opening. accepted_at number opening t event) (λ number opening. taken_at number opening t event)) t u

received_goes : (t : ScannerTable) (peer : Node) (bytes : List ℕ) → EventGoes t (Datagram peer bytes) (received t peer bytes).1
unfolding received
received_goes t peer bytes = read_goes t peer (datagram_reading bytes)

event_leads : (t : ScannerTable) (event : Event) → Leads (λ u v. EventGoes t event v) t (scanner_step t event)
event_leads t (Frame stream bytes) = frame_leads (Goes Calm) (Goes (Moves no_one nothing_taken)) t (or_established t) stream bytes
event_leads t (Datagram peer bytes) = received_goes t peer bytes
event_leads t (Write point bytes) = calm_leads t (scanner_step t (Write point bytes)) (write_leads (Goes Calm) t (calm_writes t) point bytes)
event_leads t other = calm_leads t (scanner_step t other) (bare_leads (Goes Calm) calm_widely (goes_taken Calm calm_slotwise) t other refl)

-- the slot of a number before an event
pub record Goes_on (number : ℕ) (t : ScannerTable) (event : Event) (now : IndexedSlot) (c : SlotConnection) : Type 0 where
  pub was : IndexedSlot
  pub stood : slot_at t number ≡ Some was
  pub config : was.config ≡ now.config
  pub goes : SlotGoes (accepted_at number c.opening t event) (taken_at number c.opening t event) t now.config was.slot now.slot c

pub step_goes : (number : ℕ) (t : ScannerTable) (event : Event) (next : Next) (now : IndexedSlot) (c : SlotConnection) → scanner_step t event ≡ Ok next → slot_at next.1 number ≡ Some now → now.slot.state ≡ Established c → Goes_on number t event now c
step_goes number t event next now c is stands opens =
    let S = Moves (λ number opening. accepted_at number opening t event) (λ number opening. taken_at number opening t event) in
    let goes : EventGoes t event next.1 = leads_next (λ u v. EventGoes t event v) t (scanner_step t event) next is (event_leads t event) in
    let at = slot_is next.1 number now stands in
    let was = was_of S t next.1 now goes at.stands in
    let before = indexed_at now.number now.config was.slot in
    record {
      was = before;
      config = refl;
      stood = subst (λ (n : ℕ). slot_at t n ≡ Some before) at.number_is (slot_stands t before was.stands);
      goes = subst (λ (n : ℕ). SlotGoes (accepted_at n c.opening t event) (taken_at n c.opening t event) t now.config was.slot now.slot c) at.number_is (was.holds c opens);
    }
