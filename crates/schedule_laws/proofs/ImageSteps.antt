-- What an event that is no datagram does to the image of a slot: it leaves it, or zeros where the slot becomes established.
use Rattle.std.proofs.Common.{◌≡◌, ℕ, Bool, true, false, cond, List, replicate, ◌⊎◌, inl, inr, refl, sym, ◌∙◌, ap, subst}
use Rattle.cip_types.specs.declared.names.Ms.{Ms}
use Rattle.cip_events.specs.declared.event.Event.{Event}
use Rattle.cip_events.specs.declared.event.Event.TheVariants.{Frame, Datagram, Write}
use Rattle.cip_productions.specs.Kinds.{is_owner}
use Rattle.scanner_table.specs.declared.profile.SlotConfig.{SlotConfig}
use Rattle.scanner_table.specs.declared.slot.SlotConnection.{SlotConnection}
use Rattle.scanner_table.specs.declared.slot.Slot.{Slot}
use Rattle.scanner_table.specs.declared.slot.SlotState.{SlotState}
use Rattle.scanner_table.specs.declared.slot.SlotState.TheVariants.{Idle, Opening, Established, TimedOut, Closing}
use Rattle.scanner_table.specs.declared.table.ScannerTable.{ScannerTable}
use Rattle.scanner_table.specs.Opening.{opening_slot, closing_slot}
use Rattle.scanner_table.specs.Points.{output_slot}
use Rattle.scanner_table.specs.Productions.{produced_state, state_is_due, written_state}
use Rattle.scanner_table.specs.Replies.{established_slot, new_connection}
use Rattle.scanner_table.specs.Slots.{IndexedSlot, with_slot}
use Rattle.scanner_table.specs.Step.{scanner_step}
use Rattle.scanner_table.specs.Lemmas.Moves.{Leads, write_leads}
use Rattle.scanner_table.specs.Lemmas.SlotLookups.{Stands}
use Rattle.scanner_table.specs.Lemmas.Slotwise.{Goes, Relation, Slotwise, goes_kept, goes_taken, goes_widely, set_goes, set_later}
use Rattle.scanner_table.specs.Lemmas.Moves.{bare_leads}
use Rattle.cip_tables.specs.Step.{is_datagram}
use Rattle.device_laws.specs.Lemmas.Quietly.{KeptQuietly, frame_leads}

-- the slot was established by the connection's opening, with the same ids
pub record WasSame (was : SlotState) (c : SlotConnection) : Type 0 where
  pub before : SlotConnection
  pub state : was ≡ Established before
  pub opening : before.opening ≡ c.opening
  pub link : before.link ≡ c.link

abbrev pub zeros_of : SlotConfig → List ℕ
zeros_of config = replicate config.in_len 0

-- The image of a slot is what it was, or zeros. Where it is established, it was so by the same opening, or the image is zeros.
pub record Continues (config : SlotConfig) (was now : Slot) : Type 0 where
  pub image : (now.image ≡ was.image) ⊎ (now.image ≡ zeros_of config)
  pub state : (c : SlotConnection) → now.state ≡ Established c → WasSame was.state c ⊎ (now.image ≡ zeros_of config)

abbrev pub Images : Relation
Images t u number config was now = Continues config was now

same_state : (slot : Slot) (c : SlotConnection) → slot.state ≡ Established c → WasSame slot.state c
same_state slot c is = record { before = c; state = is; opening = refl; link = refl }

stays_on : (config : SlotConfig) (slot : Slot) → Continues config slot slot
stays_on config slot = record { image = inl refl; state = λ c is. inl (same_state slot c is) }

goes_after : (config : SlotConfig) (a b c : Slot) → Continues config a b → Continues config b c → Continues config a c
goes_after config a b c first next = record { image = image first.image next.image; state = λ d is. state d (next.state d is) } where
  image : (b.image ≡ a.image) ⊎ (b.image ≡ zeros_of config) → (c.image ≡ b.image) ⊎ (c.image ≡ zeros_of config) → (c.image ≡ a.image) ⊎ (c.image ≡ zeros_of config)
  image one (inr zeros) = inr zeros
  image (inl one) (inl two) = inl (two ∙ one)
  image (inr one) (inl two) = inr (two ∙ one)

  zeros : (c.image ≡ b.image) ⊎ (c.image ≡ zeros_of config) → b.image ≡ zeros_of config → c.image ≡ zeros_of config
  zeros (inl same) is = same ∙ is
  zeros (inr is) before = is

  earlier : (d : SlotConnection) → (m : WasSame b.state d) → WasSame a.state m.before ⊎ (b.image ≡ zeros_of config) → WasSame a.state d ⊎ (c.image ≡ zeros_of config)
  earlier d m (inl w) = inl (record { before = w.before; state = w.state; opening = w.opening ∙ m.opening; link = w.link ∙ m.link })
  earlier d m (inr is) = inr (zeros next.image is)

  state : (d : SlotConnection) → WasSame b.state d ⊎ (c.image ≡ zeros_of config) → WasSame a.state d ⊎ (c.image ≡ zeros_of config)
  state d (inr is) = inr is
  state d (inl m) = earlier d m (first.state m.before m.state)

-- a slot that is not established
not_established : (config : SlotConfig) (was now : Slot) (state : SlotState) → now.state ≡ state → ((c : SlotConnection) → state ≡ Established c → ⊥) → now.image ≡ was.image → Continues config was now
not_established config was now state is never image = record { image = inl image; state = λ c established. absurd (never c (sym is ∙ established)) }

produced_on : (b : Bool) (config : SlotConfig) (was : Slot) (state : SlotState) (next : SlotState → SlotState) → was.state ≡ state → ((c : SlotConnection) → next state ≡ Established c → WasSame state c) → Continues config was (cond b (record was { state = next was.state }) was)
produced_on true config was state next is same = record { image = inl refl; state = λ c established. inl (subst (λ (s : SlotState). WasSame s c) (sym is) (same c (ap next (sym is) ∙ established))) }
produced_on false config was state next is same = stays_on config was

kept_state : (next : SlotState → SlotState) (state : SlotState) (a : SlotConnection) (b : SlotConnection) → next state ≡ Established b → state ≡ Established a → b.opening ≡ a.opening → b.link ≡ a.link → (c : SlotConnection) → next state ≡ Established c → WasSame state c
kept_state next state a b is was opening link c now =
    let same : b ≡ c = connection_is b c (sym is ∙ now) in
    record { before = a; state = was; opening = sym opening ∙ ap (λ (x : SlotConnection). x.opening) same; link = sym link ∙ ap (λ (x : SlotConnection). x.link) same }
  where
    connection_is : (x y : SlotConnection) → Established x ≡ Established y → x ≡ y
    connection_is x y is = cc

written_same : (state : SlotState) (c : SlotConnection) → written_state state ≡ Established c → WasSame state c
written_same Idle c is = absurd (let e = is in cc)
written_same (Opening o) c is = absurd (let e = is in cc)
written_same (Established a) c is = kept_state written_state (Established a) a _ refl refl refl refl c is
written_same (TimedOut link) c is = absurd (let e = is in cc)
written_same (Closing a) c is = absurd (let e = is in cc)

made_same : (clock : Ms) (state : SlotState) (c : SlotConnection) → produced_state clock state ≡ Established c → WasSame state c
made_same clock Idle c is = absurd (let e = is in cc)
made_same clock (Opening o) c is = absurd (let e = is in cc)
made_same clock (Established a) c is = kept_state (produced_state clock) (Established a) a _ refl refl refl refl c is
made_same clock (TimedOut link) c is = absurd (let e = is in cc)
made_same clock (Closing a) c is = absurd (let e = is in cc)

pub images_slotwise : Slotwise Images
images_slotwise = record {
  stays = λ t u number config slot later. stays_on config slot;
  after = λ t u v number config a b c one two first next. goes_after config a b c first next;
  opening = λ t place resting left. not_established place.config place.slot (opening_slot t place) (opening_slot t place).state refl (λ c is. let e = is in cc) refl;
  idling = λ t place slot idle. not_established place.config place.slot slot Idle idle.state (λ c is. let e = is in cc) idle.image;
  timing_out = λ t place link slot is becomes. not_established place.config place.slot slot (TimedOut link) becomes.state (λ d now. let e = now in cc) becomes.image;
  closing = λ t place link desired_up is. not_established place.config place.slot (closing_slot t link desired_up place.slot) (closing_slot t link desired_up place.slot).state refl (λ d now. let e = now in cc) refl;
  producing = λ t number config slot. produced_on (state_is_due t.clock slot.state) config slot slot.state (produced_state t.clock) refl (made_same t.clock slot.state);
  moding = λ t run place. produced_on (is_owner place.config.kind) place.config place.slot place.slot.state written_state refl (written_same place.slot.state);
}

begins_on : (config : SlotConfig) (was now : Slot) → now.image ≡ zeros_of config → Continues config was now
begins_on config was now is = record { image = inr is; state = λ c established. inr is }

images_quietly : KeptQuietly (Goes Images)
images_quietly = record {
  slots = goes_kept Images images_slotwise;
  streams = (goes_widely Images images_slotwise).streams;
  clocked = (goes_widely Images images_slotwise).clocked;
  explicit = (goes_widely Images images_slotwise).explicit;
  establishing = λ t place o success stands is requested.
      let slot = established_slot place (new_connection t place o success) in
      set_goes Images images_slotwise.stays t t place slot (set_later t place.number slot) refl stands (begins_on place.config place.slot slot refl);
}

images_write : (t : ScannerTable) (place : IndexedSlot) (bytes : List ℕ) → Stands t place → Goes Images t (with_slot t place.number (output_slot bytes place.slot))
images_write t place bytes stands =
    set_goes Images images_slotwise.stays t t place (output_slot bytes place.slot) (set_later t place.number (output_slot bytes place.slot)) refl stands
    (record { image = inl refl; state = λ c is. inl (written_same place.slot.state c is) })

pub images_lead : (t : ScannerTable) (event : Event) → is_datagram event ≡ false → Leads (Goes Images) t (scanner_step t event)
images_lead t (Frame stream bytes) none = frame_leads (Goes Images) t images_quietly stream bytes
images_lead t (Datagram peer bytes) none = absurd (let e = none in cc)
images_lead t (Write point bytes) none = write_leads (Goes Images) t (images_write t) point bytes
images_lead t other none = bare_leads (Goes Images) (goes_widely Images images_slotwise) (goes_taken Images images_slotwise) t other refl
