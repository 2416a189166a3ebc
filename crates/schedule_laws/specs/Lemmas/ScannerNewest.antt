-- The second pass, of a scanner's slots: the newest datagram that each opening accepted.
use Rattle.std.proofs.Common.{◌≡◌, ◌≢◌, ℕ, ◌==◌, ◌&&◌, Bool, true, false, cond, List, [], ◌∷◌, ◌++◌, find, Option, Some, None, Result, Ok, Err, ◌⊎◌, inl, inr, refl, ◌∙◌, ap, subst, eqb-true}
use Rattle.std.proofs.lemmas.Bool.{eqb-false}
use Rattle.cip_types.specs.declared.names.Node.{Node}
use Rattle.cip_datagram.specs.declared.datagram.DatagramFault.{DatagramFault}
use Rattle.cip_datagram.specs.Datagram.{DatagramFields, datagram_text}
use Rattle.cip_datagram.specs.Reading.{datagram_reading}
use Rattle.cip_events.specs.Answers.{is_accepted}
use Rattle.cip_events.specs.declared.event.Delivery.{Delivery}
use Rattle.cip_events.specs.declared.event.Event.TheVariants as event
use Rattle.cip_events.specs.declared.event.Verdict.{Verdict}
use Rattle.cip_events.specs.declared.event.Verdict.TheVariants.{Done, Asked, BadFrame, Ignored, Value, Replied, Delivered}
use Rattle.cip_productions.specs.declared.acceptance.Accepted.{Accepted}
use Rattle.scanner_table.specs.declared.slot.SlotState.{SlotState}
use Rattle.scanner_table.specs.declared.slot.SlotState.TheVariants.{Idle, Opening, Established, TimedOut, Closing}
use Rattle.scanner_table.specs.declared.table.ScannerTable.{ScannerTable}
use Rattle.scanner_table.specs.Slots.{IndexedSlot, indexed_slots, is_numbered}
use Rattle.scanner_table.specs.Datagrams.{is_for, received}
use Rattle.device_laws.specs.ScannerDeliveries.{reports_accepted}
use Rattle.device_laws.specs.Newest as slots
use Rattle.cip_tables.specs.declared.table.DeviceTable.TheVariants.{Scanner}
use Rattle.device_laws.specs.Productions.{End, end_at, Production, IsNumbered}
use Rattle.schedule_laws.specs.Chronicle.{Acceptance, state_number, slot_number, names_in, names, accepted_by_verdict, newest}
use Rattle.device_laws.specs.Lemmas.Reading.{ComesBack, read_as}
use Rattle.schedule_laws.specs.Lemmas.AdapterNewest.{pair_of, newest_here, newest_past, pair_again, Entry}

-- what the chronicle notes of a verdict
abbrev pub Noted : ℕ → Production → ℕ → Verdict → List Acceptance
Noted device p request verdict = accepted_by_verdict device p (Some request) verdict

-- a slot's datagram is accepted or not: the newest of its opening is the pair that the table's law then_act
taken_pair : (b : Bool) (device : ℕ) (p : Production) (request : ℕ) (d : DatagramFields) (delivery : Delivery) (old : List Acceptance) → is_accepted delivery ≡ b → IsNumbered p → ComesBack p.made.datagram d →
    pair_of (newest (end_at device request) (cond b (Entry device p request delivery ∷ []) [] ++ old))
    ≡ slots.last_accepted (pair_of (newest (end_at device request) old)) (cond b (slots.acceptance_of d (Delivered delivery) ∷ []) [])
taken_pair true device p request d delivery old is numbered back = ap pair_of (newest_here (Entry device p request delivery) old (end_at device request) refl) ∙ ap Some (pair_again p d numbered back)
taken_pair false device p request d delivery old is numbered back = refl

noted_pair : (device : ℕ) (p : Production) (request : ℕ) (d : DatagramFields) (verdict : Verdict) (old : List Acceptance) → IsNumbered p → ComesBack p.made.datagram d →
    pair_of (newest (end_at device request) (Noted device p request verdict ++ old))
    ≡ slots.last_accepted (pair_of (newest (end_at device request) old)) (cond (reports_accepted verdict) (slots.acceptance_of d verdict ∷ []) [])
noted_pair device p request d Done old numbered back = refl
noted_pair device p request d BadFrame old numbered back = refl
noted_pair device p request d Ignored old numbered back = refl
noted_pair device p request d (Value bytes) old numbered back = refl
noted_pair device p request d (Replied pending status additional content) old numbered back = refl
noted_pair device p request d (Asked asks service class instance attribute body) old numbered back = refl
noted_pair device p request d (Delivered delivery) old numbered back = taken_pair (is_accepted delivery) device p request d delivery old refl numbered back

-- of another opening nothing is new
other_taken : (b : Bool) (device : ℕ) (p : Production) (request r : ℕ) (delivery : Delivery) (old : List Acceptance) → request ≢ r → newest (end_at device r) (cond b (Entry device p request delivery ∷ []) [] ++ old) ≡ newest (end_at device r) old
other_taken true device p request r delivery old ne = newest_past (Entry device p request delivery) old (end_at device r) (λ e. ne (ap (λ (x : End). x.number) e))
other_taken false device p request r delivery old ne = refl

pub other_noted : (device : ℕ) (p : Production) (request r : ℕ) (verdict : Verdict) (old : List Acceptance) → request ≢ r → newest (end_at device r) (Noted device p request verdict ++ old) ≡ newest (end_at device r) old
other_noted device p request r Done old ne = refl
other_noted device p request r BadFrame old ne = refl
other_noted device p request r Ignored old ne = refl
other_noted device p request r (Value bytes) old ne = refl
other_noted device p request r (Replied pending status additional content) old ne = refl
other_noted device p request r (Asked asks service class instance attribute body) old ne = refl
other_noted device p request r (Delivered delivery) old ne = other_taken (is_accepted delivery) device p request r delivery old ne

-- nothing is noted without a name
pub none_reported : (device : ℕ) (p : Production) (verdict : Verdict) → accepted_by_verdict device p None verdict ≡ []
none_reported device p Done = refl
none_reported device p BadFrame = refl
none_reported device p Ignored = refl
none_reported device p (Value bytes) = refl
none_reported device p (Replied pending status additional content) = refl
none_reported device p (Asked asks service class instance attribute body) = refl
none_reported device p (Delivered delivery) = refl

-- ---- what a datagram does, by the slot that it is for

-- What comes of it for a slot's number and an opening: either the pairs agree, or the datagram is accepted by another slot of
-- the same opening.
abbrev Agreed : ℕ → ℕ → Option Accepted → List Acceptance → List Acceptance → List slots.Acceptance → Type 0
Agreed device r last old mine theirs = pair_of (newest (end_at device r) (mine ++ old)) ≡ slots.last_accepted last theirs

pub came_state : (r : ℕ) (state : SlotState) (m : ℕ) → state_number state ≡ Some m → slots.came_from r state ≡ (m == r)
came_state r Idle m is = absurd (let e = is in cc)
came_state r (Opening o) m is = absurd (let e = is in cc)
came_state r (Established c) m is = ap (λ (n : ℕ). n == r) (number_same c.opening m is) where
  number_same : (a b : ℕ) → Some a ≡ Some b → a ≡ b
  number_same a b e = cc
came_state r (TimedOut link) m is = absurd (let e = is in cc)
came_state r (Closing c) m is = absurd (let e = is in cc)

-- the place's number is the slot's, or another
named_step : (x y : Bool) (device k r m : ℕ) (p : Production) (d : DatagramFields) (place : IndexedSlot) (verdict : Verdict) (old : List Acceptance) → (place.number == k) ≡ x → (m == r) ≡ y → IsNumbered p → ComesBack p.made.datagram d →
    Agreed device r (pair_of (newest (end_at device r) old)) old (Noted device p m verdict) (cond ((x && y) && reports_accepted verdict) (slots.acceptance_of d verdict ∷ []) []) ⊎ ((place.number ≢ k) × (m ≡ r))
named_step true true device k r m p d place verdict old here same numbered back =
    inl (subst (λ (n : ℕ). Agreed device n (pair_of (newest (end_at device n) old)) old (Noted device p m verdict) (cond (reports_accepted verdict) (slots.acceptance_of d verdict ∷ []) [])) (eqb-true m r same) (noted_pair device p m d verdict old numbered back))
named_step true false device k r m p d place verdict old here other numbered back = inl (ap pair_of (other_noted device p m r verdict old (eqb-false m r other)))
named_step false false device k r m p d place verdict old here other numbered back = inl (ap pair_of (other_noted device p m r verdict old (eqb-false m r other)))
named_step false true device k r m p d place verdict old there same numbered back = inr (eqb-false place.number k there, eqb-true m r same)

-- a datagram of a production at a scanner's table
pub record SlotMatches (device k r : ℕ) (p : Production) (t : ScannerTable) (peer : Node) (old : List Acceptance) : Type 0 where
  pub agreed : Agreed device r (pair_of (newest (end_at device r) old)) old (accepted_by_verdict device p (names (Scanner t) (record { from = peer; bytes = datagram_text p.made.datagram })) (received t peer (datagram_text p.made.datagram)).0.verdict) (slots.accepted_at k r t (event.Datagram peer (datagram_text p.made.datagram)))

-- another slot, which is established by this opening
pub record OtherSlot (k r : ℕ) (t : ScannerTable) : Type 0 where
  pub place : IndexedSlot
  pub there : (P : IndexedSlot → Bool) × (find P (indexed_slots t) ≡ Some place)
  pub ne : place.number ≢ k
  pub state : state_number place.slot.state ≡ Some r

state_matches : (device k r : ℕ) (p : Production) (t : ScannerTable) (d : DatagramFields) (test : IndexedSlot → Bool) (place : IndexedSlot) (verdict : Verdict) (old : List Acceptance) (number : Option ℕ) → find test (indexed_slots t) ≡ Some place → state_number place.slot.state ≡ number → IsNumbered p → ComesBack p.made.datagram d →
    Agreed device r (pair_of (newest (end_at device r) old)) old (accepted_by_verdict device p number verdict) (slots.accepted_found k r d verdict (Some place)) ⊎ OtherSlot k r t
state_matches device k r p t d test place verdict old None found is numbered back = inl (quiet_pair (slots.came_from r place.slot.state) (none_came r place.slot.state is) refl)
  where
    none_came : (r : ℕ) (state : SlotState) → state_number state ≡ None → slots.came_from r state ≡ false
    none_came r Idle e = refl
    none_came r (Opening o) e = refl
    none_came r (Established c) e = absurd (let h = e in cc)
    none_came r (TimedOut link) e = refl
    none_came r (Closing c) e = refl

    and_none : (a b c : Bool) → b ≡ false → ((a && b) && c) ≡ false
    and_none true b c e = rw e refl
    and_none false b c e = refl

    quiet_pair : (came : Bool) → came ≡ false → slots.came_from r place.slot.state ≡ came → Agreed device r (pair_of (newest (end_at device r) old)) old (accepted_by_verdict device p None verdict) (slots.accepted_found k r d verdict (Some place))
    quiet_pair came e same = rw (none_reported device p verdict, and_none (is_numbered k place) (slots.came_from r place.slot.state) (reports_accepted verdict) (same ∙ e)) refl
state_matches device k r p t d test place verdict old (Some m) found is numbered back =
    step (named_step (place.number == k) (m == r) device k r m p d place verdict old refl refl numbered back)
  where
    step : Agreed device r (pair_of (newest (end_at device r) old)) old (Noted device p m verdict) (cond (((place.number == k) && (m == r)) && reports_accepted verdict) (slots.acceptance_of d verdict ∷ []) []) ⊎ ((place.number ≢ k) × (m ≡ r)) → Agreed device r (pair_of (newest (end_at device r) old)) old (Noted device p m verdict) (slots.accepted_found k r d verdict (Some place)) ⊎ OtherSlot k r t
    step (inl agreed) = inl (rw (came_state r place.slot.state m is) agreed)
    step (inr other) = inr (record { place = place; there = (test, found); ne = other.0; state = is ∙ ap Some other.1 })

found_matches : (device k r : ℕ) (p : Production) (t : ScannerTable) (d : DatagramFields) (test : IndexedSlot → Bool) (found : Option IndexedSlot) (verdict : Verdict) (old : List Acceptance) → find test (indexed_slots t) ≡ found → IsNumbered p → ComesBack p.made.datagram d →
    Agreed device r (pair_of (newest (end_at device r) old)) old (accepted_by_verdict device p (slot_number found) verdict) (slots.accepted_found k r d verdict found) ⊎ OtherSlot k r t
found_matches device k r p t d test None verdict old is numbered back = inl (rw (none_reported device p verdict) refl)
found_matches device k r p t d test (Some place) verdict old is numbered back = state_matches device k r p t d test place verdict old (state_number place.slot.state) is refl numbered back

read_matches : (device k r : ℕ) (p : Production) (t : ScannerTable) (peer : Node) (reading : Result DatagramFields DatagramFault) (verdict : Verdict) (old : List Acceptance) → datagram_reading (datagram_text p.made.datagram) ≡ reading → IsNumbered p →
    Agreed device r (pair_of (newest (end_at device r) old)) old (accepted_by_verdict device p (names_in (Scanner t) peer reading) verdict) (slots.accepted_read k r t peer verdict reading) ⊎ OtherSlot k r t
read_matches device k r p t peer (Err why) verdict old is numbered = inl (rw (none_reported device p verdict) refl)
read_matches device k r p t peer (Ok d) verdict old is numbered = found_matches device k r p t d (is_for peer d.connection) (find (is_for peer d.connection) (indexed_slots t)) verdict old refl numbered (read_as p.made.datagram d is)

pub scanner_matches : (device k r : ℕ) (p : Production) (t : ScannerTable) (peer : Node) (old : List Acceptance) → IsNumbered p → SlotMatches device k r p t peer old ⊎ OtherSlot k r t
scanner_matches device k r p t peer old numbered = step (read_matches device k r p t peer (datagram_reading (datagram_text p.made.datagram)) (received t peer (datagram_text p.made.datagram)).0.verdict old refl numbered) where
  step : Agreed device r (pair_of (newest (end_at device r) old)) old (accepted_by_verdict device p (names_in (Scanner t) peer (datagram_reading (datagram_text p.made.datagram))) (received t peer (datagram_text p.made.datagram)).0.verdict) (slots.accepted_read k r t peer (received t peer (datagram_text p.made.datagram)).0.verdict (datagram_reading (datagram_text p.made.datagram))) ⊎ OtherSlot k r t → SlotMatches device k r p t peer old ⊎ OtherSlot k r t
  step (inl agreed) = inl (record { agreed = agreed })
  step (inr other) = inr other
