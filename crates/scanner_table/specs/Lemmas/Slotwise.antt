-- A relation of each slot as it was and as it is now, from the same relation where one slot changes.
use Rattle.std.proofs.Common.{◌≡◌, ◌≤◌, ◌<◌, ℕ, zero, suc, ◌+◌, Bool, true, false, cond, ◌==◌, List, [], ◌∷◌, map, length, length-set, slice_get, slice_set, Some, refl, sym, ◌∙◌, ap, subst, arith, eqb-true as number_is}
use Rattle.std.proofs.lemmas.List.{length-map}
use Rattle.std.proofs.lemmas.Option.{slice_get_within, same_Some}
use Rattle.std.proofs.lemmas.Bool.{eqb-false}
use Rattle.cip_types.specs.Ids.{Extends}
use Rattle.cip_types.specs.IdLaws.{extends_itself, extends_on, block_extends}
use Rattle.cip_datagram.specs.Datagram.{DatagramFields}
use Rattle.cip_fwdopen.specs.declared.reply.Opened as made
use Rattle.conn_state.specs.Answers.{is_requested_id}
use Rattle.scanner_table.specs.declared.profile.ScannerProfile.{ScannerProfile}
use Rattle.scanner_table.specs.declared.profile.SlotConfig.{SlotConfig}
use Rattle.conn_state.specs.declared.names.Link.{Link}
use Rattle.scanner_table.specs.declared.slot.SlotConnection.{SlotConnection}
use Rattle.scanner_table.specs.declared.slot.PendingOpen as opening
use Rattle.scanner_table.specs.declared.slot.Slot.{Slot}
use Rattle.scanner_table.specs.declared.slot.SlotState.TheVariants.{Opening, Established}
use Rattle.scanner_table.specs.declared.table.ScannerTable.{ScannerTable}
use Rattle.scanner_table.specs.Slots.{IndexedSlot, indexed_from, indexed_slots, with_slot, is_closed}
use Rattle.scanner_table.specs.Effects.{counted}
use Rattle.scanner_table.specs.Opening.{has_id, drawn, opening_slot, closing_slot}
use Rattle.scanner_table.specs.Step.{taken_table}
use Rattle.scanner_table.specs.Replies.{new_connection, established_slot}
use Rattle.scanner_table.specs.Datagrams.{accepted_connection, accepted_table}
use Rattle.scanner_table.specs.Points.{output_slot, moded_slot, moded_table}
use Rattle.scanner_table.specs.Productions.{produced_slot, produced_table}
use Rattle.scanner_table.specs.Ticks.{clocked_table}
use Rattle.scanner_table.specs.Runs.{OfEachSlot, OfEachChange}
use Rattle.scanner_table.specs.Lemmas.SlotLookups.{get_same, get_other, Stands, indexed_at, slot_is, slot_stands, IsIndexed}
use Rattle.scanner_table.specs.Lemmas.Moves.{BecomesIdle, link_in, BecomesTimedOut, Kept, KeptWidely, Takes, IsAccepted, KeptAlways}

-- ---- later tables

-- the profile is the same, further blocks of ids are behind the earlier ones, and neither the next numbers nor the clock fell
pub record Later (t u : ScannerTable) : Type 0 where
  pub profile : u.profile ≡ t.profile
  pub blocks : Extends t.ids u.ids
  pub ids : t.next_id ≤ u.next_id
  pub requests : t.next_request ≤ u.next_request
  pub clock : t.clock.0 ≤ u.clock.0

pub same_later : (t : ScannerTable) → Later t t
same_later t = record { profile = refl; blocks = extends_itself t.ids; ids = omega arith; requests = omega arith; clock = omega arith }

pub later_later : (t u v : ScannerTable) → Later t u → Later u v → Later t v
later_later t u v first next = record {
  profile = next.profile ∙ first.profile;
  blocks = extends_on t.ids u.ids v.ids first.blocks next.blocks;
  ids = omega (arith, first.ids, next.ids);
  requests = omega (arith, first.requests, next.requests);
  clock = omega (arith, first.clock, next.clock);
}

-- ---- slots of two tables

-- a relation of a slot as it was in a table and as it is in a later one, by its number and configuration
abbrev pub Relation : Type 1
Relation = ScannerTable → ScannerTable → ℕ → SlotConfig → Slot → Slot → Type 0

-- the slot of a number as it is now, so related to what it was
pub record Becomes (S : Relation) (t u : ScannerTable) (number : ℕ) (config : SlotConfig) (was : Slot) : Type 0 where
  pub now : Slot
  pub stands : slice_get u.slots number ≡ Some now
  pub holds : S t u number config was now

-- a later table, no more slots, and each slot so related to what it was
pub record Goes (S : Relation) (t u : ScannerTable) : Type 0 where
  pub later : Later t u
  pub fewer : length u.slots ≤ length t.slots
  pub changes : (number : ℕ) (config : SlotConfig) (was : Slot) → slice_get t.profile.slots number ≡ Some config → slice_get t.slots number ≡ Some was → Becomes S t u number config was

-- it holds of a slot that stays
abbrev pub StaysSo : Relation → Type 0
StaysSo S = (t u : ScannerTable) (number : ℕ) (config : SlotConfig) (slot : Slot) → Later t u → S t u number config slot slot

-- and of one that produced, or whose mode changed
abbrev pub ProducesSo : Relation → Type 0
ProducesSo S = (t : ScannerTable) (number : ℕ) (config : SlotConfig) (slot : Slot) → S t (produced_table t) number config slot (produced_slot t.clock slot)

abbrev pub ModesSo : Relation → Type 0
ModesSo S = (t : ScannerTable) (run : Bool) (indexed : IndexedSlot) → S t (moded_table t run) indexed.number indexed.config indexed.slot (moded_slot indexed)

-- the premises where one slot changes
pub record Slotwise (S : Relation) : Type 0 where
  pub stays : StaysSo S
  pub after : (t u v : ScannerTable) (number : ℕ) (config : SlotConfig) (a b c : Slot) → Later t u → Later u v → S t u number config a b → S u v number config b c → S t v number config a c
  pub opening : (t : ScannerTable) (indexed : IndexedSlot) → is_closed indexed.slot.state ≡ true → has_id t indexed.config ≡ true → S t (with_slot (counted (drawn t indexed.config)) indexed.number (opening_slot t indexed)) indexed.number indexed.config indexed.slot (opening_slot t indexed)
  pub idling : (t : ScannerTable) (indexed : IndexedSlot) (slot : Slot) → BecomesIdle indexed.slot slot → S t (with_slot t indexed.number slot) indexed.number indexed.config indexed.slot slot
  pub timing_out : (t : ScannerTable) (indexed : IndexedSlot) (link : Link) (slot : Slot) → link_in indexed.slot.state ≡ Some link → BecomesTimedOut link indexed.slot slot → S t (with_slot t indexed.number slot) indexed.number indexed.config indexed.slot slot
  pub closing : (t : ScannerTable) (indexed : IndexedSlot) (link : Link) (desired_up : Bool) → link_in indexed.slot.state ≡ Some link → S t (with_slot (counted t) indexed.number (closing_slot t link desired_up indexed.slot)) indexed.number indexed.config indexed.slot (closing_slot t link desired_up indexed.slot)
  pub producing : ProducesSo S
  pub moding : ModesSo S

-- ---- one slot is another

-- it holds of each slot that stays, but that of a number
abbrev pub StaysElsewhere : Relation → ScannerTable → ScannerTable → ℕ → Type 0
StaysElsewhere S t u indexed = (number : ℕ) (config : SlotConfig) (slot : Slot) → (number == indexed) ≡ false → S t u number config slot slot

set_step : (b : Bool) (S : Relation) (t u : ScannerTable) (indexed : IndexedSlot) (slot : Slot) → StaysElsewhere S t (with_slot u indexed.number slot) indexed.number → (number : ℕ) (config : SlotConfig) (was : Slot) → (number == indexed.number) ≡ b → u.slots ≡ t.slots → Stands t indexed → S t (with_slot u indexed.number slot) indexed.number indexed.config indexed.slot slot → slice_get t.profile.slots number ≡ Some config → slice_get t.slots number ≡ Some was → Becomes S t (with_slot u indexed.number slot) number config was
set_step true S t u indexed slot by number config was is same stands turns at there =
    let one : number ≡ indexed.number = number_is number indexed.number is in
    let c : indexed.config ≡ config = same_Some indexed.config config (sym stands.config ∙ subst (λ (n : ℕ). slice_get t.profile.slots n ≡ Some config) one at) in
    let s : indexed.slot ≡ was = same_Some indexed.slot was (sym stands.slot ∙ subst (λ (n : ℕ). slice_get t.slots n ≡ Some was) one there) in
    record {
      now = slot;
      stands = subst (λ (n : ℕ). slice_get (slice_set u.slots indexed.number slot) n ≡ Some slot) (sym one) (get_same indexed.number u.slots slot indexed.slot (subst (λ (xs : List Slot). slice_get xs indexed.number ≡ Some indexed.slot) (sym same) stands.slot));
      holds = subst (λ (n : ℕ). S t (with_slot u indexed.number slot) n config was slot) (sym one)
          (subst (λ (x : Slot). S t (with_slot u indexed.number slot) indexed.number config x slot) s (subst (λ (x : SlotConfig). S t (with_slot u indexed.number slot) indexed.number x indexed.slot slot) c turns));
    }
set_step false S t u indexed slot by number config was is same stands turns at there = record {
  now = was;
  stands = get_other indexed.number number u.slots slot (eqb-false number indexed.number is) ∙ subst (λ (xs : List Slot). slice_get xs number ≡ Some was) (sym same) there;
  holds = by number config was is;
}

-- one slot changes, and it holds of all others, which stay
pub apart_goes : (S : Relation) (t u : ScannerTable) (indexed : IndexedSlot) (slot : Slot) → StaysElsewhere S t (with_slot u indexed.number slot) indexed.number → Later t (with_slot u indexed.number slot) → u.slots ≡ t.slots → Stands t indexed → S t (with_slot u indexed.number slot) indexed.number indexed.config indexed.slot slot → Goes S t (with_slot u indexed.number slot)
apart_goes S t u indexed slot by later same stands turns = record {
  later = later;
  fewer = rw (length-set u.slots indexed.number slot, same) (omega arith);
  changes = λ number config was at there. set_step (number == indexed.number) S t u indexed slot by number config was refl same stands turns at there;
}

pub set_goes : (S : Relation) → StaysSo S → (t u : ScannerTable) (indexed : IndexedSlot) (slot : Slot) → Later t (with_slot u indexed.number slot) → u.slots ≡ t.slots → Stands t indexed → S t (with_slot u indexed.number slot) indexed.number indexed.config indexed.slot slot → Goes S t (with_slot u indexed.number slot)
set_goes S by t u indexed slot later same stands turns =
    apart_goes S t u indexed slot (λ number config was is. by t (with_slot u indexed.number slot) number config was later) later same stands turns

pub stays_goes : (S : Relation) → StaysSo S → (t u : ScannerTable) → Later t u → u.slots ≡ t.slots → Goes S t u
stays_goes S by t u later same = record {
  later = later;
  fewer = rw same (omega arith);
  changes = λ number config was at there. record { now = was; stands = rw same there; holds = by t u number config was later };
}

goes_after : (S : Relation) → Slotwise S → (t u v : ScannerTable) → Goes S t u → Goes S u v → Goes S t v
goes_after S by t u v first next = record {
  later = later_later t u v first.later next.later;
  fewer = omega (arith, first.fewer, next.fewer);
  changes = λ number config was at there.
      let mid = first.changes number config was at there in
      let end = next.changes number config mid.now (rw first.later.profile at) mid.stands in
      record { now = end.now; stands = end.stands; holds = by.after t u v number config was mid.now end.now first.later next.later mid.holds end.holds };
}

-- ---- all slots are others

pub get_map : {A : Type 0} → (f : A → A) (k : ℕ) (xs : List A) (x : A) → slice_get xs k ≡ Some x → slice_get (map f xs) k ≡ Some (f x)
get_map f k [] x is = absurd cc
get_map f zero (y ∷ xs) x is = ap (λ z. Some (f z)) (same_Some y x is)
get_map f (suc k) (y ∷ xs) x is = get_map f k xs x is

get_moded : (n k : ℕ) (configs : List SlotConfig) (slots : List Slot) (config : SlotConfig) (slot : Slot) → slice_get configs k ≡ Some config → slice_get slots k ≡ Some slot → slice_get (map moded_slot (indexed_from n configs slots)) k ≡ Some (moded_slot (indexed_at (n + k) config slot))
get_moded n k [] slots config slot is there = absurd cc
get_moded n k (c ∷ configs) [] config slot is there = absurd cc
get_moded n zero (c ∷ configs) (s ∷ slots) config slot is there =
    let same : n ≡ n + 0 = omega arith in
    rw (same_Some c config is, same_Some s slot there) (ap (λ (m : ℕ). Some (moded_slot (indexed_at m config slot))) same)
get_moded n (suc k) (c ∷ configs) (s ∷ slots) config slot is there =
    let same : suc n + k ≡ n + suc k = omega arith in
    subst (λ (m : ℕ). slice_get (map moded_slot (indexed_from (suc n) configs slots)) k ≡ Some (moded_slot (indexed_at m config slot))) same (get_moded (suc n) k configs slots config slot is there)

fewer_slots : (n : ℕ) (configs : List SlotConfig) (slots : List Slot) → length (indexed_from n configs slots) ≤ length slots
fewer_slots n [] slots = omega arith
fewer_slots n (config ∷ configs) [] = omega arith
fewer_slots n (config ∷ configs) (slot ∷ slots) = omega (arith, fewer_slots (suc n) configs slots)

moded_stands : (t : ScannerTable) (number : ℕ) (config : SlotConfig) (slot : Slot) → slice_get t.profile.slots number ≡ Some config → slice_get t.slots number ≡ Some slot → slice_get (map moded_slot (indexed_slots t)) number ≡ Some (moded_slot (indexed_at number config slot))
moded_stands t number config slot is there =
    let same : 0 + number ≡ number = omega arith in
    subst (λ (m : ℕ). slice_get (map moded_slot (indexed_slots t)) number ≡ Some (moded_slot (indexed_at m config slot))) same (get_moded 0 number t.profile.slots t.slots config slot is there)

pub moded_goes : (S : Relation) → ModesSo S → (t : ScannerTable) (run : Bool) → Goes S t (moded_table t run)
moded_goes S by t run = record {
  later = record { profile = refl; blocks = extends_itself t.ids; ids = omega arith; requests = omega arith; clock = omega arith };
  fewer = rw (length-map (indexed_slots t) moded_slot) (fewer_slots 0 t.profile.slots t.slots);
  changes = λ number config was at there. record {
    now = moded_slot (indexed_at number config was);
    stands = moded_stands t number config was at there;
    holds = by t run (indexed_at number config was);
  };
}

pub produced_goes : (S : Relation) → ProducesSo S → (t : ScannerTable) → Goes S t (produced_table t)
unfolding produced_table
produced_goes S by t = record {
  later = record { profile = refl; blocks = extends_itself t.ids; ids = omega arith; requests = omega arith; clock = omega arith };
  fewer = rw (length-map t.slots (produced_slot t.clock)) (omega arith);
  changes = λ number config was at there. record {
    now = produced_slot t.clock was;
    stands = get_map (produced_slot t.clock) number t.slots was there;
    holds = by t number config was;
  };
}

-- ---- the effects of an event

pub id_later : (multicast : Bool) (next : ℕ) → next ≤ cond multicast next (next + 1)
id_later true next = omega arith
id_later false next = omega arith

pub drawn_later : (t : ScannerTable) (config : SlotConfig) (number : ℕ) (slot : Slot) → Later t (with_slot (counted (drawn t config)) number slot)
drawn_later t config number slot = record { profile = refl; blocks = extends_itself t.ids; ids = id_later config.multicast t.next_id; requests = omega arith; clock = omega arith }

pub counted_later : (t : ScannerTable) (number : ℕ) (slot : Slot) → Later t (with_slot (counted t) number slot)
counted_later t number slot = record { profile = refl; blocks = extends_itself t.ids; ids = omega arith; requests = omega arith; clock = omega arith }

pub set_later : (t : ScannerTable) (number : ℕ) (slot : Slot) → Later t (with_slot t number slot)
set_later t number slot = record { profile = refl; blocks = extends_itself t.ids; ids = omega arith; requests = omega arith; clock = omega arith }

pub goes_kept : (S : Relation) → Slotwise S → Kept (Goes S)
goes_kept S by = record {
  same = λ t. stays_goes S by.stays t t (same_later t) refl;
  after = goes_after S by;
  opening = λ t indexed stands closed_before place left. set_goes S by.stays t (counted (drawn t indexed.config)) indexed (opening_slot t indexed) (drawn_later t indexed.config indexed.number (opening_slot t indexed)) refl stands (by.opening t indexed closed_before left);
  idling = λ t indexed slot stands idle. set_goes S by.stays t t indexed slot (set_later t indexed.number slot) refl stands (by.idling t indexed slot idle);
  timing_out = λ t indexed link slot stands is becomes. set_goes S by.stays t t indexed slot (set_later t indexed.number slot) refl stands (by.timing_out t indexed link slot is becomes);
  closing = λ t indexed link desired_up stands is.
      let slot = closing_slot t link desired_up indexed.slot in
      set_goes S by.stays t (counted t) indexed slot (counted_later t indexed.number slot) refl stands (by.closing t indexed link desired_up is);
}

pub goes_widely : (S : Relation) → Slotwise S → KeptWidely (Goes S)
goes_widely S by = record {
  slots = goes_kept S by;
  streams = λ t streams. stays_goes S by.stays t (record t { streams = streams }) (record { profile = refl; blocks = extends_itself t.ids; ids = omega arith; requests = omega arith; clock = omega arith }) refl;
  clocked = λ t ms. stays_goes S by.stays t (clocked_table t ms) (record { profile = refl; blocks = extends_itself t.ids; ids = omega arith; requests = omega arith; clock = omega arith }) refl;
  producing = produced_goes S by.producing;
  moding = moded_goes S by.moding;
  explicit = λ t pending request later. stays_goes S by.stays t (record t { next_request = request; explicit = pending }) (record { profile = refl; blocks = extends_itself t.ids; ids = omega arith; requests = later; clock = omega arith }) refl;
}

pub goes_taken : (S : Relation) → Slotwise S → Takes (Goes S)
goes_taken S by t block may = stays_goes S by.stays t (taken_table t block) (record { profile = refl; blocks = block_extends t.ids block may; ids = omega arith; requests = omega arith; clock = omega arith }) refl

-- the premises where a slot becomes established, is written, or accepts a datagram
pub record SlotwiseAlways (S : Relation) : Type 0 where
  pub widely : Slotwise S
  pub establishing : (t : ScannerTable) (indexed : IndexedSlot) (o : opening.PendingOpen) (success : made.Opened) → indexed.slot.state ≡ Opening o → is_requested_id o.requested.t_o_id success.t_o_id ≡ true → S t (with_slot t indexed.number (established_slot indexed (new_connection t indexed o success))) indexed.number indexed.config indexed.slot (established_slot indexed (new_connection t indexed o success))
  pub writing : (t : ScannerTable) (indexed : IndexedSlot) (bytes : List ℕ) → S t (with_slot t indexed.number (output_slot bytes indexed.slot)) indexed.number indexed.config indexed.slot (output_slot bytes indexed.slot)
  pub accepting : (t : ScannerTable) (indexed : IndexedSlot) (d : DatagramFields) (c : SlotConnection) (bytes : List ℕ) → IsAccepted indexed d c bytes → S t (accepted_table t indexed d c bytes) indexed.number indexed.config indexed.slot (record indexed.slot { state = Established (accepted_connection t.clock d c); image = bytes })

pub goes_always : (S : Relation) → SlotwiseAlways S → KeptAlways (Goes S)
goes_always S by = record {
  widely = goes_widely S by.widely;
  taken = goes_taken S by.widely;
  establishing = λ t indexed o success stands is requested.
      let slot = established_slot indexed (new_connection t indexed o success) in
      set_goes S by.widely.stays t t indexed slot (set_later t indexed.number slot) refl stands (by.establishing t indexed o success is requested);
  writing = λ t indexed bytes stands. set_goes S by.widely.stays t t indexed (output_slot bytes indexed.slot) (set_later t indexed.number (output_slot bytes indexed.slot)) refl stands (by.writing t indexed bytes);
  accepting = λ t indexed d c bytes stands is.
      let slot : Slot = record indexed.slot { state = Established (accepted_connection t.clock d c); image = bytes } in
      set_goes S by.widely.stays t t indexed slot (set_later t indexed.number slot) refl stands (by.accepting t indexed d c bytes is);
}

-- ---- the laws

-- each change is so related
abbrev pub InSlots : Relation → ScannerTable → ScannerTable → IndexedSlot → IndexedSlot → Type 0
InSlots S t u was now = S t u now.number now.config was.slot now.slot

change_holds : (S : Relation) (t u : ScannerTable) (number : ℕ) (was now : IndexedSlot) → Goes S t u → IsIndexed t number was → IsIndexed u number now → InSlots S t u was now
change_holds S t u number was now goes before behind =
    let at : slice_get t.profile.slots was.number ≡ Some was.config = before.stands.config in
    let same : was.number ≡ now.number = before.number_is ∙ sym behind.number_is in
    let end = goes.changes was.number was.config was.slot at before.stands.slot in
    let config : was.config ≡ now.config = same_Some was.config now.config (sym (subst (λ (n : ℕ). slice_get t.profile.slots n ≡ Some was.config) same at) ∙ subst (λ (p : ScannerProfile). slice_get p.slots now.number ≡ Some now.config) goes.later.profile behind.stands.config) in
    let slot : end.now ≡ now.slot = same_Some end.now now.slot (sym (subst (λ (n : ℕ). slice_get u.slots n ≡ Some end.now) same end.stands) ∙ behind.stands.slot) in
    subst (λ (x : Slot). S t u now.number now.config was.slot x) slot
    (subst (λ (x : SlotConfig). S t u now.number x was.slot end.now) config
    (subst (λ (n : ℕ). S t u n was.config was.slot end.now) same end.holds))

pub of_each_change : (S : Relation) (t u : ScannerTable) → Goes S t u → OfEachChange (InSlots S t u) t u
of_each_change S t u goes = λ number was now before behind. change_holds S t u number was now goes (slot_is t number was before) (slot_is u number now behind)

-- ---- properties of each slot

-- a property of a slot in a table, by its number and configuration
abbrev pub Property : Type 1
Property = ScannerTable → ℕ → SlotConfig → Slot → Type 0

-- the property stays
abbrev pub Stays : Property → Relation
Stays P t u number config was now = P t number config was → P u number config now

abbrev pub InSlot : Property → ScannerTable → IndexedSlot → Type 0
InSlot P t indexed = P t indexed.number indexed.config indexed.slot

get_some : {A : Type 0} → (k : ℕ) (xs : List A) → k < length xs → (x : A) × (slice_get xs k ≡ Some x)
get_some k [] less = absurd (omega (arith, less))
get_some zero (x ∷ xs) less = (x, refl)
get_some (suc k) (x ∷ xs) less = get_some k xs (omega (arith, less))

-- the slot of a later table as it was
pub record Was (S : Relation) (t u : ScannerTable) (indexed : IndexedSlot) : Type 0 where
  pub slot : Slot
  pub stands : Stands t (indexed_at indexed.number indexed.config slot)
  pub holds : S t u indexed.number indexed.config slot indexed.slot

pub was_of : (S : Relation) (t u : ScannerTable) (indexed : IndexedSlot) → Goes S t u → Stands u indexed → Was S t u indexed
was_of S t u indexed goes stands =
    let within : indexed.number < length t.slots = omega (arith, slice_get_within u.slots indexed.number indexed.slot stands.slot, goes.fewer) in
    let old = get_some indexed.number t.slots within in
    let config : slice_get t.profile.slots indexed.number ≡ Some indexed.config = subst (λ (p : ScannerProfile). slice_get p.slots indexed.number ≡ Some indexed.config) goes.later.profile stands.config in
    let end = goes.changes indexed.number indexed.config old.0 config old.1 in
    record {
      slot = old.0;
      stands = record { config = config; slot = old.1 };
      holds = subst (λ (x : Slot). S t u indexed.number indexed.config old.0 x) (same_Some end.now indexed.slot (sym end.stands ∙ stands.slot)) end.holds;
    }

property_holds : (P : Property) (t u : ScannerTable) (indexed : IndexedSlot) → Goes (Stays P) t u → Stands u indexed → OfEachSlot (InSlot P t) t → InSlot P u indexed
property_holds P t u indexed goes stands all =
    let was = was_of (Stays P) t u indexed goes stands in
    was.holds (all indexed.number (indexed_at indexed.number indexed.config was.slot) (slot_stands t (indexed_at indexed.number indexed.config was.slot) was.stands))

pub of_each_slot : (P : Property) (t u : ScannerTable) → Goes (Stays P) t u → OfEachSlot (InSlot P t) t → OfEachSlot (InSlot P u) u
of_each_slot P t u goes all = λ number indexed is. property_holds P t u indexed goes (slot_is u number indexed is).stands all
