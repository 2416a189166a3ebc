-- A scanner's slots and what they produced: each step keeps that they agree.
use Rattle.std.proofs.Common.{◌≡◌, ◌≢◌, ◌≤◌, ◌<◌, ℕ, ◌==◌, Bool, true, false, cond, List, [], ◌++◌, slice_get, slice_set, Some, ◌⊎◌, inl, inr, refl, sym, ◌∙◌, ap, subst, arith, eqb-true}
use Rattle.std.specs.Int.{w32, to_le_bytes}
use Rattle.std.proofs.lemmas.Option.{same_Some}
use Rattle.std.proofs.lemmas.Bool.{eqb-false}
use Rattle.cip_datagram.specs.Header.{mode_header}
use Rattle.cip_productions.specs.Kinds.{is_owner}
use Rattle.conn_state.specs.declared.names.Link.{Link}
use Rattle.scanner_table.specs.declared.profile.SlotConfig.{SlotConfig}
use Rattle.scanner_table.specs.declared.slot.Slot.{Slot}
use Rattle.scanner_table.specs.declared.slot.SlotState.{SlotState}
use Rattle.scanner_table.specs.declared.slot.SlotState.TheVariants.{Idle, Opening, Established, TimedOut, Closing}
use Rattle.scanner_table.specs.declared.table.ScannerTable.{ScannerTable}
use Rattle.scanner_table.specs.Slots.{IndexedSlot, with_slot, is_closed}
use Rattle.scanner_table.specs.Effects.{counted}
use Rattle.scanner_table.specs.Opening.{drawn, opening_slot, closing_slot}
use Rattle.scanner_table.specs.Replies.{new_connection, established_slot}
use Rattle.scanner_table.specs.Datagrams.{accepted_connection}
use Rattle.scanner_table.specs.Points.{output_slot}
use Rattle.scanner_table.specs.Productions.{written_state}
use Rattle.scanner_table.specs.Lemmas.SlotLookups.{get_same, get_other, Stands, indexed_at}
use Rattle.scanner_table.specs.Lemmas.Moves.{Kept, Writes, Accepts, Establishes}
use Rattle.device_laws.specs.Productions.{end_at, Production}
use Rattle.device_laws.specs.Lemmas.Books.{HasNotProduced, ProducerBooks, begun, rewritten}
use Rattle.device_laws.specs.Lemmas.Quietly.{KeptQuietly}

-- ---- what slots say

-- what an owner sends, and what another slot does
abbrev pub output_data : Bool → SlotConfig → Slot → List ℕ
output_data run config slot = cond (is_owner config.kind) (to_le_bytes w32 (mode_header run) ++ slot.output) []

-- an opening that is asked for has produced nothing; the producer of an open connection has its books
abbrev pub StateBooks : List Production → ℕ → Bool → ℕ → SlotConfig → Slot → SlotState → Type 0
StateBooks sent device run next config slot Idle = Unit {0}
StateBooks sent device run next config slot (Opening o) = (o.request < next) × HasNotProduced sent (end_at device o.request)
StateBooks sent device run next config slot (Established c) = (c.opening < next) × ProducerBooks sent (end_at device c.opening) c.production (output_data run config slot)
StateBooks sent device run next config slot (TimedOut link) = Unit {0}
StateBooks sent device run next config slot (Closing c) = Unit {0}

-- the slot waits for the answer to the opening of this request number, or is open by it
abbrev pub opening_in : ℕ → SlotState → Bool
opening_in r Idle = false
opening_in r (Opening o) = o.request == r
opening_in r (Established c) = c.opening == r
opening_in r (TimedOut link) = false
opening_in r (Closing c) = false

pub record ScannerBooks (sent : List Production) (device : ℕ) (t : ScannerTable) : Type 0 where
  pub unproduced : (r : ℕ) → t.next_request ≤ r → HasNotProduced sent (end_at device r)
  pub slots : (place : IndexedSlot) → Stands t place → StateBooks sent device t.run t.next_request place.config place.slot place.slot.state
  pub distinct : (a b : IndexedSlot) (r : ℕ) → Stands t a → Stands t b → opening_in r a.slot.state ≡ true → opening_in r b.slot.state ≡ true → a.number ≡ b.number

-- ---- one slot is another

state_on : (sent : List Production) (device : ℕ) (run : Bool) (next more : ℕ) (config : SlotConfig) (slot : Slot) (state : SlotState) → next ≤ more → StateBooks sent device run next config slot state → StateBooks sent device run more config slot state
state_on sent device run next more config slot Idle up ok = tt
state_on sent device run next more config slot (Opening o) up ok = (omega (arith, ok.0, up), ok.1)
state_on sent device run next more config slot (Established c) up ok = (omega (arith, ok.0, up), ok.1)
state_on sent device run next more config slot (TimedOut link) up ok = tt
state_on sent device run next more config slot (Closing c) up ok = tt

-- an opening of a slot was numbered
pub numbered : (sent : List Production) (device : ℕ) (run : Bool) (next r : ℕ) (config : SlotConfig) (slot : Slot) (state : SlotState) → StateBooks sent device run next config slot state → opening_in r state ≡ true → r < next
numbered sent device run next r config slot Idle ok is = absurd (let h = is in cc)
numbered sent device run next r config slot (Opening o) ok is = subst (λ (n : ℕ). n < next) (eqb-true o.request r is) ok.0
numbered sent device run next r config slot (Established c) ok is = subst (λ (n : ℕ). n < next) (eqb-true c.opening r is) ok.0
numbered sent device run next r config slot (TimedOut link) ok is = absurd (let h = is in cc)
numbered sent device run next r config slot (Closing c) ok is = absurd (let h = is in cc)

-- a table with the slots of another, which may have drawn another request number
pub record Alike (t u : ScannerTable) : Type 0 where
  pub profile : u.profile ≡ t.profile
  pub slots : u.slots ≡ t.slots
  pub run : u.run ≡ t.run
  pub requests : t.next_request ≤ u.next_request

-- a place is the one that was set, or stood before
abbrev pub SetCases : ScannerTable → IndexedSlot → Slot → IndexedSlot → Type 0
SetCases t place slot a = (a ≡ indexed_at place.number place.config slot) ⊎ ((a.number ≢ place.number) × Stands t a)

place_as : (a : IndexedSlot) (number : ℕ) (config : SlotConfig) (slot : Slot) → a.number ≡ number → a.config ≡ config → a.slot ≡ slot → a ≡ indexed_at number config slot
place_as a number config slot one two three = ap (λ (n : ℕ). indexed_at n a.config a.slot) one ∙ ap (λ (c : SlotConfig). indexed_at number c a.slot) two ∙ ap (λ (s : Slot). indexed_at number config s) three

set_step : (b : Bool) (t u : ScannerTable) (place : IndexedSlot) (slot : Slot) (a : IndexedSlot) → (a.number == place.number) ≡ b → Alike t u → Stands t place → Stands (with_slot u place.number slot) a → SetCases t place slot a
set_step true t u place slot a is alike stands there =
    let one : a.number ≡ place.number = eqb-true a.number place.number is in
    let at : slice_get t.profile.slots place.number ≡ Some a.config = subst (λ (n : ℕ). slice_get t.profile.slots n ≡ Some a.config) one (rw (sym alike.profile) there.config) in
    let here : slice_get (slice_set u.slots place.number slot) place.number ≡ Some a.slot = subst (λ (n : ℕ). slice_get (slice_set u.slots place.number slot) n ≡ Some a.slot) one there.slot in
    let own : slice_get (slice_set u.slots place.number slot) place.number ≡ Some slot = get_same place.number u.slots slot place.slot (rw alike.slots stands.slot) in
    inl (place_as a place.number place.config slot one (same_Some a.config place.config (sym at ∙ stands.config)) (same_Some a.slot slot (sym here ∙ own)))
set_step false t u place slot a is alike stands there =
    let ne = eqb-false a.number place.number is in
    inr (ne, record { config = rw (sym alike.profile) there.config; slot = ap (λ (xs : List Slot). slice_get xs a.number) (sym alike.slots) ∙ sym (get_other place.number a.number u.slots slot ne) ∙ there.slot })

pub set_cases : (t u : ScannerTable) (place : IndexedSlot) (slot : Slot) (a : IndexedSlot) → Alike t u → Stands t place → Stands (with_slot u place.number slot) a → SetCases t place slot a
set_cases t u place slot a alike stands there = set_step (a.number == place.number) t u place slot a refl alike stands there

-- the slot's opening was its own before, or has the next request number
abbrev IsOldOrNext : ScannerTable → IndexedSlot → Slot → Type 0
IsOldOrNext t place slot = (r : ℕ) → opening_in r slot.state ≡ true → (opening_in r place.slot.state ≡ true) ⊎ (r ≡ t.next_request)

set_books : (sent : List Production) (device : ℕ) (t u : ScannerTable) (place : IndexedSlot) (slot : Slot) → Alike t u → Stands t place → IsOldOrNext t place slot → StateBooks sent device u.run u.next_request place.config slot slot.state → ScannerBooks sent device t → ScannerBooks sent device (with_slot u place.number slot)
set_books sent device t u place slot alike stands old here ok = record {
  unproduced = λ r up. ok.unproduced r (let le = alike.requests in omega (arith, le, up));
  slots = λ a there. state a (set_cases t u place slot a alike stands there);
  distinct = λ a b r first second one two. pair a b r one two (set_cases t u place slot a alike stands first) (set_cases t u place slot b alike stands second);
}
  where
    state : (a : IndexedSlot) → SetCases t place slot a → StateBooks sent device u.run u.next_request a.config a.slot a.slot.state
    state a (inl is) = subst (λ (x : IndexedSlot). StateBooks sent device u.run u.next_request x.config x.slot x.slot.state) (sym is) here
    state a (inr other) =
        state_on sent device u.run t.next_request u.next_request a.config a.slot a.slot.state alike.requests
        (subst (λ (run : Bool). StateBooks sent device run t.next_request a.config a.slot a.slot.state) (sym alike.run) (ok.slots a other.1))

    mixed : (b : IndexedSlot) (r : ℕ) → Stands t b → opening_in r b.slot.state ≡ true → (opening_in r place.slot.state ≡ true) ⊎ (r ≡ t.next_request) → place.number ≡ b.number
    mixed b r there two (inl was) = ok.distinct place b r stands there was two
    mixed b r there two (inr next) = absurd (let less = numbered sent device t.run t.next_request r b.config b.slot b.slot.state (ok.slots b there) two in omega (arith, less, next))

    pair : (a b : IndexedSlot) (r : ℕ) → opening_in r a.slot.state ≡ true → opening_in r b.slot.state ≡ true → SetCases t place slot a → SetCases t place slot b → a.number ≡ b.number
    pair a b r one two (inl is) (inl too) = ap (λ (x : IndexedSlot). x.number) is ∙ sym (ap (λ (x : IndexedSlot). x.number) too)
    pair a b r one two (inl is) (inr other) = ap (λ (x : IndexedSlot). x.number) is ∙ mixed b r other.1 two (old r (subst (λ (x : IndexedSlot). opening_in r x.slot.state ≡ true) is one))
    pair a b r one two (inr other) (inl is) = sym (mixed a r other.1 one (old r (subst (λ (x : IndexedSlot). opening_in r x.slot.state ≡ true) is two))) ∙ sym (ap (λ (x : IndexedSlot). x.number) is)
    pair a b r one two (inr other) (inr too) = ok.distinct a b r other.1 too.1 one two

-- ---- what one event does, but for productions

abbrev pub Keeps : List Production → ℕ → ScannerTable → ScannerTable → Type 0
Keeps sent device t u = ScannerBooks sent device t → ScannerBooks sent device u

pub same_alike : (t : ScannerTable) → Alike t t
same_alike t = record { profile = refl; slots = refl; run = refl; requests = omega arith }

none_old : (t : ScannerTable) (place : IndexedSlot) (slot : Slot) (state : SlotState) → slot.state ≡ state → ((r : ℕ) → opening_in r state ≡ false) → IsOldOrNext t place slot
none_old t place slot state is none r opens = absurd (let e : opening_in r state ≡ true = subst (λ (s : SlotState). opening_in r s ≡ true) is opens in let f = none r in cc)

idle_state : (sent : List Production) (device : ℕ) (run : Bool) (next : ℕ) (config : SlotConfig) (slot : Slot) → slot.state ≡ Idle → StateBooks sent device run next config slot slot.state
idle_state sent device run next config slot is = rw is tt

timed_out_state : (sent : List Production) (device : ℕ) (run : Bool) (next : ℕ) (config : SlotConfig) (slot : Slot) (link : Link) → slot.state ≡ TimedOut link → StateBooks sent device run next config slot slot.state
timed_out_state sent device run next config slot link is = rw is tt

next_old : (t : ScannerTable) (place : IndexedSlot) → IsOldOrNext t place (opening_slot t place)
next_old t place r opens = inr (sym (eqb-true t.next_request r opens))

opening_keeps : (sent : List Production) (device : ℕ) (t : ScannerTable) (place : IndexedSlot) → Stands t place → is_closed place.slot.state ≡ true → Keeps sent device t (with_slot (counted (drawn t place.config)) place.number (opening_slot t place))
opening_keeps sent device t place stands resting ok =
    set_books sent device t (counted (drawn t place.config)) place (opening_slot t place) (record { profile = refl; slots = refl; run = refl; requests = omega arith }) stands (next_old t place)
    (omega arith, ok.unproduced t.next_request (omega arith)) ok

books_kept : (sent : List Production) (device : ℕ) → Kept (Keeps sent device)
books_kept sent device = record {
  same = λ t ok. ok;
  after = λ t u v first next ok. next (first ok);
  opening = λ t place stands resting in_turn left. opening_keeps sent device t place stands resting;
  idling = λ t place slot stands idle ok. set_books sent device t t place slot (same_alike t) stands (none_old t place slot Idle idle.state (λ r. refl)) (idle_state sent device t.run t.next_request place.config slot idle.state) ok;
  timing_out = λ t place link slot stands is becomes ok. set_books sent device t t place slot (same_alike t) stands (none_old t place slot (TimedOut link) becomes.state (λ r. refl)) (timed_out_state sent device t.run t.next_request place.config slot link becomes.state) ok;
  closing = λ t place link desired_up stands is ok.
      let slot = closing_slot t link desired_up place.slot in
      set_books sent device t (counted t) place slot (record { profile = refl; slots = refl; run = refl; requests = omega arith }) stands (none_old t place slot slot.state refl (λ r. refl)) tt ok;
}

-- the slot's opening stays
same_old : (t : ScannerTable) (place : IndexedSlot) (slot : Slot) → ((r : ℕ) → opening_in r slot.state ≡ opening_in r place.slot.state) → IsOldOrNext t place slot
same_old t place slot same r opens = inl (sym (same r) ∙ opens)

state_here : (sent : List Production) (device : ℕ) (t : ScannerTable) (place : IndexedSlot) (state : SlotState) → Stands t place → place.slot.state ≡ state → ScannerBooks sent device t → StateBooks sent device t.run t.next_request place.config place.slot state
state_here sent device t place state stands is ok = subst (λ (s : SlotState). StateBooks sent device t.run t.next_request place.config place.slot s) is (ok.slots place stands)

establishing_keeps : (sent : List Production) (device : ℕ) (t : ScannerTable) → Establishes (Keeps sent device) t
establishing_keeps sent device t place o success stands is requested ok =
    let slot = established_slot place (new_connection t place o success) in
    let was = state_here sent device t place (Opening o) stands is ok in
    set_books sent device t t place slot (same_alike t) stands (same_old t place slot (λ r. sym (ap (opening_in r) is)))
    (was.0, begun sent (end_at device o.request) (new_connection t place o success).production (output_data t.run place.config slot) refl refl was.1) ok

pub books_quietly : (sent : List Production) (device : ℕ) → KeptQuietly (Keeps sent device)
books_quietly sent device = record {
  slots = books_kept sent device;
  streams = λ t streams ok. record { unproduced = ok.unproduced; slots = λ place stands. ok.slots place (record { config = stands.config; slot = stands.slot }); distinct = λ a b r one two. ok.distinct a b r (record { config = one.config; slot = one.slot }) (record { config = two.config; slot = two.slot }) };
  clocked = λ t ms ok. record { unproduced = ok.unproduced; slots = λ place stands. ok.slots place (record { config = stands.config; slot = stands.slot }); distinct = λ a b r one two. ok.distinct a b r (record { config = one.config; slot = one.slot }) (record { config = two.config; slot = two.slot }) };
  establishing = establishing_keeps sent device;
  explicit = λ t pending request later ok. record {
    unproduced = λ r up. ok.unproduced r (omega (arith, later, up));
    slots = λ place stands. state_on sent device t.run t.next_request request place.config place.slot place.slot.state later (ok.slots place (record { config = stands.config; slot = stands.slot }));
    distinct = λ a b r one two. ok.distinct a b r (record { config = one.config; slot = one.slot }) (record { config = two.config; slot = two.slot });
  };
}

-- ---- writes and datagrams

pub written_old : (r : ℕ) (state : SlotState) → opening_in r (written_state state) ≡ opening_in r state
written_old r Idle = refl
written_old r (Opening o) = refl
written_old r (Established c) = refl
written_old r (TimedOut link) = refl
written_old r (Closing c) = refl

pub written_books : (sent : List Production) (device : ℕ) (run more : Bool) (next : ℕ) (config : SlotConfig) (was now : Slot) (state : SlotState) → StateBooks sent device run next config was state → StateBooks sent device more next config now (written_state state)
written_books sent device run more next config was now Idle ok = tt
written_books sent device run more next config was now (Opening o) ok = ok
written_books sent device run more next config was now (Established c) ok =
    let new = rewritten sent (end_at device c.opening) c.production (output_data run config was) (output_data more config now) ok.1 in
    (ok.0, record { sequence = new.sequence; count = new.count; current = new.current })
written_books sent device run more next config was now (TimedOut link) ok = tt
written_books sent device run more next config was now (Closing c) ok = tt

pub writing_keeps : (sent : List Production) (device : ℕ) (t : ScannerTable) → Writes (Keeps sent device) t
writing_keeps sent device t place bytes stands ok =
    let slot = output_slot bytes place.slot in
    set_books sent device t t place slot (same_alike t) stands (same_old t place slot (λ r. written_old r place.slot.state))
    (written_books sent device t.run t.run t.next_request place.config place.slot slot place.slot.state (ok.slots place stands)) ok

pub accepting_keeps : (sent : List Production) (device : ℕ) (t : ScannerTable) → Accepts (Keeps sent device) t
accepting_keeps sent device t place d c bytes stands is ok =
    let slot : Slot = record place.slot { state = Established (accepted_connection t.clock d c); image = bytes } in
    set_books sent device t t place slot (same_alike t) stands (same_old t place slot (λ r. sym (ap (opening_in r) is.established)))
    (state_here sent device t place (Established c) stands is.established ok) ok
