-- Over a schedule that keeps the half-circle condition: of each end the newest accepted datagram is the one that its table
-- remembers, and accepted indexes rise.
use Rattle.std.proofs.Common.{◌≡◌, ◌≢◌, ◌≤◌, ◌<◌, ℕ, ◌+◌, ◌-◌, ◌%◌, ◌^◌, Bool, true, false, cond, List, [], ◌∷◌, ◌++◌, find, Option, Some, None, Result, Ok, Err, ◌⊎◌, inl, inr, refl, sym, ◌∙◌, ap, subst, arith, eq-eqb}
use Rattle.std.specs.List.{AllByRecursion}
use Rattle.std.proofs.lemmas.Option.{same_Some}
use Rattle.cip_types.specs.Circle.{IsNewer, distance}
use Rattle.cip_types.specs.declared.names.Node.{Node}
use Rattle.cip_datagram.specs.Datagram.{datagram_text}
use Rattle.cip_events.specs.declared.event.Answer.{Answer}
use Rattle.cip_events.specs.declared.event.Event.{Event}
use Rattle.cip_events.specs.declared.event.Event.TheVariants as event
use Rattle.cip_events.specs.declared.event.StepFault.{StepFault}
use Rattle.cip_events.specs.declared.event.Verdict.{Verdict}
use Rattle.cip_productions.specs.declared.acceptance.Accepted.{Accepted}
use Rattle.adapter_table.specs.declared.table.AdapterTable.{AdapterTable}
use Rattle.adapter_table.specs.Datagrams.{received}
use Rattle.adapter_table.specs.Newest as rows
use Rattle.adapter_table.specs.Requests.{Next}
use Rattle.adapter_table.specs.Step.{adapter_step}
use Rattle.adapter_table.specs.Laws as adapters
use Rattle.scanner_table.specs.declared.table.ScannerTable.{ScannerTable}
use Rattle.scanner_table.specs.Effects.{Next as ScannerNext}
use Rattle.scanner_table.specs.Datagrams.{received as slot_received, accepted_connection}
use Rattle.scanner_table.specs.Step.{scanner_step}
use Rattle.device_laws.specs.Newest as slots
use Rattle.cip_tables.specs.declared.table.DeviceTable.{DeviceTable}
use Rattle.cip_tables.specs.declared.table.DeviceTable.TheVariants.{Adapter, Scanner}
use Rattle.cip_tables.specs.Step.{DeviceNext, as_adapter, as_scanner, step, is_datagram}
use Rattle.cip_tables.specs.Whole.{IsWholeDevice}
use Rattle.device_laws.specs.Productions.{End, end_at, is_end, Production, IsNumbered}
use Rattle.schedule_laws.specs.Chronicle.{Acceptance, names, accepted_by_verdict, newest, state_number}
use Rattle.schedule_laws.specs.Order.{AreWithin, IsNear, Rise}
use Rattle.device_laws.specs.Lemmas.Books.{is_the_end, end_is}
use Rattle.schedule_laws.specs.Lemmas.AdapterNewest.{pair_of, Entry, newest_past, adapter_matches}
use Rattle.scanner_table.specs.declared.slot.Slot.{Slot}
use Rattle.scanner_table.specs.declared.slot.SlotState.{SlotState}
use Rattle.scanner_table.specs.declared.slot.SlotState.TheVariants.{Idle, Opening, Established, TimedOut, Closing}
use Rattle.scanner_table.specs.Slots.{IndexedSlot, indexed_slots}
use Rattle.scanner_table.specs.Lemmas.SlotLookups.{Stands, each_found, each_stands, slot_is}
use Rattle.scanner_table.specs.Lemmas.Moves.{Accepts, received_leads}
use Rattle.device_laws.specs.Lemmas.ScannerBooks.{opening_in, ScannerBooks, SetCases, set_cases, same_alike, numbered}
use Rattle.schedule_laws.specs.Lemmas.ScannerNewest.{SlotMatches, OtherSlot, scanner_matches}
use Rattle.schedule_laws.specs.Lemmas.Deliveries.{rows_accept_none, slots_accept_none, IsNoted, verdict_noted, IsNewerThan}

-- ---- on the circle

lap : (x y d : ℕ) → x < y + 2147483648 → y < x + 2147483648 → d ≡ (x % 4294967296 + 4294967296 - y % 4294967296) % 4294967296 → 1 ≤ d → d ≤ 2147483647 → y < x
lap x y d near far is low high = omega arith

pub newer_later : (x y : ℕ) → AreWithin (2 ^ 31) x y → IsNewer (x % 2 ^ 32) (y % 2 ^ 32) → y < x
newer_later x y near newer = lap x y (distance (x % 2 ^ 32) (y % 2 ^ 32)) near.first near.second refl newer.0 newer.1

-- ---- the newest, and all before it

abbrev IsEarlier : End → ℕ → Acceptance → Type 0
IsEarlier e index b = b.consumer ≡ e → b.production.index < index

none_step : (c : Bool) (e : End) (index : ℕ) (b : Acceptance) (rest : Option Acceptance) → is_end e b.consumer ≡ c → cond c (Some b) rest ≡ None → IsEarlier e index b × (rest ≡ None)
none_step true e index b rest is none = absurd (let h = none in cc)
none_step false e index b rest is none = ((λ same. absurd (let yes_so = is_the_end e b.consumer same in let h = is in cc)), none)

none_earlier : (accepted : List Acceptance) (e : End) (index : ℕ) → newest e accepted ≡ None → AllByRecursion (IsEarlier e index) accepted
none_earlier [] e index none = tt
none_earlier (b ∷ accepted) e index none =
    let step = none_step (is_end e b.consumer) e index b (newest e accepted) refl none in
    (step.0, none_earlier accepted e index step.1)

earlier_on : (e : End) (index more : ℕ) (accepted : List Acceptance) → index < more → AllByRecursion (IsEarlier e index) accepted → AllByRecursion (IsEarlier e more) accepted
earlier_on e index more [] up all = tt
earlier_on e index more (b ∷ accepted) up all = ((λ same. let less = all.0 same in omega (arith, less, up)), earlier_on e index more accepted up all.1)

found_step : (c : Bool) (e : End) (index : ℕ) (q b : Acceptance) (accepted : List Acceptance) → is_end e b.consumer ≡ c → cond c (Some b) (newest e accepted) ≡ Some q → q.production.index < index → AllByRecursion (λ (x : Acceptance). x.consumer ≡ b.consumer → x.production.index < b.production.index) accepted → (newest e accepted ≡ Some q → AllByRecursion (IsEarlier e index) accepted) → AllByRecursion (IsEarlier e index) (b ∷ accepted)
found_step true e index q b accepted is found less rises more =
    let same : b ≡ q = same_Some b q found in
    let own : b.consumer ≡ e = end_is e b.consumer is in
    let below : b.production.index < index = subst (λ (x : Acceptance). x.production.index < index) (sym same) less in
    ((λ at. below), earlier_on e b.production.index index accepted below (subst (λ (x : End). AllByRecursion (λ (y : Acceptance). y.consumer ≡ x → y.production.index < b.production.index) accepted) own rises))
found_step false e index q b accepted is found less rises more =
    ((λ same. absurd (let yes_so = is_the_end e b.consumer same in let h = is in cc)), more found)

found_earlier : (accepted : List Acceptance) (e : End) (index : ℕ) (q : Acceptance) → Rise accepted → newest e accepted ≡ Some q → q.production.index < index → AllByRecursion (IsEarlier e index) accepted
found_earlier [] e index q rises found less = absurd (let h = found in cc)
found_earlier (b ∷ accepted) e index q rises found less =
    found_step (is_end e b.consumer) e index q b accepted refl found less rises.0 (λ later. found_earlier accepted e index q rises.1 later less)

abbrev pub Known : Acceptance → Type 0
Known a = IsNumbered a.production

newest_known : (accepted : List Acceptance) (e : End) (q : Acceptance) → AllByRecursion Known accepted → newest e accepted ≡ Some q → Known q
newest_known [] e q known found = absurd (let h = found in cc)
newest_known (b ∷ accepted) e q known found = step (is_end e b.consumer) found (newest_known accepted e q known.1) where
  step : (c : Bool) → cond c (Some b) (newest e accepted) ≡ Some q → (newest e accepted ≡ Some q → Known q) → Known q
  step true is more = subst Known (same_Some b q is) known.0
  step false is more = more is

-- a datagram that is near the newest, and newer on the circle, was produced later than all that this end accepted
pub earlier_of : (p : Production) (accepted : List Acceptance) (e : End) (found : Option Acceptance) (b : Bool) → newest e accepted ≡ found → IsNumbered p → AllByRecursion Known accepted → Rise accepted → IsNear b p found → IsNewerThan p.made.datagram.sequence (pair_of found) → AllByRecursion (IsEarlier e p.index) accepted
earlier_of p accepted e None b is numbered known rises near newer = none_earlier accepted e p.index is
earlier_of p accepted e (Some q) b is numbered known rises near newer =
    let q_is = newest_known accepted e q known is in
    let on : IsNewer (p.index % 2 ^ 32) (q.production.index % 2 ^ 32) =
    subst (λ (n : ℕ). IsNewer n (q.production.index % 2 ^ 32)) numbered.sequence (subst (λ (n : ℕ). IsNewer p.made.datagram.sequence n) q_is.sequence newer) in
    found_earlier accepted e p.index q rises is (newer_later p.index q.production.index near.index on)

-- ---- of each device

abbrev pub DeviceTakes : List Acceptance → ℕ → DeviceTable → Type 0
DeviceTakes accepted device (Adapter t) = (n : ℕ) → rows.TableRemembers n (pair_of (newest (end_at device n) accepted)) t
DeviceTakes accepted device (Scanner t) = (k r : ℕ) → slots.TableRemembers k r (pair_of (newest (end_at device r) accepted)) t

-- of other devices nothing is new
pub other_event : (device other n : ℕ) (p : Production) (number : Option ℕ) (verdict : Verdict) (old : List Acceptance) → device ≢ other → newest (end_at other n) (accepted_by_verdict device p number verdict ++ old) ≡ newest (end_at other n) old
other_event device other n p number verdict old ne = step (verdict_noted device p number verdict) where
  step : (accepted_by_verdict device p number verdict ≡ []) ⊎ IsNoted device p number verdict (accepted_by_verdict device p number verdict) → newest (end_at other n) (accepted_by_verdict device p number verdict ++ old) ≡ newest (end_at other n) old
  step (inl none) = ap (λ (xs : List Acceptance). newest (end_at other n) (xs ++ old)) none
  step (inr noted) =
      ap (λ (xs : List Acceptance). newest (end_at other n) (xs ++ old)) noted.mine_is
      ∙ newest_past (Entry device p noted.request noted.delivery) old (end_at other n) (λ e. ne (ap (λ (x : End). x.device) e))

pub other_takes : (device other : ℕ) (p : Production) (number : Option ℕ) (verdict : Verdict) (old : List Acceptance) (t : DeviceTable) → device ≢ other → DeviceTakes old other t → DeviceTakes (accepted_by_verdict device p number verdict ++ old) other t
other_takes device other p number verdict old (Adapter t) ne takes = λ n. subst (λ (o : Option Acceptance). rows.TableRemembers n (pair_of o) t) (sym (other_event device other n p number verdict old ne)) (takes n)
other_takes device other p number verdict old (Scanner t) ne takes = λ k r. subst (λ (o : Option Acceptance). slots.TableRemembers k r (pair_of o) t) (sym (other_event device other r p number verdict old ne)) (takes k r)

-- ---- a step of a device

pub record AdapterStepped (t : AdapterTable) (e : Event) (answer : Answer) (u : DeviceTable) : Type 0 where
  pub next : Next
  pub is : adapter_step t e ≡ Ok next
  pub answer_is : next.0 ≡ answer
  pub table_is : Adapter next.1 ≡ u

pub record ScannerStepped (t : ScannerTable) (e : Event) (answer : Answer) (u : DeviceTable) : Type 0 where
  pub next : ScannerNext
  pub is : scanner_step t e ≡ Ok next
  pub answer_is : next.0 ≡ answer
  pub table_is : Scanner next.1 ≡ u

abbrev answer_in : Answer → Result DeviceNext StepFault → Answer
answer_in other (Ok next) = next.0
answer_in other (Err why) = other

abbrev table_in : DeviceTable → Result DeviceNext StepFault → DeviceTable
table_in other (Ok next) = next.1
table_in other (Err why) = other

adapter_said : (t : AdapterTable) (e : Event) (answer : Answer) (u : DeviceTable) (said : Result Next StepFault) → adapter_step t e ≡ said → as_adapter said ≡ Ok (answer, u) → AdapterStepped t e answer u
adapter_said t e answer u (Err why) is stepped = absurd (let h = stepped in cc)
adapter_said t e answer u (Ok next) is stepped = record { next = next; is = is; answer_is = ap (answer_in answer) stepped; table_is = ap (table_in u) stepped }

pub adapter_stepped : (t : AdapterTable) (e : Event) (answer : Answer) (u : DeviceTable) → step (Adapter t) e ≡ Ok (answer, u) → AdapterStepped t e answer u
unfolding step
adapter_stepped t e answer u stepped = adapter_said t e answer u (adapter_step t e) refl stepped

scanner_said : (t : ScannerTable) (e : Event) (answer : Answer) (u : DeviceTable) (said : Result ScannerNext StepFault) → scanner_step t e ≡ said → as_scanner said ≡ Ok (answer, u) → ScannerStepped t e answer u
scanner_said t e answer u (Err why) is stepped = absurd (let h = stepped in cc)
scanner_said t e answer u (Ok next) is stepped = record { next = next; is = is; answer_is = ap (answer_in answer) stepped; table_is = ap (table_in u) stepped }

pub scanner_stepped : (t : ScannerTable) (e : Event) (answer : Answer) (u : DeviceTable) → step (Scanner t) e ≡ Ok (answer, u) → ScannerStepped t e answer u
unfolding step
scanner_stepped t e answer u stepped = scanner_said t e answer u (scanner_step t e) refl stepped

-- what the lower laws say
pub record AcceptLaws : Type 0 where
  pub of_rows : adapters.StepsAcceptAfter rows.HasNewerNumber
  pub of_slots : slots.StepsAcceptAfter slots.HasNewerNumber
  pub numbered : slots.WholeTablesNumberOpenings

-- an event that is no datagram
pub quiet_takes : AcceptLaws → (accepted : List Acceptance) (device : ℕ) (t : DeviceTable) (e : Event) (answer : Answer) (u : DeviceTable) → step t e ≡ Ok (answer, u) → IsWholeDevice t → is_datagram e ≡ false → DeviceTakes accepted device t → DeviceTakes accepted device u
quiet_takes laws accepted device (Adapter t) e answer u stepped whole none takes =
    let s = adapter_stepped t e answer u stepped in
    subst (DeviceTakes accepted device) s.table_is
    (λ n.
    let last = pair_of (newest (end_at device n) accepted) in
    subst (λ (xs : List rows.Acceptance). rows.TableRemembers n (rows.last_accepted last xs) s.next.1) (rows_accept_none n t e none) (laws.of_rows n last t e s.next s.is whole.sound (takes n)).1)
quiet_takes laws accepted device (Scanner t) e answer u stepped whole none takes =
    let s = scanner_stepped t e answer u stepped in
    subst (DeviceTakes accepted device) s.table_is
    (λ k r.
    let last = pair_of (newest (end_at device r) accepted) in
    subst (λ (xs : List slots.Acceptance). slots.TableRemembers k r (slots.last_accepted last xs) s.next.1) (slots_accept_none k r t e none) (laws.of_slots k r last t e s.next s.is (laws.numbered t whole.table) (takes k r)).1)

abbrev next_answer : Answer → Result Next StepFault → Answer
next_answer other (Ok next) = next.0
next_answer other (Err why) = other

pub ok_answer : (a b : Next) → ◌≡◌ {A = Result Next StepFault} (Ok a) (Ok b) → a.0 ≡ b.0
ok_answer a b is = ap (next_answer a.0) is

-- a datagram at an adapter
pub row_takes : AcceptLaws → (accepted : List Acceptance) (device : ℕ) (p : Production) (t : AdapterTable) (peer : Node) (answer : Answer) (u : DeviceTable) → step (Adapter t) (event.Datagram peer (datagram_text p.made.datagram)) ≡ Ok (answer, u) → IsWholeDevice (Adapter t) → IsNumbered p → DeviceTakes accepted device (Adapter t) → DeviceTakes (accepted_by_verdict device p (names (Adapter t) (record { from = peer; bytes = datagram_text p.made.datagram })) answer.verdict ++ accepted) device u
row_takes laws accepted device p t peer answer u stepped whole numbered takes =
    let e : Event = event.Datagram peer (datagram_text p.made.datagram) in
    let s = adapter_stepped t e answer u stepped in
    let verdict : (received t peer (datagram_text p.made.datagram)).0.verdict ≡ answer.verdict = ap (λ (a : Answer). a.verdict) (ok_answer (received t peer (datagram_text p.made.datagram)) s.next s.is ∙ s.answer_is) in
    subst (λ (v : Verdict). DeviceTakes (accepted_by_verdict device p (names (Adapter t) (record { from = peer; bytes = datagram_text p.made.datagram })) v ++ accepted) device u) verdict
    (subst (DeviceTakes (accepted_by_verdict device p (names (Adapter t) (record { from = peer; bytes = datagram_text p.made.datagram })) (received t peer (datagram_text p.made.datagram)).0.verdict ++ accepted) device) s.table_is
    (λ n. subst (λ (o : Option Accepted). rows.TableRemembers n o s.next.1) (sym (adapter_matches device n p t peer accepted numbered)) (laws.of_rows n (pair_of (newest (end_at device n) accepted)) t e s.next s.is whole.sound (takes n)).1))

-- ---- a datagram at a scanner

-- each opening of a table is one of the table before, at the same slot, and request numbers do not fall
pub record KeepsOpenings (t u : ScannerTable) : Type 0 where
  pub requests : t.next_request ≤ u.next_request
  pub was : (a : IndexedSlot) (r : ℕ) → Stands u a → opening_in r a.slot.state ≡ true → (b : IndexedSlot) × Stands t b × (b.number ≡ a.number) × (opening_in r b.slot.state ≡ true)

same_openings : (t : ScannerTable) → KeepsOpenings t t
same_openings t = record { requests = omega arith; was = λ a r stands opens. (a, stands, refl, opens) }

accepts_openings : (t : ScannerTable) → Accepts KeepsOpenings t
accepts_openings t place d c bytes stands is =
    let slot : Slot = record place.slot { state = Established (accepted_connection t.clock d c); image = bytes } in
    record {
      requests = omega arith;
      was = λ a r there opens. was_of a r opens (set_cases t t place slot a (same_alike t) stands there);
    }
  where
    was_of : (a : IndexedSlot) (r : ℕ) → opening_in r a.slot.state ≡ true → SetCases t place (record place.slot { state = Established (accepted_connection t.clock d c); image = bytes }) a → (b : IndexedSlot) × Stands t b × (b.number ≡ a.number) × (opening_in r b.slot.state ≡ true)
    was_of a r opens (inl one) = (
      place,
      stands,
      ap (λ (x : IndexedSlot). x.number) (sym one),
      ap (opening_in r) is.established ∙ subst (λ (x : IndexedSlot). opening_in r x.slot.state ≡ true) one opens,
    )
    was_of a r opens (inr other) = (a, other.1, refl, opens)

received_openings : (t : ScannerTable) (peer : Node) (bytes : List ℕ) → KeepsOpenings t (slot_received t peer bytes).1
received_openings t peer bytes = received_leads KeepsOpenings t (same_openings t) (accepts_openings t) peer bytes

numbered_in : (r : ℕ) (state : SlotState) → state_number state ≡ Some r → opening_in r state ≡ true
numbered_in r Idle is = absurd (let e = is in cc)
numbered_in r (Opening o) is = absurd (let e = is in cc)
numbered_in r (Established c) is = eq-eqb c.opening r (same_number c.opening r is) where
  same_number : (a b : ℕ) → Some a ≡ Some b → a ≡ b
  same_number a b e = cc
numbered_in r (TimedOut link) is = absurd (let e = is in cc)
numbered_in r (Closing c) is = absurd (let e = is in cc)

-- a slot that has not the opening remembers anything of it
no_opening : (r : ℕ) (last : Option Accepted) (state : SlotState) → (opening_in r state ≡ true → ⊥) → slots.StateRemembers r last state
no_opening r last Idle none = tt
no_opening r last (Opening o) none = λ same. absurd (none (eq-eqb o.request r same))
no_opening r last (Established c) none = λ same. absurd (none (eq-eqb c.opening r same))
no_opening r last (TimedOut link) none = tt
no_opening r last (Closing c) none = tt

place_found : (t : ScannerTable) (test : IndexedSlot → Bool) (place : IndexedSlot) → find test (indexed_slots t) ≡ Some place → Stands t place
place_found t test place found = each_found (Stands t) test (indexed_slots t) place found (each_stands t)

opening_below : (sent : List Production) (device : ℕ) (t : ScannerTable) (place : IndexedSlot) (r : ℕ) → ScannerBooks sent device t → Stands t place → opening_in r place.slot.state ≡ true → r < t.next_request
opening_below sent device t place r books stands opens = numbered sent device t.run t.next_request r place.config place.slot place.slot.state (books.slots place stands) opens

-- another slot of the table has the opening: what this one remembers of it is nothing
other_remembers : (sent : List Production) (device k r : ℕ) (t u : ScannerTable) (last : Option Accepted) → ScannerBooks sent device t → KeepsOpenings t u → OtherSlot k r t → slots.TableRemembers k r last u
other_remembers sent device k r t u last books keeps other =
    let stands = place_found t other.there.0 other.place other.there.1 in
    let opens = numbered_in r other.place.slot.state other.state in
    record {
      there = λ place is. no_opening r last place.slot.state (λ here.
          let at = slot_is u k place is in
          let was = keeps.was place r at.stands here in
          let one : other.place.number ≡ was.0.number = books.distinct other.place was.0 r stands was.1 opens was.3 in
          other.ne (one ∙ was.2 ∙ at.number_is));
      unopened = λ up. absurd (let below = opening_below sent device t other.place r books stands opens in let le = keeps.requests in omega (arith, below, le, up));
    }

abbrev next_slot_answer : Answer → Result ScannerNext StepFault → Answer
next_slot_answer other (Ok next) = next.0
next_slot_answer other (Err why) = other

abbrev next_slot_table : ScannerTable → Result ScannerNext StepFault → ScannerTable
next_slot_table other (Ok next) = next.1
next_slot_table other (Err why) = other

pub ok_slot_answer : (a b : ScannerNext) → ◌≡◌ {A = Result ScannerNext StepFault} (Ok a) (Ok b) → a.0 ≡ b.0
ok_slot_answer a b is = ap (next_slot_answer a.0) is

ok_slot_table : (a b : ScannerNext) → ◌≡◌ {A = Result ScannerNext StepFault} (Ok a) (Ok b) → a.1 ≡ b.1
ok_slot_table a b is = ap (next_slot_table a.1) is

at_slot : AcceptLaws → (accepted : List Acceptance) (sent : List Production) (device : ℕ) (p : Production) (t : ScannerTable) (peer : Node) (next : ScannerNext) (k r : ℕ) → scanner_step t (event.Datagram peer (datagram_text p.made.datagram)) ≡ Ok next → IsWholeDevice (Scanner t) → ScannerBooks sent device t → KeepsOpenings t next.1 → DeviceTakes accepted device (Scanner t) → SlotMatches device k r p t peer accepted ⊎ OtherSlot k r t → slots.TableRemembers k r (pair_of (newest (end_at device r) (accepted_by_verdict device p (names (Scanner t) (record { from = peer; bytes = datagram_text p.made.datagram })) (slot_received t peer (datagram_text p.made.datagram)).0.verdict ++ accepted))) next.1
at_slot laws accepted sent device p t peer next k r is whole books keeps takes (inl matches) =
    subst (λ (o : Option Accepted). slots.TableRemembers k r o next.1) (sym matches.agreed)
    (laws.of_slots k r (pair_of (newest (end_at device r) accepted)) t (event.Datagram peer (datagram_text p.made.datagram)) next is (laws.numbered t whole.table) (takes k r)).1
at_slot laws accepted sent device p t peer next k r is whole books keeps takes (inr other) = other_remembers sent device k r t next.1 _ books keeps other

pub slot_takes : AcceptLaws → (accepted : List Acceptance) (sent : List Production) (device : ℕ) (p : Production) (t : ScannerTable) (peer : Node) (answer : Answer) (u : DeviceTable) → step (Scanner t) (event.Datagram peer (datagram_text p.made.datagram)) ≡ Ok (answer, u) → IsWholeDevice (Scanner t) → ScannerBooks sent device t → IsNumbered p → DeviceTakes accepted device (Scanner t) → DeviceTakes (accepted_by_verdict device p (names (Scanner t) (record { from = peer; bytes = datagram_text p.made.datagram })) answer.verdict ++ accepted) device u
slot_takes laws accepted sent device p t peer answer u stepped whole books numbered takes =
    let e : Event = event.Datagram peer (datagram_text p.made.datagram) in
    let s = scanner_stepped t e answer u stepped in
    let verdict : (slot_received t peer (datagram_text p.made.datagram)).0.verdict ≡ answer.verdict = ap (λ (a : Answer). a.verdict) (ok_slot_answer (slot_received t peer (datagram_text p.made.datagram)) s.next s.is ∙ s.answer_is) in
    let keeps : KeepsOpenings t s.next.1 = subst (KeepsOpenings t) (ok_slot_table (slot_received t peer (datagram_text p.made.datagram)) s.next s.is) (received_openings t peer (datagram_text p.made.datagram)) in
    subst (λ (v : Verdict). DeviceTakes (accepted_by_verdict device p (names (Scanner t) (record { from = peer; bytes = datagram_text p.made.datagram })) v ++ accepted) device u) verdict
    (subst (DeviceTakes (accepted_by_verdict device p (names (Scanner t) (record { from = peer; bytes = datagram_text p.made.datagram })) (slot_received t peer (datagram_text p.made.datagram)).0.verdict ++ accepted) device) s.table_is
    (λ k r. at_slot laws accepted sent device p t peer s.next k r s.is whole books keeps takes (scanner_matches device k r p t peer accepted numbered)))
