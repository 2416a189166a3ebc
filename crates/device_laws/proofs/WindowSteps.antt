-- A number within the window is accepted, and one beyond the window of a slot changes nothing.
use Rattle.std.proofs.Common.{◌-◌, ◌≡◌, ◌≤◌, ◌<◌, ◌+◌, ◌*◌, inl, inr, ℕ, ◌==◌, nat_le, nat_lt, Bool, true, false, cond, List, length, Option, Some, Result, Ok, refl, sym, subst, arith}
use Rattle.std.proofs.lemmas.Bool.Decides.{nat_tests}
use Rattle.cip_types.specs.declared.names.Node.{Node}
use Rattle.cip_types.specs.Circle.{IsNewer, is_newer, distance}
use Rattle.cip_datagram.specs.declared.datagram.DatagramFault.{DatagramFault}
use Rattle.cip_datagram.specs.Datagram.{DatagramFields}
use Rattle.cip_datagram.specs.Header.{header_at}
use Rattle.cip_events.specs.declared.event.Delivery.{Delivery}
use Rattle.cip_events.specs.declared.event.Delivery.TheVariants.{Applied, Idle, Heartbeat, Duplicate, Old, WrongSize}
use Rattle.cip_events.specs.declared.event.StepFault.{StepFault}
use Rattle.cip_events.specs.Answers.{is_accepted}
use Rattle.cip_productions.specs.declared.acceptance.Accepted.{Accepted}
use Rattle.cip_productions.specs.Acceptance.{is_duplicate}
use Rattle.cip_productions.specs.Kinds.{is_owner}
use Rattle.cip_productions.specs.Window.{intervals_in, since_accepted, accepts_number}
use Rattle.adapter_table.specs.Connections.{Row}
use Rattle.adapter_table.specs.declared.table.AdapterTable.{AdapterTable}
use Rattle.adapter_table.specs.Datagrams as rows
use Rattle.adapter_table.specs.Lemmas.RequestLemmas.{next_is}
use Rattle.adapter_table.specs.StatedLimits.{accepts_at}
use Rattle.scanner_table.specs.declared.slot.SlotConnection.{SlotConnection}
use Rattle.scanner_table.specs.declared.slot.SlotState.{SlotState}
use Rattle.scanner_table.specs.declared.table.ScannerTable.{ScannerTable}
use Rattle.scanner_table.specs.Datagrams as slots
use Rattle.scanner_table.specs.Effects.{Next as ScannerNext}
use Rattle.scanner_table.specs.Slots.{IndexedSlot}
use Rattle.device_laws.specs.Windows.{IsWithinWindow, IsTaken, NearNumbersAreAccepted, IsForSlot, IsNotAcceptedBySlot, FarNumbersChangeNoSlot, NearNumbersAreAcceptedBySlots}
use Rattle.device_laws.proofs.StatedLimits.{far_refused}

-- ---- a number that is near

same_len : (a b : ℕ) → a ≡ b → (a == b) ≡ true
same_len a b is = grind (arith, nat_tests)

newer_is : (a b : ℕ) → IsNewer a b → is_newer a b ≡ true
newer_is a b is =
    let low : nat_le 1 (distance a b) ≡ true = at_most _ _ is.0 in
    let high : nat_le (distance a b) (2147483648 - 1) ≡ true = at_most _ _ is.1 in
    rw (low, high) refl where
      at_most : (m n : ℕ) → m ≤ n → nat_le m n ≡ true
      at_most m n le = grind (arith, nat_tests)

less : (m n : ℕ) → m < n → nat_lt m n ≡ true
less m n lt = grind (arith, nat_tests)

near_accepted : (newer : Option ℕ) (since pace : ℕ) (last : Option Accepted) (number within : ℕ) (newest : Accepted) → newer ≡ Some within → last ≡ Some newest → IsNewer number newest.number → distance number newest.number < within + 2 * intervals_in since pace → accepts_number newer since pace last number ≡ true
near_accepted newer since pace last number within newest states accepted is near =
    let so = newer_is number newest.number is in
    let below = less (distance number newest.number) (within + 2 * intervals_in since pace) near in
    rw (states, accepted, so, below) refl

-- ---- at a connection

always : (owns duplicate run : Bool) → is_accepted (cond owns (cond duplicate Duplicate (cond run Applied Idle)) Heartbeat) ≡ true
always true true run = refl
always true false true = refl
always true false false = refl
always false duplicate run = refl

taken_step : (sized newer : Bool) (t : AdapterTable) (peer : Node) (d : DatagramFields) (row : Row) (what : Delivery) → sized ≡ true → newer ≡ true → is_accepted what ≡ true → IsTaken t peer d row (rows.judged_datagram t peer d row (cond sized (cond newer what Old) WrongSize))
taken_step true true t peer d row what size number so = record { delivery = what; accepted = so; said = rw so refl }
taken_step true false t peer d row what size number so = absurd (let e = number in cc)
taken_step false newer t peer d row what size number so = absurd (let e = size in cc)

near_received : (t : AdapterTable) (peer : Node) (bytes : List ℕ) (is : IsWithinWindow t peer bytes) → IsTaken t peer is.datagram is.row (rows.received t peer bytes)
unfolding rows.received
near_received t peer bytes is =
    let d = is.datagram in
    let row = is.row in
    let number = near_accepted t.profile.limits.newer (since_accepted t.clock row.watchdog row.deadline) row.o_t_pace_ms row.last d.sequence is.within is.last is.within_is is.last_is is.newer is.near in
    subst (λ (r : Result DatagramFields DatagramFault). IsTaken t peer d row (rows.datagram_of t peer r)) (sym is.reads)
    (subst (λ (o : Option Row). IsTaken t peer d row (rows.found_datagram t peer d o)) (sym is.found)
    (taken_step (length d.payload == rows.expected_len t.profile row) (accepts_at t.profile.limits.newer t.clock row d.sequence) t peer d row (rows.accepted_delivery row d)
    (same_len _ _ is.sized) number (always (is_owner row.kind) (is_duplicate row.last d.count) (rows.run_bit (header_at d.payload)))))

pub near_numbers : NearNumbersAreAccepted
near_numbers t peer bytes next is near = subst (IsTaken t peer near.datagram near.row) (next_is _ _ is) (near_received t peer bytes near)

-- ---- at a slot

slot_next_is : (x y : ScannerNext) → ◌≡◌ {A = Result ScannerNext StepFault} (Ok x) (Ok y) → x ≡ y
slot_next_is x y is = cc

far_step : (sized newer : Bool) (t : ScannerTable) (indexed : IndexedSlot) (d : DatagramFields) (c : SlotConnection) → newer ≡ false → IsNotAcceptedBySlot t (cond sized (cond newer (slots.accepted t indexed d c) (slots.delivered Old t)) (slots.delivered WrongSize t))
far_step true true t indexed d c is = absurd (let e = is in cc)
far_step true false t indexed d c is = record { table = refl; answer = inl refl }
far_step false newer t indexed d c is = record { table = refl; answer = inr refl }

near_step : (sized newer : Bool) (t : ScannerTable) (indexed : IndexedSlot) (d : DatagramFields) (c : SlotConnection) → sized ≡ true → newer ≡ true → cond sized (cond newer (slots.accepted t indexed d c) (slots.delivered Old t)) (slots.delivered WrongSize t) ≡ slots.accepted t indexed d c
near_step true true t indexed d c size number = refl
near_step true false t indexed d c size number = absurd (let e = number in cc)
near_step false newer t indexed d c size number = absurd (let e = size in cc)

-- what holds of the datagram at the slot's connection holds of the event
at_slot : (P : ScannerNext → Type 0) (t : ScannerTable) (peer : Node) (bytes : List ℕ) (is : IsForSlot t peer bytes) → P (slots.connected t is.indexed is.datagram is.connection) → P (slots.received t peer bytes)
unfolding slots.received
at_slot P t peer bytes is holds =
    subst (λ (r : Result DatagramFields DatagramFault). P (slots.received_as t peer r)) (sym is.reads)
    (subst (λ (o : Option IndexedSlot). P (slots.received_at t is.datagram o)) (sym is.found)
    (subst (λ (s : SlotState). P (slots.state_received t is.indexed is.datagram s)) (sym is.established) holds))

pub far_slot_numbers : FarNumbersChangeNoSlot
far_slot_numbers t peer bytes next stepped is far =
    let c = is.connection in
    let refused = far_refused t.profile.newer (since_accepted t.clock c.watchdog c.deadline) (slots.slot_pace is.indexed c) c.last is.datagram.sequence is.within is.last is.within_is is.last_is far in
    subst (IsNotAcceptedBySlot t) (slot_next_is _ _ stepped)
    (at_slot (IsNotAcceptedBySlot t) t peer bytes is (far_step (length is.datagram.payload == is.indexed.config.in_len) (slots.accepts_at t is.indexed c is.datagram.sequence) t is.indexed is.datagram c refused))

pub near_slot_numbers : NearNumbersAreAcceptedBySlots
near_slot_numbers t peer bytes next stepped is size newer near =
    let c = is.connection in
    let number = near_accepted t.profile.newer (since_accepted t.clock c.watchdog c.deadline) (slots.slot_pace is.indexed c) c.last is.datagram.sequence is.within is.last is.within_is is.last_is newer near in
    subst (λ (n : ScannerNext). n ≡ slots.accepted t is.indexed is.datagram c) (slot_next_is _ _ stepped)
    (at_slot (λ (n : ScannerNext). n ≡ slots.accepted t is.indexed is.datagram c) t peer bytes is
    (near_step (length is.datagram.payload == is.indexed.config.in_len) (slots.accepts_at t is.indexed c is.datagram.sequence) t is.indexed is.datagram c (same_len _ _ size) number))
