-- Samples of what a tidy scanner owes its targets: which connection a slot has, until when, and what ends it.
use Rattle.std.proofs.Common.{◌≡◌, ◌⊎◌, inl, inr, ℕ, true, false, [], ◌∷◌, Option, Some, None, refl, subst, arith}
use Rattle.std.specs.Option.{option_map}
use Rattle.std.specs.List.{Contains}
use Rattle.std.proofs.lemmas.List.Elements.{Contains-push, Contains-push_cases}
use Rattle.std.proofs.lemmas.Option.{same_Some}
use Rattle.cip_types.specs.declared.names.Mismatch.TheVariants as mismatch
use Rattle.cip_events.specs.declared.event.Event.TheVariants.{StreamCut, Tick, Start, Stop}
use Rattle.cip_events.specs.declared.event.Notice.TheVariants as notice
use Rattle.cip_events.specs.declared.event.Reason.{Reason}
use Rattle.cip_events.specs.declared.event.Reason.TheVariants as reason
use Rattle.scanner_table.specs.declared.slot.PendingClose.{PendingClose}
use Rattle.scanner_table.specs.declared.slot.SlotState.{SlotState}
use Rattle.scanner_table.specs.declared.slot.SlotState.TheVariants.{Idle, Opening, Established, TimedOut, Closing}
use Rattle.scanner_table.specs.declared.table.ScannerTable.{ScannerTable}
use Rattle.scanner_table.specs.declared.table.Stage.TheVariants.{Up}
use Rattle.scanner_table.specs.Closing.{target_lost}
use Rattle.scanner_table.specs.Encapsulation.{stream_cut}
use Rattle.scanner_table.specs.Opening.{opened, ready_opened}
use Rattle.scanner_table.specs.Explicit.{explicit_timed_out, explicit_lost}
use Rattle.scanner_table.specs.Points.{start, stop}
use Rattle.scanner_table.specs.Productions.{produced_table}
use Rattle.scanner_table.specs.Runs.{left_by}
use Rattle.scanner_table.specs.Slots.{IndexedSlot, slot_at}
use Rattle.scanner_table.specs.Step.{scanner_step}
use Rattle.scanner_table.specs.Ticks.{all_expired, all_given_up, tick}
use Rattle.device_laws.specs.CutCloses.{ClosesOver}
use Rattle.device_laws.specs.TidyScanners.{triad_in, HasConnection, is_mismatch, IsEnded, HasUntilEnd}
use Rattle.device_laws.proofs.SmallTables.{gatherer, profile, target, triad, opening, link, connection, indexed, second_slot, table}

-- the small scanner, tidy, with its first slot in a state
abbrev tidy_table : SlotState → ScannerTable
tidy_table state = record (table state) { profile = record profile { tidy = true } }

triads : triad_in (Opening opening) ∷ triad_in (Established connection) ∷ triad_in (TimedOut link) ∷ triad_in Idle ∷ triad_in (Closing (record { request = 8; link = link; deadline = record { 0 = 2600 } })) ∷ [] ≡ Some triad ∷ Some triad ∷ Some triad ∷ None ∷ None ∷ []
triads = refl

-- a reply that is no success refuses the connection, also one that cannot be read
reasons : is_mismatch (reason.Mismatch mismatch.Triad) ∷ is_mismatch (reason.Cip (record { general = 1; extended = None })) ∷ is_mismatch (reason.Encap 0x64) ∷ is_mismatch reason.Unreadable ∷ [] ≡ true ∷ false ∷ false ∷ false ∷ []
reasons = refl

opening_has : HasConnection (tidy_table (Opening opening)) 0 triad
opening_has = record { place = indexed (Opening opening); at = refl; has = refl }

place_has_not : (t : ScannerTable) (number : ℕ) (place : IndexedSlot) → slot_at t number ≡ Some place → triad_in place.slot.state ≡ None → HasConnection t number triad → ⊥
place_has_not t number place at none has =
    let same : has.place ≡ place = same_Some has.place place (subst (λ found. found ≡ Some place) has.at at) in
    absurd (let e : None ≡ Some triad = subst (λ x. x ≡ Some triad) none (subst (λ (p : IndexedSlot). triad_in p.slot.state ≡ Some triad) same has.has) in cc)

-- the other slot has not the connection
other_has_not : HasConnection (tidy_table (Opening opening)) 1 triad → ⊥
other_has_not has = place_has_not (tidy_table (Opening opening)) 1 (record { number = 1; config = gatherer; slot = second_slot }) refl refl has

-- a stop sends the Forward_Close, as request 8
stop_ends : IsEnded (tidy_table (Opening opening)) 0 triad (scanner_step (tidy_table (Opening opening)) (Stop 0))
unfolding stop
stop_ends = inl (record { place = indexed (Opening opening); at = refl; session = record { stream = 0; handle = 1 }; registered = refl; request = 8; sent = Contains-push [] _ })

until_stop : HasUntilEnd 0 triad (tidy_table (Opening opening)) (Start 0 ∷ Stop 0 ∷ Tick 1 ∷ [])
unfolding start stop tick all_expired all_given_up explicit_timed_out ready_opened produced_table opened
until_stop = (opening_has, inr (opening_has, inl stop_ends))

-- without events the slot has it still
still_has : HasUntilEnd 0 triad (tidy_table (TimedOut link)) []
still_has = record { place = indexed (TimedOut link); at = refl; has = refl }

-- ---- a scanner that is not tidy

none_contained : {X : Type 0} (x : X) → Contains [] x → ⊥
none_contained x there = absurd (omega (arith, there.1))

no_refusal : (why : Reason) → Contains (notice.Slot 0 0 ∷ []) (notice.Refused 0 why) → ⊥
no_refusal why there = on (Contains-push_cases [] (notice.Slot 0 0) (notice.Refused 0 why) there)
  where
    on : Contains [] (notice.Refused 0 why) ⊎ (notice.Slot 0 0 ≡ notice.Refused 0 why) → ⊥
    on (inl there) = none_contained (notice.Refused 0 why) there
    on (inr same) = absurd cc

-- its stop drops the opening: nothing ends it, and the slot has it no more
drops : IsEnded (table (Opening opening)) 0 triad (scanner_step (table (Opening opening)) (Stop 0)) → ⊥
unfolding stop
drops (inl closed) = none_contained _ closed.sent
drops (inr refused) = no_refusal refused.why refused.said

leaves_it : HasUntilEnd 0 triad (table (Opening opening)) (Stop 0 ∷ []) → ⊥
unfolding stop
leaves_it until = on until.1
  where
    on : IsEnded (table (Opening opening)) 0 triad (scanner_step (table (Opening opening)) (Stop 0)) ⊎ HasConnection (record (table Idle) { slots = record (indexed Idle).slot { desired_up = false } ∷ second_slot ∷ [] }) 0 triad → ⊥
    on (inl ended) = drops ended
    on (inr has) = place_has_not (record (table Idle) { slots = record (indexed Idle).slot { desired_up = false } ∷ second_slot ∷ [] }) 0 (record (indexed Idle) { slot = record (indexed Idle).slot { desired_up = false } }) refl refl has

-- ---- a close that is cut

-- the slot closes until 2600 ms
abbrev closing : PendingClose
closing = record { request = 7; link = link; deadline = record { 0 = 2600 } }

closes_over : ClosesOver (tidy_table (Closing closing)) 0 (indexed (Closing closing)) closing
closes_over = record { at = refl; closes = refl; early = omega arith; stream = record { number = 0; peer = target; stage = Up 1 }; found = refl; goes = refl }

-- what slot 0 is after the stream is cut
abbrev cut_state : ScannerTable → Option SlotState
cut_state t = option_map (λ (place : IndexedSlot). place.slot.state) (slot_at (left_by t (scanner_step t (StreamCut 0))) 0)

-- the connection is kept, unless the time for the reply is over, or the scanner is not tidy
cut_states : cut_state (tidy_table (Closing closing)) ∷ cut_state (record (tidy_table (Closing closing)) { clock = record { 0 = 2600 } }) ∷ cut_state (table (Closing closing)) ∷ [] ≡ Some (TimedOut link) ∷ Some Idle ∷ Some Idle ∷ []
unfolding stream_cut target_lost explicit_lost
cut_states = refl
