-- The laws of two moments refuse what was bent against them.
use Rattle.std.proofs.Common.{◌≡◌, ℕ, Bool, true, false, List, [], ◌∷◌, map, arith, Option, Some, None, refl}
use Rattle.std.specs.List.{Contains}
use Rattle.cip_events.specs.declared.event.Delivery.TheVariants.{Applied}
use Rattle.scanner_table.specs.declared.slot.Slot.{Slot}
use Rattle.scanner_table.specs.declared.table.ScannerTable.{ScannerTable}
use Rattle.cip_tables.specs.declared.table.DeviceTable.{DeviceTable}
use Rattle.cip_tables.specs.declared.table.DeviceTable.TheVariants.{Adapter, Scanner}
use Rattle.device_laws.specs.Productions.{Production}
use Rattle.schedule_laws.specs.Chronicle.{Acceptance, Chronicle, Opened}
use Rattle.schedule_laws.specs.Producers.{HasConnection, RowsAcceptNothingOlder, SlotsAcceptOfTheLiving}
use Rattle.samples.specs.Playing.{playing}
use Rattle.samples.specs.Schedules.{observed, owned, played}
use Rattle.samples.specs.Stories.{gathered, twice_written}
use Rattle.samples.specs.MomentTests.{one_slot_has, were_inputs, were_written}
use Rattle.samples.specs.NameTests.{device_of}
use Rattle.samples.specs.Twofold.{both_owned, both_written}
use Rattle.samples.proofs.MomentTesting.{AreInputs, AreWritten, were_inputs_passes, were_written_passes}
use Rattle.samples.proofs.Passing.{LawAt, refuses}

-- ---- what was written before

writes_come_first : observed (were_written owned twice_written) (played owned twice_written) ≡ Some true
unfolding playing
writes_come_first = refl

abbrev with_value : List ℕ → Acceptance → Acceptance
with_value bytes a = record a { production = record a.production { made = record a.production.made { value = bytes } } }

-- what was accepted was never written
abbrev never_written : Chronicle → Chronicle
never_written c = record c { accepted = map (with_value (6 ∷ 6 ∷ 6 ∷ 6 ∷ [])) c.accepted }

never_fails : observed (λ c. were_written owned twice_written (never_written c)) (played owned twice_written) ≡ Some false
unfolding playing
never_fails = refl

what_was_never_written_is_refused : LawAt (AreWritten owned twice_written) never_written (played owned twice_written) → ⊥
what_was_never_written_is_refused law =
    refuses (AreWritten owned twice_written) (were_written owned twice_written) (were_written_passes owned twice_written) never_written (played owned twice_written) never_fails law

inputs_come_first : observed (were_inputs owned gathered) (played owned gathered) ≡ Some true
unfolding playing
inputs_come_first = refl

inputs_fail : observed (λ c. were_inputs owned gathered (never_written c)) (played owned gathered) ≡ Some false
unfolding playing
inputs_fail = refl

what_was_never_an_input_is_refused : LawAt (AreInputs owned gathered) never_written (played owned gathered) → ⊥
what_was_never_an_input_is_refused law =
    refuses (AreInputs owned gathered) (were_inputs owned gathered) (were_inputs_passes owned gathered) never_written (played owned gathered) inputs_fail law

-- ---- which slot has an opening number

abbrev exchanged : List Slot → List Slot
exchanged [] = []
exchanged (a ∷ []) = a ∷ []
exchanged (a ∷ (b ∷ rest)) = b ∷ a ∷ rest

abbrev exchanged_slots : ScannerTable → ScannerTable
exchanged_slots t = record t { slots = exchanged t.slots }

abbrev at_scanner : (ScannerTable → Bool) → Option DeviceTable → Bool
at_scanner test None = false
at_scanner test (Some (Adapter t)) = false
at_scanner test (Some (Scanner t)) = test t

-- each slot keeps its opening, and a table in which the two slots have each other's is not the same
slots_keep_theirs : observed (λ c. at_scanner (λ t. one_slot_has 1 t t) (device_of c 1)) (played both_owned both_written) ≡ Some true
unfolding playing
slots_keep_theirs = refl

exchanged_fails : observed (λ c. at_scanner (λ t. one_slot_has 1 t (exchanged_slots t)) (device_of c 1)) (played both_owned both_written) ≡ Some false
unfolding playing
exchanged_fails = refl

-- ---- later connections

pub first_of : {X : Type 0} (x : X) (xs : List X) → Contains (x ∷ xs) x
first_of x xs = (0, omega arith, refl)

-- a connection that was opened since, and that has accepted this production
abbrev accepted_since : Chronicle → Opened → Acceptance → Chronicle
accepted_since was e a = record was { opened = e ∷ was.opened; accepted = a ∷ was.accepted }

abbrev accepted_at : Opened → Production → Acceptance
accepted_at e p = record { consumer = e.row; production = p; delivery = Applied }

abbrev accepted_by : Opened → Production → Acceptance
accepted_by e p = record { consumer = e.slot; production = p; delivery = Applied }

-- at the adapter, what was produced before is refused
an_older_production_is_refused : (was : Chronicle) (e : Opened) (p : Production) → (Contains was.opened e → ⊥) → Contains was.produced p → RowsAcceptNothingOlder was (accepted_since was e (accepted_at e p)) → ⊥
an_older_production_is_refused was e p new older law =
    law e (accepted_at e p) (record { there = first_of e was.opened; later = new }) (first_of (accepted_at e p) was.accepted) refl older

-- at the slot, what was produced before by a producer that has ended
an_ended_producer_is_refused : (was : Chronicle) (e : Opened) (p : Production) → (Contains was.opened e → ⊥) → Contains was.produced p → p.made.datagram.connection ≡ e.t_o_id.0 → (HasConnection was p.producer → ⊥) → SlotsAcceptOfTheLiving was (accepted_since was e (accepted_by e p)) → ⊥
an_ended_producer_is_refused was e p new older id ended law =
    ended (law e (accepted_by e p) (record { there = first_of e was.opened; later = new }) (first_of (accepted_by e p) was.accepted) refl id older)
