-- Lives of one adapter: with incarnations that differ, what was sent to the first life is not accepted by the second; with one
-- incarnation it is, at the other output. And the laws of lives refuse what was bent against them.
use Rattle.std.proofs.Common.{◌≡◌, ◌⊎◌, inl, inr, ℕ, true, false, [], ◌∷◌, replicate, Some, refl}
use Rattle.std.specs.List.{Contains}
use Rattle.cip_events.specs.declared.event.Delivery.TheVariants.{Applied}
use Rattle.adapter_table.specs.declared.table.AdapterTable.{AdapterTable}
use Rattle.scanner_table.specs.declared.table.ScannerTable.{ScannerTable}
use Rattle.scanner_table.specs.Slots.{IndexedSlot, slot_at}
use lib.Count.{ones}
use Rattle.segment_world.specs.Configs.{any_twice, world_fault}
use Rattle.segment_world.specs.Story.{events_of}
use Rattle.segment_world.specs.declared.configs.DeviceKey.TheVariants.{Incarnation}
use Rattle.segment_world.specs.declared.fault.WorldFault.TheVariants.{SameNode}
use Rattle.device_laws.specs.Productions.{end_at, Production}
use Rattle.schedule_laws.specs.Chronicle.{Acceptance, Chronicle}
use Rattle.schedule_laws.specs.Lives.{AreLives}
use Rattle.schedule_laws.specs.Order.{IsAdapterAt, IsScannerAt}
use Rattle.schedule_laws.specs.Producers.{HasConnection}
use Rattle.schedule_laws.specs.Restarts.{LivesDrewIds, TakesNothingOlder, WasDrawnBy, WasTaken}
use Rattle.samples.specs.Oracle.{is_in_order}
use Rattle.samples.specs.Playing.{playing}
use Rattle.samples.specs.Restarted.{first_life, late, one_byte, two_lives}
use Rattle.samples.specs.Schedules.{accepted_at, observed, played}
use Rattle.samples.proofs.BentMoments.{first_of}

-- ---- an incarnation for each life

-- a world of devices refuses them, since they have one address
two_of_one_address : world_fault two_lives ≡ Some SameNode
unfolding playing
two_of_one_address = refl

they_are_lives : AreLives two_lives
unfolding playing ones
they_are_lives = record { profiles = refl }

-- before the second life begins nothing has happened at it
it_is_new : observed (λ c. events_of 2 c.story.reported) (played two_lives first_life) ≡ Some []
unfolding playing
it_is_new = refl

nothing_is_taken : observed (accepted_at 2 160) (played two_lives late) ≡ Some ([], Some (0 ∷ 0 ∷ 0 ∷ 0 ∷ []))
unfolding playing
nothing_is_taken = refl

it_is_in_order : observed is_in_order (played two_lives late) ≡ Some true
unfolding playing
it_is_in_order = refl

-- ---- one incarnation

one_byte_for_two : any_twice Incarnation one_byte ≡ true
unfolding playing
one_byte_for_two = refl

-- the value 7, which slot 0 sent for the output 150, is applied to the output 160
outputs_are_crossed : observed (accepted_at 2 160) (played one_byte late) ≡ Some ((1, 1, 1, 1, Applied) ∷ [], Some (7 ∷ 7 ∷ 7 ∷ 7 ∷ []))
unfolding playing
outputs_are_crossed = refl

it_is_out_of_order : observed is_in_order (played one_byte late) ≡ Some false
unfolding playing
it_is_out_of_order = refl

-- ---- bent against the laws

-- an acceptance of this device
abbrev taken_by : ℕ → Production → Acceptance
taken_by device p = record { consumer = end_at device 1; production = p; delivery = Applied }

abbrev with_taken : Chronicle → Acceptance → Chronicle
with_taken was a = record was { accepted = a ∷ was.accepted }

an_older_production_at_a_new_adapter_is_refused : (was : Chronicle) (life : ℕ) (t : AdapterTable) (p : Production) → IsAdapterAt was life t → Contains was.produced p → TakesNothingOlder was (with_taken was (taken_by life p)) life → ⊥
an_older_production_at_a_new_adapter_is_refused was life t p at older law = law.adapter t (taken_by life p) at (first_of (taken_by life p) was.accepted) refl older

an_ended_producer_at_a_new_scanner_is_refused : (was : Chronicle) (life : ℕ) (t : ScannerTable) (p : Production) → IsScannerAt was life t → Contains was.produced p → (HasConnection was p.producer → ⊥) → TakesNothingOlder was (with_taken was (taken_by life p)) life → ⊥
an_ended_producer_at_a_new_scanner_is_refused was life t p at older ended law =
    let joined = law.scanner t (taken_by life p) at (first_of (taken_by life p) was.accepted) refl older in ended joined.living

an_image_that_nothing_gave_is_refused : (was now : Chronicle) (life : ℕ) (t : ScannerTable) (place : IndexedSlot) → IsScannerAt now life t → slot_at t place.number ≡ Some place → (place.slot.image ≡ replicate place.config.in_len 0 → ⊥) → ((a : Acceptance) → Contains now.accepted a → place.slot.image ≡ a.production.made.datagram.payload → ⊥) → TakesNothingOlder was now life → ⊥
an_image_that_nothing_gave_is_refused was now life t place at there zeros other law = held (law.images t place at there)
  where
    held : (place.slot.image ≡ replicate place.config.in_len 0) ⊎ WasTaken was now life place.slot.image → ⊥
    held (inl is) = zeros is
    held (inr taken) = other taken.acceptance taken.there taken.data_is

an_id_of_no_life_is_refused : (c : Chronicle) (p : Production) → Contains c.produced p → ((life : ℕ) → WasDrawnBy c life p.made.datagram.connection → ⊥) → LivesDrewIds c → ⊥
an_id_of_no_life_is_refused c p there none law = let drawn = law.productions p there in none drawn.life drawn.by
