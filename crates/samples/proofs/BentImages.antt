-- The laws of images and of written outputs refuse chronicles that were bent against them.
use Rattle.std.proofs.Common.{◌≡◌, ℕ, Bool, true, false, List, [], ◌∷◌, map, Some, refl}
use Rattle.scanner_table.specs.declared.slot.Slot.{Slot}
use Rattle.cip_tables.specs.declared.table.DeviceTable.{DeviceTable}
use Rattle.cip_tables.specs.declared.table.DeviceTable.TheVariants.{Adapter, Scanner}
use Rattle.device_laws.specs.Productions.{end_at}
use Rattle.schedule_laws.specs.Chronicle.{Acceptance, Chronicle}
use Rattle.schedule_laws.specs.Order.{OutputsAreWritten}
use Rattle.schedule_laws.specs.Images.{ImagesWereGathered, ImagesWereProduced, ScannersAccept}
use Rattle.samples.specs.Playing.{playing}
use Rattle.samples.specs.Schedules.{observed, owned, played, shared}
use Rattle.samples.specs.Stories.{again, gathered, joined, twice_written}
use Rattle.samples.specs.ImageTests.{images_gathered, images_produced, outputs_written, scanners_accept}
use Rattle.samples.proofs.ImageTesting.{gathered_passes, produced_passes, scanners_accept_passes, written_passes}
use Rattle.samples.proofs.Passing.{LawAt, refuses}

-- ---- as they were played

abbrev gathers : ℕ → Chronicle → List Bool
gathers device c = scanners_accept c ∷ images_gathered device c ∷ images_produced device c ∷ []

abbrev three : List Bool
three = true ∷ true ∷ true ∷ []

a_slot_gathers : observed (gathers 1) (played owned gathered) ≡ Some three
unfolding playing
a_slot_gathers = refl

a_joiner_gathers : observed (gathers 2) (played shared joined) ≡ Some three
unfolding playing
a_joiner_gathers = refl

a_slot_writes : observed (outputs_written owned 1) (played owned twice_written) ≡ Some true
unfolding playing
a_slot_writes = refl

-- ---- what slots accept

-- what was accepted was made by another producer of the adapter, under the same id
abbrev made_by_another : Acceptance → Acceptance
made_by_another a = record a { production = record a.production { producer = end_at a.production.producer.device 9 } }

abbrev accepted_of_another : Chronicle → Chronicle
accepted_of_another c = record c { accepted = map made_by_another c.accepted }

another_fails : observed (λ c. scanners_accept (accepted_of_another c)) (played owned gathered) ≡ Some false
unfolding playing
another_fails = refl

another_producer_is_refused : LawAt ScannersAccept accepted_of_another (played owned gathered) → ⊥
another_producer_is_refused law = refuses ScannersAccept scanners_accept scanners_accept_passes accepted_of_another (played owned gathered) another_fails law

-- ---- what images hold

abbrev with_image : List ℕ → Slot → Slot
with_image bytes slot = record slot { image = bytes }

abbrev with_images : List ℕ → DeviceTable → DeviceTable
with_images bytes (Adapter t) = Adapter t
with_images bytes (Scanner t) = Scanner (record t { slots = map (with_image bytes) t.slots })

abbrev imaged : List ℕ → Chronicle → Chronicle
imaged bytes c = record c { story = record { world = record c.story.world { tables = map (with_images bytes) c.story.world.tables }; reported = c.story.reported } }

-- The slot was established anew, and its image holds what its first opening accepted.
abbrev of_the_first_opening : Chronicle → Chronicle
of_the_first_opening c = imaged (7 ∷ 7 ∷ 7 ∷ 7 ∷ []) c

first_fails : observed (λ c. images_gathered 1 (of_the_first_opening c)) (played owned again) ≡ Some false
unfolding playing
first_fails = refl

data_of_an_earlier_opening_are_refused : LawAt ImagesWereGathered of_the_first_opening (played owned again) → ⊥
data_of_an_earlier_opening_are_refused law = refuses ImagesWereGathered (images_gathered 1) (gathered_passes 1) of_the_first_opening (played owned again) first_fails law

-- so does the producer that its T->O id names now: it has made nothing yet
shown_fails : observed (λ c. images_produced 1 (of_the_first_opening c)) (played owned again) ≡ Some false
unfolding playing
shown_fails = refl

data_of_an_earlier_producer_are_refused : LawAt ImagesWereProduced of_the_first_opening (played owned again) → ⊥
data_of_an_earlier_producer_are_refused law = refuses ImagesWereProduced (images_produced 1) (produced_passes 1) of_the_first_opening (played owned again) shown_fails law

-- the slot was never established, and its image holds data
abbrev never_established : Chronicle → Chronicle
never_established c = record c { established = [] }

never_fails : observed (λ c. images_gathered 1 (never_established c)) (played owned gathered) ≡ Some false
unfolding playing
never_fails = refl

an_image_without_an_opening_is_refused : LawAt ImagesWereGathered never_established (played owned gathered) → ⊥
an_image_without_an_opening_is_refused law = refuses ImagesWereGathered (images_gathered 1) (gathered_passes 1) never_established (played owned gathered) never_fails law

-- ---- what slots produce

abbrev with_output : Slot → Slot
with_output slot = record slot { output = 7 ∷ 7 ∷ 7 ∷ 7 ∷ [] }

abbrev with_outputs : DeviceTable → DeviceTable
with_outputs (Adapter t) = Adapter t
with_outputs (Scanner t) = Scanner (record t { slots = map with_output t.slots })

-- the output holds the write before the last
abbrev written_before : Chronicle → Chronicle
written_before c = record c { story = record { world = record c.story.world { tables = map with_outputs c.story.world.tables }; reported = c.story.reported } }

abbrev WrittenIn : Chronicle → Type 0
WrittenIn c = OutputsAreWritten c owned

before_fails : observed (λ c. outputs_written owned 1 (written_before c)) (played owned twice_written) ≡ Some false
unfolding playing
before_fails = refl

an_earlier_write_is_refused : LawAt WrittenIn written_before (played owned twice_written) → ⊥
an_earlier_write_is_refused law = refuses WrittenIn (outputs_written owned 1) (written_passes owned 1) written_before (played owned twice_written) before_fails law
