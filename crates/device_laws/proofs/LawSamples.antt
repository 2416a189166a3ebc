-- Samples of the definitions at a small scanner's tables, worked out by hand.
use Rattle.std.proofs.Common.{◌≡◌, ◌≤◌, ◌⊎◌, inl, inr, ℕ, ◌+◌, ◌*◌, ◌^◌, true, false, List, [], ◌∷◌, Some, None, refl, sym, ◌∙◌, ap, arith}
use Rattle.cip_types.specs.IdLaws.{extends_itself, incarnation_ids}
use Rattle.cip_types.specs.declared.names.ConnId.{ConnId}
use Rattle.cip_events.specs.declared.event.Event.TheVariants.{Request, Write, Tick, Start, Stop}
use Rattle.cip_datagram.specs.Reading as datagrams
use Rattle.cip_fwdopen.specs.Open.{OpenFields}
use Rattle.cip_netparams.specs.Word.{is_message_trigger}
use Rattle.cip_router.specs.Requests.{object, opening as opens}
use Rattle.scanner_table.specs.declared.slot.SlotState.{SlotState}
use Rattle.scanner_table.specs.declared.slot.SlotState.TheVariants.{Idle, Opening, Established, TimedOut}
use Rattle.scanner_table.specs.declared.table.ScannerTable.{ScannerTable}
use Rattle.scanner_table.specs.Opening.{opened, ready_opened}
use Rattle.scanner_table.specs.Datagrams.{received}
use Rattle.scanner_table.specs.Productions.{produced_table}
use Rattle.scanner_table.specs.Explicit.{explicit_timed_out}
use Rattle.scanner_table.specs.Ticks.{all_expired, all_given_up, tick}
use Rattle.scanner_table.specs.Points.{write, start, stop}
use Rattle.scanner_table.specs.Runs.{table_after}
use Rattle.scanner_table.specs.Counters.{CountsOn}
use Rattle.scanner_table.specs.Drawn.{IsDrawn, WantsDrawn, StateIsDrawn, id_of, IdsAreOwn}
use Rattle.device_laws.specs.ScannerOpenings.{Began, OpensAnew}
use Rattle.scanner_table.specs.Producers.{ProducesAsItself}
use Rattle.scanner_table.specs.Waiting.{SlotWaits}
use Rattle.device_laws.specs.ScannerDeadlines.{SlotIsAhead}
use Rattle.device_laws.specs.Scratch.{data_left, zeros_left, output_left, last_image, last_output}
use Rattle.device_laws.specs.Plain.{HasPlainService, IsPlainRequest}
use Rattle.device_laws.specs.Newest.{Acceptance, accepted_at, acceptances, last_accepted, HasNewerNumber, HasOtherCount, StateRemembers, last_in, StateIsNumbered}
use Rattle.device_laws.proofs.SmallTables.{target, owner, gatherer, profile, triad, blocks, own_id, opening, link, connection, first_slot, indexed, table, open_table, arrives}

-- ---- events

refused_stays : table_after open_table (Request target [] ∷ Start 0 ∷ Start 2 ∷ []) ≡ open_table
unfolding start
refused_stays = refl

two_ticks : (table_after (table Idle) (Tick 1 ∷ Tick 60001 ∷ Tick 9 ∷ [])).clock ≡ record { 0 = 610 }
unfolding tick all_expired all_given_up explicit_timed_out ready_opened produced_table opened
two_ticks = refl

-- ---- services that are asked for

-- a request to open a class 3 connection asks no object for the service of an opening, and is no plain request
class3_is_requested : (request : OpenFields) → request.trigger ≡ 0xA3 → HasPlainService (opens false request) × (IsPlainRequest (opens false request) → ⊥)
class3_is_requested request is = (tt, λ plain. absurd (let other : false ≡ true = sym plain ∙ ap is_message_trigger is in cc))

-- an identity object is asked for the service of a Forward_Open, of a Large_Forward_Open, and for an attribute
small_is_requested : HasPlainService (object 0x54 1 1 None []) → ⊥
small_is_requested asks = absurd (let other : true ≡ false = asks.small in cc)

large_is_requested : HasPlainService (object 0x5B 1 1 None []) → ⊥
large_is_requested asks = absurd (let other : true ≡ false = asks.large in cc)

attribute_is_requested : HasPlainService (object 0x0E 1 1 (Some 7) [])
attribute_is_requested = record { small = refl; large = refl }

-- ---- allocated numbers

sixth_is_drawn : IsDrawn blocks 6 7 own_id
sixth_is_drawn = record { number = 6; is = refl; within = omega arith; begins = omega arith; ends = omega arith }

drawn_number : (next : ℕ) (id : ConnId) → next ≤ 7 → (drawn : IsDrawn blocks 1 next id) → id.0 ≡ 0x20 * 2 ^ 24 + drawn.number
drawn_number next id few drawn = let ends = drawn.ends in ap (λ (id : ConnId). id.0) (drawn.is ∙ incarnation_ids 0x20 drawn.number drawn.begins (omega (arith, ends, few)))

-- a number has to be below the next one, and an id of another incarnation is none of the scanner's
not_below : IsDrawn blocks 1 6 own_id → ⊥
not_below drawn = let same : 0x20000006 ≡ 0x20 * 2 ^ 24 + drawn.number = drawn_number 6 own_id (omega arith) drawn in absurd (omega (arith, same, drawn.ends))

not_its_own : IsDrawn blocks 1 7 (record { 0 = 0x10000006 }) → ⊥
not_its_own drawn = let same : 0x10000006 ≡ 0x20 * 2 ^ 24 + drawn.number = drawn_number 7 (record { 0 = 0x10000006 }) (omega arith) drawn in absurd (omega (arith, same))

group_wants_none : WantsDrawn blocks 1 7 true None
group_wants_none = tt

group_wants_no_id : WantsDrawn blocks 1 7 true (Some own_id) → ⊥
group_wants_no_id wants = wants

owner_wants_one : WantsDrawn blocks 1 7 false None → ⊥
owner_wants_one wants = wants

opening_is_drawn : StateIsDrawn blocks 7 8 false (Opening opening)
opening_is_drawn = (omega arith, record { number = 6; is = refl; within = omega arith; begins = omega arith; ends = omega arith })

opening_is_next : StateIsDrawn blocks 7 7 false (Opening opening) → ⊥
opening_is_next drawn = absurd (omega (arith, drawn.0))

ids : id_of (indexed (Opening opening)) ∷ id_of (indexed (Established connection)) ∷ id_of (indexed (TimedOut link)) ∷ id_of (indexed Idle) ∷ [] ≡ Some own_id ∷ Some own_id ∷ Some own_id ∷ None ∷ []
ids = refl

group_has_none : id_of (record (indexed (Established connection)) { config = gatherer }) ≡ None
group_has_none = refl

-- the slot that is ready opens at a tick: its numbers are the next ones, which go up
abbrev ticked : ScannerTable
ticked = table_after (table Idle) (Tick 400 ∷ [])

tick_begins : Began (table Idle) ticked owner (record { request = 8; requested = record { triad = record triad { serial = 6 }; t_o_id = Some (record { 0 = 0x20000007 }) }; deadline = record { 0 = 3000 } })
unfolding tick all_expired all_given_up explicit_timed_out ready_opened produced_table opened
tick_begins = record { begins = omega arith; ends = omega arith; id = λ one. record { number = 7; is = refl; within = omega arith; begins = omega arith; ends = omega arith } }

tick_counts : CountsOn (table Idle) ticked
unfolding tick all_expired all_given_up explicit_timed_out ready_opened produced_table opened
tick_counts = record { profile = refl; slots = λ full. refl; blocks = extends_itself blocks; ids = omega arith; requests = omega arith }

-- ---- producers and deadlines

produces : ProducesAsItself (indexed (Established connection))
produces = (refl, refl)

-- the second slot's producer has the number 1
produces_not : ProducesAsItself (record (indexed (Established connection)) { number = 1 }) → ⊥
produces_not itself = absurd (omega (arith, itself.0))

waits : SlotWaits (table Idle) (indexed (Opening opening))
waits = omega arith

waits_not : SlotWaits (record (table Idle) { clock = record { 0 = 499 } }) (indexed (Opening opening)) → ⊥
waits_not late = absurd (omega (arith, late))

ahead : SlotIsAhead (table Idle) (indexed (Established connection))
ahead = omega arith

-- a deadline that is now has come
ahead_not : SlotIsAhead (record (table Idle) { clock = record { 0 = 660 } }) (indexed (Established connection)) → ⊥
ahead_not is = absurd (omega (arith, is))

-- ---- images and outputs

abbrev two : ℕ → List ℕ
two byte = byte ∷ byte ∷ []

-- new data for the slot are left at its image, and at no other; a repeated count and an old number leave nothing
applied_data : data_left 0 open_table (arrives 8 4 9) ∷ data_left 1 open_table (arrives 8 4 9) ∷ data_left 0 open_table (arrives 8 3 9) ∷ data_left 0 open_table (arrives 7 4 9) ∷ data_left 0 (table Idle) (arrives 8 4 9) ∷ [] ≡ Some (two 9) ∷ None ∷ None ∷ None ∷ None ∷ []
unfolding received datagrams.datagram_reading
applied_data = refl

zeros : zeros_left (indexed (Opening opening)) (indexed (Established connection)) ∷ zeros_left (indexed (Established connection)) (indexed (Established connection)) ∷ zeros_left (indexed (Established connection)) (indexed (TimedOut link)) ∷ [] ≡ Some (two 0) ∷ None ∷ None ∷ []
zeros = refl

images : last_image 0 open_table (arrives 8 4 9 ∷ arrives 9 5 6 ∷ arrives 10 5 7 ∷ Tick 1 ∷ Stop 0 ∷ []) ≡ Some (two 6)
unfolding received datagrams.datagram_reading tick all_expired all_given_up explicit_timed_out ready_opened produced_table opened stop
images = refl

no_images : last_image 0 open_table (arrives 6 4 9 ∷ Write 0 (two 8) ∷ Tick 60 ∷ []) ≡ None
unfolding received datagrams.datagram_reading write tick all_expired all_given_up explicit_timed_out ready_opened produced_table opened
no_images = refl

outputs : output_left 0 open_table (Write 0 (two 5)) ∷ output_left 0 open_table (Write 0 (5 ∷ [])) ∷ output_left 0 open_table (Write 1 []) ∷ output_left 0 open_table (arrives 8 4 9) ∷ [] ≡ Some (two 5) ∷ None ∷ None ∷ None ∷ []
unfolding write
outputs = refl

last_outputs : last_output 0 open_table (Write 0 (two 5) ∷ Write 0 (two 6) ∷ Write 0 [] ∷ Write 1 [] ∷ Write 9 (two 7) ∷ []) ≡ Some (two 6)
unfolding write
last_outputs = refl

-- ---- accepted datagrams

abbrev acceptance : ℕ → ℕ → Acceptance
acceptance number count = record { datagram = record { number = number; count = count }; applied = true }

-- the slot's connection accepts it; another slot's, and one of another opening, do not
accepts : accepted_at 0 7 open_table (arrives 8 4 9) ≡ acceptance 8 4 ∷ []
unfolding received datagrams.datagram_reading
accepts = refl

accepts_elsewhere : accepted_at 1 7 open_table (arrives 8 4 9) ≡ []
unfolding received datagrams.datagram_reading
accepts_elsewhere = refl

accepts_another : accepted_at 0 8 open_table (arrives 8 4 9) ≡ []
unfolding received datagrams.datagram_reading
accepts_another = refl

accepts_duplicate : accepted_at 0 7 open_table (arrives 8 3 9) ≡ record (acceptance 8 3) { applied = false } ∷ []
unfolding received datagrams.datagram_reading
accepts_duplicate = refl

accepts_no_old : accepted_at 0 7 open_table (arrives 7 4 9) ≡ []
unfolding received datagrams.datagram_reading
accepts_no_old = refl

-- the second one is old, and the third repeats the count
accepts_all : acceptances 0 7 open_table (arrives 9 4 9 ∷ arrives 8 5 9 ∷ arrives 10 4 9 ∷ arrives 11 5 9 ∷ []) ≡ acceptance 9 4 ∷ record (acceptance 10 4) { applied = false } ∷ acceptance 11 5 ∷ []
unfolding received datagrams.datagram_reading
accepts_all = refl

lasts : last_in 0 7 open_table ∷ last_in 0 8 open_table ∷ last_in 1 7 open_table ∷ last_in 0 7 (table (TimedOut link)) ∷ [] ≡ connection.last ∷ None ∷ None ∷ None ∷ []
lasts = refl

last_is : last_accepted connection.last (acceptance 9 4 ∷ acceptance 10 5 ∷ []) ≡ Some (record { number = 10; count = 5 })
last_is = refl

newer : HasNewerNumber connection.last (acceptance 8 3)
newer = (omega arith, omega arith)

newer_not : HasNewerNumber connection.last (acceptance 7 4) → ⊥
newer_not is = absurd (omega (arith, is.0))

other_not : HasOtherCount connection.last (acceptance 8 3) → ⊥
other_not is = is refl

remembers_not : StateRemembers 7 None (Established connection) → ⊥
remembers_not remembers = let none : connection.last ≡ None = remembers refl in absurd cc

numbered_not : StateIsNumbered 7 (Established connection) → ⊥
numbered_not numbered = absurd (omega (arith, numbered))

-- ---- two slots

-- two owners whose connections have one id
abbrev twins : ScannerTable
twins = record open_table {
  profile = record profile { slots = owner ∷ owner ∷ [] };
  slots = first_slot (Established connection) ∷ first_slot (TimedOut link) ∷ [];
}

twins_not : IdsAreOwn twins → ⊥
twins_not own = own (indexed (Established connection)) (record (indexed (TimedOut link)) { number = 1 }) own_id (λ same. absurd (omega (arith, same))) refl refl refl refl

-- a slot cannot come to wait for an opening that was numbered before
opens_not : OpensAnew (table Idle) (table (Opening opening)) (indexed Idle) (indexed (Opening opening)) → ⊥
opens_not anew = step (anew opening refl) where
  step : (◌≡◌ {A = SlotState} Idle (Opening opening)) ⊎ Began (table Idle) (table (Opening opening)) owner opening → ⊥
  step (inl same) = absurd cc
  step (inr began) = absurd (omega (arith, began.begins))
