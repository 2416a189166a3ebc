-- The laws of one device's step refuse what was bent against them.
use Rattle.std.proofs.Common.{◌≡◌, ℕ, ◌+◌, Bool, true, false, List, [], ◌∷◌, ◌++◌, map, Option, Some, None, refl}
use Rattle.std.specs.List.{AllByRecursion, list_all}
use Rattle.cip_events.specs.declared.event.Event.TheVariants.{Tick}
use Rattle.cip_events.specs.declared.event.Frame.{Frame}
use Rattle.cip_events.specs.declared.event.Recipient.TheVariants as recipient
use Rattle.adapter_table.specs.Connections.{Row}
use Rattle.adapter_table.specs.declared.table.AdapterTable.{AdapterTable}
use Rattle.scanner_table.specs.declared.slot.Slot.{Slot}
use Rattle.scanner_table.specs.declared.table.ScannerTable.{ScannerTable}
use Rattle.cip_tables.specs.declared.table.DeviceTable.{DeviceTable}
use Rattle.cip_tables.specs.declared.table.DeviceTable.TheVariants.{Adapter, Scanner}
use Rattle.cip_tables.specs.Step.{opening_table}
use Rattle.cip_tables.specs.declared.table.Config.TheVariants as config
use Rattle.segment_world.specs.declared.act.Act.{Act}
use Rattle.segment_world.specs.declared.act.Act.TheVariants.{Local, NextFrame}
use Rattle.segment_world.specs.declared.act.Call.TheVariants as call
use Rattle.segment_world.specs.declared.transit.direction.Direction.{Direction}
use Rattle.segment_world.specs.declared.transit.direction.Direction.TheVariants.{Forth, Back}
use Rattle.segment_world.specs.Transit.Streams.{Opening, Queued, Ending, QueueItem, Stream, side_of}
use Rattle.samples.specs.Devices.{common}
use Rattle.device_laws.specs.Frames.{OpeningsAre}
use Rattle.device_laws.specs.OwnIds.{AsksOwnId}
use Rattle.device_laws.specs.OwnStreams.{GoesOverItsOwn}
use Rattle.device_laws.specs.Replies.{IsNoSuccess}
use Rattle.device_laws.specs.Requests.{is_between}
use Rattle.device_laws.specs.RowIds.{Came}
use Rattle.device_laws.specs.Made.{Made, scanner_makes}
use Rattle.device_laws.specs.ProductionRuns.{OpeningsDiffer}
use Rattle.device_laws.specs.Values.{IsSlots}
use Rattle.schedule_laws.specs.Ids.{IdsAreDrawn}
use Rattle.schedule_laws.specs.Chronicle.{Chronicle}
use Rattle.samples.specs.Playing.{playing}
use Rattle.samples.specs.Schedules.{blocks_of, meets, neighbour, observed, owned, owner, played, scanner}
use Rattle.samples.specs.Stories.{begins, twice_written}
use Rattle.samples.specs.NameTests.{device_of}
use Rattle.samples.specs.StepTests.{all_sent_drawn, bytes_ask_own, is_made_by_a_slot, one_has_number, rows_stay, succeeds_not}
use Rattle.samples.specs.Twofold.{both_owned, both_written}
use Rattle.samples.proofs.Passing.{LawAt, refuses}
use Rattle.samples.proofs.StepTesting.{asking_passes, drawn_sent_passes, numbers_pass, rows_pass, slots_made_pass, success_passes}

abbrev as_played : Chronicle → Chronicle
as_played c = c

-- ---- frames

abbrev first_of : List QueueItem → List ℕ
first_of [] = []
first_of (Opening ∷ rest) = []
first_of (Queued bytes ∷ rest) = bytes
first_of (Ending ∷ rest) = []

abbrev first_on : Direction → List Stream → List ℕ
first_on direction [] = []
first_on direction (s ∷ rest) = first_of (side_of direction s).queue

-- the frame that waits first on the first stream
abbrev waiting : Direction → Chronicle → List ℕ
waiting direction c = first_on direction c.story.world.streams

-- the Forward_Open waits for the adapter, or its reply waits for the scanner
abbrev request_waits : List Act
request_waits = meets 1 0 ++ Local 1 (call.Start 0) ∷ []

abbrev reply_waits : List Act
reply_waits = request_waits ++ NextFrame 0 Forth ∷ []

asks_for_its_own : observed (λ c. bytes_ask_own (blocks_of (scanner owner)) (waiting Forth c)) (played owned request_waits) ≡ Some true
unfolding playing
asks_for_its_own = refl

asks_for_anothers : observed (λ c. bytes_ask_own (blocks_of (neighbour owner)) (waiting Forth c)) (played owned request_waits) ≡ Some false
unfolding playing
asks_for_anothers = refl

-- another scanner may not ask for that id
abbrev RequestedByAnother : Chronicle → Type 0
RequestedByAnother c = OpeningsAre (AsksOwnId (blocks_of (neighbour owner))) (waiting Forth c)

the_id_of_another_is_refused : LawAt RequestedByAnother as_played (played owned request_waits) → ⊥
the_id_of_another_is_refused law =
    refuses RequestedByAnother (λ c. bytes_ask_own (blocks_of (neighbour owner)) (waiting Forth c)) (λ c is. asking_passes (blocks_of (neighbour owner)) (waiting Forth c) is) as_played (played owned request_waits) asks_for_anothers law

abbrev frame_of : List ℕ → Frame
frame_of bytes = record { to = recipient.Stream 0; bytes = bytes }

a_request_is_no_success : observed (λ c. succeeds_not false (waiting Forth c)) (played owned request_waits) ≡ Some true
unfolding playing
a_request_is_no_success = refl

a_reply_is_one : observed (λ c. succeeds_not false (waiting Back c)) (played owned reply_waits) ≡ Some false
unfolding playing
a_reply_is_one = refl

-- a scanner may not send the adapter's reply
abbrev RepliedByAScanner : Chronicle → Type 0
RepliedByAScanner c = IsNoSuccess (frame_of (waiting Back c))

a_success_of_a_scanner_is_refused : LawAt RepliedByAScanner as_played (played owned reply_waits) → ⊥
a_success_of_a_scanner_is_refused law =
    refuses RepliedByAScanner (λ c. succeeds_not false (waiting Back c)) (λ c is. success_passes false (frame_of (waiting Back c)) is) as_played (played owned reply_waits) a_reply_is_one law

-- a fresh device sends nothing over a stream
not_true : false ≡ true → ⊥
not_true e = absurd (let is = e in cc)

over_no_stream_is_refused : GoesOverItsOwn (opening_table (config.Adapter common)) (Tick 10) (frame_of []) → ⊥
over_no_stream_is_refused law = not_true (law 0 refl)

-- ---- connections

abbrev AtAdapter : (AdapterTable → Type 0) → Option DeviceTable → Type 0
AtAdapter P None = Unit {0}
AtAdapter P (Some (Adapter t)) = P t
AtAdapter P (Some (Scanner t)) = Unit {0}

abbrev at_adapter : (AdapterTable → Bool) → Option DeviceTable → Bool
at_adapter test None = true
at_adapter test (Some (Adapter t)) = test t
at_adapter test (Some (Scanner t)) = true

adapter_passes : (P : AdapterTable → Type 0) (test : AdapterTable → Bool) → ((t : AdapterTable) → P t → test t ≡ true) → (found : Option DeviceTable) → AtAdapter P found → at_adapter test found ≡ true
adapter_passes P test passes None is = refl
adapter_passes P test passes (Some (Adapter t)) is = passes t is
adapter_passes P test passes (Some (Scanner t)) is = refl

abbrev AtScanner : (ScannerTable → Type 0) → Option DeviceTable → Type 0
AtScanner P None = Unit {0}
AtScanner P (Some (Adapter t)) = Unit {0}
AtScanner P (Some (Scanner t)) = P t

abbrev at_scanner : (ScannerTable → Bool) → Option DeviceTable → Bool
at_scanner test None = true
at_scanner test (Some (Adapter t)) = true
at_scanner test (Some (Scanner t)) = test t

scanner_passes : (P : ScannerTable → Type 0) (test : ScannerTable → Bool) → ((t : ScannerTable) → P t → test t ≡ true) → (found : Option DeviceTable) → AtScanner P found → at_scanner test found ≡ true
scanner_passes P test passes None is = refl
scanner_passes P test passes (Some (Adapter t)) is = refl
scanner_passes P test passes (Some (Scanner t)) is = passes t is

abbrev with_other_t_o : Row → Row
with_other_t_o row = record row { t_o_id = record { 0 = row.t_o_id.0 + 1 } }

-- the connection has another T->O id after a tick
abbrev renamed : AdapterTable → AdapterTable
renamed t = record t { rows = map with_other_t_o t.rows }

renamed_fails : observed (λ c. at_adapter (λ t. rows_stay t (renamed t)) (device_of c 0)) (played owned begins) ≡ Some false
unfolding playing
renamed_fails = refl

abbrev RenamedAtATick : Chronicle → Type 0
RenamedAtATick c = AtAdapter (λ t. Came t (renamed t) (Tick 10)) (device_of c 0)

another_id_after_a_tick_is_refused : LawAt RenamedAtATick as_played (played owned begins) → ⊥
another_id_after_a_tick_is_refused law =
    refuses RenamedAtATick (λ c. at_adapter (λ t. rows_stay t (renamed t)) (device_of c 0))
    (λ c is. adapter_passes (λ t. Came t (renamed t) (Tick 10)) (λ t. rows_stay t (renamed t)) (λ t came. rows_pass t (renamed t) 10 came) (device_of c 0) is)
    as_played (played owned begins) renamed_fails law

-- ---- what a slot makes

abbrev of_another_value : Made → Made
of_another_value m = record m { value = 6 ∷ 6 ∷ 6 ∷ 6 ∷ [] }

abbrev bent_makes : ScannerTable → List Made
bent_makes t = map of_another_value (scanner_makes t (Tick 10))

a_slot_makes_its_output : observed (λ c. at_scanner (λ t. list_all (is_made_by_a_slot t) (scanner_makes t (Tick 10))) (device_of c 1)) (played owned twice_written) ≡ Some true
unfolding playing
a_slot_makes_its_output = refl

bent_makes_fail : observed (λ c. at_scanner (λ t. list_all (is_made_by_a_slot t) (bent_makes t)) (device_of c 1)) (played owned twice_written) ≡ Some false
unfolding playing
bent_makes_fail = refl

abbrev MadeOtherwise : Chronicle → Type 0
MadeOtherwise c = AtScanner (λ t. AllByRecursion (IsSlots t) (bent_makes t)) (device_of c 1)

another_value_is_refused : LawAt MadeOtherwise as_played (played owned twice_written) → ⊥
another_value_is_refused law =
    refuses MadeOtherwise (λ c. at_scanner (λ t. list_all (is_made_by_a_slot t) (bent_makes t)) (device_of c 1))
    (λ c is. scanner_passes (λ t. AllByRecursion (IsSlots t) (bent_makes t)) (λ t. list_all (is_made_by_a_slot t) (bent_makes t)) (λ t made. slots_made_pass t (bent_makes t) made) (device_of c 1) is)
    as_played (played owned twice_written) bent_makes_fail law

-- ---- opening numbers

-- the second slot has the first one's opening too
abbrev shared_opening : List Slot → List Slot
shared_opening [] = []
shared_opening (a ∷ []) = a ∷ []
shared_opening (a ∷ (b ∷ rest)) = a ∷ record b { state = a.state } ∷ rest

abbrev with_shared : ScannerTable → ScannerTable
with_shared t = record t { slots = shared_opening t.slots }

openings_are_apart : observed (λ c. at_scanner (one_has_number 1) (device_of c 1)) (played both_owned both_written) ≡ Some true
unfolding playing
openings_are_apart = refl

shared_fails : observed (λ c. at_scanner (λ t. one_has_number 1 (with_shared t)) (device_of c 1)) (played both_owned both_written) ≡ Some false
unfolding playing
shared_fails = refl

abbrev OpeningIsShared : Chronicle → Type 0
OpeningIsShared c = AtScanner (λ t. OpeningsDiffer (with_shared t)) (device_of c 1)

one_opening_of_two_slots_is_refused : LawAt OpeningIsShared as_played (played both_owned both_written) → ⊥
one_opening_of_two_slots_is_refused law =
    refuses OpeningIsShared (λ c. at_scanner (λ t. one_has_number 1 (with_shared t)) (device_of c 1))
    (λ c is. scanner_passes (λ t. OpeningsDiffer (with_shared t)) (λ t. one_has_number 1 (with_shared t)) (λ t differ. numbers_pass 1 (with_shared t) differ) (device_of c 1) is)
    as_played (played both_owned both_written) shared_fails law

-- ---- ids that are drawn

abbrev undrawn : DeviceTable → DeviceTable
undrawn (Adapter t) = Adapter (record t { next_id = 1 })
undrawn (Scanner t) = Scanner t

-- the adapter may still draw the id that is on the datagrams
abbrev sent_undrawn : Chronicle → Chronicle
sent_undrawn c = record c { story = record { world = record c.story.world { tables = map undrawn c.story.world.tables }; reported = c.story.reported } }

abbrev DrawnIn : Chronicle → Type 0
DrawnIn c = IdsAreDrawn c.story.world

ids_are_drawn : observed (λ c. all_sent_drawn c.story.world) (played owned twice_written) ≡ Some true
unfolding playing is_between
ids_are_drawn = refl

undrawn_fails : observed (λ c. all_sent_drawn (sent_undrawn c).story.world) (played owned twice_written) ≡ Some false
unfolding playing is_between
undrawn_fails = refl

an_id_to_come_is_refused : LawAt DrawnIn sent_undrawn (played owned twice_written) → ⊥
an_id_to_come_is_refused law =
    refuses DrawnIn (λ c. all_sent_drawn c.story.world) (λ c is. drawn_sent_passes c.story.world is) sent_undrawn (played owned twice_written) undrawn_fails law
