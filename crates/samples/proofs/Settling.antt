-- Samples of what settles: the histories of two devices, their receipts and the schedule; and an event without a receipt.
use Rattle.std.proofs.Common.{◌≡◌, ◌<◌, ◌==◌, ℕ, zero, suc, true, false, List, [], ◌∷◌, ◌++◌, length, slice_get, slice_index, Some, Ok, refl, subst, arith}
use Rattle.std.proofs.lemmas.Bool.Decides.{nat_tests}
use Rattle.cip_events.specs.declared.event.Event.{Event}
use Rattle.cip_events.specs.declared.event.Event.TheVariants.{StreamOpened, StreamCut, Tick, Datagram, Inquiry}
use Rattle.cip_events.specs.declared.event.Verdict.TheVariants.{Done}
use Rattle.cip_tables.specs.declared.table.Config.TheVariants as config
use Rattle.cip_tables.specs.declared.table.DeviceTable.{DeviceTable}
use Rattle.device_lock.specs.declared.receipt.Receipt.{Receipt}
use Rattle.device_lock.specs.Histories.{HistoryValue}
use Rattle.segment_world.specs.declared.transit.direction.Direction.TheVariants.{Forth, Back}
use Rattle.segment_world.specs.declared.act.Act.{Act}
use Rattle.segment_world.specs.declared.act.Act.TheVariants.{Local, Deliver, NextFrame, OpenStream, CutStream}
use Rattle.segment_world.specs.declared.act.Call.TheVariants as call
use Rattle.segment_world.specs.Story.{Story, begins, events_of, runs}
use Rattle.segment_world.specs.World.{World, ReportedEvent}
use Rattle.settling.specs.Search.Histories.{bytes_of, events_of_all, start_of}
use Rattle.settling.specs.Receipts.{has_receipt, AllGood, Covered, IsMissing}
use Rattle.settling.specs.Search.Replays.{replay}
use Rattle.settling.specs.Search.Schedules.{NoWay, Projects, Settles, history, outcomes_of}
use Rattle.settling.specs.Settlings.{AllStand, SettlesAll}
use Rattle.samples.specs.Devices.{common, fresh, other}
use Rattle.samples.specs.Worlds.{after, home, neighbour, plainly, two}
use Rattle.samples.proofs.WorldPlaying.{playing}

-- ---- the account

-- The first device opens a stream to the second. A millisecond passes at it, its book begins a second segment, and the stream
-- is cut.
abbrev first : HistoryValue
first = record { config = config.Adapter common; events = StreamOpened 0 other ∷ Tick 1 ∷ StreamCut 0 ∷ []; counts = 2 ∷ 1 ∷ [] }

abbrev second : HistoryValue
second = record { config = config.Adapter neighbour; events = StreamOpened 0 home ∷ StreamCut 0 ∷ []; counts = 2 ∷ [] }

abbrev histories : List HistoryValue
histories = first ∷ second ∷ []

-- a receipt by byte, segment, index and event, with an answer that is a verdict alone
abbrev receipt : ℕ → ℕ → ℕ → Event → Receipt
receipt byte segment index event = record { device = byte; segment = segment; index = index; event = event; answer = plainly Done }

-- all receipts but the last
abbrev early : List Receipt
early =
    receipt 0x11 0 0 (StreamOpened 0 home)
    ∷ receipt 0x10 0 0 (StreamOpened 0 other)
    ∷ receipt 0x10 0 1 (Tick 1)
    ∷ receipt 0x10 1 0 (StreamCut 0)
    ∷ []

abbrev last : Receipt
last = receipt 0x11 0 1 (StreamCut 0)

abbrev receipts : List Receipt
receipts = early ++ last ∷ []

-- ---- the schedule

abbrev schedule : List Act
schedule =
    OpenStream 0 1
    ∷ NextFrame 0 Back
    ∷ Local 0 (call.Tick 1)
    ∷ NextFrame 0 Forth
    ∷ CutStream 0
    ∷ NextFrame 0 Back
    ∷ NextFrame 0 Forth
    ∷ []

-- an event of a device that says nothing
abbrev takes : ℕ → Event → ReportedEvent
takes device event = record { device = device; event = event; answer = plainly Done }

abbrev reported : List ReportedEvent
reported =
    takes 0 (StreamOpened 0 other)
    ∷ takes 0 (Tick 1)
    ∷ takes 1 (StreamOpened 0 home)
    ∷ takes 0 (StreamCut 0)
    ∷ takes 1 (StreamCut 0)
    ∷ []

abbrev story : Story
story = record { world = after two schedule; reported = reported }

the_schedule_runs : runs (begins (start_of histories)) schedule ≡ Ok story
unfolding playing runs
the_schedule_runs = refl

-- a number that is below another one
below : (n i : ℕ) → n < i → (n == i) ≡ false
below n i lt = grind (arith, nat_tests)

nothing_of_others : (i : ℕ) → events_of (suc (suc i)) reported ≡ []
nothing_of_others i =
    let zero_is : (0 == suc (suc i)) ≡ false = below 0 (suc (suc i)) (omega arith) in
    let one_is : (1 == suc (suc i)) ≡ false = below 1 (suc (suc i)) (omega arith) in
    simp (zero_is, one_is)

its_events_are_the_histories : Projects (events_of_all histories) story
its_events_are_the_histories zero = refl
its_events_are_the_histories (suc zero) = refl
its_events_are_the_histories (suc (suc i)) = nothing_of_others i

-- ---- the answers

first_answers : outcomes_of 0 reported ≡ replay (fresh common) first.events
unfolding playing
first_answers = refl

second_answers : outcomes_of 1 reported ≡ replay (fresh neighbour) second.events
unfolding playing
second_answers = refl

some_is : (a t : DeviceTable) → Some a ≡ Some t → a ≡ t
some_is a t is = cc

its_answers_are_those_of_fresh_devices : (i : ℕ) (t : DeviceTable) → slice_get (start_of histories).tables i ≡ Some t → outcomes_of i reported ≡ replay t (history (events_of_all histories) i)
its_answers_are_those_of_fresh_devices zero t is =
    subst (λ (x : DeviceTable). outcomes_of 0 reported ≡ replay x first.events) (some_is (fresh common) t is) first_answers
its_answers_are_those_of_fresh_devices (suc zero) t is =
    subst (λ (x : DeviceTable). outcomes_of 1 reported ≡ replay x second.events) (some_is (fresh neighbour) t is) second_answers
its_answers_are_those_of_fresh_devices (suc (suc i)) t is = absurd (let e = is in cc)

the_schedule_settles_the_histories : Settles (start_of histories) (events_of_all histories) schedule
the_schedule_settles_the_histories = record {
  story = story;
  runs_so = the_schedule_runs;
  projects = its_events_are_the_histories;
  answers = its_answers_are_those_of_fresh_devices;
}

-- ---- the receipts

each_receipt_stands : AllStand histories story receipts
unfolding playing
each_receipt_stands = (
  record { place = (1, 0); place_is = refl; is = refl },
  (
    record { place = (0, 0); place_is = refl; is = refl },
    (
      record { place = (0, 1); place_is = refl; is = refl },
      (
        record { place = (0, 2); place_is = refl; is = refl },
        (
          record { place = (1, 1); place_is = refl; is = refl },
          tt,
        ),
      ),
    ),
  ),
)

the_early_are_good : AllGood histories [] early
unfolding playing
the_early_are_good = (
  record { place = (1, 0); place_is = refl; fits = refl; first = refl },
  (
    record { place = (0, 0); place_is = refl; fits = refl; first = refl },
    (
      record { place = (0, 1); place_is = refl; fits = refl; first = refl },
      (
        record { place = (0, 2); place_is = refl; fits = refl; first = refl },
        tt,
      ),
    ),
  ),
)

all_are_good : AllGood histories [] receipts
unfolding playing
all_are_good = (
  record { place = (1, 0); place_is = refl; fits = refl; first = refl },
  (
    record { place = (0, 0); place_is = refl; fits = refl; first = refl },
    (
      record { place = (0, 1); place_is = refl; fits = refl; first = refl },
      (
        record { place = (0, 2); place_is = refl; fits = refl; first = refl },
        (
          record { place = (1, 1); place_is = refl; fits = refl; first = refl },
          tt,
        ),
      ),
    ),
  ),
)

the_first_has_all : (k : ℕ) → k < 3 → has_receipt histories early 0 k ≡ true
the_first_has_all zero lt = refl
the_first_has_all (suc zero) lt = refl
the_first_has_all (suc (suc zero)) lt = refl
the_first_has_all (suc (suc (suc k))) lt = absurd (omega arith)

each_event_has_a_receipt : Covered histories receipts
each_event_has_a_receipt zero zero lt = refl
each_event_has_a_receipt zero (suc zero) lt = refl
each_event_has_a_receipt zero (suc (suc zero)) lt = refl
each_event_has_a_receipt zero (suc (suc (suc k))) lt = absurd (omega arith)
each_event_has_a_receipt (suc zero) zero lt = refl
each_event_has_a_receipt (suc zero) (suc zero) lt = refl
each_event_has_a_receipt (suc zero) (suc (suc k)) lt = absurd (omega arith)
each_event_has_a_receipt (suc (suc i)) k lt = absurd (omega arith)

-- ---- the account settles

pub the_account_settles : SettlesAll histories receipts schedule
unfolding the_schedule_settles_the_histories
the_account_settles = record {
  settled = the_schedule_settles_the_histories;
  opens_first = (
    NextFrame 0 Back ∷ Local 0 (call.Tick 1) ∷ NextFrame 0 Forth ∷ CutStream 0 ∷ NextFrame 0 Back ∷ NextFrame 0 Forth ∷ [],
    refl,
  );
  stand = each_receipt_stands;
  once = all_are_good;
  covered = each_event_has_a_receipt;
}

-- ---- an event without a receipt

-- of the devices before the second one
lower_have_all : (i k : ℕ) → i < 2 → slice_index (bytes_of histories) i < 0x11 → k < length (history (events_of_all histories) i) → has_receipt histories early i k ≡ true
lower_have_all zero k within lower lt = the_first_has_all k lt
lower_have_all (suc zero) k within lower lt = absurd (omega arith)
lower_have_all (suc (suc i)) k within lower lt = absurd (omega arith)

earlier_has_one : (k : ℕ) → k < 1 → has_receipt histories early 1 k ≡ true
earlier_has_one zero lt = refl
earlier_has_one (suc k) lt = absurd (omega arith)

pub the_last_is_missing : IsMissing histories early 0x11 1
the_last_is_missing = record {
  good = the_early_are_good;
  device = 1;
  byte_is = refl;
  within = omega arith;
  none = refl;
  earlier = earlier_has_one;
  lower = lower_have_all;
}

-- no schedule settles the histories without that receipt
nothing_settles_without_it : (acts : List Act) → SettlesAll histories early acts → ⊥
nothing_settles_without_it acts settles = absurd (let e = settles.covered 1 1 (omega arith) in cc)

-- ---- an event that can happen

-- the second device has sent a datagram of no bytes
abbrev sent : World
sent = record two { sent = record { from = other; bytes = [] } ∷ [] }

a_datagram_that_was_sent_has_a_way : (rest : ℕ → List Event) → NoWay rest sent 0 (Datagram other []) → ⊥
unfolding playing
a_datagram_that_was_sent_has_a_way rest none = none.alone (Deliver 0 0) (record { report = _; after = _; is = refl; device = refl; event = refl })

-- a peer outside inquires whenever it likes
an_inquiry_has_a_way : (rest : ℕ → List Event) → NoWay rest two 0 (Inquiry other []) → ⊥
unfolding playing
an_inquiry_has_a_way rest none = none.alone (Local 0 (call.Inquiry other [])) (record { report = _; after = _; is = refl; device = refl; event = refl })
