-- What the tasks of a station are at a scripted port and a scripted clock: its events, and what it sends.
use Rattle.std.specs.Prelude.{◌≡◌, ℕ, Bool, true, false, List, [], ◌∷◌, ◌++◌, drop, Option}
use Rattle.cip_events.specs.declared.arrival.Arrival.{Arrival}
use Rattle.cip_events.specs.declared.event.Event.{Event}
use Rattle.cip_events.specs.Outcomes.{Outcome}
use Rattle.cip_tables.specs.declared.table.DeviceTable.{DeviceTable}
use Rattle.cip_tables.specs.Run.{Runs, table_after}
use Rattle.station.specs.declared.serving.Station.{Station}
use Rattle.station.specs.Recorded.{Does, Task}
use Rattle.station.specs.Recorded.Task.{AnyCall, AnyTurn, BrokenEnd, Call, End, Turn}
use Rattle.station.specs.Noted.{NotesStep, noted}
use Rattle.station.specs.Sessions.{ends_of, sessions_of}
use Rattle.udp_runner.specs.declared.output.SentOutput.{SentOutput}
use Rattle.udp_runner.specs.Handing.{Watches}
use Rattle.udp_runner.specs.Tape.{Tape}
use Rattle.udp_runner.specs.Turns.{all_sent, turn_of}

-- tasks behind each of which the station goes on
abbrev pub are_whole : List Task → Bool
are_whole [] = true
are_whole (AnyTurn ∷ tasks) = false
are_whole (AnyCall event ∷ tasks) = false
are_whole (BrokenEnd ∷ tasks) = false
are_whole (other ∷ tasks) = are_whole tasks

-- what a clock or a port still has to give behind these tasks: each turn takes one time and one arrival
abbrev pub left_of : {X : Type 0} → List Task → List X → List X
left_of [] coming = coming
left_of (Turn ∷ tasks) coming = left_of tasks (drop 1 coming)
left_of (other ∷ tasks) coming = left_of tasks coming

-- The events of tasks, in order: of each turn its tick and what arrives, and each call.
abbrev pub events_of : List Task → List ℕ → List (Option Arrival) → List Event
events_of [] times coming = []
events_of (Turn ∷ tasks) times coming = turn_of times coming ++ events_of tasks (drop 1 times) (drop 1 coming)
events_of (Call event ∷ tasks) times coming = event ∷ events_of tasks times coming
events_of (other ∷ tasks) times coming = events_of tasks times coming

-- What is sent: the outputs of the answer to each event, and at the end of the sessions the message that ends each, and the end of its
-- stream.
abbrev pub sent_of : List Task → DeviceTable → List ℕ → List (Option Arrival) → List SentOutput
sent_of [] table times coming = []
sent_of (Turn ∷ tasks) table times coming =
    all_sent table (turn_of times coming) ++ sent_of tasks (table_after table (turn_of times coming)) (drop 1 times) (drop 1 coming)
sent_of (Call event ∷ tasks) table times coming = all_sent table (event ∷ []) ++ sent_of tasks (table_after table (event ∷ [])) times coming
sent_of (End ∷ tasks) table times coming = ends_of (sessions_of table) ++ sent_of tasks table times coming
sent_of (other ∷ tasks) table times coming = sent_of tasks table times coming

-- Exactly this was done: the device took these events, these outputs were sent, in order, and no other, these times and arrivals are left, and the
-- recorder noted each event with its outcome, in order, and no other.
pub record Exactly {P C D W O E : Type 0} (contents : W → Option (List ℕ)) (coming : C → List ℕ) (tape : P → Tape) (table : D → DeviceTable) (events : List Event) (sent : List SentOutput) (times : List ℕ) (arrivals : List (Option Arrival)) (old new : Station P C D W O E) : Type 0 where
  pub leads : table new.device ≡ table_after (table old.device) events
  pub times_left : coming new.clock ≡ times
  pub arrivals_left : (tape new.port).coming ≡ arrivals
  pub sends : (tape new.port).sent ≡ (tape old.port).sent ++ sent
  pub outcomes : List Outcome
  pub runs : Runs (table old.device) events outcomes (table new.device)
  pub notes : Watches (NotesStep contents) (noted old.observer) events outcomes (noted new.observer)

-- exactly what the tasks say was done: their events, what their answers send, and the ends of sessions
abbrev pub IsExact : {P C D W O E : Type 0} (contents : W → Option (List ℕ)) (coming : C → List ℕ) (tape : P → Tape) (table : D → DeviceTable) (tasks : List Task) (old new : Station P C D W O E) → Type 0
IsExact contents coming tape table tasks old new =
    Exactly contents coming tape table (events_of tasks (coming old.clock) (tape old.port).coming) (sent_of tasks (table old.device) (coming old.clock) (tape old.port).coming)
    (left_of tasks (coming old.clock)) (left_of tasks (tape old.port).coming) old new

-- At a scripted port and a scripted clock, tasks behind each of which the station goes on are exact, unless the port counted a failure meanwhile.
abbrev pub TasksAreExact : {P C D W O E : Type 0} (contents : W → Option (List ℕ)) (scripted timed : Bool) (coming : C → List ℕ) (tape : P → Tape) (failed : P → ℕ) (table : D → DeviceTable) (old new : Station P C D W O E) → Type 0
TasksAreExact contents scripted timed coming tape failed table old new =
    (tasks : List Task) → scripted ≡ true → timed ≡ true → are_whole tasks ≡ true → failed new.port ≡ failed old.port
    → Does contents scripted timed coming tape failed table tasks old new → IsExact contents coming tape table tasks old new
