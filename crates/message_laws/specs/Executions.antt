-- Which messages of a class 3 connection are executed over a run, read off what the events do: of two that are executed one after
-- the other the sequence counts differ (Volume 1, chapter 3, transport class 3).
use Rattle.std.specs.Prelude.{ℕ, ◌≡◌, ◌≢◌, ◌==◌, ◌&&◌, ◌||◌, not, Bool, true, false, if◌then◌else◌, List, [], ◌∷◌, ◌++◌, find, Option, Some, None, option_and_then, Result, Ok, Err}
use Rattle.cip_types.specs.declared.names.ConnId.{ConnId}
use Rattle.cip_events.specs.declared.event.Event.{Event}
use Rattle.cip_events.specs.declared.event.Notice.{Notice}
use Rattle.cip_events.specs.declared.event.StepFault.{StepFault}
use Rattle.cip_events.specs.Outcomes.{Outcome}
use Rattle.messaging.specs.declared.class3.Class3Connection.{Class3Connection}
use Rattle.messaging.specs.Class3Connections.{has_class3_id, is_count}
use Rattle.adapter_table.specs.declared.table.AdapterTable.{AdapterTable}
use Rattle.adapter_table.specs.Requests.{Next}
use Rattle.adapter_table.specs.Step.{adapter_step}
use Rattle.adapter_table.specs.Whole.{IsWhole}
use Rattle.cip_tables.specs.declared.table.DeviceTable.{DeviceTable}
use Rattle.cip_tables.specs.declared.table.DeviceTable.TheVariants.{Adapter, Scanner}
use Rattle.cip_tables.specs.Run.{Runs, table_of, performed}
use Rattle.cip_tables.specs.Step.{step}
use Rattle.message_laws.specs.Repetitions.{Message, message_in, is_message_of, asks}

-- ONE EVENT

abbrev pub are_any : List Notice → Bool
are_any [] = false
are_any (notice ∷ notices) = true

-- the count of the last message, as the connection of this O->T id notes it
abbrev pub last_count : ConnId → AdapterTable → Option ℕ
last_count id t = option_and_then (λ (d : Class3Connection). d.last) (find (has_class3_id id) t.messaging.class3_connections)

abbrev pub is_same : Option ℕ → Option ℕ → Bool
is_same None None = true
is_same None (Some count) = false
is_same (Some count) last = is_count count last

-- A step does something for a message of the connection: it reports something, asks the application, or the connection notes another
-- last message.
abbrev pub acts : ConnId → AdapterTable → Result Next StepFault → Bool
acts id t (Err fault) = false
acts id t (Ok next) =
    are_any next.0.notices || (not (next.1.messaging.next_number == t.messaging.next_number) || not (is_same (last_count id next.1) (last_count id t)))

abbrev pub executed_by : Class3Connection → AdapterTable → Result Next StepFault → Option Message → Option Class3Connection → List ℕ
executed_by d t outcome None found = []
executed_by d t outcome (Some m) None = []
executed_by d t outcome (Some m) (Some open_one) = if is_message_of d m && acts d.o_t_id t outcome then m.unit.count ∷ [] else []

-- the count of the message that an event brings on the connection while it is open, if the event does something for it
abbrev pub executed_at : Class3Connection → AdapterTable → Event → List ℕ
executed_at d t happens = executed_by d t (adapter_step t happens) (message_in t.profile.description happens) (find (has_class3_id d.o_t_id) t.messaging.class3_connections)

abbrev pub executed_in : Class3Connection → DeviceTable → Event → List ℕ
executed_in d (Adapter t) happens = executed_at d t happens
executed_in d (Scanner t) happens = []

-- A RUN

-- those of some events, in order
abbrev pub executions : Class3Connection → DeviceTable → List Event → List ℕ
executions d t [] = []
executions d t (happens ∷ events) = executed_in d t happens ++ executions d (table_of t (step t happens)) events

-- each count differs from the one before it, and the first from this one
abbrev pub DifferInTurn : ℕ → List ℕ → Type 0
DifferInTurn last [] = Unit {0}
DifferInTurn last (count ∷ counts) = (last ≢ count) × DifferInTurn count counts

-- The first event asks on an open connection by a count. Of the messages that the events behind it execute on the connection the counts
-- differ in turn, and the first differs from that count.
abbrev pub MessagesAreExecutedOnce : Type 0
MessagesAreExecutedOnce =
    (old : AdapterTable) (new : DeviceTable) (d : Class3Connection) (count : ℕ) (first : Event) (behind events : List Event) (outcomes : List Outcome) →
    IsWhole old → find (has_class3_id d.o_t_id) old.messaging.class3_connections ≡ Some d → asks old.profile.description d count first ≡ true →
    Runs (Adapter old) events outcomes new → performed events outcomes ≡ first ∷ behind →
    DifferInTurn count (executions d (table_of (Adapter old) (step (Adapter old) first)) behind)
