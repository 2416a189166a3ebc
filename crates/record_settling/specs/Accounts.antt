-- What a record says of its device's history, and of the receipts. A record is a list of events with their outcomes.
use Rattle.std.specs.Prelude.{ℕ, ◌+◌, ◌==◌, ◌&&◌, nat_lt, if◌then◌else◌, Bool, List, [], ◌∷◌, ◌++◌, length, take, option_to_list, Option, Some, None, Ok, Err}
use Rattle.cip_events.specs.declared.event.Answer.{Answer}
use Rattle.cip_events.specs.declared.event.Delivery.TheVariants.{UnknownId, Malformed}
use Rattle.cip_events.specs.declared.event.Event.{Event}
use Rattle.cip_events.specs.declared.event.Event.TheVariants.{StreamOpened, Frame, StreamCut, Datagram}
use Rattle.cip_events.specs.declared.event.Notice.{Notice}
use Rattle.cip_events.specs.declared.event.Notice.TheVariants.{StreamClosed}
use Rattle.cip_events.specs.declared.event.Verdict.{Verdict}
use Rattle.cip_events.specs.declared.event.Verdict.TheVariants.{Done, Delivered}
use Rattle.cip_events.specs.Answers.{plain_answer}
use Rattle.cip_tables.specs.declared.table.Config.{Config}
use Rattle.device_lock.specs.declared.receipt.Receipt.{Receipt}
use Rattle.device_lock.specs.Histories.{HistoryValue}
use Rattle.trace_text.specs.Reading.{Entry}
use Rattle.record_settling.specs.declared.account.EventRole.{EventRole}
use Rattle.record_settling.specs.declared.account.EventRole.TheVariants.{Whole, LeftOut, Cut}
use Rattle.record_settling.specs.declared.stream_names.renaming.StreamName.{StreamName}
use Rattle.record_settling.specs.StreamNames.StationMessages.{is_of_station}
use Rattle.record_settling.specs.StreamNames.Names.{named_answer, named_event, named_stream}

-- WHAT IS LEFT OUT

-- the answer has neither frames nor datagrams
abbrev pub is_silent : Answer → Bool
is_silent answer = length answer.frames == 0 && length answer.datagrams == 0

-- A message that a station sent is left out if it is answered by nothing. One that ends the stream is taken as the cut of the stream.
abbrev pub role_by : ℕ → List Notice → EventRole
role_by stream [] = LeftOut
role_by stream (StreamClosed closed ∷ []) = if closed == stream then Cut else Whole
role_by stream other = Whole

-- a datagram that no connection takes is left out
abbrev pub role_of_datagram : Verdict → EventRole
role_of_datagram (Delivered UnknownId) = LeftOut
role_of_datagram (Delivered Malformed) = LeftOut
role_of_datagram other = Whole

abbrev pub role_of_frame : ℕ → List ℕ → Answer → EventRole
role_of_frame stream message answer = if is_of_station message && is_silent answer then role_by stream answer.notices else Whole

-- what becomes of an event with this answer
abbrev pub role_of : Event → Answer → EventRole
role_of (Datagram peer bytes) answer = role_of_datagram answer.verdict
role_of (Frame stream message) answer = role_of_frame stream message answer
role_of other answer = Whole

-- STEPS: the events of a history with their answers

abbrev pub Step : Type 0
Step = Event × Answer

abbrev pub event_in : Step → Event
event_in step = step.0

abbrev pub cut_of : List StreamName → Event → Event
cut_of names (Frame stream message) = StreamCut (named_stream names stream)
cut_of names other = StreamCut 0

abbrev pub step_by : EventRole → List StreamName → Event → Answer → Option Step
step_by LeftOut names event answer = None
step_by Cut names event answer = Some (cut_of names event, plain_answer Done)
step_by Whole names event answer = Some (named_event names event, named_answer names answer)

-- what a history has for an event with this answer, where these streams have begun
abbrev pub step_of : List StreamName → Event → Answer → Option Step
step_of names event answer = step_by (role_of event answer) names event answer

-- how many streams have begun with an event, of so many
abbrev pub next_seen : ℕ → Event → ℕ → ℕ
next_seen most (StreamOpened stream peer) seen = if nat_lt seen most then seen + 1 else seen
next_seen most other seen = seen

-- The steps of entries before which so many streams have begun. An event without an outcome, and one that was refused, are
-- left out.
abbrev pub accounted : List StreamName → ℕ → List Entry → List Step
accounted names seen [] = []
accounted names seen ((event, Some (Ok answer)) ∷ entries) = option_to_list (step_of (take (next_seen (length names) event seen) names) event answer) ++ accounted names (next_seen (length names) event seen) entries
accounted names seen ((event, Some (Err fault)) ∷ entries) = accounted names seen entries
accounted names seen ((event, None) ∷ entries) = accounted names seen entries

-- HISTORIES AND RECEIPTS

-- a history of one segment
abbrev pub account_history : Config → List Event → HistoryValue
account_history made_of events = record { config = made_of; events = events; counts = length events ∷ [] }

-- the receipts of the device of this byte for steps before which there are so many
abbrev pub receipts_from : ℕ → ℕ → List Step → List Receipt
receipts_from byte index [] = []
receipts_from byte index (step ∷ steps) = record { device = byte; segment = 0; index = index; event = step.0; answer = step.1 } ∷ receipts_from byte (index + 1) steps
