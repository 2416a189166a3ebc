-- Messages of a class 3 connection that come again. Over any run each repetition of a message, until the connection's next one, gets
-- what was last sent for it, and executes nothing (Volume 1, chapter 3, transport class 3; Volume 2, chapter 2, SendUnitData).
use Rattle.std.specs.Prelude.{ℕ, ◌≡◌, ◌+◌, ◌==◌, ◌&&◌, not, nat_lt, Bool, true, false, if◌then◌else◌, List, [], ◌∷◌, length, find, filter, flat_map, option_to_list, Option, Some, None, Result, Ok, Err}
use Rattle.std.specs.List.{list_all, last_or}
use Rattle.cip_types.specs.declared.names.ConnId.{ConnId}
use Rattle.cip_types.specs.declared.names.Ms.{Ms}
use Rattle.cip_encap.specs.declared.packet.ItemFault.{ItemFault}
use Rattle.cip_encap.specs.Connected.{ConnectedFields}
use Rattle.cip_events.specs.declared.event.Delivery.TheVariants.{Duplicate}
use Rattle.cip_events.specs.declared.event.Event.{Event}
use Rattle.cip_events.specs.declared.event.Event.TheVariants as event
use Rattle.cip_events.specs.declared.event.Frame.{Frame}
use Rattle.cip_events.specs.declared.event.StepFault.{StepFault}
use Rattle.cip_events.specs.declared.event.Verdict.TheVariants.{Delivered}
use Rattle.cip_events.specs.Outcomes.{Outcome}
use Rattle.cip_router.specs.declared.command.Command.{Command}
use Rattle.cip_router.specs.declared.command.Command.TheVariants as command
use Rattle.cip_router.specs.Commands.{command_of}
use Rattle.cip_router.specs.Frames.{FrameFields, without_header, wrong_length, whole}
use Rattle.messaging.specs.declared.class3.Class3Connection.{Class3Connection}
use Rattle.messaging.specs.declared.requests.Requester.{Requester}
use Rattle.messaging.specs.declared.requests.Requester.TheVariants as asker
use Rattle.messaging.specs.declared.requests.Waiting.{Waiting}
use Rattle.messaging.specs.declared.table.Messaging.{Messaging}
use Rattle.messaging.specs.Class3Connections.{has_class3_id}
use Rattle.messaging.specs.Changes.{has_request_number}
use Rattle.messaging.specs.Sound.{EachOf}
use Rattle.messaging.specs.Times.{without_late_class3_connections, late_waiting}
use Rattle.adapter_table.specs.declared.table.AdapterTable.{AdapterTable}
use Rattle.adapter_table.specs.Connected.{repeated_table}
use Rattle.adapter_table.specs.Requests.{Next}
use Rattle.adapter_table.specs.Step.{adapter_step}
use Rattle.adapter_table.specs.Ticks.{late_frames}
use Rattle.adapter_table.specs.Whole.{IsWhole}
use Rattle.adapter_table.specs.Encapsulation.{connected_items_for, frame_for}
use Rattle.adapter_table.specs.declared.profile.Description.{Description}
use Rattle.cip_tables.specs.declared.table.DeviceTable.{DeviceTable}
use Rattle.cip_tables.specs.declared.table.DeviceTable.TheVariants.{Adapter, Scanner}
use Rattle.cip_tables.specs.Run.{Runs, table_of, performed}
use Rattle.cip_tables.specs.Step.{step}

-- THE MESSAGES THAT EVENTS BRING

-- a connected message, and the number of the stream that brought it
pub record Message : Type 0 where
  pub stream : ℕ
  pub unit : ConnectedFields

abbrev pub message_read : ℕ → Result ConnectedFields ItemFault → Option Message
message_read number (Err fault) = None
message_read number (Ok unit) = Some (record { stream = number; unit = unit })

-- SendUnitData, with the handle of the stream's session
abbrev pub message_of_command : Option Description → (number session : ℕ) → List ℕ → Command → Option Message
message_of_command described number session body command.SendUnitData =
    if session == number + 1 then message_read number (connected_items_for described body) else None
message_of_command described number session body _ = None

abbrev pub message_of_frame : Option Description → ℕ → FrameFields → Option Message
message_of_frame described number without_header = None
message_of_frame described number (wrong_length header) = None
message_of_frame described number (whole header body) = message_of_command described number header.session body (command_of header.command)

-- the connected message that an event brings a device that is described so, if it brings one
abbrev pub message_in : Option Description → Event → Option Message
message_in described (event.Frame number bytes) = message_of_frame described number (frame_for described bytes)
message_in described other = None

-- THOSE OF A CONNECTION

-- the message came over the connection's stream with its O->T id, and is not longer than its O->T size
abbrev pub is_message_of : Class3Connection → Message → Bool
is_message_of d m = m.stream == d.stream && (m.unit.connection == d.o_t_id.0 && not (nat_lt d.o_t_size (2 + length m.unit.message)))

abbrev pub has_count : ℕ → Message → Bool
has_count count m = m.unit.count == count

abbrev pub has_bytes : List ℕ → Bool
has_bytes [] = false
has_bytes (byte ∷ bytes) = true

-- a message without bytes behind its count is no request
abbrev pub is_request : Message → Bool
is_request m = has_bytes m.unit.message

abbrev pub if_message : (Message → Bool) → Option Message → Bool
if_message test None = false
if_message test (Some m) = test m

-- the message is of the connection, and has this count
abbrev pub is_counted : Class3Connection → ℕ → Message → Bool
is_counted d count m = is_message_of d m && has_count count m

-- the event brings a message of the connection with this count
abbrev pub brings : Option Description → Class3Connection → ℕ → Event → Bool
brings described d count happens = if_message (is_counted d count) (message_in described happens)

-- it is a request, too
abbrev pub asks : Option Description → Class3Connection → ℕ → Event → Bool
asks described d count happens = if_message (λ m. is_counted d count m && is_request m) (message_in described happens)

-- the event brings a request of the connection with another count
abbrev pub is_next : Class3Connection → ℕ → Message → Bool
is_next d count m = is_message_of d m && (not (has_count count m) && is_request m)

abbrev pub asks_next : Option Description → Class3Connection → ℕ → Event → Bool
asks_next described d count happens = if_message (is_next d count) (message_in described happens)

-- WHAT IS SENT FOR A MESSAGE

abbrev pub frames_of : Result Next StepFault → List Frame
frames_of (Ok next) = next.0.frames
frames_of (Err fault) = []

-- the message of this count of the connection of this O->T id asked
abbrev pub is_from : ConnId → ℕ → Requester → Bool
is_from id count (asker.Peer node) = false
is_from id count (asker.Stream number context) = false
is_from id count (asker.Class3Connection other last) = other.0 == id.0 && last == count

abbrev pub is_requested_by : ConnId → ℕ → Waiting → Bool
is_requested_by id count w = is_from id count w.asker

abbrev pub is_answer_to : ConnId → ℕ → Option Waiting → Bool
is_answer_to id count None = false
is_answer_to id count (Some w) = is_requested_by id count w

-- the replies that a tick to this time sends in place of the application, to what the message asked
abbrev pub late_replies_to : ConnId → ℕ → Ms → Messaging → List Frame
late_replies_to id count clock m =
    let left = without_late_class3_connections clock m in
    flat_map (late_frames left) (filter (is_requested_by id count) (late_waiting clock left))

abbrev pub unless_refused : Result Next StepFault → List Frame → List Frame
unless_refused (Ok next) frames = frames
unless_refused (Err fault) frames = []

-- What an event sends for the connection's message of this count: what answers the message itself, what goes out with the application's
-- answer to it, and what a tick answers in place of the application.
abbrev pub sent_at : Class3Connection → ℕ → AdapterTable → Event → List Frame
sent_at d count t (event.Frame number bytes) =
    if brings t.profile.description d count (event.Frame number bytes) then frames_of (adapter_step t (event.Frame number bytes)) else []
sent_at d count t (event.Respond number status bytes) =
    if is_answer_to d.o_t_id count (find (has_request_number number) t.messaging.waiting) then frames_of (adapter_step t (event.Respond number status bytes)) else []
sent_at d count t (event.Tick ms) =
    unless_refused (adapter_step t (event.Tick ms)) (late_replies_to d.o_t_id count (record { 0 = t.clock.0 + ms }) t.messaging)
sent_at d count t other = []

abbrev pub sent_in : Class3Connection → ℕ → DeviceTable → Event → List Frame
sent_in d count (Adapter t) happens = sent_at d count t happens
sent_in d count (Scanner t) happens = []

-- the last frame that was sent for it over the events, or else this one
abbrev pub last_sent : Class3Connection → ℕ → Option Frame → DeviceTable → List Event → Option Frame
last_sent d count sent t [] = sent
last_sent d count sent t (happens ∷ events) = last_sent d count (last_or sent (sent_in d count t happens)) (table_of t (step t happens)) events

-- THE LAWS

-- The answer to a repetition is this frame, if there is one, and nothing is executed: no notice, no request to the application, and
-- all of the table but the deadline of the connection stays.
abbrev pub repetition : Option Frame → AdapterTable → Class3Connection → Next
repetition sent t d = (record { frames = option_to_list sent; datagrams = []; verdict = Delivered Duplicate; notices = [] }, repeated_table t d)

-- The first event asks on an open connection, whether anew or again. No event behind it asks on the connection by another count. Then a
-- message of the same count, while the connection is still open, gets what was last sent for it.
abbrev pub RepetitionsGetWhatWasSent : Type 0
RepetitionsGetWhatWasSent =
    (old new : AdapterTable) (d now : Class3Connection) (count : ℕ) (first again : Event) (between events : List Event) (outcomes : List Outcome) →
    IsWhole old → find (has_class3_id d.o_t_id) old.messaging.class3_connections ≡ Some d →
    asks old.profile.description d count first ≡ true → EachOf (λ happens. asks_next old.profile.description d count happens ≡ false) between →
    Runs (Adapter old) events outcomes (Adapter new) → performed events outcomes ≡ first ∷ between →
    find (has_class3_id d.o_t_id) new.messaging.class3_connections ≡ Some now → brings new.profile.description d count again ≡ true →
    adapter_step new again ≡ Ok (repetition (last_sent d count None (Adapter old) (first ∷ between)) new now)

-- what is sent for a message is among what the event sends: it passes each test that all of that passes
abbrev pub WhatIsSentGoesOut : Type 0
WhatIsSentGoesOut =
    (test : Frame → Bool) (t : AdapterTable) (d : Class3Connection) (count : ℕ) (happens : Event) →
    list_all test (frames_of (adapter_step t happens)) ≡ true → list_all test (sent_at d count t happens) ≡ true
