-- The datagrams of a scanner's answer are what its slots made.
use Rattle.std.proofs.Common.{◌≡◌, ℕ, Bool, true, false, cond, ◌==◌, nat_lt, ◌+◌, List, [], ◌∷◌, map, find, Option, Some, None, Result, Ok, Err, IfOk, refl}
use Rattle.std.specs.List.{filter_map}
use Rattle.cip_types.specs.declared.names.Node.{Node}
use Rattle.cip_encap.specs.declared.message.EncapFault.{EncapFault}
use Rattle.cip_encap.specs.Message.{MessageFields}
use Rattle.cip_encap.specs.Reading.{message_reading}
use Rattle.cip_events.specs.Clock.{longest_tick, clock_end}
use Rattle.cip_events.specs.declared.event.Answer.{Answer}
use Rattle.cip_events.specs.declared.event.Event.{Event}
use Rattle.cip_events.specs.declared.event.Event.TheVariants.{StreamOpened, Frame, StreamCut, Tick, Start, Stop, Explicit}
use Rattle.cip_events.specs.declared.event.StepFault.{StepFault}
use Rattle.cip_events.specs.declared.event.StepFault.TheVariants as fault
use Rattle.cip_productions.specs.Productions.{sent}
use Rattle.scanner_table.specs.declared.slot.SlotState.{SlotState}
use Rattle.scanner_table.specs.declared.slot.SlotState.TheVariants.{Idle, Opening, Established, TimedOut, Closing}
use Rattle.scanner_table.specs.declared.table.ScannerTable.{ScannerTable}
use Rattle.scanner_table.specs.declared.table.Stage.{Stage}
use Rattle.scanner_table.specs.declared.table.Stage.TheVariants.{Waiting, Up, Unused}
use Rattle.scanner_table.specs.declared.table.TargetStream.{TargetStream}
use Rattle.scanner_table.specs.Slots.{IndexedSlot, indexed_slots, slot_at}
use Rattle.scanner_table.specs.Sessions.{is_stream, is_taken}
use Rattle.scanner_table.specs.Effects.{Next, Effect, done}
use Rattle.scanner_table.specs.Closing.{stopped_at}
use Rattle.scanner_table.specs.Encapsulation.{registering_on, ignored, stream_opened, cut_of, stream_cut, registered, ends_session, unserved_at, is_awaiting, replied, replied_to, reported, frame_answer, frame_of, frame}
use Rattle.scanner_table.specs.Explicit.{awaits, explicit_request, explicit_timed_out}
use Rattle.scanner_table.specs.Points.{desired_slot, started, start_state, start_at, start, stop_of, stop}
use Rattle.scanner_table.specs.Productions.{slot_production, due_slots}
use Rattle.scanner_table.specs.Ticks.{clocked_table, advanced, moved_on, ticked, tick}
use Rattle.scanner_table.specs.Step.{scanner_step}
use Rattle.device_laws.specs.Made.{Made, slot_made, places_made, bytes_sent, made_text, scanner_makes}
use Rattle.device_laws.specs.Lemmas.ExplicitRequests.{explicit_holds, message_ends}
use Rattle.scanner_table.specs.Lemmas.SlotEventLemmas.{slots_hold}

-- ---- what slots produce

made_step : (run : Bool) (place : IndexedSlot) (state : SlotState) (indexed_slots : List IndexedSlot) → map bytes_sent (map sent (filter_map (slot_production run) indexed_slots)) ≡ map made_text (filter_map (slot_made run) indexed_slots) → place.slot.state ≡ state → map bytes_sent (map sent (filter_map (slot_production run) (place ∷ indexed_slots))) ≡ map made_text (filter_map (slot_made run) (place ∷ indexed_slots))
made_step run place Idle indexed_slots rest is = rw is rest
made_step run place (Opening o) indexed_slots rest is = rw is rest
made_step run place (Established c) indexed_slots rest is = rw (is, rest) refl
made_step run place (TimedOut link) indexed_slots rest is = rw is rest
made_step run place (Closing c) indexed_slots rest is = rw is rest

slot_texts : (run : Bool) (indexed_slots : List IndexedSlot) → map bytes_sent (map sent (filter_map (slot_production run) indexed_slots)) ≡ map made_text (filter_map (slot_made run) indexed_slots)
slot_texts run [] = refl
slot_texts run (place ∷ indexed_slots) = made_step run place place.slot.state indexed_slots (slot_texts run indexed_slots) refl

-- ---- events at which nothing is sent

abbrev QuietNext : Next → Type 0
QuietNext next = next.0.datagrams ≡ []

abbrev AllQuiet : Result Next StepFault → Type 0
AllQuiet said = IfOk said QuietNext

taken_quiet : (b : Bool) (t : ScannerTable) (number : ℕ) (target : Node) → AllQuiet (cond b (Err fault.NotAllowedNow) (Ok (done (registering_on t number target))))
taken_quiet true t number target = tt
taken_quiet false t number target = refl

streamed_quiet : (t : ScannerTable) (number : ℕ) (target : Node) → AllQuiet (stream_opened t number target)
unfolding stream_opened
streamed_quiet t number target = taken_quiet (is_taken t.streams number target) t number target

cut_of_quiet : (t : ScannerTable) (found : Option TargetStream) → AllQuiet (cut_of t found)
cut_of_quiet t None = tt
cut_of_quiet t (Some stream) = refl

cut_quiet : (t : ScannerTable) (number : ℕ) → AllQuiet (stream_cut t number)
unfolding stream_cut
cut_quiet t number = cut_of_quiet t (find (is_stream number) t.streams)

replied_quiet : (t : ScannerTable) (place : IndexedSlot) (m : MessageFields) (state : SlotState) → QuietNext (replied t place m state)
replied_quiet t place m Idle = refl
replied_quiet t place m (Opening o) = refl
replied_quiet t place m (Established c) = refl
replied_quiet t place m (TimedOut link) = refl
replied_quiet t place m (Closing c) = refl

replied_to_quiet : (t : ScannerTable) (m : MessageFields) (found : Option IndexedSlot) → QuietNext (replied_to t m found)
replied_to_quiet t m None = refl
replied_to_quiet t m (Some place) = replied_quiet t place m place.slot.state

answered_at_quiet : (b : Bool) (t : ScannerTable) (stream : TargetStream) (m : MessageFields) (found : Option IndexedSlot) → QuietNext (cond b (unserved_at t stream m found) (replied_to t m found))
answered_at_quiet true t stream m None = refl
answered_at_quiet true t stream m (Some place) = refl
answered_at_quiet false t stream m found = replied_to_quiet t m found

first_quiet : (b : Bool) (t : ScannerTable) (effect : Effect) → QuietNext (cond b (done effect) (ignored t))
first_quiet true t effect = refl
first_quiet false t effect = refl

reported_quiet : (t : ScannerTable) (stream : TargetStream) (m : MessageFields) (stage : Stage) → QuietNext (reported t stream m stage)
reported_quiet t stream m Waiting = first_quiet (m.context == 0) t (registered t stream m)
reported_quiet t stream m (Up handle) = answered_at_quiet (ends_session t m) t stream m (find (is_awaiting stream.peer m.context) (indexed_slots t))
reported_quiet t stream m Unused = refl

frame_answer_quiet : (t : ScannerTable) (stream : TargetStream) (reading : Result MessageFields EncapFault) → QuietNext (frame_answer t stream reading)
frame_answer_quiet t stream (Err why) = refl
frame_answer_quiet t stream (Ok m) = message_ends QuietNext t stream m (reported_quiet t stream m stream.stage) refl (λ pending answer none quiet. quiet) (find (awaits stream.number m.context) t.explicit)

frame_of_quiet : (t : ScannerTable) (bytes : List ℕ) (found : Option TargetStream) → AllQuiet (frame_of t bytes found)
frame_of_quiet t bytes None = tt
frame_of_quiet t bytes (Some stream) = frame_answer_quiet t stream (message_reading bytes)

frame_quiet : (t : ScannerTable) (number : ℕ) (bytes : List ℕ) → AllQuiet (frame t number bytes)
unfolding frame
frame_quiet t number bytes = frame_of_quiet t bytes (find (is_stream number) t.streams)

start_step : (b : Bool) (effect : Effect) → AllQuiet (cond b (Err fault.NotAllowedNow) (Ok (done effect)))
start_step true effect = tt
start_step false effect = refl

start_state_quiet : (t : ScannerTable) (place : IndexedSlot) (state : SlotState) → AllQuiet (start_state t place state)
start_state_quiet t place Idle = start_step place.slot.desired_up (started t place (desired_slot t place.slot))
start_state_quiet t place (Opening o) = tt
start_state_quiet t place (Established c) = tt
start_state_quiet t place (TimedOut link) = tt
start_state_quiet t place (Closing c) = tt

start_at_quiet : (t : ScannerTable) (found : Option IndexedSlot) → AllQuiet (start_at t found)
start_at_quiet t None = tt
start_at_quiet t (Some place) = start_state_quiet t place place.slot.state

start_quiet : (t : ScannerTable) (number : ℕ) → AllQuiet (start t number)
unfolding start
start_quiet t number = start_at_quiet t (slot_at t number)

stop_of_quiet : (said : Result Effect StepFault) → AllQuiet (stop_of said)
stop_of_quiet (Err why) = tt
stop_of_quiet (Ok effect) = refl

stop_quiet : (t : ScannerTable) (number : ℕ) → AllQuiet (stop t number)
unfolding stop
stop_quiet t number = stop_of_quiet (stopped_at t (slot_at t number))

-- ---- a step

abbrev NextSends : List Made → Next → Type 0
NextSends made next = map bytes_sent next.0.datagrams ≡ map made_text made

quiet_sends : (answer : Answer) → answer.datagrams ≡ [] → map bytes_sent answer.datagrams ≡ []
quiet_sends answer quiet = rw quiet refl

quietly : (said : Result Next StepFault) → AllQuiet said → IfOk said (NextSends [])
quietly (Err why) quiet = tt
quietly (Ok next) quiet = quiet_sends next.0 quiet

tick_step : (a b : Bool) (effect : Effect) → IfOk (cond a (Err fault.TickTooLong) (cond b (Err fault.ClockEnd) (Ok (ticked effect)))) (NextSends (places_made effect.table))
tick_step true b effect = tt
tick_step false true effect = tt
tick_step false false effect = slot_texts effect.table.run (due_slots effect.table)

tick_sends : (t : ScannerTable) (ms : ℕ) → IfOk (tick t ms) (NextSends (places_made (advanced (clocked_table t ms)).table))
unfolding tick explicit_timed_out
tick_sends t ms = tick_step (nat_lt longest_tick ms) (nat_lt clock_end (t.clock.0 + ms)) (moved_on (clocked_table t ms))

pub scanner_sends : (t : ScannerTable) (event : Event) → IfOk (scanner_step t event) (NextSends (scanner_makes t event))
scanner_sends t (StreamOpened stream peer) = quietly (stream_opened t stream peer) (streamed_quiet t stream peer)
scanner_sends t (Frame stream bytes) = quietly (frame t stream bytes) (frame_quiet t stream bytes)
scanner_sends t (StreamCut stream) = quietly (stream_cut t stream) (cut_quiet t stream)
scanner_sends t (Tick ms) = tick_sends t ms
scanner_sends t (Start slot) = quietly (start t slot) (start_quiet t slot)
scanner_sends t (Stop slot) = quietly (stop t slot) (stop_quiet t slot)
scanner_sends t (Explicit target number bytes) = quietly (explicit_request t target number bytes) (explicit_holds AllQuiet t target number bytes (λ why. tt) (λ session goes. refl))
scanner_sends t other = slots_hold (λ said. IfOk said (NextSends [])) t (λ why. tt) (λ verdict u of. refl) other refl
