-- The datagrams of an answer are what the device made.
use Rattle.std.proofs.Common.{◌≡◌, ℕ, Bool, true, false, cond, List, [], ◌∷◌, map, find, nat_lt, ◌+◌, Option, Some, None, Result, Ok, Err, IfOk, refl, ap, subst}
use Rattle.cip_events.specs.declared.event.Answer.{Answer}
use Rattle.cip_events.specs.declared.event.Event.{Event}
use Rattle.cip_events.specs.declared.event.Event.TheVariants.{Request, Frame, Inquiry, Write, Tick, Respond}
use Rattle.cip_events.specs.declared.event.StepFault.{StepFault}
use Rattle.cip_productions.specs.declared.production.Producer.{Producer}
use Rattle.cip_productions.specs.Productions.{sent}
use Rattle.cip_types.specs.declared.names.Node.{Node}
use Rattle.cip_events.specs.Answers.{plain_answer}
use Rattle.cip_events.specs.Clock.{longest_tick, clock_end}
use Rattle.cip_events.specs.declared.event.StepFault.TheVariants as fault
use Rattle.cip_events.specs.declared.event.Verdict.TheVariants.{BadFrame}
use Rattle.cip_router.specs.declared.refusal.Status.TheVariants as refusal_status
use Rattle.cip_router.specs.Requests.{RouterRequestFields, router_request_reading}
use Rattle.adapter_table.specs.Answering.{respond}
use Rattle.adapter_table.specs.Own.{OwnRequest, own_of, cannot_ask}
use Rattle.device_laws.specs.Lemmas.MessageSteps.{respond_holds}
use Rattle.device_laws.specs.Lemmas.Texts.{either}
use Rattle.cip_router.specs.Commands.{command_of, is_silent}
use Rattle.cip_router.specs.Frames.{RequestHeader, FrameFields, without_header, wrong_length, whole}
use Rattle.cip_router.specs.declared.command.EncapStatus.TheVariants as status
use Rattle.adapter_table.specs.Connections.{Row}
use Rattle.adapter_table.specs.declared.table.Stream.{Stream}
use Rattle.adapter_table.specs.Encapsulation.{Handled, refusal, framed, frame_answer, stream_answer, frame_of, frame, frame_for}
use Rattle.adapter_table.specs.Inquiries.{inquiry_reply, inquired_by, inquired}
use Rattle.adapter_table.specs.Profiles.{is_at}
use Rattle.adapter_table.specs.Requests.{Next, Served, counted_once, router_refusal, served, replied, answered, requested_by, requested}
use Rattle.adapter_table.specs.Step.{written_table, written, write_of, write, adapter_step}
use Rattle.adapter_table.specs.Streams.{is_stream}
use Rattle.adapter_table.specs.Ticks.{clocked_table, expired_table, advanced, aged_next, tick}
use Rattle.adapter_table.specs.declared.profile.InputPoint.{InputPoint}
use Rattle.adapter_table.specs.declared.table.AdapterTable.{AdapterTable}
use Rattle.adapter_table.specs.declared.table.PointValue.{PointValue}
use Rattle.adapter_table.specs.Productions.{production_of, due_production, due_producers, producers_on_change}
use Rattle.cip_tables.specs.declared.table.DeviceTable.{DeviceTable}
use Rattle.cip_tables.specs.declared.table.DeviceTable.TheVariants.{Adapter, Scanner}
use Rattle.cip_tables.specs.Step.{DeviceNext, as_adapter, as_scanner, step}
use Rattle.scanner_table.specs.Effects.{Next as ScannerNext}
use Rattle.scanner_table.specs.Step.{scanner_step}
use Rattle.device_laws.proofs.ScannerSending.{scanner_sends}
use Rattle.device_laws.specs.Made.{Made, AnswersSendWhatIsMade, adapter_made, due_made, advanced_made, changed_made, bytes_sent, made_text, makes, adapter_makes, scanner_makes}
use Rattle.cip_events.specs.Answers.{plain_answer}
use Rattle.adapter_table.specs.Lemmas.PlainLemmas.{plain_holds}

-- ---- an adapter's productions

due_texts : (rows : List Row) (values : List PointValue) (producers : List Producer) → map bytes_sent (map sent (map (due_production rows values) producers)) ≡ map made_text (map (due_made values) producers)
due_texts rows values [] = refl
due_texts rows values (p ∷ ps) = ap (λ (xs : List (List ℕ)). made_text (due_made values p) ∷ xs) (due_texts rows values ps)

changed_texts : (rows : List Row) (input : List ℕ) (producers : List Producer) → map bytes_sent (map sent (map (production_of rows input) producers)) ≡ map made_text (map (adapter_made input) producers)
changed_texts rows input [] = refl
changed_texts rows input (p ∷ ps) = ap (λ (xs : List (List ℕ)). made_text (adapter_made input p) ∷ xs) (changed_texts rows input ps)

-- an answer sends no datagram
abbrev Quiet : Answer → Type 0
Quiet answer = answer.datagrams ≡ []

quiet_texts : (answer : Answer) → Quiet answer → map bytes_sent answer.datagrams ≡ []
quiet_texts answer quiet = rw quiet refl

abbrev QuietNext : Next → Type 0
QuietNext next = Quiet next.0

abbrev AllQuiet : Result Next StepFault → Type 0
AllQuiet said = IfOk said QuietNext

answered_quiet : (t : AdapterTable) (peer : Node) (s : Option Served) → QuietNext (answered t peer s)
answered_quiet t peer None = refl
answered_quiet t peer (Some s) = refl

by_quiet : (t : AdapterTable) (peer : Node) (request : RouterRequestFields) (asks : Option OwnRequest) → QuietNext (requested_by t peer request asks)
by_quiet t peer request None = answered_quiet t peer (counted_once request (served t peer request))
by_quiet t peer request (Some own) = either QuietNext (cannot_ask t peer) (replied peer (router_refusal t own.service refusal_status.ResourceUnavailable)) _ refl refl

requested_quiet : (t : AdapterTable) (peer : Node) (bytes : List ℕ) → QuietNext (requested t peer bytes)
unfolding requested
requested_quiet t peer bytes = by_quiet t peer (router_request_reading bytes) (own_of t.profile.objects (router_request_reading bytes))

respond_quiet : (t : AdapterTable) (number general : ℕ) (bytes : List ℕ) → AllQuiet (respond t number general bytes)
respond_quiet t number general bytes = respond_holds AllQuiet t number general bytes (λ why. tt) (λ w found few. refl)

wrong_length_quiet : (b : Bool) (t : AdapterTable) (number : ℕ) (echo : RequestHeader) (handled : Handled) → QuietNext (cond b (plain_answer BadFrame, t) (framed number echo handled))
wrong_length_quiet true t number echo handled = refl
wrong_length_quiet false t number echo handled = refl

frame_answer_quiet : (t : AdapterTable) (stream : Stream) (reading : FrameFields) → QuietNext (frame_answer t stream reading)
frame_answer_quiet t stream without_header = refl
frame_answer_quiet t stream (wrong_length echo) = wrong_length_quiet (is_silent (command_of echo.command)) t stream.number echo (refusal t status.InvalidLength)
frame_answer_quiet t stream (whole echo body) = refl

stream_answer_quiet : (t : AdapterTable) (stream : Stream) (bytes : List ℕ) (reply : Option (List ℕ)) → QuietNext (stream_answer t stream bytes reply)
stream_answer_quiet t stream bytes None = frame_answer_quiet t stream (frame_for t.profile.description bytes)
stream_answer_quiet t stream bytes (Some text) = refl

inquired_by_quiet : (t : AdapterTable) (peer : Node) (reply : Option (List ℕ)) → QuietNext (inquired_by t peer reply)
inquired_by_quiet t peer None = refl
inquired_by_quiet t peer (Some text) = refl

inquired_quiet : (t : AdapterTable) (peer : Node) (bytes : List ℕ) → QuietNext (inquired t peer bytes)
unfolding inquired
inquired_quiet t peer bytes = inquired_by_quiet t peer (inquiry_reply t bytes)

frame_of_quiet : (t : AdapterTable) (bytes : List ℕ) (found : Option Stream) → AllQuiet (frame_of t bytes found)
frame_of_quiet t bytes None = tt
frame_of_quiet t bytes (Some stream) = stream_answer_quiet t stream bytes (inquiry_reply t bytes)

frame_quiet : (t : AdapterTable) (number : ℕ) (bytes : List ℕ) → AllQuiet (frame t number bytes)
unfolding frame
frame_quiet t number bytes = frame_of_quiet t bytes (find (is_stream number) t.streams)

-- the answer sends what is made
abbrev SendsMade : List Made → Answer → Type 0
SendsMade made answer = map bytes_sent answer.datagrams ≡ map made_text made

abbrev NextSends : List Made → Next → Type 0
NextSends made next = SendsMade made next.0

quietly : (said : Result Next StepFault) → AllQuiet said → IfOk said (NextSends [])
quietly (Err why) quiet = tt
quietly (Ok next) quiet = quiet_texts next.0 quiet

write_step : (b : Bool) (t : AdapterTable) (point : ℕ) (bytes : List ℕ) → IfOk (cond b (Ok (written (written_table t point bytes) point bytes)) (Err fault.WrongLength)) (NextSends (changed_made (written_table t point bytes) point bytes))
write_step true t point bytes = changed_texts (written_table t point bytes).rows bytes (producers_on_change (written_table t point bytes).clock point (written_table t point bytes).rows)
write_step false t point bytes = tt

write_of_sends : (t : AdapterTable) (point : ℕ) (bytes : List ℕ) (found : Option InputPoint) → IfOk (write_of t point bytes found) (NextSends (changed_made (written_table t point bytes) point bytes))
write_of_sends t point bytes None = tt
write_of_sends t point bytes (Some input) = write_step _ t point bytes

write_sends : (t : AdapterTable) (point : ℕ) (bytes : List ℕ) → IfOk (write t point bytes) (NextSends (changed_made (written_table t point bytes) point bytes))
unfolding write
write_sends t point bytes = write_of_sends t point bytes (find (is_at point) t.profile.inputs)

tick_step : (a b : Bool) (clocked : AdapterTable) → IfOk (cond a (Err fault.TickTooLong) (cond b (Err fault.ClockEnd) (Ok (aged_next (advanced clocked))))) (NextSends (advanced_made clocked (expired_table clocked).rows))
tick_step true b clocked = tt
tick_step false true clocked = tt
tick_step false false clocked = due_texts (expired_table clocked).rows clocked.values (due_producers clocked.clock (expired_table clocked).rows)

tick_sends : (t : AdapterTable) (ms : ℕ) → IfOk (tick t ms) (NextSends (advanced_made (clocked_table t ms) (expired_table (clocked_table t ms)).rows))
unfolding tick
tick_sends t ms = tick_step (nat_lt longest_tick ms) (nat_lt clock_end (t.clock.0 + ms)) (clocked_table t ms)

adapter_sends : (t : AdapterTable) (event : Event) → IfOk (adapter_step t event) (NextSends (adapter_makes t event))
adapter_sends t (Request peer bytes) = quietly (Ok (requested t peer bytes)) (requested_quiet t peer bytes)
adapter_sends t (Frame stream bytes) = quietly (frame t stream bytes) (frame_quiet t stream bytes)
adapter_sends t (Inquiry peer bytes) = quietly (Ok (inquired t peer bytes)) (inquired_quiet t peer bytes)
adapter_sends t (Write point bytes) = write_sends t point bytes
adapter_sends t (Tick ms) = tick_sends t ms
adapter_sends t (Respond number general bytes) = quietly (respond t number general bytes) (respond_quiet t number general bytes)
adapter_sends t other = plain_holds (λ said. IfOk said (NextSends [])) t (λ why. tt) (λ verdict notices u. quiet_texts (record (plain_answer verdict) { notices = notices }) refl) other refl

-- ---- either kind

abbrev DeviceSends : List Made → DeviceNext → Type 0
DeviceSends made next = SendsMade made next.0

as_adapter_sends : (made : List Made) (said : Result Next StepFault) → IfOk said (NextSends made) → IfOk (as_adapter said) (DeviceSends made)
as_adapter_sends made (Err why) sends = tt
as_adapter_sends made (Ok next) sends = sends

as_scanner_sends : (made : List Made) (said : Result ScannerNext StepFault) → IfOk said (λ next. SendsMade made next.0) → IfOk (as_scanner said) (DeviceSends made)
as_scanner_sends made (Err why) sends = tt
as_scanner_sends made (Ok next) sends = sends

step_sends : (t : DeviceTable) (event : Event) → IfOk (step t event) (DeviceSends (makes t event))
unfolding step
step_sends (Adapter t) event = as_adapter_sends (adapter_makes t event) (adapter_step t event) (adapter_sends t event)
step_sends (Scanner t) event = as_scanner_sends (scanner_makes t event) (scanner_step t event) (scanner_sends t event)

pub answers_send : AnswersSendWhatIsMade
answers_send t event answer next is = subst (λ (said : Result DeviceNext StepFault). IfOk said (DeviceSends (makes t event))) is (step_sends t event)
