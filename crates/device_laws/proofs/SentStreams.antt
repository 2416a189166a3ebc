-- A device sends over the streams of its table, and over the one that the event opens.
use Rattle.std.proofs.Common.{◌≡◌, inl, inr, ℕ, ◌==◌, ◌||◌, Bool, true, false, cond, List, [], ◌∷◌, map, find, Option, Some, None, Result, Ok, Err, IfOk, refl, sym, ◌∙◌, ap, subst}
use Rattle.std.specs.List.{AllByRecursion, list_any}
use Rattle.std.specs.Option.{option_and_then}
use Rattle.std.proofs.lemmas.Option.{same_Some}
use Rattle.base_lemmas.specs.Booleans.{or_true}
use Rattle.base_lemmas.specs.Numbers.{number_same}
use Rattle.cip_events.specs.declared.event.Answer.{Answer}
use Rattle.cip_events.specs.declared.event.Event.{Event}
use Rattle.cip_events.specs.declared.event.Event.TheVariants as event
use Rattle.cip_events.specs.declared.event.Frame.{Frame}
use Rattle.cip_events.specs.declared.event.Recipient.TheVariants as recipient
use Rattle.cip_events.specs.declared.event.StepFault.{StepFault}
use Rattle.cip_events.specs.declared.event.StepFault.TheVariants as fault
use Rattle.cip_types.specs.declared.names.Node.{Node}
use Rattle.adapter_table.specs.declared.table.AdapterTable.{AdapterTable}
use Rattle.adapter_table.specs.declared.table.Stream as adapter_stream
use Rattle.adapter_table.specs.Encapsulation as adapters
use Rattle.adapter_table.specs.Requests as adapter_requests
use Rattle.adapter_table.specs.Step.{adapter_step}
use Rattle.adapter_table.specs.Streams as adapter_streams
use Rattle.adapter_table.specs.Whole.{IsWhole}
use Rattle.scanner_table.specs.declared.table.ScannerTable.{ScannerTable}
use Rattle.scanner_table.specs.declared.table.Session.{Session}
use Rattle.scanner_table.specs.declared.table.Stage.{Stage}
use Rattle.scanner_table.specs.declared.table.Stage.TheVariants.{Waiting, Up, Unused}
use Rattle.scanner_table.specs.declared.table.TargetStream.{TargetStream}
use Rattle.scanner_table.specs.Effects.{Next, Effect, after, done}
use Rattle.scanner_table.specs.Encapsulation.{registering_on, stream_opened}
use Rattle.scanner_table.specs.Requests.{Sent, sent_frame}
use Rattle.scanner_table.specs.Sessions.{is_stream, is_to, is_taken, session_at, session_on, session_with}
use Rattle.scanner_table.specs.Step.{scanner_step}
use Rattle.cip_tables.specs.declared.table.DeviceTable.{DeviceTable}
use Rattle.cip_tables.specs.declared.table.DeviceTable.TheVariants.{Adapter, Scanner}
use Rattle.cip_tables.specs.Step.{DeviceNext, as_adapter, as_scanner, step}
use Rattle.device_laws.specs.Lemmas.Lists.{all_both, all_more}
use Rattle.device_laws.specs.Lemmas.Texts.{either}
use Rattle.device_laws.specs.Replies.{IsLateReply, IsAnswerTo, RepliesCarryOpenedIds}
use Rattle.device_laws.specs.OwnStreams.{GoesOverItsOwn, DevicesSendOverTheirStreams}
use Rattle.device_laws.specs.Lemmas.ScannerEffects.{SameStreams, staged_same, EffectsDo, NextDoes, OkDoes, event_does}

-- ---- a scanner

-- the request goes over an open stream of the table
abbrev IsOver : ScannerTable → Sent → Type 0
IsOver t sent = list_any (is_stream sent.stream) t.streams ≡ true

record Sends (t : ScannerTable) (effect : Effect) : Type 0 where
  streams : SameStreams t effect.table
  sent : AllByRecursion (IsOver t) effect.sent

then_sends : (t : ScannerTable) (first second : Effect) → Sends t first → Sends first.table second → Sends t (after first second)
then_sends t first second one other = record {
  streams = λ n. other.streams n ∙ one.streams n;
  sent = all_both (IsOver t) first.sent second.sent one.sent (all_more (IsOver first.table) (IsOver t) (λ sent is. sym (one.streams sent.stream) ∙ is) second.sent other.sent);
}

at_number : (number : ℕ) (stage : Stage) (session : Session) → session_at number stage ≡ Some session → session.stream ≡ number
at_number number Waiting session is = absurd (let e = is in cc)
at_number number (Up handle) session is = ap (λ (s : Session). s.stream) (sym (same_Some (record { stream = number; handle = handle }) session is))
at_number number Unused session is = absurd (let e = is in cc)

-- a session's stream is one of the table's
session_among : (target : Node) (session : Session) (streams : List TargetStream) → option_and_then session_on (find (is_to target) streams) ≡ Some session → list_any (is_stream session.stream) streams ≡ true
session_among target session [] is = absurd (let e = is in cc)
session_among target session (s ∷ streams) is =
    among (is_to target s) (find (is_to target) streams) is (λ later. session_among target session streams later)
  where
    among : (b : Bool) (rest : Option TargetStream) → option_and_then session_on (cond b (Some s) rest) ≡ Some session → (option_and_then session_on rest ≡ Some session → list_any (is_stream session.stream) streams ≡ true) → list_any (is_stream session.stream) (s ∷ streams) ≡ true
    among true rest found on =
        let same : session.stream ≡ s.number = at_number s.number s.stage session found in
        let here : is_stream session.stream s ≡ true = ap (λ (n : ℕ). is_stream n s) same ∙ number_same s.number in
        rw here refl
    among false rest found on = let more = on found in rw more (or_true (is_stream session.stream s))

session_over : (t : ScannerTable) (target : Node) (session : Session) → session_with t target ≡ Some session → list_any (is_stream session.stream) t.streams ≡ true
session_over t target session is = session_among target session t.streams is

effects_send : EffectsDo Sends
effects_send = record {
  stays = λ t u notices like. record { streams = like.streams; sent = tt };
  next = then_sends;
  opens = λ t place session can is. record { streams = λ n. refl; sent = (session_over t place.config.target session is, tt) };
  closes = λ t place link desired_up session is. record { streams = λ n. refl; sent = (session_over t place.config.target session is, tt) };
  disowns = λ t config triad session is. record { streams = λ n. refl; sent = (session_over t config.target session is, tt) };
  registers = λ t stream is_open. record { streams = λ n. staged_same stream.number Waiting n t.streams; sent = (is_open, tt) };
  requests = λ t target session number bytes goes. record { streams = λ n. refl; sent = (session_over t target session goes.session_is, tt) };
}

same_number : (a b : ℕ) → recipient.Stream a ≡ recipient.Stream b → a ≡ b
same_number a b e = cc

frames_go : (t : ScannerTable) (happens : Event) (requests : List Sent) → AllByRecursion (IsOver t) requests → AllByRecursion (GoesOverItsOwn (Scanner t) happens) (map sent_frame requests)
frames_go t happens [] over = tt
frames_go t happens (sent ∷ requests) over = (goes, frames_go t happens requests over.1) where
  goes : GoesOverItsOwn (Scanner t) happens (sent_frame sent)
  goes number to =
      let is : list_any (is_stream number) t.streams ≡ true = ap (λ (n : ℕ). list_any (is_stream n) t.streams) (sym (same_number sent.stream number to)) ∙ over.0 in
      rw is refl

abbrev NextGoes : ScannerTable → Event → Next → Type 0
NextGoes t happens next = AllByRecursion (GoesOverItsOwn (Scanner t) happens) next.0.frames

next_goes : (t : ScannerTable) (happens : Event) (next : Next) → NextDoes Sends t next → NextGoes t happens next
next_goes t happens next (inl none) = rw none tt
next_goes t happens next (inr of) =
    let does = of.does in
    let effect = of.effect in
    subst (AllByRecursion (GoesOverItsOwn (Scanner t) happens)) (sym of.frames) (frames_go t happens of.effect.sent does.sent)

ok_goes : (t : ScannerTable) (happens : Event) (said : Result Next StepFault) → OkDoes Sends t said → IfOk said (NextGoes t happens)
ok_goes t happens (Err why) does = tt
ok_goes t happens (Ok next) does = next_goes t happens next does

registering_goes : (t : ScannerTable) (number : ℕ) (target : Node) → NextGoes t (event.StreamOpened number target) (done (registering_on t number target))
registering_goes t number target = (
  (λ n to.
      let own : (number == n) ≡ true = ap (λ (m : ℕ). number == m) (sym (same_number number n to)) ∙ number_same number in
      rw own (or_true (list_any (is_stream n) t.streams))),
  tt,
)

opens_goes : (t : ScannerTable) (number : ℕ) (target : Node) → IfOk (stream_opened t number target) (NextGoes t (event.StreamOpened number target))
unfolding stream_opened
opens_goes t number target =
    either (λ (said : Result Next StepFault). IfOk said (NextGoes t (event.StreamOpened number target))) (is_taken t.streams number target) (Err fault.NotAllowedNow) (Ok (done (registering_on t number target))) tt (registering_goes t number target)

scanner_goes : (t : ScannerTable) (happens : Event) → IfOk (scanner_step t happens) (NextGoes t happens)
scanner_goes t (event.Request peer bytes) = tt
scanner_goes t (event.StreamOpened number peer) = opens_goes t number peer
scanner_goes t other = ok_goes t other (scanner_step t other) (event_does Sends effects_send t other)

-- ---- an adapter

found_among : (number : ℕ) (streams : List adapter_stream.Stream) (s : adapter_stream.Stream) → find (adapter_streams.is_stream number) streams ≡ Some s → list_any (adapter_streams.is_stream number) streams ≡ true
found_among number [] s is = absurd (let e = is in cc)
found_among number (x ∷ streams) s is = among (adapter_streams.is_stream number x) is (λ later. found_among number streams s later) where
  among : (b : Bool) → cond b (Some x) (find (adapter_streams.is_stream number) streams) ≡ Some s → (find (adapter_streams.is_stream number) streams ≡ Some s → list_any (adapter_streams.is_stream number) streams ≡ true) → (b || list_any (adapter_streams.is_stream number) streams) ≡ true
  among true found on = refl
  among false found on = on found

-- a frame that is answered came over an open stream
was_found : (t : AdapterTable) (number : ℕ) (bytes : List ℕ) (next : adapter_requests.Next) (found : Option adapter_stream.Stream) → find (adapter_streams.is_stream number) t.streams ≡ found → adapters.frame_of t bytes found ≡ Ok next → list_any (adapter_streams.is_stream number) t.streams ≡ true
was_found t number bytes next None is said = absurd (let e = said in cc)
was_found t number bytes next (Some s) is said = found_among number t.streams s is

came_over : (t : AdapterTable) (number : ℕ) (bytes : List ℕ) (next : adapter_requests.Next) → adapter_step t (event.Frame number bytes) ≡ Ok next → list_any (adapter_streams.is_stream number) t.streams ≡ true
unfolding adapters.frame
came_over t number bytes next is = was_found t number bytes next (find (adapter_streams.is_stream number) t.streams) refl is

never_peer : {X : Type 0} (peer : Node) (number : ℕ) → recipient.Peer peer ≡ recipient.Stream number → X
never_peer peer number e = absurd cc

late_goes : (t : AdapterTable) (happens : Event) (frame : Frame) → IsLateReply t frame → GoesOverItsOwn (Adapter t) happens frame
late_goes t happens frame (inl is) = λ number to. never_peer is.peer number (sym is.to ∙ to)
late_goes t happens frame (inr is) = λ n to.
    let same : n ≡ is.number = same_number n is.number (sym to ∙ is.to) in
    let there : list_any (adapter_streams.is_stream n) t.streams ≡ true = ap (λ (m : ℕ). list_any (adapter_streams.is_stream m) t.streams) same ∙ is.over in
    rw there refl

answer_goes : (t next : AdapterTable) (happens : Event) (answer : Answer) → adapter_step t happens ≡ Ok (answer, next) → (frame : Frame) → IsAnswerTo t next happens frame → GoesOverItsOwn (Adapter t) happens frame
answer_goes t next (event.Request peer bytes) answer said frame is = λ number to. never_peer peer number (sym is ∙ to)
answer_goes t next (event.Frame number bytes) answer said frame is = λ n to.
    let same : n ≡ number = same_number n number (sym to ∙ is.to) in
    let there : list_any (adapter_streams.is_stream n) t.streams ≡ true = ap (λ (m : ℕ). list_any (adapter_streams.is_stream m) t.streams) same ∙ came_over t number bytes (answer, next) said in
    rw there refl
answer_goes t next (event.Inquiry peer bytes) answer said frame is = λ number to. never_peer peer number (sym is.to ∙ to)
answer_goes t next (event.Respond number status bytes) answer said frame is = late_goes t (event.Respond number status bytes) frame is
answer_goes t next (event.Tick ms) answer said frame is = late_goes t (event.Tick ms) frame is
answer_goes t next other answer said frame is = absurd is

-- ---- a device

abbrev DeviceGoes : DeviceTable → Event → DeviceNext → Type 0
DeviceGoes t happens next = AllByRecursion (GoesOverItsOwn t happens) next.0.frames

adapter_goes : RepliesCarryOpenedIds → (t : AdapterTable) (happens : Event) (said : Result adapter_requests.Next StepFault) → adapter_step t happens ≡ said → IsWhole t → IfOk (as_adapter said) (DeviceGoes (Adapter t) happens)
adapter_goes replies t happens (Err why) is whole = tt
adapter_goes replies t happens (Ok next) is whole =
    all_more (IsAnswerTo t next.1 happens) (GoesOverItsOwn (Adapter t) happens) (answer_goes t next.1 happens next.0 is) next.0.frames (replies t happens next.0 next.1 is whole)

scanner_so : (t : ScannerTable) (happens : Event) (said : Result Next StepFault) → IfOk said (NextGoes t happens) → IfOk (as_scanner said) (DeviceGoes (Scanner t) happens)
scanner_so t happens (Err why) goes = tt
scanner_so t happens (Ok next) goes = goes

pub devices_send : RepliesCarryOpenedIds → DevicesSendOverTheirStreams
unfolding step
devices_send replies (Adapter t) happens answer next is whole = subst (λ (said : Result DeviceNext StepFault). IfOk said (DeviceGoes (Adapter t) happens)) is (adapter_goes replies t happens (adapter_step t happens) refl whole)
devices_send replies (Scanner t) happens answer next is whole = subst (λ (said : Result DeviceNext StepFault). IfOk said (DeviceGoes (Scanner t) happens)) is (scanner_so t happens (scanner_step t happens) (scanner_goes t happens))
