-- What an act adds to the list of all that was sent, and to the books of each device.
use Rattle.std.proofs.Common.{◌≡◌, ℕ, Bool, true, false, List, [], ◌∷◌, ◌++◌, append-nil, map, slice_get, Option, Some, None, Result, Ok, Err, IfOk, refl, sym, ◌∙◌, ap}
use Rattle.cip_types.specs.declared.names.Node.{Node}
use Rattle.cip_events.specs.declared.event.Answer.{Answer}
use Rattle.cip_events.specs.declared.event.Event.{Event}
use Rattle.cip_events.specs.declared.event.OutgoingDatagram.{OutgoingDatagram}
use Rattle.cip_events.specs.declared.event.StepFault.{StepFault}
use Rattle.cip_tables.specs.declared.table.DeviceTable.{DeviceTable}
use Rattle.cip_tables.specs.Step.{DeviceNext, step}
use Rattle.segment_world.specs.Transit.Log.{Sent}
use Rattle.segment_world.specs.declared.act.Act.{Act}
use Rattle.segment_world.specs.declared.act.Act.TheVariants.{Local, Deliver, NextFrame, OpenStream, CutStream}
use Rattle.segment_world.specs.World.{World, ReportedEvent, sent_by, node_at, event_at_table, after_device_step, event_of_call, delivered, taken, taken_at, opened_if, cut_if, cut_at, happens}
use Rattle.segment_world.specs.declared.transit.direction.Direction.{Direction}
use Rattle.segment_world.specs.Transit.Streams.{QueueItem, Stream, side_of}
use Rattle.device_laws.specs.Made.{Made, AnswersSendWhatIsMade, makes, bytes_sent, made_text}
use Rattle.device_laws.specs.Productions.{Production, numbered, produced_more}
use Rattle.schedule_laws.specs.Indexes.{sent_of}

-- ---- what is sent

abbrev pub sent_made : Node → Made → Sent
sent_made node made = record { from = node; bytes = made_text made }

map_last : {X Y : Type 0} (f : X → Y) (xs : List X) (x : X) (ys : List Y) → map f (xs ++ x ∷ []) ++ ys ≡ map f xs ++ f x ∷ ys
map_last f [] x ys = refl
map_last f (y ∷ xs) x ys = ap (λ zs. f y ∷ zs) (map_last f xs x ys)

pub more_sent : (w : World) (device : ℕ) (ms : List Made) (produced : List Production) → map (sent_of w) (produced_more device produced ms) ≡ map (sent_of w) produced ++ map (sent_made (node_at w device)) ms
more_sent w device [] produced = sym (append-nil (map (sent_of w) produced))
more_sent w device (m ∷ ms) produced =
    more_sent w device ms (produced ++ numbered device produced m ∷ [])
    ∙ map_last (sent_of w) produced (numbered device produced m) (map (sent_made (node_at w device)) ms)

texts_sent : (node : Node) (datagrams : List OutgoingDatagram) → map (sent_by node) datagrams ≡ map (λ (bytes : List ℕ). record { from = node; bytes = bytes }) (map bytes_sent datagrams)
texts_sent node [] = refl
texts_sent node (d ∷ ds) = ap (λ (xs : List Sent). sent_by node d ∷ xs) (texts_sent node ds)

texts_made : (node : Node) (ms : List Made) → map (λ (bytes : List ℕ). record { from = node; bytes = bytes }) (map made_text ms) ≡ map (sent_made node) ms
texts_made node [] = refl
texts_made node (m ∷ ms) = ap (λ (xs : List Sent). sent_made node m ∷ xs) (texts_made node ms)

-- what an answer sends is what was made
pub answer_sent : AnswersSendWhatIsMade → (node : Node) (t : DeviceTable) (event : Event) (answer : Answer) (next : DeviceTable) → step t event ≡ Ok (answer, next) → map (sent_by node) answer.datagrams ≡ map (sent_made node) (makes t event)
answer_sent sends node t event answer next is =
    texts_sent node answer.datagrams ∙ ap (map (λ (bytes : List ℕ). record { from = node; bytes = bytes })) (sends t event answer next is) ∙ texts_made node (makes t event)

-- ---- addresses stay

abbrev NodesStay : World → Option ReportedEvent × World → Type 0
NodesStay w done = done.1.nodes ≡ w.nodes

so_stay : (device : ℕ) (event : Event) (w : World) (said : Result DeviceNext StepFault) → IfOk (after_device_step device event w said) (NodesStay w)
so_stay device event w (Err fault) = tt
so_stay device event w (Ok next) = refl

to_stay : (device : ℕ) (event : Event) (w : World) (found : Option DeviceTable) → IfOk (event_at_table device event w found) (NodesStay w)
to_stay device event w None = tt
to_stay device event w (Some t) = so_stay device event w (step t event)

delivered_stay : (device : ℕ) (w : World) (t : Option DeviceTable) (sent : Option Sent) → IfOk (delivered device w t sent) (NodesStay w)
delivered_stay device w None sent = tt
delivered_stay device w (Some t) None = tt
delivered_stay device w (Some t) (Some sent) = to_stay device _ w (slice_get w.tables device)

taken_stay : (n : ℕ) (d : Direction) (w : World) (s : Stream) (queue : List QueueItem) → IfOk (taken n d w s queue) (NodesStay w)
taken_stay n d w s [] = tt
taken_stay n d w s (item ∷ rest) = to_stay _ _ _ _

taken_at_stay : (n : ℕ) (d : Direction) (w : World) (found : Option Stream) → IfOk (taken_at n d w found) (NodesStay w)
taken_at_stay n d w None = tt
taken_at_stay n d w (Some s) = taken_stay n d w s (side_of d s).queue

opened_stay : (from to : ℕ) (w : World) (two numbered : Bool) → IfOk (opened_if from to w two numbered) (NodesStay w)
opened_stay from to w false numbered = tt
opened_stay from to w true false = tt
opened_stay from to w true true = refl

cut_stay : (n : ℕ) (w : World) (ended : Bool) → IfOk (cut_if n w ended) (NodesStay w)
cut_stay n w true = tt
cut_stay n w false = refl

cut_at_stay : (n : ℕ) (w : World) (found : Option Stream) → IfOk (cut_at n w found) (NodesStay w)
cut_at_stay n w None = tt
cut_at_stay n w (Some s) = cut_stay n w s.ended

pub nodes_stay : (w : World) (act : Act) → IfOk (happens w act) (NodesStay w)
nodes_stay w (Local device call) = to_stay device (event_of_call call) w (slice_get w.tables device)
nodes_stay w (Deliver index device) = delivered_stay device w (slice_get w.tables device) (slice_get w.sent index)
nodes_stay w (NextFrame stream direction) = taken_at_stay stream direction w (slice_get w.streams stream)
nodes_stay w (OpenStream from to) = opened_stay from to w _ _
nodes_stay w (CutStream stream) = cut_at_stay stream w (slice_get w.streams stream)
