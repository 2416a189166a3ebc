-- Acts: the code's steps lead to the outcome that the definition gives.
use Rattle.std.proofs.Common.{◌≡◌, ◌<◌, not, Bool, true, false, ℕ, zero, suc, List, [], ◌∷◌, ◌++◌, map, set, length, slice_get, Option, Some, None, Result, Ok, Err, IsOk, subst, refl, sym, ap, ◌∙◌, arith}
use Rattle.std.proofs.lemmas.List.{append-nil}
use Rattle.std.proofs.lemmas.Option.{get_or_from_slice_get, slice_get_within}
use Rattle.std.specs.Option.{option_map}
use Rattle.base_lemmas.specs.Lists.{set_same}
use Rattle.cip_types.specs.declared.names.Node.{Node}
use Rattle.cip_events.specs.Answers.{plain_answer}
use Rattle.cip_events.specs.Outcomes.{Follows}
use Rattle.cip_events.specs.declared.event.Answer.{Answer}
use Rattle.cip_events.specs.declared.event.Event.{Event}
use Rattle.cip_events.specs.declared.event.Event.TheVariants.{Datagram}
use Rattle.cip_events.specs.declared.event.Delivery.{Delivery}
use Rattle.cip_events.specs.declared.event.Verdict.TheVariants.{Delivered}
use Rattle.cip_events.specs.declared.event.StepFault.{StepFault}
use Rattle.cip_events.specs.declared.event.StepFault.TheVariants as step_fault
use Rattle.cip_tables.specs.declared.table.DeviceTable.{DeviceTable}
use Rattle.cip_tables.specs.Step.{DeviceNext, step}
use Rattle.segment_world.specs.Transit.Log.{Sent}
use Rattle.segment_world.specs.declared.transit.direction.Direction.{Direction}
use Rattle.segment_world.specs.declared.transit.direction.Direction.TheVariants.{Forth, Back}
use Rattle.segment_world.specs.declared.transit.links.Endpoints.{Endpoints}
use Rattle.segment_world.specs.Transit.Fronts.{endpoints_of, is_open, front_of}
use Rattle.segment_world.specs.Transit.Streams.{QueueItem, Stream, side_of, receiver, sender, with_stream, frames_sent, notices_applied, answered, cut_stream}
use Rattle.segment_world.specs.declared.act.ActFault.TheVariants.{NoSuchStream, Step}
use Rattle.segment_world.specs.World.{World, Happened, node_at, sent_by, fan_out, event_at_device, event_at_table, after_device_step, delivered, event_of_item, without_front, taken, taken_at, cut_if, cut_at}
use Rattle.segment_world.specs.Receptions.{receiver_in, sender_in}
use Rattle.segment_world.specs.Follows.{IsPossible, ActFollows}
use Rattle.segment_world.specs.AnswerSpace.{CameTo, WasDelivered}

-- INDICES

get_there : {X : Type 0} (xs : List X) (i : ℕ) → i < length xs → (x : X) × (slice_get xs i ≡ Some x)
get_there [] i lt = absurd (omega arith)
get_there (x ∷ xs) zero lt = (x, refl)
get_there (x ∷ xs) (suc i) lt = get_there xs i (omega arith)

-- AN EVENT AT A DEVICE

-- the world has the device: the act is possible
possible_so : (device : ℕ) (event : Event) (w : World) (said : Result DeviceNext StepFault) → IsPossible (after_device_step device event w said)
possible_so device event w (Ok next) = tt
possible_so device event w (Err fault) = tt

pub comes_possibly : (device : ℕ) (event : Event) (w : World) → device < length w.tables → IsPossible (event_at_device device event w)
comes_possibly device event w lt =
    let there = get_there w.tables device lt in
    subst (λ (o : Option DeviceTable). IsPossible (event_at_table device event w o)) (sym there.1) (possible_so device event w (step there.0 event))

came_is : (device : ℕ) (event : Event) (w : World) (t : DeviceTable) (said : Result DeviceNext StepFault) → slice_get w.tables device ≡ Some t → step t event ≡ said → event_at_device device event w ≡ after_device_step device event w said
came_is device event w t said at is = ap (event_at_table device event w) at ∙ ap (after_device_step device event w) is

-- the device answered
pub answered_so : (said : Happened) (old mid : World) (device : ℕ) (event : Event) (answer : Answer) (tables : List DeviceTable) → said ≡ event_at_device device event mid → CameTo mid.tables device event (Ok answer) tables → ActFollows said old (Ok (Some answer)) (fan_out device answer (record mid { tables = tables }))
answered_so said old mid device event answer tables so came = (
  Some (record { device = device; event = event; answer = answer }),
  so
      ∙ came_is device event mid came.before (Ok (answer, came.after)) came.is came.follows
      ∙ ap (λ (ts : List DeviceTable). Ok (Some (record { device = device; event = event; answer = answer }), fan_out device answer (record mid { tables = ts }))) (sym came.leaves),
  refl,
)

-- the device refused: a fault of its step is the act's
refused_at : (said : Happened) (old mid new : World) (device : ℕ) (event : Event) (t after : DeviceTable) (fault : StepFault) → said ≡ event_at_device device event mid → slice_get mid.tables device ≡ Some t → Follows (step t event) t (Err fault) after → new ≡ old → ActFollows said old (Err (Step fault)) new
refused_at said old mid new device event t after step_fault.OutOfMemory so at follows same =
    (subst (λ (r : Happened). IsOk r) (sym (so ∙ ap (event_at_table device event mid) at)) (ok_so (step t event) follows.0), same) where
      ok_so : (r : Result DeviceNext StepFault) → IsOk r → IsOk (after_device_step device event mid r)
      ok_so (Ok next) ok = ok
      ok_so (Err fault) ok = ok
refused_at said old mid new device event t after step_fault.TickTooLong so at follows same = (so ∙ came_is device event mid t _ at follows.0, same)
refused_at said old mid new device event t after step_fault.ClockEnd so at follows same = (so ∙ came_is device event mid t _ at follows.0, same)
refused_at said old mid new device event t after step_fault.NoSuchPoint so at follows same = (so ∙ came_is device event mid t _ at follows.0, same)
refused_at said old mid new device event t after step_fault.WrongLength so at follows same = (so ∙ came_is device event mid t _ at follows.0, same)
refused_at said old mid new device event t after step_fault.NoSuchSlot so at follows same = (so ∙ came_is device event mid t _ at follows.0, same)
refused_at said old mid new device event t after step_fault.NotAllowedNow so at follows same = (so ∙ came_is device event mid t _ at follows.0, same)

-- the table is as it was
kept_at : (t after : DeviceTable) (said : Result DeviceNext StepFault) (fault : StepFault) → Follows said t (Err fault) after → after ≡ t
kept_at t after said step_fault.OutOfMemory follows = follows.1
kept_at t after said step_fault.TickTooLong follows = follows.1
kept_at t after said step_fault.ClockEnd follows = follows.1
kept_at t after said step_fault.NoSuchPoint follows = follows.1
kept_at t after said step_fault.WrongLength follows = follows.1
kept_at t after said step_fault.NoSuchSlot follows = follows.1
kept_at t after said step_fault.NotAllowedNow follows = follows.1

pub undone_so : (said : Happened) (old mid : World) (device : ℕ) (event : Event) (fault : StepFault) (nodes : List Node) (ts tables : List DeviceTable) (sent sent' : List Sent) (streams streams' : List Stream) → record { nodes = nodes; tables = ts; sent = sent; streams = streams } ≡ old → said ≡ event_at_device device event mid → mid.tables ≡ ts → CameTo ts device event (Err fault) tables → sent' ≡ sent → streams' ≡ streams → ActFollows said old (Err (Step fault)) (record { nodes = nodes; tables = tables; sent = sent'; streams = streams' })
undone_so said old mid device event fault nodes ts tables sent sent' streams streams' seen so same came unsent unstreamed =
    let kept : came.after ≡ came.before = kept_at came.before came.after (step came.before event) fault came.follows in
    let there : tables ≡ ts = came.leaves ∙ ap (set ts device) kept ∙ set_same ts device came.before came.is in
    let at : slice_get mid.tables device ≡ Some came.before = ap (λ (l : List DeviceTable). slice_get l device) same ∙ came.is in
    refused_at said old mid _ device event came.before came.after fault so at came.follows
    (ap (λ (l : List DeviceTable). record { nodes = nodes; tables = l; sent = sent'; streams = streams' }) there
    ∙ ap (λ (l : List Sent). record { nodes = nodes; tables = ts; sent = l; streams = streams' }) unsent
    ∙ ap (λ (l : List Stream). record { nodes = nodes; tables = ts; sent = sent; streams = l }) unstreamed
    ∙ seen)

-- the code leaves the world to which the answer was sent
pub done_so : (said : Happened) (old mid : World) (device : ℕ) (event : Event) (answer : Answer) (node : Node) (tables : List DeviceTable) (sent : List Sent) (streams : List Stream) → said ≡ event_at_device device event mid → CameTo mid.tables device event (Ok answer) tables → slice_get mid.nodes device ≡ Some node → sent ≡ mid.sent ++ map (sent_by node) answer.datagrams → streams ≡ answered device answer mid.streams → ActFollows said old (Ok (Some answer)) (record { nodes = mid.nodes; tables = tables; sent = sent; streams = streams })
done_so said old mid device event answer node tables sent streams so came at sent_is streams_is =
    let from : node_at mid device ≡ node = get_or_from_slice_get mid.nodes device node (record { 0 = 0 }) at in
    let here : sent ≡ mid.sent ++ map (sent_by (node_at mid device)) answer.datagrams = sent_is ∙ ap (λ (n : Node). mid.sent ++ map (sent_by n) answer.datagrams) (sym from) in
    rw (here, streams_is) (answered_so said old mid device event answer tables so came)

-- DELIVERIES

plain_fan_out : (device : ℕ) (w : World) (delivery : Delivery) → fan_out device (plain_answer (Delivered delivery)) w ≡ w
unfolding frames_sent notices_applied
plain_fan_out device w delivery = ap (λ (sent : List Sent). record w { sent = sent }) (append-nil w.sent)

pub delivered_so : (old w : World) (device index : ℕ) (sent : Sent) (delivery : Delivery) (answer : Answer) (tables : List DeviceTable) → w ≡ old → slice_get w.sent index ≡ Some sent → WasDelivered w.tables device sent.from sent.bytes delivery tables → answer ≡ plain_answer (Delivered delivery) → ActFollows (delivered device old (slice_get old.tables device) (slice_get old.sent index)) old (Ok (Some answer)) (record w { tables = tables })
delivered_so old w device index sent delivery answer tables seen found was plain =
    let event = Datagram sent.from sent.bytes in
    let said = plain_answer (Delivered delivery) in
    let happened : delivered device w (slice_get w.tables device) (slice_get w.sent index) ≡ Ok (Some (record { device = device; event = event; answer = said }), record w { tables = tables }) =
    ap (λ (t : Option DeviceTable). delivered device w t (slice_get w.sent index)) was.is
    ∙ ap (delivered device w (Some was.before)) found
    ∙ came_is device event w was.before (Ok (said, was.after)) was.is was.follows
    ∙ ap (λ (ts : List DeviceTable). Ok (Some (record { device = device; event = event; answer = said }), fan_out device said (record w { tables = ts }))) (sym was.leaves)
    ∙ ap (λ (v : World). Ok (Some (record { device = device; event = event; answer = said }), v)) (plain_fan_out device (record w { tables = tables }) delivery) in
    (Some (record { device = device; event = event; answer = said }), sym (ap (λ (v : World). delivered device v (slice_get v.tables device) (slice_get v.sent index)) seen) ∙ happened, ap Some plain)

-- EVENTS OVER A STREAM

-- the world that contracts see has the device
pub stands : (nodes : List Node) (tables : List DeviceTable) (sent : List Sent) (streams : List Stream) (w : World) (device : ℕ) (node : Node) → record { nodes = nodes; tables = tables; sent = sent; streams = streams } ≡ w → length nodes ≡ length tables → slice_get nodes device ≡ Some node → (device < length w.tables) × (slice_get w.nodes device ≡ Some node)
stands nodes tables sent streams w device node seen long is =
    let lt : device < length nodes = slice_get_within nodes device node is in
    let within : device < length tables = omega arith in
    (subst (λ (v : World). device < length v.tables) seen within, subst (λ (v : World). slice_get v.nodes device ≡ Some node) seen is)

takes : (d : Direction) (s : Stream) (endpoints : Endpoints) → Some endpoints ≡ Some (endpoints_of s) → receiver d s ≡ receiver_in d endpoints
takes Forth s endpoints is = let e = is in cc
takes Back s endpoints is = let e = is in cc

gives : (d : Direction) (s : Stream) (endpoints : Endpoints) → Some endpoints ≡ Some (endpoints_of s) → sender d s ≡ sender_in d endpoints
gives Forth s endpoints is = let e = is in cc
gives Back s endpoints is = let e = is in cc

front_is : (n : ℕ) (d : Direction) (w : World) (s : Stream) (queue : List QueueItem) (item : QueueItem) → Some item ≡ slice_get queue 0 → taken n d w s queue ≡ event_at_device (receiver d s) (event_of_item n (node_at w (sender d s)) item) (without_front n d w)
front_is n d w s [] item is = absurd (let e = is in cc)
front_is n d w s (first ∷ rest) item is = ap (λ (i : QueueItem). event_at_device (receiver d s) (event_of_item n (node_at w (sender d s)) i) (without_front n d w)) (let e = is in let same : first ≡ item = cc in same)

pub taken_is : (n : ℕ) (d : Direction) (w : World) (o : Option Stream) (endpoints : Endpoints) (item : QueueItem) → Some endpoints ≡ option_map endpoints_of o → Some item ≡ front_of d o → taken_at n d w o ≡ event_at_device (receiver_in d endpoints) (event_of_item n (node_at w (sender_in d endpoints)) item) (without_front n d w)
taken_is n d w None endpoints item there first = absurd (let e = there in cc)
taken_is n d w (Some s) endpoints item there first =
    front_is n d w s (side_of d s).queue item first
    ∙ ap (λ (i : ℕ). event_at_device i (event_of_item n (node_at w (sender d s)) item) (without_front n d w)) (takes d s endpoints there)
    ∙ ap (λ (i : ℕ). event_at_device (receiver_in d endpoints) (event_of_item n (node_at w i) item) (without_front n d w)) (gives d s endpoints there)

-- the same in the world that contracts see, with the values that the code looked up
pub comes_over : (n : ℕ) (d : Direction) (v w : World) (endpoints : Endpoints) (item : QueueItem) (device sender : ℕ) (peer : Node) (event : Event) → v ≡ w → Some endpoints ≡ option_map endpoints_of (slice_get v.streams n) → Some item ≡ front_of d (slice_get v.streams n) → device ≡ receiver_in d endpoints → sender ≡ sender_in d endpoints → peer ≡ node_at v sender → event ≡ event_of_item n peer item → taken_at n d w (slice_get w.streams n) ≡ event_at_device device event (without_front n d w)
comes_over n d v w endpoints item device sender peer event seen there first taker_is giver_is peer_is event_is =
    let same_node : peer ≡ node_at v (sender_in d endpoints) = peer_is ∙ ap (node_at v) giver_is in
    let same : event ≡ event_of_item n (node_at v (sender_in d endpoints)) item = event_is ∙ ap (λ (p : Node). event_of_item n p item) same_node in
    let so : taken_at n d v (slice_get v.streams n) ≡ event_at_device device event (without_front n d v) =
    taken_is n d v (slice_get v.streams n) endpoints item there first
    ∙ ap (λ (i : ℕ). event_at_device i (event_of_item n (node_at v (sender_in d endpoints)) item) (without_front n d v)) (sym taker_is)
    ∙ ap (λ (e : Event). event_at_device device e (without_front n d v)) (sym same) in
    subst (λ (u : World). taken_at n d u (slice_get u.streams n) ≡ event_at_device device event (without_front n d u)) seen so

pub comes_over_possibly : (n : ℕ) (d : Direction) (v w : World) (endpoints : Endpoints) (item : QueueItem) (device : ℕ) → v ≡ w → Some endpoints ≡ option_map endpoints_of (slice_get v.streams n) → Some item ≡ front_of d (slice_get v.streams n) → device ≡ receiver_in d endpoints → device < length w.tables → IsPossible (taken_at n d w (slice_get w.streams n))
comes_over_possibly n d v w endpoints item device seen there first taker_is within =
    let event : Event = event_of_item n (node_at v (sender_in d endpoints)) item in
    let so = comes_over n d v w endpoints item device (sender_in d endpoints) (node_at v (sender_in d endpoints)) event seen there first taker_is refl refl refl in
    subst (λ (r : Happened). IsPossible r) (sym so) (comes_possibly device event (without_front n d w) within)

-- A STREAM THAT IS CUT

cut_if_open : (n : ℕ) (w : World) (ended : Bool) → true ≡ not ended → cut_if n w ended ≡ Ok (None, record w { streams = with_stream cut_stream n w.streams })
cut_if_open n w true is = absurd (let e = is in cc)
cut_if_open n w false is = refl

cut_open : (n : ℕ) (w : World) (o : Option Stream) → true ≡ is_open o → cut_at n w o ≡ Ok (None, record w { streams = with_stream cut_stream n w.streams })
cut_open n w None is = absurd (let e = is in cc)
cut_open n w (Some s) is = cut_if_open n w s.ended is

cut_if_ended : (n : ℕ) (w : World) (ended : Bool) → false ≡ not ended → cut_if n w ended ≡ Err NoSuchStream
cut_if_ended n w true is = refl
cut_if_ended n w false is = absurd (let e = is in cc)

cut_not_open : (n : ℕ) (w : World) (o : Option Stream) → false ≡ is_open o → cut_at n w o ≡ Err NoSuchStream
cut_not_open n w None is = refl
cut_not_open n w (Some s) is = cut_if_ended n w s.ended is

pub cut_so : (n : ℕ) (v w : World) (streams : List Stream) → v ≡ w → true ≡ is_open (slice_get v.streams n) → streams ≡ with_stream cut_stream n v.streams → ActFollows (cut_at n w (slice_get w.streams n)) w (Ok None) (record v { streams = streams })
cut_so n v w streams seen living cut = (
  None,
  sym (ap (λ (u : World). cut_at n u (slice_get u.streams n)) seen) ∙ cut_open n v (slice_get v.streams n) living ∙ ap (λ (l : List Stream). Ok (None, record v { streams = l })) (sym cut),
  refl,
)

pub uncut_so : (n : ℕ) (v w : World) (streams : List Stream) → v ≡ w → false ≡ is_open (slice_get v.streams n) → streams ≡ v.streams → ActFollows (cut_at n w (slice_get w.streams n)) w (Err NoSuchStream) (record v { streams = streams })
uncut_so n v w streams seen living kept = (
  sym (ap (λ (u : World). cut_at n u (slice_get u.streams n)) seen) ∙ cut_not_open n v (slice_get v.streams n) living,
  ap (λ (l : List Stream). record v { streams = l }) kept ∙ seen,
)
