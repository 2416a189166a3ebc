-- What the code finds out of streams, datagrams and calls, as the definitions have it.
use Rattle.std.proofs.Common.{◌≡◌, ◌<◌, ℕ, List, length, slice_get, Some, subst}
use Rattle.cip_types.specs.declared.names.Node.{Node}
use Rattle.cip_events.specs.declared.event.Event.{Event}
use Rattle.cip_events.specs.declared.event.Event.TheVariants as event
use Rattle.segment_world.specs.declared.act.Act.TheVariants.{Local, Deliver}
use Rattle.segment_world.specs.declared.act.Call.{Call}
use Rattle.segment_world.specs.World.{World, event_of_call}
use Rattle.settling.specs.Search.Causes.{Causes}
use Rattle.settling.proofs.Causing.{call_causes, sent_causes}
use Rattle.settling.proofs.Placing.{table_there}

-- CALLS AND DATAGRAMS

pub call_is_cause : (w : World) (i : ℕ) (e : Event) (c : Call) → event_of_call c ≡ e → Causes w i e (Local i c)
call_is_cause w i e c is = subst (λ (x : Event). Causes w i x (Local i c)) is (call_causes w i c)

pub sent_is_cause : (w : World) (i k : ℕ) (peer : Node) (bytes : List ℕ) → i < length w.tables → slice_get w.sent k ≡ Some (record { from = peer; bytes = bytes }) → Causes w i (event.Datagram peer bytes) (Deliver k i)
sent_is_cause w i k peer bytes lt at =
    let there = table_there w.tables i lt in
    sent_causes w k (record { from = peer; bytes = bytes }) i there.0 there.1 at
