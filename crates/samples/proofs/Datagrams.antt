-- Samples of sent datagrams, and of the sender's address at their delivery.
use Rattle.std.proofs.Common.{◌≡◌, refl, ℕ, List, [], ◌∷◌, Err}
use Rattle.cip_events.specs.declared.event.Delivery.TheVariants.{UnknownId}
use Rattle.cip_events.specs.declared.event.Event.TheVariants.{Datagram, Tick}
use Rattle.cip_events.specs.declared.event.Verdict.TheVariants.{Delivered, Done}
use Rattle.segment_world.specs.declared.act.Act.{Act}
use Rattle.segment_world.specs.declared.act.Act.TheVariants.{Local, Deliver}
use Rattle.segment_world.specs.declared.act.ActFault.TheVariants.{NeverSent}
use Rattle.segment_world.specs.declared.act.Call.TheVariants as call
use Rattle.segment_world.specs.Transit.Log.{Sent}
use Rattle.segment_world.specs.World.{World}
use Rattle.samples.specs.Hex.{hex}
use Rattle.samples.specs.Devices.{fresh, peer}
use Rattle.samples.specs.Datagrams.{datagram, to_one}
use Rattle.samples.specs.Rows.{connected, alive}
use Rattle.samples.specs.Worlds.{Saying, neighbour, home, with_tables, after, says, reports, plainly}
use Rattle.samples.proofs.WorldPlaying.{playing}

-- the common adapter has a connection with a producer
abbrev producing : World
producing = with_tables (connected (alive 1 ∷ [])) (fresh neighbour)

abbrev ticks : ℕ → Act
ticks ms = Local 0 (call.Tick ms)

-- its datagram of this number, which is its count too where something was written
abbrev numbered : ℕ → List ℕ
numbered number = datagram 0x20000002 number 1 (hex "00 00 00 00")

a_datagram_goes_out :
    says producing (ticks 1 ∷ [])
    ≡ reports 0 (Tick 1) (record { frames = []; datagrams = to_one peer (numbered 1) ∷ []; verdict = Done; notices = [] }) ∷ []
unfolding playing
a_datagram_goes_out = refl

-- it is in the log from now on, with the address of its sender
abbrev sent : ℕ → Sent
sent number = record { from = home; bytes = numbered number }

what_is_sent_is_kept : (after producing (ticks 1 ∷ ticks 5 ∷ ticks 10 ∷ [])).sent ≡ sent 1 ∷ sent 2 ∷ []
unfolding playing
what_is_sent_is_kept = refl

-- a device without such a connection receives the datagram
abbrev unknown : ℕ → ℕ → Saying
unknown device number = reports device (Datagram home (numbered number)) (plainly (Delivered UnknownId))

it_comes_in_its_sender_s_name :
    says (after producing (ticks 1 ∷ ticks 10 ∷ [])) (Deliver 0 1 ∷ Deliver 1 1 ∷ Deliver 2 1 ∷ [])
    ≡ unknown 1 1 ∷ unknown 1 2 ∷ Err NeverSent ∷ []
unfolding playing
it_comes_in_its_sender_s_name = refl

-- any device, in any order, and again
it_comes_where_and_when_it_likes :
    says (after producing (ticks 1 ∷ ticks 10 ∷ [])) (Deliver 1 1 ∷ Deliver 0 0 ∷ Deliver 1 1 ∷ [])
    ≡ unknown 1 2 ∷ unknown 0 1 ∷ unknown 1 2 ∷ []
unfolding playing
it_comes_where_and_when_it_likes = refl

a_delivery_keeps_what_was_sent :
    (after producing (ticks 1 ∷ Deliver 0 1 ∷ Deliver 0 1 ∷ [])).sent ≡ sent 1 ∷ []
unfolding playing
a_delivery_keeps_what_was_sent = refl
