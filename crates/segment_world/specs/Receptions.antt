-- Events that devices receive over streams.
use Rattle.std.specs.Prelude.{◌≡◌, ℕ, slice_get, Some}
use Rattle.segment_world.specs.declared.transit.direction.Direction.{Direction}
use Rattle.segment_world.specs.declared.transit.direction.Direction.TheVariants.{Forth, Back}
use Rattle.segment_world.specs.declared.transit.links.Endpoints.{Endpoints}
use Rattle.segment_world.specs.declared.reception.Reception.{Reception}
use Rattle.segment_world.specs.World.{World, event_at_device, without_front, taken_at}

-- the device that receives in a direction between these ends, and the one that sends
abbrev pub receiver_in : Direction → Endpoints → ℕ
receiver_in Forth endpoints = endpoints.to
receiver_in Back endpoints = endpoints.from

abbrev pub sender_in : Direction → Endpoints → ℕ
sender_in Forth endpoints = endpoints.from
sender_in Back endpoints = endpoints.to

-- the front of the direction makes this event of this device
pub record IsReception (w : World) (n : ℕ) (direction : Direction) (reception : Reception) : Type 0 where
  pub is :
      taken_at n direction w (slice_get w.streams n)
      ≡ event_at_device reception.device reception.event (without_front n direction w)
  pub node : slice_get w.nodes reception.device ≡ Some reception.node
