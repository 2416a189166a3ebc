-- The way of a datagram, and the one call by which it is sent.
use Rattle.std.specs.Prelude.{ℕ, ◌≡◌, Bool, true, false, List, [], ◌∷◌, ◌++◌, Option, Some, None}
use Rattle.socket_port.specs.declared.streams.routes.Destination.{Destination}
use Rattle.socket_port.specs.declared.sending.DatagramWay.{DatagramWay}
use Rattle.socket_port.specs.declared.sending.DatagramWay.TheVariants as way

-- over the connection of a socket that is connected; else to the destination, if there is one
abbrev pub way_of : Bool → Option Destination → DatagramWay
way_of true to = way.Joined
way_of false (Some to) = way.To to
way_of false None = way.Nowhere

-- a call that sends a datagram
pub data SendCall : Type 0 where
  Joined : List ℕ → SendCall
  Routed : Destination → List ℕ → SendCall

-- the call that sends a datagram along its way; none, where it has none
abbrev pub call_along : DatagramWay → List ℕ → Option SendCall
call_along way.Joined bytes = Some (Joined bytes)
call_along (way.To to) bytes = Some (Routed to bytes)
call_along way.Nowhere bytes = None

-- behind the calls before, if they are known, this one was made, or none
abbrev pub Makes : Option (List SendCall) → Option (List SendCall) → Option SendCall → Type 0
Makes None after call = Unit {0}
Makes (Some calls) after None = after ≡ Some calls
Makes (Some calls) after (Some call) = after ≡ Some (calls ++ call ∷ [])
