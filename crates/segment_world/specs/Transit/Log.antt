-- The log of sent datagrams, and its spare capacity.
use Rattle.std.specs.Prelude.{ℕ, List}
use Rattle.cip_types.specs.declared.names.Node.{Node}

-- a datagram, and the node of its sender
pub record Sent : Type 0 where
  pub from : Node
  pub bytes : List ℕ

-- the datagrams in order, and the spare capacity in datagrams and in bytes
pub record Log : Type 0 where
  pub sent : List Sent
  pub texts : ℕ
  pub bytes : ℕ
