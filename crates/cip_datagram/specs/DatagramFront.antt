-- The fixed part of a datagram, as the program keeps it. No public clause cites this module.
use Rattle.std.specs.Prelude.{ℕ, List, [], ◌∷◌}
use Rattle.cip_datagram.specs.declared.fixed.DatagramFront.{DatagramFront}

-- the numbers in their order
abbrev pub numbers_of : DatagramFront → List ℕ
numbers_of f = f.items ∷ f.address ∷ f.address_len ∷ f.connection ∷ f.sequence ∷ f.connected ∷ f.len ∷ f.count ∷ []
