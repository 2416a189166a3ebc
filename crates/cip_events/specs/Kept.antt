-- Nodes and bytes of a datagram, of which a few are stored inline. No public clause cites this module.
use Rattle.std.specs.Prelude.{ℕ, ◌≡◌, ◌≤◌, List, length, take}
use Rattle.cip_types.specs.declared.names.Node.{Node}
use Rattle.cip_events.specs.declared.consumers.KeptConsumers.{KeptConsumers}
use Rattle.cip_events.specs.declared.consumers.KeptConsumers.TheVariants as nodes
use Rattle.cip_events.specs.declared.small_bytes.KeptBytes.{KeptBytes}
use Rattle.cip_events.specs.declared.small_bytes.KeptBytes.TheVariants as address_bytes

abbrev pub kept_consumers : KeptConsumers → List Node
kept_consumers (nodes.Few count places) = take count places
kept_consumers (nodes.Many vec) = vec.items

abbrev pub FitConsumers : KeptConsumers → Type 0
FitConsumers (nodes.Few count places) = (count ≤ 8) × (length places ≡ 8)
FitConsumers (nodes.Many vec) = Unit {0}

abbrev pub kept_bytes : KeptBytes → List ℕ
kept_bytes (address_bytes.Few count places) = take count places
kept_bytes (address_bytes.Many vec) = vec.items

abbrev pub FitBytes : KeptBytes → Type 0
FitBytes (address_bytes.Few count places) = (count ≤ 56) × (length places ≡ 56)
FitBytes (address_bytes.Many vec) = Unit {0}
