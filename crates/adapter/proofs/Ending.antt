-- The notices of class 3 connections that end with their stream, by triads.
use Rattle.std.proofs.Common.{◌≡◌, List, [], ◌∷◌, map, refl, ap}
use Rattle.cip_events.specs.declared.event.Notice.{Notice}
use Rattle.cip_events.specs.declared.event.Notice.TheVariants as notice
use Rattle.messaging.specs.declared.class3.Class3Connection.{Class3Connection}
use Rattle.messaging.specs.Class3Connections.{class3_triad}
use Rattle.adapter_table.specs.Streams.{ended_notice}

pub ended_notices : (class3_connections : List Class3Connection) → map notice.Dropped (map class3_triad class3_connections) ≡ map ended_notice class3_connections
ended_notices [] = refl
ended_notices (d ∷ class3_connections) = ap (λ (l : List Notice). ended_notice d ∷ l) (ended_notices class3_connections)
