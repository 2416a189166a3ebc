-- The list of all that was sent, with the indexes of each production, which no device stores (Volume 1, chapter 3, class 1
-- transport; Volume 2, chapter 2, sequenced address item).
use Rattle.std.specs.Prelude.{◌≡◌, List, map}
use Rattle.cip_datagram.specs.Datagram.{datagram_text}
use Rattle.cip_tables.specs.declared.table.Config.{Config}
use Rattle.segment_world.specs.Transit.Log.{Sent}
use Rattle.segment_world.specs.declared.act.Act.{Act}
use Rattle.segment_world.specs.World.{World, node_at}
use Rattle.device_laws.specs.Productions.{Production, AreInOrder}
use Rattle.schedule_laws.specs.Chronicle.{Chronicle}
use Rattle.schedule_laws.specs.Order.{IsChronicle}

-- the text of a production, in the name of the device that made it
abbrev pub sent_of : World → Production → Sent
sent_of w p = record { from = node_at w p.producer.device; bytes = datagram_text p.made.datagram }

-- Of all that was sent: there is one production for each datagram, its text, in its producer's name; numbers and counts are
-- indexes on their circles, and equal new-data indexes of one producer have equal data.
pub record IsWellProduced (c : Chronicle) : Type 0 where
  pub sent : c.story.world.sent ≡ map (sent_of c.story.world) c.produced
  pub order : AreInOrder c.produced

abbrev pub ProducedInOrder : Type 0
ProducedInOrder = (configs : List Config) (acts : List Act) (c : Chronicle) → IsChronicle configs acts c → IsWellProduced c
