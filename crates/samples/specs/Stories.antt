-- The schedules that are played: what a scanner writes, opens and closes, and which datagrams are delivered.
use Rattle.std.specs.Prelude.{List, [], ◌∷◌, ◌++◌}
use Rattle.segment_world.specs.declared.act.Act.{Act}
use Rattle.segment_world.specs.declared.act.Act.TheVariants.{CutStream, Deliver, Local, NextFrame}
use Rattle.segment_world.specs.declared.act.Call.TheVariants as call
use Rattle.segment_world.specs.declared.transit.direction.Direction.TheVariants.{Forth, Back}
use Rattle.samples.specs.Schedules.{meets, opens, closes, runs_mode, writes, ticks}

-- ---- one scanner that owns the output

-- the slot of the scanner opens its connection, in run mode
abbrev pub begins : List Act
begins = meets 1 0 ++ opens 1 0 ++ runs_mode 1 ∷ []

-- it produces 7, then 8 and again 8, with a write before each new value; each is delivered as it is produced
abbrev pub twice_written : List Act
twice_written = begins ++ writes 1 0 7 ∷ ticks 1 ∷ Deliver 0 0 ∷ writes 1 0 8 ∷ ticks 1 ∷ Deliver 1 0 ∷ ticks 1 ∷ Deliver 2 0 ∷ []

-- the slot opens, closes and opens again; what the first opening produced is delivered after that
abbrev pub reopened : List Act
reopened = begins ++ writes 1 0 7 ∷ ticks 1 ∷ [] ++ closes 1 0 ++ opens 1 0 ++ writes 1 0 8 ∷ ticks 1 ∷ Deliver 0 0 ∷ Deliver 1 0 ∷ []

-- The slot gathers 7. The stream is cut, both ends time out, and the slot opens again over another stream. A datagram of the first
-- connection is then delivered again, and a new one holds 9.
abbrev pub lost : List Act
lost = begins ++ writes 0 100 7 ∷ ticks 0 ∷ Deliver 0 1 ∷ CutStream 0 ∷ NextFrame 0 Back ∷ NextFrame 0 Forth ∷ []

abbrev pub again : List Act
again = lost ++ Local 0 (call.Tick 10000) ∷ [] ++ meets 1 1 ++ Local 1 (call.Tick 3000) ∷ Local 1 (call.Tick 3000) ∷ NextFrame 1 Forth ∷ NextFrame 1 Back ∷ []

abbrev pub gathered : List Act
gathered = again ++ Deliver 0 1 ∷ writes 0 100 9 ∷ ticks 0 ∷ Deliver 1 1 ∷ []

-- ---- two scanners

-- The first scanner opens a connection, and its producer makes 7. The second joins the group after that, and the producer
-- makes 9. The joiner gets 7 as its first datagram, then 9.
abbrev pub joined : List Act
joined = meets 1 0 ++ opens 1 0 ++ writes 0 100 7 ∷ ticks 0 ∷ [] ++ meets 2 1 ++ opens 2 1 ++ writes 0 100 9 ∷ ticks 0 ∷ Deliver 0 2 ∷ Deliver 1 2 ∷ Deliver 1 1 ∷ []

-- The first scanner owns the output, and the second is refused. The first closes, and the second opens. What the first
-- produced is delivered again after that.
abbrev pub followed : List Act
followed =
    begins ++ writes 1 0 7 ∷ ticks 1 ∷ Deliver 0 0 ∷ [] ++ meets 2 1 ++ opens 2 1 ++ closes 1 0
    ++ Local 2 (call.Tick 3000) ∷ NextFrame 1 Forth ∷ NextFrame 1 Back ∷ runs_mode 2 ∷ writes 2 0 5 ∷ ticks 2 ∷ Deliver 0 0 ∷ Deliver 1 0 ∷ Deliver 0 0 ∷ []
