-- An adapter that restarts, as two devices of one schedule: its two lives have one address. A scanner's two slots own one output
-- each.
use Rattle.std.specs.Prelude.{ℕ, List, [], ◌∷◌, ◌++◌}
use Rattle.cip_tables.specs.declared.table.Config.{Config}
use Rattle.cip_tables.specs.declared.table.Config.TheVariants as config
use Rattle.segment_world.specs.declared.act.Act.{Act}
use Rattle.segment_world.specs.declared.act.Act.TheVariants.{CutStream, Deliver, Local, NextFrame, OpenStream}
use Rattle.segment_world.specs.declared.act.Call.TheVariants as call
use Rattle.segment_world.specs.declared.transit.direction.Direction.TheVariants.{Forth, Back}
use Rattle.samples.specs.Schedules.{owner, scanner, meets, opens, runs_mode, ticks, writes}
use Rattle.samples.specs.Twofold.{other_owner, twofold}

-- the adapter's first life is device 0, the scanner is device 1, and the adapter's second life, with this incarnation, is device 2
abbrev pub restarted_as : ℕ → List Config
restarted_as incarnation =
    config.Adapter twofold ∷ config.Scanner (record (scanner owner) { slots = owner ∷ other_owner ∷ [] }) ∷ config.Adapter (record twofold { incarnation = incarnation }) ∷ []

-- the second life has an incarnation of its own, or that of the first one
abbrev pub two_lives : List Config
two_lives = restarted_as 0x11

abbrev pub one_byte : List Config
one_byte = restarted_as 0x10

-- Slot 0 opens at the first life and then slot 1, and they produce 7 and 8, which are on their way.
abbrev pub first_life : List Act
first_life =
    meets 1 0 ++ opens 1 0 ++ Local 1 (call.Start 1) ∷ NextFrame 0 Forth ∷ NextFrame 0 Back ∷ runs_mode 1 ∷ writes 1 0 7 ∷ writes 1 1 8 ∷ ticks 1 ∷ []

-- The adapter restarts: its stream is cut, the scanner receives the end, and opens a stream to the next life. Both slots time out,
-- slot 1 opens by itself, and slot 0 after that.
abbrev pub second_life : List Act
second_life =
    first_life
    ++ CutStream 0 ∷ NextFrame 0 Back ∷ OpenStream 1 2 ∷ NextFrame 1 Forth ∷ NextFrame 1 Back ∷ NextFrame 1 Forth ∷ NextFrame 1 Back ∷ Local 1 (call.Tick 10000)
    ∷ Local 1 (call.Stop 0) ∷ Local 1 (call.Tick 3000) ∷ NextFrame 1 Forth ∷ NextFrame 1 Back ∷ Local 1 (call.Start 0) ∷ NextFrame 1 Forth ∷ NextFrame 1 Back ∷ []

-- what slot 0 produced for the first life is delivered to the second one
abbrev pub late : List Act
late = second_life ++ Deliver 0 2 ∷ []
