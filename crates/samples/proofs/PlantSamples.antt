-- A plant whose adapter restarts: its moves are the acts of its lives, and no life takes a byte that was used.
use Rattle.std.proofs.Common.{◌≡◌, ℕ, List, [], ◌∷◌, ◌++◌, map, Option, Some, None, Err, refl}
use Rattle.std.specs.Option.{option_map}
use Rattle.cip_tables.specs.declared.table.Config.{Config}
use Rattle.cip_tables.specs.declared.table.Config.TheVariants as config
use Rattle.segment_world.specs.declared.act.Act.TheVariants.{Deliver, Local, NextFrame, OpenStream}
use Rattle.segment_world.specs.declared.act.ActFault.TheVariants as act_fault
use Rattle.segment_world.specs.declared.act.Call.TheVariants as call
use Rattle.segment_world.specs.declared.transit.direction.Direction.TheVariants.{Forth, Back}
use Rattle.segment_world.specs.declared.lives.fault.RestartFault.TheVariants.{NoSuchDevice, UsedIncarnation, ZeroIncarnation}
use Rattle.segment_world.specs.Lives.Stories.{PlantStory, Move, Performed, Restart, fresh_story, plays}
use Rattle.segment_world.specs.Lives.Plants.{act_of_lives, opening_plant}
use Rattle.segment_world.specs.Lives.Restarts.{restarts}
use Rattle.samples.specs.Playing.{playing}
use Rattle.samples.specs.Restarted.{first_life, late, two_lives}
use Rattle.samples.specs.Schedules.{owner, scanner}
use Rattle.samples.specs.Twofold.{other_owner, twofold}

-- the adapter and the scanner as they begin
abbrev begun : List Config
begun = config.Adapter twofold ∷ config.Scanner (record (scanner owner) { slots = owner ∷ other_owner ∷ [] }) ∷ []

-- the moves that are the acts of the two lives; a move names devices, so that both lives of the adapter are 0
abbrev moves : List Move
moves =
    map Performed first_life
    ++ Restart 0 0x11
    ∷ map Performed (NextFrame 0 Back ∷ OpenStream 1 0 ∷ NextFrame 1 Forth ∷ NextFrame 1 Back ∷ NextFrame 1 Forth ∷ NextFrame 1 Back ∷ Local 1 (call.Tick 10000) ∷ [])
    ++ map Performed (Local 1 (call.Stop 0) ∷ Local 1 (call.Tick 3000) ∷ NextFrame 1 Forth ∷ NextFrame 1 Back ∷ Local 1 (call.Start 0) ∷ NextFrame 1 Forth ∷ NextFrame 1 Back ∷ Deliver 0 0 ∷ [])

abbrev seen : {A : Type 0} → (PlantStory → A) → List Move → Option A
seen look list = option_map look (plays (Some (fresh_story begun)) list)

-- the restart cuts the stream of the first life, and the next life is the third one
its_acts_are_those_of_its_lives : seen (λ h. h.acts) moves ≡ Some late
unfolding playing plays
its_acts_are_those_of_its_lives = refl

its_lives : seen (λ h. h.plant.configs) moves ≡ Some two_lives
unfolding playing plays
its_lives = refl

the_adapter_lives_its_second_life : seen (λ h. h.plant.current) moves ≡ Some (2 ∷ 1 ∷ [])
unfolding playing plays
the_adapter_lives_its_second_life = refl

-- nothing waits for the first life, whose end of the stream was marked too
nothing_waits_for_it : seen (λ h. act_of_lives h.plant (NextFrame 0 Forth)) moves ≡ Some (Err act_fault.StreamEmpty)
unfolding playing plays
nothing_waits_for_it = refl

-- ---- faults, in order

abbrev tried : ℕ → ℕ → List Move → Option (Option PlantStory)
tried device byte list = seen (λ h. plays (Some h) (Restart device byte ∷ [])) list

no_such_device : restarts (opening_plant begun) 2 0x11 ≡ Err NoSuchDevice
no_such_device = refl

an_own_byte_is_used : restarts (opening_plant begun) 0 0x10 ≡ Err UsedIncarnation
an_own_byte_is_used = refl

no_byte : restarts (opening_plant begun) 0 0 ≡ Err ZeroIncarnation
no_byte = refl

-- the first life has ended, and its byte is not free
an_earlier_byte_is_used : tried 0 0x10 moves ≡ Some None
unfolding playing plays
an_earlier_byte_is_used = refl
