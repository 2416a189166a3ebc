-- A plant: a simulated network whose devices restart. A device lives one life after another. A life begins with a fresh table,
-- and has an incarnation byte of its own and the address of its device.
--
-- The lives are the devices of a world, in the order in which they began. So an act of a plant is an act of that world, at
-- lives that have not ended.
use Rattle.std.specs.Prelude.{ℕ, suc, ◌==◌, Bool, true, false, List, [], ◌∷◌, slice_get, Option, Some, None, Result, Ok, Err}
use Rattle.std.specs.List.{list_any}
use Rattle.cip_tables.specs.declared.table.Config.{Config}
use Rattle.segment_world.specs.declared.transit.direction.Direction.{Direction}
use Rattle.segment_world.specs.Transit.Streams.{Stream, receiver}
use Rattle.segment_world.specs.declared.act.Act.{Act}
use Rattle.segment_world.specs.declared.act.Act.TheVariants.{Local, Deliver, NextFrame, OpenStream, CutStream}
use Rattle.segment_world.specs.declared.act.ActFault.{ActFault}
use Rattle.segment_world.specs.declared.act.ActFault.TheVariants.{NoSuchDevice, StreamEmpty, NoSuchStream}
use Rattle.segment_world.specs.Configs.{opening_world}
use Rattle.segment_world.specs.World.{World, Happened, happens}

-- the world of all lives, the configuration of each life, and of each device the life that it lives now
pub record Plant : Type 0 where
  pub world : World
  pub configs : List Config
  pub current : List ℕ

-- the lives of these configurations, from this number on
abbrev pub first_lives : ℕ → List Config → List ℕ
first_lives life [] = []
first_lives life (config ∷ configs) = life ∷ first_lives (suc life) configs

-- a plant in which no device has restarted: each lives its first life
abbrev pub opening_plant : List Config → Plant
opening_plant configs = record { world = opening_world configs; configs = configs; current = first_lives 0 configs }

-- LIVES

-- the life that a device lives now
abbrev pub life_of : Plant → ℕ → Option ℕ
life_of p device = slice_get p.current device

-- the life has not ended
abbrev pub is_living : List ℕ → ℕ → Bool
is_living current life = list_any (λ other. other == life) current

-- ACTS

abbrev pub at_life : (ℕ → Act) → Option ℕ → Result Act ActFault
at_life make None = Err NoSuchDevice
at_life make (Some life) = Ok (make life)

abbrev pub between_lives : Option ℕ → Option ℕ → Result Act ActFault
between_lives None to = Err NoSuchDevice
between_lives (Some from) None = Err NoSuchDevice
between_lives (Some from) (Some to) = Ok (OpenStream from to)

abbrev pub frame_if : ℕ → Direction → Bool → Result Act ActFault
frame_if n direction true = Ok (NextFrame n direction)
frame_if n direction false = Err StreamEmpty

-- nothing waits for a life that has ended
abbrev pub frame_at : ℕ → Direction → List ℕ → Option Stream → Result Act ActFault
frame_at n direction current None = Err NoSuchStream
frame_at n direction current (Some s) = frame_if n direction (is_living current (receiver direction s))

-- the act among lives that an act among devices is, or its fault
abbrev pub act_of_lives : Plant → Act → Result Act ActFault
act_of_lives p (Local device call) = at_life (λ life. Local life call) (life_of p device)
act_of_lives p (Deliver index device) = at_life (λ life. Deliver index life) (life_of p device)
act_of_lives p (NextFrame stream direction) = frame_at stream direction p.current (slice_get p.world.streams stream)
act_of_lives p (OpenStream from to) = between_lives (life_of p from) (life_of p to)
act_of_lives p (CutStream stream) = Ok (CutStream stream)

abbrev pub happens_if : World → Result Act ActFault → Happened
happens_if w (Err fault) = Err fault
happens_if w (Ok act) = happens w act

-- what an act makes in the world of the lives
abbrev pub happens_at_lives : Plant → Act → Happened
happens_at_lives p act = happens_if p.world (act_of_lives p act)
