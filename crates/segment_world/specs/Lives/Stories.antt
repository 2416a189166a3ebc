-- Stories of a plant: its moves, the acts among lives that they are, and the events of each life. And what holds of every
-- story. (A world may have lives behind those of the plant that have not begun: nothing names them, and their tables are
-- fresh.)
use Rattle.std.specs.Prelude.{◌≡◌, ◌≤◌, ℕ, false, List, [], ◌∷◌, ◌++◌, length, map, slice_get, Option, Some, None, Result, Ok, Err}
use Rattle.std.specs.List.{AllByRecursion}
use Rattle.cip_tables.specs.Ids.{stated_ids}
use Rattle.cip_tables.specs.declared.table.Config.{Config}
use Rattle.cip_tables.specs.Run.{table_after}
use Rattle.cip_tables.specs.Step.{opening_table}
use Rattle.segment_world.specs.declared.act.Act.{Act}
use Rattle.segment_world.specs.declared.act.ActFault.{ActFault}
use Rattle.segment_world.specs.declared.configs.DeviceKey.TheVariants.{Incarnation}
use Rattle.segment_world.specs.Configs.{any_twice, first_fault, node_of_config, opening_world, world_fault}
use Rattle.segment_world.specs.Story.{begins, events_of, reported_more, runs}
use Rattle.segment_world.specs.World.{World, ReportedEvent, Happened, happens}
use Rattle.segment_world.specs.Lives.Plants.{Plant, opening_plant, life_of, act_of_lives}
use Rattle.segment_world.specs.Lives.Restarts.{Restarted, cuts, restarts}

-- an act of a plant, or the restart of a device with an incarnation byte
pub data Move : Type 0 where
  Performed : Act → Move
  Restart : ℕ → ℕ → Move

-- a plant, the acts among lives that led to it, and the events of the lives; an event names its life
pub record PlantStory : Type 0 where
  pub plant : Plant
  pub acts : List Act
  pub reported : List ReportedEvent

abbrev pub fresh_story : List Config → PlantStory
fresh_story configs = record { plant = opening_plant configs; acts = []; reported = [] }

-- an incarnation of a restart is a byte, as it is in the program
abbrev pub IsByteMove : Move → Type 0
IsByteMove (Performed act) = Unit {0}
IsByteMove (Restart device byte) = byte ≤ 255

-- none of the configurations states its connection ids
abbrev pub StateNoIds : List Config → Type 0
StateNoIds configs = AllByRecursion (λ config. stated_ids config ≡ None) configs

-- MOVES

-- the story after what happened, or none where it had a fault
abbrev pub with_act : PlantStory → Act → Happened → Option PlantStory
with_act h act (Err fault) = None
with_act h act (Ok done) = Some (record {
  plant = record h.plant { world = done.1 };
  acts = h.acts ++ act ∷ [];
  reported = reported_more h.reported done.0;
})

abbrev pub with_act_of_lives : PlantStory → Result Act ActFault → Option PlantStory
with_act_of_lives h (Err fault) = None
with_act_of_lives h (Ok act) = with_act h act (happens h.plant.world act)

-- the acts that cut the streams of the life that a device lives
abbrev pub cuts_at : Plant → Option ℕ → List Act
cuts_at p None = []
cuts_at p (Some life) = cuts life 0 p.world.streams

abbrev pub with_restart : PlantStory → List Act → Restarted → Option PlantStory
with_restart h cutting (Err fault) = None
with_restart h cutting (Ok plant) = Some (record { plant = plant; acts = h.acts ++ cutting; reported = h.reported })

-- the story after a move that is not refused
abbrev pub after_move : PlantStory → Move → Option PlantStory
after_move h (Performed act) = with_act_of_lives h (act_of_lives h.plant act)
after_move h (Restart device byte) = with_restart h (cuts_at h.plant (life_of h.plant device)) (restarts h.plant device byte)

abbrev pub then_move : Option PlantStory → Move → Option PlantStory
then_move None move = None
then_move (Some h) move = after_move h move

-- the story of these moves, or none where one of them is refused
unfoldable pub plays : Option PlantStory → List Move → Option PlantStory
plays so_far [] = so_far
plays so_far (move ∷ moves) = plays (then_move so_far move) moves

-- the story of these moves in a plant that begins from these configurations
abbrev pub IsStory : List Config → List Move → PlantStory → Type 0
IsStory configs moves h = plays (Some (fresh_story configs)) moves ≡ Some h

-- WHAT HOLDS

-- the world with lives of these configurations behind its own, which have not begun
abbrev pub with_later : List Config → World → World
with_later later w = record w { nodes = w.nodes ++ map node_of_config later; tables = w.tables ++ map opening_table later }

-- The acts among lives lead from the world of all lives, as they begin, and of any that begin later, to the world of the plant and
-- those, with the same events.
abbrev pub MomentsAreSchedules : Type 0
MomentsAreSchedules =
    (configs : List Config) (moves : List Move) (h : PlantStory) (later : List Config) → IsStory configs moves h →
    runs (begins (opening_world (h.plant.configs ++ later))) h.acts ≡ Ok (record { world = with_later later h.plant.world; reported = h.reported })

-- So they lead from the world of all lives to that of the plant. What holds of every schedule of acts holds of lives.
abbrev pub StoriesAreSchedules : Type 0
StoriesAreSchedules =
    (configs : List Config) (moves : List Move) (h : PlantStory) → IsStory configs moves h →
    runs (begins (opening_world h.plant.configs)) h.acts ≡ Ok (record { world = h.plant.world; reported = h.reported })

-- each life's table is the one to which its own events lead from its fresh table
abbrev pub LivesAreRuns : Type 0
LivesAreRuns =
    (configs : List Config) (moves : List Move) (h : PlantStory) (life : ℕ) (config : Config) → IsStory configs moves h →
    slice_get h.plant.configs life ≡ Some config →
    slice_get h.plant.world.tables life ≡ Some (table_after (opening_table config) (events_of life h.reported))

-- each device's table is the one to which its own events since its last restart lead from its fresh table
abbrev pub DevicesRunSinceTheirRestart : Type 0
DevicesRunSinceTheirRestart =
    (configs : List Config) (moves : List Move) (h : PlantStory) (device life : ℕ) → IsStory configs moves h →
    life_of h.plant device ≡ Some life →
    (config : Config) × (slice_get h.plant.configs life ≡ Some config)
    × (slice_get h.plant.world.tables life ≡ Some (table_after (opening_table config) (events_of life h.reported)))

-- nothing has happened at a life that has not begun
abbrev pub LaterLivesHaveNoEvents : Type 0
LaterLivesHaveNoEvents =
    (configs : List Config) (moves : List Move) (h : PlantStory) (life : ℕ) → IsStory configs moves h →
    length h.plant.configs ≤ life → events_of life h.reported ≡ []

-- the later story has the lives and the acts of the earlier one, and these behind them
pub record Grows (was now : PlantStory) : Type 0 where
  pub later : List Config
  pub more : List Act
  pub configs_are : now.plant.configs ≡ was.plant.configs ++ later
  pub acts_are : now.acts ≡ was.acts ++ more

-- more moves add lives and acts, and change none
abbrev pub StoriesGrow : Type 0
StoriesGrow = (moves : List Move) (was now : PlantStory) → plays (Some was) moves ≡ Some now → Grows was now

-- Where no profile states its connection ids, no two lives have one incarnation byte, no profile has a fault, and none states its ids.
abbrev pub IncarnationsNameLives : Type 0
IncarnationsNameLives =
    (configs : List Config) (moves : List Move) (h : PlantStory) → world_fault configs ≡ None → StateNoIds configs → AllByRecursion IsByteMove moves → IsStory configs moves h →
    (any_twice Incarnation h.plant.configs ≡ false) × (first_fault h.plant.configs ≡ None) × StateNoIds h.plant.configs
