-- Stories of a plant as schedules of lives, with their chronicles: so each law over schedules is a law over lives.
use Rattle.std.specs.Prelude.{◌≡◌, ◌≤◌, ℕ, Bool, false, List, ◌++◌, None, Some, length}
use Rattle.std.specs.List.{AllByRecursion}
use Rattle.cip_tables.specs.declared.table.Config.{Config}
use Rattle.segment_world.specs.Configs.{world_fault}
use Rattle.segment_world.specs.Lives.Stories.{Move, Performed, Restart, IsByteMove, StateNoIds, PlantStory, IsStory, plays, with_later}
use Rattle.schedule_laws.specs.Chronicle.{Chronicle}
use Rattle.schedule_laws.specs.Lives.{AreApart, act_gives_ids}
use Rattle.schedule_laws.specs.Order.{IsChronicle}
use Rattle.schedule_laws.specs.Producers.{AreMoments}
use Rattle.schedule_laws.specs.Restarts.{IsNew, TakesNothingOlder}

-- A story of a plant that begins from configurations without fault, which state no connection ids, where incarnations of restarts
-- are bytes. No two lives have connection ids in common at its end.
pub record IsPlayed (configs : List Config) (moves : List Move) (h : PlantStory) : Type 0 where
  pub faultless : world_fault configs ≡ None
  pub unstated : StateNoIds configs
  pub moves_are : AllByRecursion IsByteMove moves
  pub played : IsStory configs moves h
  pub apart : AreApart h.plant.world.tables

-- the move gives a device a further block of ids
abbrev pub move_gives_ids : Move → Bool
move_gives_ids (Performed act) = act_gives_ids act
move_gives_ids (Restart device byte) = false

-- none of the moves does
abbrev pub GiveNoIds : List Move → Type 0
GiveNoIds moves = AllByRecursion (λ move. move_gives_ids move ≡ false) moves

-- In a story in which no device is given a further block, no two lives have connection ids in common: it is asked of no such story.
abbrev pub StoriesWithoutIdsArePlayed : Type 0
StoriesWithoutIdsArePlayed =
    (configs : List Config) (moves : List Move) (h : PlantStory) →
    world_fault configs ≡ None → StateNoIds configs → AllByRecursion IsByteMove moves → GiveNoIds moves → IsStory configs moves h → IsPlayed configs moves h

-- the chronicle of the story's acts among its lives
pub record IsChronicled (h : PlantStory) (c : Chronicle) : Type 0 where
  pub is : IsChronicle h.plant.configs h.acts c
  pub story_is : c.story ≡ record { world = h.plant.world; reported = h.reported }

-- Each story has a chronicle of its lives. So what holds of every chronicle holds of it.
abbrev pub StoriesAreChronicled : Type 0
StoriesAreChronicled = (configs : List Config) (moves : List Move) (h : PlantStory) → IsPlayed configs moves h → (c : Chronicle) × IsChronicled h c

-- Two moments of a plant: of all lives of the later one, as they begin, the acts of the earlier one lead to its chronicle, and
-- the further acts from there to the later one's. Nothing has happened at a life that begins after the earlier one.
pub record ArePlantMoments (early now : PlantStory) : Type 0 where
  pub later : List Config
  pub was_chronicle : Chronicle
  pub now_chronicle : Chronicle
  pub moments : AreMoments now.plant.configs was_chronicle now_chronicle
  pub acts_are : moments.early ≡ early.acts
  pub more_are : now.acts ≡ early.acts ++ moments.late
  pub was_is : was_chronicle.story ≡ record { world = with_later later early.plant.world; reported = early.reported }
  pub now_is : now_chronicle.story ≡ record { world = now.plant.world; reported = now.reported }
  pub new_are : (life : ℕ) → length early.plant.configs ≤ life → IsNew was_chronicle life

-- Of what was produced before a life began, by any life and for any life, that life takes nothing at any later moment, but what
-- a group sends that lives then and that it joins.
abbrev pub LaterLivesTakeNothingOlder : Type 0
LaterLivesTakeNothingOlder =
    (configs : List Config) (moves more : List Move) (early now : PlantStory) (life : ℕ) →
    IsPlayed configs moves early → AllByRecursion IsByteMove more → plays (Some early) more ≡ Some now → AreApart now.plant.world.tables →
    length early.plant.configs ≤ life →
    (two : ArePlantMoments early now) × TakesNothingOlder two.was_chronicle two.now_chronicle life

-- So it is where no device is given a further block: nothing is asked of the tables.
abbrev pub LaterLivesWithoutIdsTakeNothingOlder : Type 0
LaterLivesWithoutIdsTakeNothingOlder =
    (configs : List Config) (moves more : List Move) (early now : PlantStory) (life : ℕ) →
    world_fault configs ≡ None → StateNoIds configs → AllByRecursion IsByteMove moves → AllByRecursion IsByteMove more → GiveNoIds moves → GiveNoIds more →
    IsStory configs moves early → plays (Some early) more ≡ Some now → length early.plant.configs ≤ life →
    (two : ArePlantMoments early now) × TakesNothingOlder two.was_chronicle two.now_chronicle life
