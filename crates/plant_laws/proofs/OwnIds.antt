-- Moves that give no device a further block of ids are acts of lives that give none; so no two lives have an id in common.
use Rattle.std.proofs.Common.{◌≡◌, ℕ, suc, Bool, true, false, List, [], ◌∷◌, ◌++◌, slice_get, Option, Some, None, Result, Ok, Err, IfOk, refl, subst, ◌∙◌, ap}
use Rattle.std.specs.Option.{IfSome}
use Rattle.std.proofs.lemmas.Bool.{cond_both}
use Rattle.segment_world.specs.declared.act.Act.{Act}
use Rattle.segment_world.specs.declared.act.Act.TheVariants.{Local, Deliver, NextFrame, OpenStream, CutStream}
use Rattle.segment_world.specs.declared.act.ActFault.{ActFault}
use Rattle.segment_world.specs.declared.transit.direction.Direction.{Direction}
use Rattle.segment_world.specs.Lives.Plants.{Plant, life_of, at_life, between_lives, frame_if, frame_at, is_living, act_of_lives}
use Rattle.segment_world.specs.Lives.Restarts.{Restarted, is_open_at, cuts, restarts}
use Rattle.segment_world.specs.Lives.Stories.{Move, Performed, Restart, PlantStory, fresh_story, with_act, with_act_of_lives, cuts_at, with_restart, then_move, plays, IsStory, StoriesAreSchedules, IncarnationsNameLives}
use Rattle.segment_world.specs.Transit.Streams.{Stream, receiver}
use Rattle.segment_world.specs.World.{Happened, happens}
use Rattle.schedule_laws.specs.Lives.{GiveNoIds as ActsGiveNoIds, SchedulesWithoutIdsAreApart, act_gives_ids}
use Rattle.schedule_laws.specs.Lemmas.Lists.{all_both}
use Rattle.plant_laws.specs.Chronicles.{GiveNoIds, LaterLivesTakeNothingOlder, LaterLivesWithoutIdsTakeNothingOlder, StoriesWithoutIdsArePlayed, move_gives_ids}
use Rattle.plant_laws.proofs.Chronicling.{bytes_both, moves_after}

-- ACTS OF LIVES

abbrev GivesNone : Act → Type 0
GivesNone act = act_gives_ids act ≡ false

at_life_none : (make : ℕ → Act) (life : Option ℕ) → ((n : ℕ) → GivesNone (make n)) → IfOk (at_life make life) GivesNone
at_life_none make None none = tt
at_life_none make (Some life) none = none life

between_none : (from to : Option ℕ) → IfOk (between_lives from to) GivesNone
between_none None to = tt
between_none (Some from) None = tt
between_none (Some from) (Some to) = refl

frame_if_none : (n : ℕ) (direction : Direction) (living : Bool) → IfOk (frame_if n direction living) GivesNone
frame_if_none n direction true = refl
frame_if_none n direction false = tt

frame_none : (n : ℕ) (direction : Direction) (current : List ℕ) (found : Option Stream) → IfOk (frame_at n direction current found) GivesNone
frame_none n direction current None = tt
frame_none n direction current (Some s) = frame_if_none n direction (is_living current (receiver direction s))

lives_none : (p : Plant) (act : Act) → GivesNone act → IfOk (act_of_lives p act) GivesNone
lives_none p (Local device call) none = at_life_none (λ life. Local life call) (life_of p device) (λ life. none)
lives_none p (Deliver index device) none = at_life_none (λ life. Deliver index life) (life_of p device) (λ life. refl)
lives_none p (NextFrame stream direction) none = frame_none stream direction p.current (slice_get p.world.streams stream)
lives_none p (OpenStream from to) none = between_none (life_of p from) (life_of p to)
lives_none p (CutStream stream) none = refl

cuts_none : (life n : ℕ) (streams : List Stream) → ActsGiveNoIds (cuts life n streams)
cuts_none life n [] = tt
cuts_none life n (s ∷ streams) =
    cond_both (is_open_at life s) (CutStream n ∷ cuts life (suc n) streams) (cuts life (suc n) streams) ActsGiveNoIds
    (λ open_is. (refl, cuts_none life (suc n) streams)) (λ ended. cuts_none life (suc n) streams)

cuts_at_none : (p : Plant) (life : Option ℕ) → ActsGiveNoIds (cuts_at p life)
cuts_at_none p None = tt
cuts_at_none p (Some life) = cuts_none life 0 p.world.streams

-- MOVES

abbrev HasNone : PlantStory → Type 0
HasNone h = ActsGiveNoIds h.acts

happened_none : (h : PlantStory) (act : Act) (said : Happened) → GivesNone act → HasNone h → IfSome (with_act h act said) HasNone
happened_none h act (Err fault) none all = tt
happened_none h act (Ok done) none all = all_both GivesNone h.acts (act ∷ []) all (none, tt)

act_none : (h : PlantStory) (act : Result Act ActFault) → IfOk act GivesNone → HasNone h → IfSome (with_act_of_lives h act) HasNone
act_none h (Err fault) none all = tt
act_none h (Ok act) none all = happened_none h act (happens h.plant.world act) none all

restart_none : (h : PlantStory) (cutting : List Act) (said : Restarted) → ActsGiveNoIds cutting → HasNone h → IfSome (with_restart h cutting said) HasNone
restart_none h cutting (Err fault) none all = tt
restart_none h cutting (Ok plant) none all = all_both GivesNone h.acts cutting all none

move_none : (so_far : Option PlantStory) (move : Move) → move_gives_ids move ≡ false → IfSome so_far HasNone → IfSome (then_move so_far move) HasNone
move_none None move none all = tt
move_none (Some h) (Performed act) none all = act_none h (act_of_lives h.plant act) (lives_none h.plant act none) all
move_none (Some h) (Restart device byte) none all =
    restart_none h (cuts_at h.plant (life_of h.plant device)) (restarts h.plant device byte) (cuts_at_none h.plant (life_of h.plant device)) all

moves_none : (moves : List Move) (so_far : Option PlantStory) → GiveNoIds moves → IfSome so_far HasNone → IfSome (plays so_far moves) HasNone
unfolding plays
moves_none [] so_far none all = all
moves_none (move ∷ moves) so_far none all = moves_none moves (then_move so_far move) none.1 (move_none so_far move none.0 all)

-- THE LAWS

pub played : StoriesAreSchedules → IncarnationsNameLives → SchedulesWithoutIdsAreApart → StoriesWithoutIdsArePlayed
played schedules names apart configs moves h faultless unstated bytes none is =
    let named = names configs moves h faultless unstated bytes is in
    let acts : ActsGiveNoIds h.acts = subst (λ (o : Option PlantStory). IfSome o HasNone) is (moves_none moves (Some (fresh_story configs)) none tt) in
    record {
      faultless = faultless;
      unstated = unstated;
      moves_are = bytes;
      played = is;
      apart = apart h.plant.configs h.acts (record { world = h.plant.world; reported = h.reported }) (record { unstated = named.2; differ = named.0 }) acts (schedules configs moves h is);
    }

none_both : (moves more : List Move) → GiveNoIds moves → GiveNoIds more → GiveNoIds (moves ++ more)
none_both moves more first next = all_both (λ move. move_gives_ids move ≡ false) moves more first next

pub without_ids : StoriesWithoutIdsArePlayed → LaterLivesTakeNothingOlder → LaterLivesWithoutIdsTakeNothingOlder
without_ids all older configs moves more early now life faultless unstated bytes more_bytes none more_none is later_is le =
    let later : IsStory configs (moves ++ more) now = moves_after (Some (fresh_story configs)) moves more ∙ ap (λ (o : Option PlantStory). plays o more) is ∙ later_is in
    let whole = all configs (moves ++ more) now faultless unstated (bytes_both moves more bytes more_bytes) (none_both moves more none more_none) later in
    older configs moves more early now life (all configs moves early faultless unstated bytes none is) more_bytes later_is whole.apart le
