-- Stories have chronicles, and moments of a plant are moments of a schedule.
use Rattle.std.proofs.Common.{◌≡◌, ◌≤◌, ℕ, length, List, [], ◌∷◌, ◌++◌, Option, Some, Result, Ok, Err, refl, sym, subst, ◌∙◌, ap}
use Rattle.std.specs.List.{AllByRecursion}
use Rattle.cip_tables.specs.declared.table.Config.{Config}
use Rattle.segment_world.specs.declared.act.Act.{Act}
use Rattle.segment_world.specs.declared.act.ActFault.{ActFault}
use Rattle.segment_world.specs.Configs.{opening_world}
use Rattle.segment_world.specs.Story.{Story, begins, events_of, runs}
use Rattle.segment_world.specs.Lives.Stories.{Move, IsByteMove, PlantStory, fresh_story, then_move, plays, IsStory, with_later, MomentsAreSchedules, StoriesAreSchedules, LaterLivesHaveNoEvents, StoriesGrow, IncarnationsNameLives}
use Rattle.schedule_laws.specs.Chronicle.{Chronicle, blank, chronicles}
use Rattle.schedule_laws.specs.Lives.{AreApart, AreLives}
use Rattle.schedule_laws.specs.Lemmas.ProducedActs.{begins_apart}
use Rattle.cip_tables.specs.Sound.{StepsGrow}
use Rattle.schedule_laws.specs.Producers.{AreMoments}
use Rattle.schedule_laws.specs.Restarts.{IsNew, NewLivesTakeNothingOlder}
use Rattle.schedule_laws.specs.Lemmas.Acts.{acts_after}
use Rattle.schedule_laws.specs.Lemmas.Stories.{story_in, chronicle_runs}
use Rattle.plant_laws.specs.Chronicles.{StoriesAreChronicled, LaterLivesTakeNothingOlder}

-- ONE CHRONICLE

-- what ran is a chronicle with this story
pub record Ran (ran : Result Chronicle ActFault) (story : Story) : Type 0 where
  pub chronicle : Chronicle
  pub is : ran ≡ Ok chronicle
  pub story_is : chronicle.story ≡ story

ran_so : (ran : Result Chronicle ActFault) (story : Story) → story_in ran ≡ Ok story → Ran ran story
ran_so (Err fault) story is = absurd (let e = is in cc)
ran_so (Ok c) story is = record { chronicle = c; is = refl; story_is = let e = is in cc }

-- a schedule that leads to a story has a chronicle of it
chronicle_of : (configs : List Config) (acts : List Act) (story : Story) → runs (begins (opening_world configs)) acts ≡ Ok story → Ran (chronicles (Ok (blank (opening_world configs))) acts) story
chronicle_of configs acts story is = ran_so (chronicles (Ok (blank (opening_world configs))) acts) story (chronicle_runs acts (Ok (blank (opening_world configs))) ∙ is)

pub chronicled : StoriesAreSchedules → IncarnationsNameLives → StoriesAreChronicled
chronicled schedules names configs moves h is =
    let ran = chronicle_of h.plant.configs h.acts (record { world = h.plant.world; reported = h.reported }) (schedules configs moves h is.played) in
    let named = names configs moves h is.faultless is.unstated is.moves_are is.played in (
      ran.chronicle,
      record {
        is = record {
          lives = record { profiles = named.1 };
          ran = ran.is;
          apart = subst (λ (s : Story). AreApart s.world.tables) (sym ran.story_is) is.apart;
        };
        story_is = ran.story_is;
      },
    )

-- TWO MOMENTS

pub moves_after : (so_far : Option PlantStory) (moves more : List Move) → plays so_far (moves ++ more) ≡ plays (plays so_far moves) more
unfolding plays
moves_after so_far [] more = refl
moves_after so_far (move ∷ moves) more = moves_after (then_move so_far move) moves more

pub bytes_both : (moves more : List Move) → AllByRecursion IsByteMove moves → AllByRecursion IsByteMove more → AllByRecursion IsByteMove (moves ++ more)
bytes_both [] more first next = next
bytes_both (move ∷ moves) more first next = (first.0, bytes_both moves more first.1 next)

pub older : StepsGrow → MomentsAreSchedules → StoriesAreSchedules → LaterLivesHaveNoEvents → StoriesGrow → IncarnationsNameLives → NewLivesTakeNothingOlder → LaterLivesTakeNothingOlder
older blocks moments schedules eventless grow names older_law configs moves more early now life is bytes later_is apart le =
    let grown = grow more early now later_is in
    let played : IsStory configs (moves ++ more) now = moves_after (Some (fresh_story configs)) moves more ∙ ap (λ (o : Option PlantStory). plays o more) is.played ∙ later_is in
    let named = names configs (moves ++ more) now is.faultless is.unstated (bytes_both moves more is.moves_are bytes) played in
    let lives : AreLives now.plant.configs = record { profiles = named.1 } in
    let was_runs : runs (begins (opening_world now.plant.configs)) early.acts ≡ Ok (record { world = with_later grown.later early.plant.world; reported = early.reported }) =
    ap (λ (l : List Config). runs (begins (opening_world l)) early.acts) grown.configs_are ∙ moments configs moves early grown.later is.played in
    let was = chronicle_of now.plant.configs early.acts (record { world = with_later grown.later early.plant.world; reported = early.reported }) was_runs in
    let last = chronicle_of now.plant.configs now.acts (record { world = now.plant.world; reported = now.reported }) (schedules configs (moves ++ more) now played) in
    let rest : chronicles (Ok was.chronicle) grown.more ≡ Ok last.chronicle =
    sym (ap (λ (s : Result Chronicle ActFault). chronicles s grown.more) was.is)
    ∙ sym (acts_after (Ok (blank (opening_world now.plant.configs))) early.acts grown.more)
    ∙ sym (ap (λ (l : List Act). chronicles (Ok (blank (opening_world now.plant.configs))) l) grown.acts_are)
    ∙ last.is in
    let now_apart : AreApart last.chronicle.story.world.tables = subst (λ (s : Story). AreApart s.world.tables) (sym last.story_is) apart in
    let two : AreMoments now.plant.configs was.chronicle last.chronicle = record {
      early = early.acts;
      late = grown.more;
      first = record { lives = lives; ran = was.is; apart = begins_apart blocks was.chronicle last.chronicle grown.more rest now_apart };
      rest = rest;
      apart = now_apart;
    } in
    let new : (other : ℕ) → length early.plant.configs ≤ other → IsNew was.chronicle other = λ other past. ap (λ (s : Story). events_of other s.reported) was.story_is ∙ eventless configs moves early other is.played past in (
      record {
        later = grown.later;
        was_chronicle = was.chronicle;
        now_chronicle = last.chronicle;
        moments = two;
        acts_are = refl;
        more_are = grown.acts_are;
        was_is = was.story_is;
        now_is = last.story_is;
        new_are = new;
      },
      older_law now.plant.configs was.chronicle last.chronicle life two (new life le),
    )
