-- The stories of a plant: what each move keeps.
use Rattle.std.proofs.Common.{◌&&◌, ◌≡◌, ◌<◌, ◌≤◌, ℕ, zero, suc, ◌+◌, ◌==◌, Bool, true, false, cond, List, [], ◌∷◌, ◌++◌, map, filter, length, slice_get, Option, Some, None, Result, Ok, Err, IfOk, refl, sym, ◌∙◌, ap, subst, arith}
use Rattle.std.specs.List.{AllByRecursion}
use Rattle.std.specs.Option.{IfSome}
use Rattle.std.proofs.lemmas.List.{append_assoc, append-nil, length-map, map-append}
use Rattle.std.proofs.lemmas.Option.{same_Some}
use Rattle.base_lemmas.specs.Numbers.{less_other}
use Rattle.cip_types.specs.declared.names.Node.{Node}
use Rattle.std.specs.Prelude.{is_none}
use Rattle.cip_tables.specs.Ids.{stated_ids}
use Rattle.cip_tables.specs.declared.table.Config.{Config}
use Rattle.cip_tables.specs.declared.table.DeviceTable.{DeviceTable}
use Rattle.cip_tables.specs.Step.{opening_table}
use Rattle.segment_world.specs.declared.act.Act.{Act}
use Rattle.segment_world.specs.declared.act.ActFault.{ActFault}
use Rattle.segment_world.specs.Configs.{node_of_config, opening_world, with_device}
use Rattle.segment_world.specs.Story.{Story, begins, event_reported, events_of, goes_on, is_of, reported_more, reports, runs, ProjectionsAreRuns}
use Rattle.segment_world.specs.World.{World, ReportedEvent, Happened, happens}
use Rattle.segment_world.specs.Lives.Plants.{first_lives, life_of, act_of_lives}
use Rattle.segment_world.specs.Lives.Restarts.{severed, severed_world, cuts, is_used, next_config, restarted, restarts_at, restarts_as, restarts_unless}
use Rattle.segment_world.specs.Lives.Stories.{Move, Performed, Restart, PlantStory, fresh_story, with_act, with_act_of_lives, cuts_at, with_restart, then_move, plays, IsStory, with_later, MomentsAreSchedules, StoriesAreSchedules, LivesAreRuns, DevicesRunSinceTheirRestart, LaterLivesHaveNoEvents}
use Rattle.segment_world.proofs.Lists.{all_both, all_more, all_set, one_longer}
use Rattle.segment_world.proofs.Extending.{Stands, Extends, IsWithin, act_extends}
use Rattle.segment_world.proofs.Cutting.{severs, severed_keeps}

-- what holds of every story: the acts lead from the world of all lives, and of any that have not begun, to the plant's
pub record Holds (h : PlantStory) : Type 0 where
  pub stands : Stands h.plant.world
  pub count_is : length h.plant.world.tables ≡ length h.plant.configs
  pub lives : AllByRecursion (λ life. life < length h.plant.configs) h.plant.current
  pub events : AllByRecursion (IsWithin (length h.plant.configs)) h.reported
  pub goes : (later : List Config) → runs (begins (opening_world (h.plant.configs ++ later))) h.acts ≡ Ok (record { world = with_later later h.plant.world; reported = h.reported })

-- PLACES

config_at : (configs : List Config) (life : ℕ) → life < length configs → (config : Config) × (slice_get configs life ≡ Some config)
config_at [] life lt = absurd (omega arith)
config_at (config ∷ configs) zero lt = (config, refl)
config_at (config ∷ configs) (suc life) lt = config_at configs life (omega arith)

life_at : (count : ℕ) (current : List ℕ) (device life : ℕ) → AllByRecursion (λ other. other < count) current → slice_get current device ≡ Some life → life < count
life_at count [] device life all at = absurd (let e = at in cc)
life_at count (first ∷ current) zero life all at = subst (λ (n : ℕ). n < count) (same_Some first life at) all.0
life_at count (first ∷ current) (suc device) life all at = life_at count current device life all.1 at

-- ACTS ONE AFTER ANOTHER

acts_after : (so_far : Result Story ActFault) (acts more : List Act) → runs so_far (acts ++ more) ≡ runs (runs so_far acts) more
unfolding runs
acts_after so_far [] more = refl
acts_after so_far (act ∷ acts) more = acts_after (reports so_far act) acts more

one_act : (story : Story) (act : Act) → runs (Ok story) (act ∷ []) ≡ goes_on story.reported (happens story.world act)
unfolding runs
one_act story act = refl

no_act : (story : Result Story ActFault) → runs story [] ≡ story
unfolding runs
no_act story = refl

-- AT THE BEGINNING

lives_begin : (n : ℕ) (configs : List Config) (count : ℕ) → n + length configs ≤ count → AllByRecursion (λ life. life < count) (first_lives n configs)
lives_begin n [] count le = tt
lives_begin n (config ∷ configs) count le = (omega arith, lives_begin (suc n) configs count (omega arith))

opening_extends : (configs later : List Config) → begins (opening_world (configs ++ later)) ≡ Ok (record { world = with_later later (opening_world configs); reported = [] })
opening_extends configs later =
    ap (λ (nodes : List Node). Ok (record { world = record { nodes = nodes; tables = map opening_table (configs ++ later); sent = []; streams = [] }; reported = [] })) (map-append node_of_config configs later)
    ∙ ap (λ (tables : List DeviceTable). Ok (record { world = record { nodes = map node_of_config configs ++ map node_of_config later; tables = tables; sent = []; streams = [] }; reported = [] })) (map-append opening_table configs later)

fresh_holds : (configs : List Config) → Holds (fresh_story configs)
fresh_holds configs = record {
  stands = record { addresses = length-map configs node_of_config ∙ sym (length-map configs opening_table); ends = tt };
  count_is = length-map configs opening_table;
  lives = lives_begin 0 configs (length configs) (omega arith);
  events = tt;
  goes = λ later. no_act (begins (opening_world (configs ++ later))) ∙ opening_extends configs later;
}

-- AN ACT

within_more : (count : ℕ) (reported : List ReportedEvent) (o : Option ReportedEvent) → AllByRecursion (IsWithin count) reported → IfSome o (IsWithin count) → AllByRecursion (IsWithin count) (reported_more reported o)
within_more count reported None all within = all
within_more count reported (Some event) all within = all_both (IsWithin count) reported (event ∷ []) all (within, tt)

happened_holds : (h : PlantStory) (act : Act) (said : Happened) → Holds h → ((later : List Config) → IfOk said (Extends later (length h.plant.world.tables) (happens (with_later later h.plant.world) act))) → IfSome (with_act h act said) Holds
happened_holds h act (Err fault) holds extends = tt
happened_holds h act (Ok done) holds extends = record {
  stands = (extends []).stands;
  count_is = (extends []).count_is ∙ holds.count_is;
  lives = holds.lives;
  events = within_more (length h.plant.configs) h.reported done.0 holds.events (subst (λ (n : ℕ). IfSome done.0 (IsWithin n)) holds.count_is (extends []).within);
  goes = λ later.
      acts_after (begins (opening_world (h.plant.configs ++ later))) h.acts (act ∷ [])
      ∙ ap (λ (so_far : Result Story ActFault). runs so_far (act ∷ [])) (holds.goes later)
      ∙ one_act (record { world = with_later later h.plant.world; reported = h.reported }) act
      ∙ ap (goes_on h.reported) (extends later).is;
}

act_holds : (h : PlantStory) (act : Result Act ActFault) → Holds h → IfSome (with_act_of_lives h act) Holds
act_holds h (Err fault) holds = tt
act_holds h (Ok act) holds = happened_holds h act (happens h.plant.world act) holds (λ later. act_extends later h.plant.world act holds.stands)

-- A RESTART

-- the world of the lives with one more device, and with others behind it
joined : (life : ℕ) (config : Config) (later : List Config) (w : World) (reported : List ReportedEvent) → ◌≡◌ {A = Result Story ActFault} (Ok (record { world = record (with_later (config ∷ later) w) { streams = map (severed life) w.streams }; reported = reported })) (Ok (record { world = with_later later (with_device config (severed_world life w)); reported = reported }))
joined life config later w reported =
    ap (λ (nodes : List Node). Ok (record { world = record { nodes = nodes; tables = w.tables ++ map opening_table (config ∷ later); sent = w.sent; streams = map (severed life) w.streams }; reported = reported })) (sym (append_assoc w.nodes (node_of_config config ∷ []) (map node_of_config later)))
    ∙ ap (λ (tables : List DeviceTable). Ok (record { world = record { nodes = (w.nodes ++ node_of_config config ∷ []) ++ map node_of_config later; tables = tables; sent = w.sent; streams = map (severed life) w.streams }; reported = reported })) (sym (append_assoc w.tables (opening_table config ∷ []) (map opening_table later)))

next_life_goes : (h : PlantStory) (device life : ℕ) (config : Config) → Holds h → (later : List Config) → runs (begins (opening_world ((h.plant.configs ++ config ∷ []) ++ later))) (h.acts ++ cuts life 0 h.plant.world.streams) ≡ Ok (record { world = with_later later (with_device config (severed_world life h.plant.world)); reported = h.reported })
next_life_goes h device life config holds later =
    ap (λ (configs : List Config). runs (begins (opening_world configs)) (h.acts ++ cuts life 0 h.plant.world.streams)) (append_assoc h.plant.configs (config ∷ []) later)
    ∙ acts_after (begins (opening_world (h.plant.configs ++ config ∷ later))) h.acts (cuts life 0 h.plant.world.streams)
    ∙ ap (λ (so_far : Result Story ActFault). runs so_far (cuts life 0 h.plant.world.streams)) (holds.goes (config ∷ later))
    ∙ severs life (with_later (config ∷ later) h.plant.world) h.reported
    ∙ joined life config later h.plant.world h.reported

next_life_holds : (h : PlantStory) (device life : ℕ) (config : Config) → Holds h → Holds (record { plant = restarted device life config h.plant; acts = h.acts ++ cuts life 0 h.plant.world.streams; reported = h.reported })
next_life_holds h device life config holds =
    let w : World = h.plant.world in
    let nodes_longer = one_longer w.nodes (node_of_config config) in
    let tables_longer = one_longer w.tables (opening_table config) in
    let configs_longer = one_longer h.plant.configs config in
    let count_is = holds.count_is in
    record {
      stands = record {
        addresses = nodes_longer ∙ ap suc holds.stands.addresses ∙ sym tables_longer;
        ends = severed_keeps life (length w.tables) (length (w.tables ++ opening_table config ∷ [])) w.streams (omega arith) holds.stands.ends;
      };
      count_is = tables_longer ∙ ap suc holds.count_is ∙ sym configs_longer;
      lives = all_set (λ other. other < length (h.plant.configs ++ config ∷ [])) h.plant.current device (length w.tables)
          (all_more (λ other. other < length h.plant.configs) (λ other. other < length (h.plant.configs ++ config ∷ [])) (λ other lt. omega arith) h.plant.current holds.lives)
          (omega arith);
      events = all_more (IsWithin (length h.plant.configs)) (IsWithin (length (h.plant.configs ++ config ∷ []))) (λ reported lt. omega arith) h.reported holds.events;
      goes = next_life_goes h device life config holds;
    }

unless_holds : (h : PlantStory) (device byte life : ℕ) (config : Config) (used none : Bool) → Holds h → IfSome (with_restart h (cuts life 0 h.plant.world.streams) (restarts_unless h.plant device byte life config used none)) Holds
unless_holds h device byte life config true none holds = tt
unless_holds h device byte life config false true holds = tt
unless_holds h device byte life config false false holds = next_life_holds h device life (next_config h.plant byte life config) holds

as_holds : (h : PlantStory) (device byte life : ℕ) (found : Option Config) → Holds h → IfSome (with_restart h (cuts life 0 h.plant.world.streams) (restarts_as h.plant device byte life found)) Holds
as_holds h device byte life None holds = tt
as_holds h device byte life (Some config) holds = unless_holds h device byte life config (is_none (stated_ids config) && is_used byte h.plant.configs) (byte == 0) holds

at_holds : (h : PlantStory) (device byte : ℕ) (life : Option ℕ) → Holds h → IfSome (with_restart h (cuts_at h.plant life) (restarts_at h.plant device byte life)) Holds
at_holds h device byte None holds = tt
at_holds h device byte (Some life) holds = as_holds h device byte life (slice_get h.plant.configs life) holds

-- MOVES

move_holds : (so_far : Option PlantStory) (move : Move) → IfSome so_far Holds → IfSome (then_move so_far move) Holds
move_holds None move holds = tt
move_holds (Some h) (Performed act) holds = act_holds h (act_of_lives h.plant act) holds
move_holds (Some h) (Restart device byte) holds = at_holds h device byte (life_of h.plant device) holds

moves_hold : (moves : List Move) (so_far : Option PlantStory) → IfSome so_far Holds → IfSome (plays so_far moves) Holds
unfolding plays
moves_hold [] so_far holds = holds
moves_hold (move ∷ moves) so_far holds = moves_hold moves (then_move so_far move) (move_holds so_far move holds)

story_holds : (configs : List Config) (moves : List Move) (h : PlantStory) → IsStory configs moves h → Holds h
story_holds configs moves h is = subst (λ (o : Option PlantStory). IfSome o Holds) is (moves_hold moves (Some (fresh_story configs)) (fresh_holds configs))

-- THE LAWS

bare : (w : World) (reported : List ReportedEvent) → ◌≡◌ {A = Result Story ActFault} (Ok (record { world = with_later [] w; reported = reported })) (Ok (record { world = w; reported = reported }))
bare w reported =
    ap (λ (nodes : List Node). Ok (record { world = record w { nodes = nodes; tables = w.tables ++ [] }; reported = reported })) (append-nil w.nodes)
    ∙ ap (λ (tables : List DeviceTable). Ok (record { world = record w { tables = tables }; reported = reported })) (append-nil w.tables)

pub moments : MomentsAreSchedules
moments configs moves h later is = (story_holds configs moves h is).goes later

pub schedules : StoriesAreSchedules
schedules configs moves h is =
    let holds = story_holds configs moves h is in
    ap (λ (l : List Config). runs (begins (opening_world l)) h.acts) (sym (append-nil h.plant.configs))
    ∙ holds.goes []
    ∙ bare h.plant.world h.reported

fresh_at : (configs : List Config) (life : ℕ) (config : Config) → slice_get configs life ≡ Some config → slice_get (map opening_table configs) life ≡ Some (opening_table config)
fresh_at [] life config at = absurd (let e = at in cc)
fresh_at (first ∷ configs) zero config at = let e = at in cc
fresh_at (first ∷ configs) (suc life) config at = fresh_at configs life config at

pub lives_run : ProjectionsAreRuns → LivesAreRuns
lives_run project configs moves h life config is at =
    project (opening_world h.plant.configs) h.acts (record { world = h.plant.world; reported = h.reported }) life (opening_table config) (schedules configs moves h is) (fresh_at h.plant.configs life config at)

pub devices_run : ProjectionsAreRuns → DevicesRunSinceTheirRestart
devices_run project configs moves h device life is at =
    let holds = story_holds configs moves h is in
    let there = config_at h.plant.configs life (life_at (length h.plant.configs) h.plant.current device life holds.lives at) in
    (there.0, there.1, lives_run project configs moves h life there.0 is there.1)

no_events : (life count : ℕ) (reported : List ReportedEvent) → count ≤ life → AllByRecursion (IsWithin count) reported → events_of life reported ≡ []
no_events life count [] le all = refl
no_events life count (first ∷ reported) le all =
    let lt : first.device < life = let within = all.0 in omega arith in
    ap (λ (b : Bool). map event_reported (cond b (first ∷ filter (is_of life) reported) (filter (is_of life) reported))) (less_other first.device life lt)
    ∙ no_events life count reported le all.1

pub later_lives : LaterLivesHaveNoEvents
later_lives configs moves h life is le = no_events life (length h.plant.configs) h.reported le (story_holds configs moves h is).events
