-- More moves add lives and acts.
use Rattle.std.proofs.Common.{◌&&◌, ℕ, ◌==◌, Bool, true, false, List, [], ◌∷◌, ◌++◌, slice_get, Option, Some, None, Result, Ok, Err, refl, sym, ◌∙◌, ap, subst}
use Rattle.std.specs.Option.{IfSome}
use Rattle.std.proofs.lemmas.List.{append_assoc, append-nil}
use Rattle.std.specs.Prelude.{is_none}
use Rattle.cip_tables.specs.Ids.{stated_ids}
use Rattle.cip_tables.specs.declared.table.Config.{Config}
use Rattle.segment_world.specs.declared.act.Act.{Act}
use Rattle.segment_world.specs.declared.act.ActFault.{ActFault}
use Rattle.segment_world.specs.World.{Happened, happens}
use Rattle.segment_world.specs.Lives.Plants.{life_of, act_of_lives}
use Rattle.segment_world.specs.Lives.Restarts.{is_used, next_config, restarts_unless, restarts_as, restarts_at}
use Rattle.segment_world.specs.Lives.Stories.{Move, Performed, Restart, PlantStory, with_act, with_act_of_lives, cuts_at, with_restart, then_move, plays, Grows, StoriesGrow}

itself : (h : PlantStory) → Grows h h
itself h = record { later = []; more = []; configs_are = sym (append-nil h.plant.configs); acts_are = sym (append-nil h.acts) }

further : (a b c : PlantStory) → Grows a b → Grows b c → Grows a c
further a b c first next = record {
  later = first.later ++ next.later;
  more = first.more ++ next.more;
  configs_are = next.configs_are ∙ ap (λ (l : List Config). l ++ next.later) first.configs_are ∙ append_assoc a.plant.configs first.later next.later;
  acts_are = next.acts_are ∙ ap (λ (l : List Act). l ++ next.more) first.acts_are ∙ append_assoc a.acts first.more next.more;
}

-- ONE MOVE

happened_grows : (h : PlantStory) (act : Act) (said : Happened) → IfSome (with_act h act said) (Grows h)
happened_grows h act (Err fault) = tt
happened_grows h act (Ok done) = record { later = []; more = act ∷ []; configs_are = sym (append-nil h.plant.configs); acts_are = refl }

act_grows : (h : PlantStory) (act : Result Act ActFault) → IfSome (with_act_of_lives h act) (Grows h)
act_grows h (Err fault) = tt
act_grows h (Ok act) = happened_grows h act (happens h.plant.world act)

unless_grows : (h : PlantStory) (cutting : List Act) (device byte life : ℕ) (config : Config) (used none : Bool) → IfSome (with_restart h cutting (restarts_unless h.plant device byte life config used none)) (Grows h)
unless_grows h cutting device byte life config true none = tt
unless_grows h cutting device byte life config false true = tt
unless_grows h cutting device byte life config false false = record { later = next_config h.plant byte life config ∷ []; more = cutting; configs_are = refl; acts_are = refl }

as_grows : (h : PlantStory) (cutting : List Act) (device byte life : ℕ) (found : Option Config) → IfSome (with_restart h cutting (restarts_as h.plant device byte life found)) (Grows h)
as_grows h cutting device byte life None = tt
as_grows h cutting device byte life (Some config) = unless_grows h cutting device byte life config (is_none (stated_ids config) && is_used byte h.plant.configs) (byte == 0)

at_grows : (h : PlantStory) (device byte : ℕ) (life : Option ℕ) → IfSome (with_restart h (cuts_at h.plant life) (restarts_at h.plant device byte life)) (Grows h)
at_grows h device byte None = tt
at_grows h device byte (Some life) = as_grows h (cuts_at h.plant (Some life)) device byte life (slice_get h.plant.configs life)

-- MANY MOVES

grows_on : (was h : PlantStory) (o : Option PlantStory) → Grows was h → IfSome o (Grows h) → IfSome o (Grows was)
grows_on was h None so_far grows = tt
grows_on was h (Some next) so_far grows = further was h next so_far grows

move_grows : (was : PlantStory) (so_far : Option PlantStory) (move : Move) → IfSome so_far (Grows was) → IfSome (then_move so_far move) (Grows was)
move_grows was None move grows = tt
move_grows was (Some h) (Performed act) grows = grows_on was h (with_act_of_lives h (act_of_lives h.plant act)) grows (act_grows h (act_of_lives h.plant act))
move_grows was (Some h) (Restart device byte) grows = grows_on was h (then_move (Some h) (Restart device byte)) grows (at_grows h device byte (life_of h.plant device))

moves_grow : (was : PlantStory) (moves : List Move) (so_far : Option PlantStory) → IfSome so_far (Grows was) → IfSome (plays so_far moves) (Grows was)
unfolding plays
moves_grow was [] so_far grows = grows
moves_grow was (move ∷ moves) so_far grows = moves_grow was moves (then_move so_far move) (move_grows was so_far move grows)

pub grow : StoriesGrow
grow moves was now is = subst (λ (o : Option PlantStory). IfSome o (Grows was)) is (moves_grow was moves (Some was) (itself was))
