-- Acts one after another.
use Rattle.std.proofs.Common.{◌≡◌, List, [], ◌∷◌, ◌++◌, Result, Ok, Err, IfOk, refl, ◌∙◌, ap}
use Rattle.cip_tables.specs.declared.table.Config.{Config}
use Rattle.segment_world.specs.declared.act.Act.{Act}
use Rattle.segment_world.specs.declared.act.ActFault.{ActFault}
use Rattle.segment_world.specs.Configs.{opening_world}
use Rattle.schedule_laws.specs.Chronicle.{after_act, blank, Chronicle, chronicles, then_act}
use Rattle.schedule_laws.specs.Lives.{AreApart}
use Rattle.schedule_laws.specs.Order.{IsChronicle}

pub acts_after : (so_far : Result Chronicle ActFault) (acts more : List Act) → chronicles so_far (acts ++ more) ≡ chronicles (chronicles so_far acts) more
unfolding chronicles
acts_after so_far [] more = refl
acts_after so_far (act ∷ acts) more = acts_after (then_act so_far act) acts more

pub one_act : (so_far : Result Chronicle ActFault) (act : Act) → chronicles so_far (act ∷ []) ≡ then_act so_far act
unfolding chronicles
one_act so_far act = refl

pub more_acts : (configs : List Config) (acts : List Act) (c next : Chronicle) (act : Act) → IsChronicle configs acts c → after_act c act ≡ Ok next → AreApart next.story.world.tables → IsChronicle configs (acts ++ act ∷ []) next
more_acts configs acts c next act is goes apart = record {
  lives = is.lives;
  ran = acts_after (Ok (blank (opening_world configs))) acts (act ∷ []) ∙ ap (λ (s : Result Chronicle ActFault). chronicles s (act ∷ [])) is.ran ∙ one_act (Ok c) act ∙ goes;
  apart = apart;
}

-- ---- a chronicle of a schedule

-- the chronicle is that of some acts
pub record Reached (configs : List Config) (c : Chronicle) : Type 0 where
  pub acts : List Act
  pub is : IsChronicle configs acts c

-- of a chronicle in which no two devices have blocks with one id
abbrev pub WhereApart : (Chronicle → Type 0) → Chronicle → Type 0
WhereApart I c = AreApart c.story.world.tables → I c

pub reached_by : (configs : List Config) (c next : Chronicle) (act : Act) → Reached configs c → after_act c act ≡ Ok next → AreApart next.story.world.tables → Reached configs next
reached_by configs c next act r goes apart = record { acts = r.acts ++ act ∷ []; is = more_acts configs r.acts c next act r.is goes apart }

reached_step : (configs : List Config) (c : Chronicle) (act : Act) (said : Result Chronicle ActFault) → after_act c act ≡ said → Reached configs c → IfOk said (WhereApart (Reached configs))
reached_step configs c act (Err fault) is r = tt
reached_step configs c act (Ok next) is r = λ apart. reached_by configs c next act r is apart

pub reached_after : (configs : List Config) (c : Chronicle) (act : Act) → Reached configs c → IfOk (after_act c act) (WhereApart (Reached configs))
reached_after configs c act r = reached_step configs c act (after_act c act) refl r

-- before any act
pub nothing_yet : (configs : List Config) (acts : List Act) (c : Chronicle) → IsChronicle configs acts c → AreApart (opening_world configs).tables → IsChronicle configs [] (blank (opening_world configs))
unfolding chronicles
nothing_yet configs acts c is apart = record { lives = is.lives; ran = refl; apart = apart }
