-- The story in a chronicle: the chronicle of a list of acts has the story that the acts make.
use Rattle.std.proofs.Common.{◌≡◌, List, [], ◌∷◌, ◌++◌, slice_get, Option, Some, None, Result, Ok, Err, refl, sym, ◌∙◌, ap}
use Rattle.cip_tables.specs.declared.table.Config.{Config}
use Rattle.cip_tables.specs.declared.table.DeviceTable.{DeviceTable}
use Rattle.segment_world.specs.declared.act.Act.{Act}
use Rattle.segment_world.specs.declared.act.ActFault.{ActFault}
use Rattle.segment_world.specs.Configs.{opening_world}
use Rattle.segment_world.specs.Story.{Story, runs, begins, reports as story_reports, goes_on as story_goes_on}
use Rattle.segment_world.specs.World.{World, ReportedEvent, Happened, happens}
use Rattle.schedule_laws.specs.Chronicle.{Chronicle, with_event_at, recorded, then_act, chronicles, blank}
use Rattle.schedule_laws.specs.Order.{IsChronicle}

abbrev pub story_in : Result Chronicle ActFault → Result Story ActFault
story_in (Err fault) = Err fault
story_in (Ok c) = Ok c.story

at_story : (c : Chronicle) (act : Act) (reported : ReportedEvent) (new : World) (found : Option DeviceTable) → (with_event_at c act reported new found).story ≡ record { world = new; reported = c.story.reported ++ reported ∷ [] }
at_story c act reported new None = refl
at_story c act reported new (Some t) = refl

down_story : (c : Chronicle) (act : Act) (said : Happened) → story_in (recorded c act said) ≡ story_goes_on c.story.reported said
down_story c act (Err fault) = refl
down_story c act (Ok (None, new)) = refl
down_story c act (Ok (Some reported, new)) = ap Ok (at_story c act reported new (slice_get c.story.world.tables reported.device))

reports_story : (so_far : Result Chronicle ActFault) (act : Act) → story_in (then_act so_far act) ≡ story_reports (story_in so_far) act
reports_story (Err fault) act = refl
reports_story (Ok c) act = down_story c act (happens c.story.world act)

pub chronicle_runs : (acts : List Act) (so_far : Result Chronicle ActFault) → story_in (chronicles so_far acts) ≡ runs (story_in so_far) acts
unfolding chronicles runs
chronicle_runs [] so_far = refl
chronicle_runs (act ∷ acts) so_far = chronicle_runs acts (then_act so_far act) ∙ ap (λ (r : Result Story ActFault). runs r acts) (reports_story so_far act)

pub story_runs : (configs : List Config) (acts : List Act) (c : Chronicle) → IsChronicle configs acts c → runs (begins (opening_world configs)) acts ≡ Ok c.story
story_runs configs acts c is = sym (chronicle_runs acts (Ok (blank (opening_world configs)))) ∙ ap story_in is.ran
