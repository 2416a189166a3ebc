use Rattle.std.proofs.Common.{◌∷◌, [], ◌++◌, ap, sym, ◌∙◌}
use Rattle.segment_world.specs.declared.act.Act.TheVariants as Act
use Rattle.segment_world.specs.World.{happens}
use Rattle.settling.specs.Search.Histories.{events_of_all}
use Rattle.settling.specs.Search.Placements.{Placement}
use Rattle.settling.proofs.Placing.{cut_kept, cut_causes}
use Rattle.settling.proofs.search.placement.Placement.cut_stream.Goals as goal

pub returns-clause-kept : goal.returns-clause-kept
returns-clause-kept g c =
    let did = c.in_ok-perform.ensures in
    let cut = Act.CutStream c.args.stream in
    rw (ap (λ (b : Placement). b.placed) c.self.view_is)
    (cut_kept (events_of_all c.args._histories.now) c.args.self.now c.args.stream c.args._device c.args._direction c.requires.may c.requires.reaches
    did.world.0 c.perform.new.world c.perform.new.acts.items
    (ap (λ (b : Placement). happens b.world cut) (sym c.self.view_is) ∙ did.world.1)
    (did.acts ∙ ap (λ (b : Placement). b.acts ++ cut ∷ []) c.self.view_is))

pub returns-clause-causes : goal.returns-clause-causes
returns-clause-causes g c =
    let did = c.in_ok-perform.ensures in
    let cut = Act.CutStream c.args.stream in
    cut_causes c.args.self.now.world c.args.stream c.args._device c.args._direction c.requires.reaches did.world.0 c.perform.new.world
    (ap (λ (b : Placement). happens b.world cut) (sym c.self.view_is) ∙ did.world.1)
