use Rattle.std.proofs.Common.{◌+◌, ◌∷◌, [], ◌++◌, set, slice_index, ap, sym, ◌∙◌}
use Rattle.segment_world.specs.World.{happens}
use Rattle.settling.specs.Search.Histories.{events_of_all}
use Rattle.settling.specs.Search.Placements.{Placement}
use Rattle.settling.specs.Search.Lemmas.Listing.{listed}
use Rattle.settling.proofs.Placing.{place_kept, place_less, place_ok}
use Rattle.settling.proofs.search.placement.Placement.place_event.Goals as goal

pub perform-requires : goal.perform-requires
perform-requires g c =
    rw (ap (λ (b : Placement). b.world) c.self.view_is)
    (place_ok (events_of_all c.args.histories.now) c.args.self.now c.args.device c.args.act (listed c.args.histories.now c.args.device c.requires.device) c.requires.reachable c.requires.causes)

pub returns-clause-kept : goal.returns-clause-kept
returns-clause-kept g c =
    let did = c.in_ok-perform.ensures in
    let i = c.args.device in
    place_kept (events_of_all c.args.histories.now) c.args.self.now i c.args.act (listed c.args.histories.now c.args.device c.requires.device) c.requires.causes
    did.world.0 c.perform.new.world c.perform.new.acts.items c.place_more.new.placed.items
    (ap (λ (b : Placement). happens b.world c.args.act) (sym c.self.view_is) ∙ did.world.1)
    (did.acts ∙ ap (λ (b : Placement). b.acts ++ c.args.act ∷ []) c.self.view_is)
    (c.place_more.ensures ∙ ap (λ (b : Placement). set b.placed i (slice_index b.placed i + 1)) c.self.view_is)

pub returns-clause-less : goal.returns-clause-less
returns-clause-less g c =
    let i = c.args.device in
    place_less (events_of_all c.args.histories.now) c.args.self.now i c.args.act (listed c.args.histories.now c.args.device c.requires.device) c.requires.reachable c.requires.causes c.place_more.new.placed.items
    (c.place_more.ensures ∙ ap (λ (b : Placement). set b.placed i (slice_index b.placed i + 1)) c.self.view_is)
