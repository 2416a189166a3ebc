use Rattle.std.proofs.Common.{◌≡◌, ℕ, [], replicate, arith, ap, sym, ◌∙◌}
use Rattle.settling.specs.Search.Histories.{bytes_of, events_in, events_of_all}
use Rattle.settling.specs.Search.Placements.{IsPlacement, first_placement}
use Rattle.settling.proofs.Ending.{good_new, settles, is_stuck}
use Rattle.settling.specs.Search.Lemmas.Listing.{length_all}
use Rattle.settling.proofs.search.place.place_histories.Goals as goal

pub place_all-requires-clause-reachable : goal.place_all-requires-clause-reachable
place_all-requires-clause-reachable g c =
    let hs = events_of_all c.args.histories.now in
    let same : c.in_ok-placement.placement ≡ first_placement c.args.world hs =
    c.in_ok-placement.ensures ∙ ap (λ (n : ℕ). record { world = c.args.world; acts = []; placed = replicate n 0 }) (sym (length_all events_in c.args.histories.now)) in
    (c.args.world, good_new c.args.world hs c.in_ok-placement.placement c.requires.ready same)

pub returns-in-None-clause-settled : goal.returns-in-None-clause-settled
returns-in-None-clause-settled g c =
    let hs = events_of_all c.args.histories.now in
    let many = length_all events_in c.args.histories.now in
    let same : c.in_ok-placement.placement ≡ first_placement c.args.world hs =
    c.in_ok-placement.ensures ∙ ap (λ (n : ℕ). record { world = c.args.world; acts = []; placed = replicate n 0 }) (sym many) in
    let good : IsPlacement c.args.world hs c.place_all.new.self = c.in_ok-place_all.ensures.kept c.args.world (good_new c.args.world hs c.in_ok-placement.placement c.requires.ready same) in
    rw c.into_acts.ensures (settles c.args.world hs c.place_all.new.self c.requires.ready.tables good (λ i lt. c.in-None.ensures i (omega (arith, lt, many))))

pub returns-in-Some-clause-stuck : goal.returns-in-Some-clause-stuck
returns-in-Some-clause-stuck g c =
    let hs = events_of_all c.args.histories.now in
    let many = length_all events_in c.args.histories.now in
    let same : c.in_ok-placement.placement ≡ first_placement c.args.world hs =
    c.in_ok-placement.ensures ∙ ap (λ (n : ℕ). record { world = c.args.world; acts = []; placed = replicate n 0 }) (sym many) in
    let good : IsPlacement c.args.world hs c.place_all.new.self = c.in_ok-place_all.ensures.kept c.args.world (good_new c.args.world hs c.in_ok-placement.placement c.requires.ready same) in
    let is = c.in-Some.ensures in
    is_stuck c.args.world hs (bytes_of c.args.histories.now) c.place_all.new.self c.in-Some.device c.in-Some.place is.0.0.0 is.0.0.1 good
    (λ i lt. c.in_ok-place_all.ensures.stuck i (omega (arith, lt, many)))
    is.0.0.2 is.0.1
    (λ i lt lower. is.2 i (omega (arith, lt, many)) lower)
