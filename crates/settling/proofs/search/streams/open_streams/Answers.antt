use Rattle.std.proofs.Common.{◌≡◌, ◌∷◌, [], ◌++◌, List, arith, ◌∙◌, ap, sym, subst, length}
use Rattle.cip_types.specs.declared.names.Node.{Node}
use Rattle.segment_world.specs.declared.act.Act.{Act}
use Rattle.segment_world.specs.World.{happens}
use Rattle.settling.specs.Search.Histories.{events_in, events_of_all}
use Rattle.settling.specs.Search.Openings.{pair_of}
use Rattle.settling.specs.Search.Lemmas.Listing.{length_all}
use Rattle.settling.proofs.Opening.{IsPair, open_ok, opened_next, opened_none, pair_ok}
use Rattle.settling.proofs.search.streams.open_streams.Goals as goal

pub loop-number-init : goal.loop-number-init
loop-number-init g c = opened_none c.args.world.now (events_of_all c.args.histories.now) c.args.acts.now.items c.requires.opening c.requires.none

pub open_act-act-requires-clause-from : goal.open_act-act-requires-clause-from
open_act-act-requires-clause-from g c =
    let hs = events_of_all c.args.histories.now in
    let n = c.loop-number.number in
    let same : c.pair_for.result ≡ pair_of c.args.world.now.nodes hs n = c.pair_for.ensures ∙ ap (λ (ns : List Node). pair_of ns hs n) (sym c.requires.nodes) in
    let many = length_all events_in c.args.histories.now in
    let ok : IsPair (length hs) c.pair_for.result = subst (IsPair (length hs)) (sym same) (pair_ok c.args.world.now.nodes hs n (omega (arith, many, c.requires.two)) c.requires.opening.nodes) in
    omega (arith, ok.first, many, c.requires.devices)

pub open_act-act-requires-clause-to : goal.open_act-act-requires-clause-to
open_act-act-requires-clause-to g c =
    let hs = events_of_all c.args.histories.now in
    let n = c.loop-number.number in
    let same : c.pair_for.result ≡ pair_of c.args.world.now.nodes hs n = c.pair_for.ensures ∙ ap (λ (ns : List Node). pair_of ns hs n) (sym c.requires.nodes) in
    let many = length_all events_in c.args.histories.now in
    let ok : IsPair (length hs) c.pair_for.result = subst (IsPair (length hs)) (sym same) (pair_ok c.args.world.now.nodes hs n (omega (arith, many, c.requires.two)) c.requires.opening.nodes) in
    omega (arith, ok.second, many, c.requires.devices)

pub perform-requires : goal.perform-requires
perform-requires g c =
    let hs = events_of_all c.args.histories.now in
    let n = c.loop-number.number in
    let same : c.pair_for.result ≡ pair_of c.args.world.now.nodes hs n = c.pair_for.ensures ∙ ap (λ (ns : List Node). pair_of ns hs n) (sym c.requires.nodes) in
    let many = length_all events_in c.args.histories.now in
    rw c.open_act-act.ensures
    (open_ok c.args.world.now hs n c.loop-number.acts.items c.loop-number.world c.pair_for.result
    c.requires.opening c.loop-number.invariant (omega (arith, many, c.requires.two)) (omega (arith, c.requires.small, c.loop-number-test.true)) same)

pub loop-number-preserved : goal.loop-number-preserved
loop-number-preserved g c =
    let hs = events_of_all c.args.histories.now in
    let n = c.loop-number.number in
    let same : c.pair_for.result ≡ pair_of c.args.world.now.nodes hs n = c.pair_for.ensures ∙ ap (λ (ns : List Node). pair_of ns hs n) (sym c.requires.nodes) in
    let many = length_all events_in c.args.histories.now in
    let did = c.in_ok-perform.ensures in
    opened_next c.args.world.now hs n c.loop-number.acts.items c.loop-number.world c.pair_for.result
    c.requires.opening c.loop-number.invariant (omega (arith, many, c.requires.two)) (omega (arith, c.requires.small, c.loop-number-test.true)) same
    did.world.0 c.perform.new.world c.perform.new.acts.items
    (ap (λ (a : Act). happens c.loop-number.world a) (sym c.open_act-act.ensures) ∙ did.world.1)
    (did.acts ∙ ap (λ (a : Act). c.loop-number.acts.items ++ a ∷ []) c.open_act-act.ensures)
