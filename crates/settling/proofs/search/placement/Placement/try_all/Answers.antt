use Rattle.std.proofs.Common.{refl}
use Rattle.settling.specs.Search.Histories.{events_of_all}
use Rattle.settling.proofs.Sticking.{stuck_other, stuck_cut}
use Rattle.settling.proofs.search.placement.Placement.try_all.Goals as goal

pub returns-in_default-event : goal.returns-in_default-event
returns-in_default-event g c =
    let some = c.in-Some.ensures.some in
    let none = rw c.in_default-2.is at c.in_ok-act.ensures.none in
    record {
      kept = λ start good. good;
      moved = (refl, stuck_other (events_of_all c.args.histories.now) c.args.self.now c.args.device c.in-Some.event.now some.0 some.1 (none refl) c.in_default-event.not-StreamCut);
    }

pub returns-in_default-way_of-clause-moved : goal.returns-in_default-way_of-clause-moved
returns-in_default-way_of-clause-moved g c =
    let some = c.in-Some.ensures.some in
    let none = rw c.in_default-2.is at c.in_ok-act.ensures.none in
    (refl, stuck_cut (events_of_all c.args.histories.now) c.args.self.now c.args.device c.in-StreamCut.stream c.in-Some.event.now some.0 some.1 c.in-StreamCut.is (none refl) c.in_default-way_of.ensures.none)

pub place_event-requires-2-clause-reachable : goal.place_event-requires-2-clause-reachable
place_event-requires-2-clause-reachable g c =
    (c.requires.reachable.0, c.in_ok-cut_stream.ensures.kept c.requires.reachable.0 c.requires.reachable.1)
