use Rattle.std.proofs.Common.{subst}
use Rattle.segment_world.specs.World.{World}
use Rattle.settling.specs.Search.Histories.{bytes_of, events_of_all, start_of}
use Rattle.settling.specs.Search.Openings.{FirstOpen}
use Rattle.settling.proofs.Joining.{settles_all, why}
use Rattle.settling.proofs.search.finding.find_schedule.Goals as goal

pub returns-in-Ok-append-clause-settled : goal.returns-in-Ok-append-clause-settled
returns-in-Ok-append-clause-settled g c =
    let hs = events_of_all c.args.histories.now in
    let acts = c.open_first.new.acts.items in
    let first : FirstOpen (start_of c.args.histories.now) hs acts c.open_first.new.world = subst (λ (w : World). FirstOpen w hs acts c.open_first.new.world) c.in_ok-world.ensures c.in_ok-open_first.ensures in
    rw c.in-Ok-append.ensures.items (settles_all (start_of c.args.histories.now) hs acts c.in-Ok.later.items c.open_first.new.world first c.in-Ok.ensures.settled)

pub returns-in-Err-clause-stuck : goal.returns-in-Err-clause-stuck
returns-in-Err-clause-stuck g c =
    let hs = events_of_all c.args.histories.now in
    let acts = c.open_first.new.acts.items in
    let first : FirstOpen (start_of c.args.histories.now) hs acts c.open_first.new.world = subst (λ (w : World). FirstOpen w hs acts c.open_first.new.world) c.in_ok-world.ensures c.in_ok-open_first.ensures in
    why (start_of c.args.histories.now) hs (bytes_of c.args.histories.now) acts c.open_first.new.world c.in-Err.fault first c.in-Err.ensures.stuck
